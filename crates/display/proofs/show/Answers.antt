use Rattle.std.specs.Prelude.{Some}
use mathlib.Core.Path.{sym, ap, ◌∙◌}
use Rattle.wire.proofs.Suits.{&&-false}
use Rattle.display.specs.Display.{display_of, displayed}
use Rattle.display.proofs.Shown.{other_shows, good_shows}
use Rattle.display.proofs.show.Goals as goal

pub returns-then-code-ne-SHOW : goal.returns-then-code-ne-SHOW
returns-then-code-ne-SHOW c =
    let a = c.args in
    let none = other_shows a.code a.s.now c.if-code-ne-SHOW.true in
    record {
      value = sym (ap display_of none);
      buf_after = sym (ap (displayed a.buf.now) none);
    }

pub returns-then-not-can_show : goal.returns-then-not-can_show
returns-then-not-can_show c =
    let not-shown = sym c.can_show.ensures ∙ c.if-not-can_show.true in
    record {
      value = rw (not-shown, &&-false);
      buf_after = rw (not-shown, &&-false);
    }

pub returns : goal.returns
returns c =
    let a = c.args in
    let one = good_shows a.code a.s.now c.if-code-ne-SHOW.false (sym c.can_show.ensures ∙ c.if-not-can_show.false) in
    record {
      value = ap Some c.put_plain.ensures.value ∙ sym (ap display_of one);
      buf_after = c.put_plain.ensures.buf_after ∙ sym (ap (displayed a.buf.now) one);
    }
