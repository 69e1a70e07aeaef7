-- Arguments of another form, or what can't be opened: nothing is open.
use Rattle.std.proofs.Common.{◌≡◌, refl, sym, ◌∙◌, Some, None, false, pos, ℤ, rules}
use Rattle.std.specs.Prelude.{Option}
use Rattle.options.specs.declared.Asked.{Asked}
use Rattle.options.specs.declared.Ends.{Ends}
use Rattle.opening.specs.Opening.{Arguments, Opened, open_as}
use Rattle.opening.proofs.open_ends.Goals as goal

nothing : (asked : Option Asked) (n : ℤ) → open_as asked false n n n n ≡ None
nothing None n = refl
nothing (Some asked) n = refl

closed : (asked : Option Asked) (r : Option Ends) → Arguments asked → r ≡ None → Opened r
closed asked r arguments e =
    record {
      asked = asked;
      arguments = arguments;
      opens = false;
      line = pos 0;
      old = pos 0;
      newest = pos 0;
      tape = pos 0;
      is = e ∙ sym (nothing asked (pos 0));
    }

pub returns-in_default : goal.returns-in_default
returns-in_default g c = closed c.arguments.result _ c.arguments.ensures refl

pub returns-in_err-hold_recordings : goal.returns-in_err-hold_recordings
returns-in_err-hold_recordings g c = closed c.arguments.result _ c.arguments.ensures (search rules)

pub returns-in_err-line_at : goal.returns-in_err-line_at
returns-in_err-line_at g c = closed c.arguments.result _ c.arguments.ensures (search rules)
