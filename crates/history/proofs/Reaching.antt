-- What holds of the books in every state that a fresh device can reach.
use Rattle.std.proofs.lemmas.Bool.{or_parts}
use mathlib.Core.Path.{◌≡◌, refl, sym, ap, ◌∙◌}
use mathlib.Core.Bool.{Bool, true, false, cond, not, ◌||◌, false≢true}
use Prim.Native.Nat.{ℕ, ◌+◌, ◌-◌, ◌≤◌, min}
use native.Mathlib.Omega.{arith}
use lib.Dec.{ltb}
use lib.ListN.{length, set, length-set}
use borrow.Author.Tests.{leb-true, lt-leb, le-ltb, not-false}
use Rattle.kinds.specs.declared.Adjust.{Adjust}
use Rattle.kinds.specs.declared.Command.{Command}
use Rattle.kinds.specs.declared.Mode.{Mode}
use Rattle.kinds.specs.declared.Payment.{Payment}
use Rattle.kinds.specs.declared.Sale.{Sale}
use Rattle.std.specs.Prelude.{Option, unwrap_or}
use Rattle.receipt.specs.Lines.{product_of, finished_of}
use Rattle.receipt.specs.Receipts.{empty_receipt, group_after, with_line}
use Rattle.receipt.proofs.Adjusting.{fits_parts}
use Rattle.shares.specs.Receipts.{with_adjust}
use Rattle.shares.proofs.Laws.{the_receipt_stays_summed}
use Rattle.books.specs.Books.{fresh_books, fiscal_open, text_open, any_open, with_receipt, with_drawer, with_registers}
use Rattle.books.specs.Groups.{eight, at, sum}
use Rattle.books.specs.Registers.{place, register_of, raised_by}
use Rattle.books.specs.Sound.{sound}
use Rattle.books.specs.declared.Books.{Books}
use Rattle.books.specs.declared.Opened.{Opened}
use Rattle.books.specs.declared.Opened.TheVariants.{Nothing, Fiscal, Text}
use Rattle.books.proofs.Eight.{capacity_small}
use Rattle.books.proofs.Sounding.{memory_in, parts, within_eight, day_within}
use Rattle.rules.specs.Effects.{payment}
use Rattle.rules.specs.Reasons.{memory_over, many_opened, owed, tendered}
use Rattle.rules.specs.Rules.{rule_of}
use Rattle.rules.specs.declared.views.View.{View}
use Rattle.rules.specs.declared.views.View.TheVariants.{Opens, Sells, Adjusts, Pays, Closes, Cancels, OpensText, ClosesText, Clears, Puts, Takes, Asks}
use Rattle.rules.proofs.Reasoning.{few_receipts}
use Rattle.deeds.specs.Deeds.{carried_out}
use Rattle.deeds.specs.declared.Deed.{Deed}
use Rattle.history.specs.Reached.{Reached, Receipted}
use Rattle.history.proofs.Lists.{sum_eight_set}
use Rattle.history.proofs.Soundness.{fresh_is_sound, step_sound}
use Rattle.history.proofs.Steps.{Free, Step, LineDone, AdjustDone, refused, goes, line_done, adjust_done, payment_done, taken}

pub empty_receipted : Receipted empty_receipt
empty_receipted =
    record {
      eight_groups = refl;
      total = refl;
      few_lines = omega arith;
      not_overpaid = omega arith;
      paid_up = λ e. refl;
      unpaid = λ e. refl;
      unsettled = λ e. refl;
    }

-- a line changes the total by what it changes its group
line_total : (minus : Bool) (all after x p f total : ℕ) → (minus ≡ true → p ≤ x) → total ≡ all
    → after + x ≡ all + cond minus (x - cond minus p f) (x + cond minus p f) → cond minus (total - cond minus p f) (total + cond minus p f) ≡ after
line_total true all after x p f total h e s = omega (arith, h refl)
line_total false all after x p f total h e s = omega arith

module _ (b : Books) (h : Receipted b.receipt) where
  pub line_receipted : (m : Option ℕ) (s : Sale) → LineDone b m s → Receipted (with_line b.receipt s m)
  line_receipted m s l =
      let r = b.receipt in
      record {
        eight_groups = length-set r.groups s.group (group_after r s m) ∙ h.eight_groups;
        total = line_total s.minus (sum (eight (at r.groups))) (sum (eight (at (set r.groups s.group (group_after r s m))))) (at r.groups s.group) (unwrap_or m 0) (finished_of (product_of s) s.adjust) r.total l.covered h.total
            (sum_eight_set r.groups s.group (group_after r s m) h.eight_groups (fits_parts s l.fields).0);
        few_lines = omega (arith, l.few);
        not_overpaid = omega (arith, h.unpaid l.untried);
        paid_up = λ e. absurd (false≢true (sym (h.unsettled l.untried) ∙ e));
        unpaid = h.unpaid;
        unsettled = h.unsettled;
      }

  pub adjust_receipted : (a : Adjust) → AdjustDone b a → Receipted (with_adjust b.receipt a)
  adjust_receipted a d =
      let r = b.receipt in
      record {
        eight_groups = refl;
        total = the_receipt_stays_summed r a d.fields d.permitted d.summed;
        few_lines = h.few_lines;
        not_overpaid = omega (arith, h.unpaid d.untried);
        paid_up = λ e. absurd (false≢true (sym (h.unsettled d.untried) ∙ e));
        unpaid = h.unpaid;
        unsettled = h.unsettled;
      }

  paid-receipted : (p : Payment) → Receipted (payment b p).receipt
  paid-receipted p =
      record {
        eight_groups = h.eight_groups;
        total = h.total;
        few_lines = h.few_lines;
        not_overpaid = omega (arith, h.not_overpaid);
        paid_up = λ e. omega (arith, h.not_overpaid, leb-true (owed b) (tendered b p) e);
        unpaid = λ e. absurd (false≢true (sym e));
        unsettled = λ e. absurd (false≢true (sym e));
      }

-- what is raised is no receipt
abbrev raised_if : Books → Mode → ℕ → Bool → Books
raised_if b m x has =
    cond has (with_registers b (set b.registers (place m) (register_of b m + x))) (with_drawer b (record { cash = register_of b m + x; put = b.drawer.put; taken = b.drawer.taken }))

raised_reached : (b : Books) (m : Mode) (x : ℕ) → sound (raised_by b m x) ≡ true → Receipted b.receipt → length b.day ≡ 8 → length b.registers ≡ 4
    → (fiscal_open b.opened ≡ false → b.receipt ≡ empty_receipt) → Reached (raised_by b m x)
raised_reached b m x s r l n o = go (ltb (place m) 4) s
  where
    go : (has : Bool) → sound (raised_if b m x has) ≡ true → Reached (raised_if b m x has)
    go true s = record { fits = s; receipt = r; eight_sums = l; four_registers = length-set b.registers (place m) (register_of b m + x) ∙ n; blank = o }
    go false s = record { fits = s; receipt = r; eight_sums = l; four_registers = n; blank = o }

none_fiscal : (o : Opened) → any_open o ≡ false → fiscal_open o ≡ false
none_fiscal Nothing e = refl
none_fiscal Fiscal e = e
none_fiscal Text e = refl

text_fiscal : (o : Opened) → text_open o ≡ true → fiscal_open o ≡ false
text_fiscal Nothing e = refl
text_fiscal Fiscal e = sym e
text_fiscal Text e = refl

never : {A : Type 0} (o : Opened) → fiscal_open o ≡ true → fiscal_open o ≡ false → A
never o e f = absurd (false≢true (sym f ∙ e))

pub reaching : (b : Books) → Reached b → (m : Option ℕ) (v : View) → Free b m v → Reached (rule_of b m v).after
reaching b h m Opens f =
    record { fits = step_sound b h.fits m Opens f; receipt = empty_receipted; eight_sums = h.eight_sums; four_registers = h.four_registers; blank = λ e. refl }
reaching b h m (Sells s) f =
    let l = line_done b m s f in
    record {
      fits = step_sound b h.fits m (Sells s) f;
      receipt = line_receipted b h.receipt m s l;
      eight_sums = h.eight_sums;
      four_registers = h.four_registers;
      blank = never b.opened l.is_open;
    }
reaching b h m (Adjusts a) f =
    let d = adjust_done b m a f in
    record {
      fits = step_sound b h.fits m (Adjusts a) f;
      receipt = adjust_receipted b h.receipt a d;
      eight_sums = h.eight_sums;
      four_registers = h.four_registers;
      blank = never b.opened d.is_open;
    }
reaching b h m (Pays p) f =
    raised_reached (with_receipt b b.opened (payment b p).receipt) p.mode (min (tendered b p) (owed b)) (step_sound b h.fits m (Pays p) f)
    (paid-receipted b h.receipt p) h.eight_sums h.four_registers (never b.opened (payment_done b m p f).is_open)
reaching b h m Closes f =
    record { fits = step_sound b h.fits m Closes f; receipt = empty_receipted; eight_sums = refl; four_registers = h.four_registers; blank = λ e. refl }
reaching b h m Cancels f =
    record { fits = step_sound b h.fits m Cancels f; receipt = empty_receipted; eight_sums = h.eight_sums; four_registers = h.four_registers; blank = λ e. refl }
reaching b h m OpensText f =
    let none = or_parts (any_open b.opened) (many_opened b) f.three in
    record {
      fits = step_sound b h.fits m OpensText f;
      receipt = h.receipt;
      eight_sums = h.eight_sums;
      four_registers = h.four_registers;
      blank = λ e. h.blank (none_fiscal b.opened none.0);
    }
reaching b h m ClosesText f =
    record {
      fits = step_sound b h.fits m ClosesText f;
      receipt = h.receipt;
      eight_sums = h.eight_sums;
      four_registers = h.four_registers;
      blank = λ e. h.blank (text_fiscal b.opened (not-false (text_open b.opened) f.three));
    }
reaching b h m Clears f =
    record { fits = step_sound b h.fits m Clears f; receipt = h.receipt; eight_sums = refl; four_registers = refl; blank = h.blank }
reaching b h m (Puts n) f =
    record { fits = step_sound b h.fits m (Puts n) f; receipt = h.receipt; eight_sums = h.eight_sums; four_registers = h.four_registers; blank = h.blank }
reaching b h m (Takes n) f =
    record { fits = step_sound b h.fits m (Takes n) f; receipt = h.receipt; eight_sums = h.eight_sums; four_registers = h.four_registers; blank = h.blank }
reaching b h m (Asks when shown) f = h

pub fresh_reached : Reached fresh_books
fresh_reached = record { fits = fresh_is_sound; receipt = empty_receipted; eight_sums = refl; four_registers = refl; blank = λ e. refl }

pub reached_stays : (b : Books) (m : Option ℕ) (c : Command) → Reached b → Reached (carried_out b m c).books
reached_stays b m c h = go (taken b m c)
  where
    go : {v : View} {d : Deed} → Step b m v d → Reached d.books
    go (refused n l) = h
    go {v} (goes f) = reaching b h m v f

-- in such books 48, 56 and 69 have no reason for 4 (PROTOCOL 8.7)
pub opening_never_over : (b : Books) (m : Option ℕ) → Reached b → (rule_of b m Opens).three ≡ false → (rule_of b m Opens).four ≡ false
opening_never_over b m h e = lt-leb 9999 b.counters.fiscal (omega (arith, few_receipts b e, (parts b h.fits).fiscal))

pub closing_never_over : (b : Books) (m : Option ℕ) → Reached b → (rule_of b m Closes).four ≡ false
closing_never_over b m h = ap not (parts b h.fits).groups

pub clearing_never_over : (b : Books) (m : Option ℕ) → Reached b → (rule_of b m Clears).four ≡ false
clearing_never_over b m h =
    let k = parts b h.fits in
    let fm = memory_in b k.memory in
    let most = within_eight (at b.day) (day_within b k.groups) in
    let little : b.memory.total + sum (eight (at b.day)) ≤ 99999999999999999 =
    omega (arith, fm.0, fm.1, capacity_small b, most 0 (omega arith), most 1 (omega arith), most 2 (omega arith), most 3 (omega arith), most 4 (omega arith), most 5 (omega arith), most 6 (omega arith), most 7 (omega arith)) in
    ap (λ z. not z || memory_over b) k.groups ∙ le-ltb 99999999999999999 (b.memory.total + sum (eight (at b.day))) little
