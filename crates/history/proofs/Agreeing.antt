-- What a command done makes of the books agrees with what it makes of the figures, view by view; a part that it does not touch stays as it was.
use mathlib.Core.Path.{◌≡◌, refl, sym, ap, ◌∙◌}
use mathlib.Core.Bool.{Bool, true, false, cond, not, ◌&&◌}
use mathlib.Core.List.{List}
use Prim.Native.Nat.{ℕ, ◌+◌, ◌-◌, ◌^◌, ◌<◌}
use native.Mathlib.Omega.{arith}
use lib.ListN.{length, replicate}
use borrow.Author.Tests.{eq-eqb, ne_eqb}
use Rattle.kinds.specs.declared.Adjust.{Adjust}
use Rattle.kinds.specs.declared.Mode.{Mode}
use Rattle.kinds.specs.declared.Mode.TheVariants.{Cash, N, C, D, B}
use Rattle.kinds.specs.declared.Sale.{Sale}
use Rattle.std.specs.Prelude.{Option}
use Rattle.receipt.specs.Receipts.{empty_receipt, amount_of, group_after, with_line}
use Rattle.receipt.proofs.Adjusting.{fits_parts}
use Rattle.shares.specs.Receipts.{with_adjust}
use Rattle.shares.proofs.Laws.{after_as_told}
use Rattle.books.specs.Groups.{eight, at, sum}
use Rattle.books.specs.Registers.{place}
use Rattle.books.specs.Sound.{with_receipt_of}
use Rattle.books.specs.declared.Books.{Books}
use Rattle.books.specs.declared.Memory.{Memory}
use Rattle.books.proofs.Eight.{at_eight}
use Rattle.books.proofs.Sounding.{zeros}
use Rattle.answers.specs.Contents.{content_of}
use Rattle.rules.specs.Rules.{rule_of}
use Rattle.rules.specs.declared.views.View.{View}
use Rattle.rules.specs.declared.views.View.TheVariants.{Opens, Sells, Adjusts, Pays, Closes, Cancels, OpensText, ClosesText, Clears, Puts, Takes, Asks}
use Rattle.rules.proofs.Reasoning.{takes_within}
use Rattle.history.specs.Agrees.{ReceiptAgrees, Says}
use Rattle.history.specs.Digits.{left_of}
use Rattle.history.specs.History.{Figures, none_told, with_sale, with_adjustment, after}
use Rattle.history.specs.Reached.{Reached, Receipted}
use Rattle.history.specs.Sold.{amount_told}
use Rattle.history.proofs.Lists.{set_other, same_eight}
use Rattle.history.proofs.Payments.{paid_in}
use Rattle.history.proofs.Reaching.{reaching}
use Rattle.history.proofs.Sheets.{match_in}
use Rattle.history.proofs.Steps.{Free, line_done, payment_done}

pub new_receipt_lem : ReceiptAgrees none_told empty_receipt
new_receipt_lem = record { groups = λ g lt. zeros g; total = refl; lines = refl; paid = refl; rest = refl; tried = refl; settled = refl }

pub no_registers : (m : Mode) → place m < 4 → at (replicate 4 0) (place m) ≡ 0
no_registers Cash lt = absurd (omega arith)
no_registers N lt = refl
no_registers C lt = refl
no_registers D lt = refl
no_registers B lt = refl

-- 49
line_here : (minus : Bool) (x a : ℕ) → cond minus (x - a) (x + a) ≡ x + cond (not minus) a 0 - cond minus a 0
line_here true x a = omega arith
line_here false x a = omega arith

module _ (f : Figures) (b : Books) (h : Says f b) (m : Option ℕ) (s : Sale) (told : amount_of s m ≡ amount_told f.receipt.sold s) where
  abbrev amount : ℕ
  amount = amount_told f.receipt.sold s

  -- the group's sum, where the line is in this group, and where not
  abbrev sum_if : ℕ → Bool → ℕ
  sum_if g same = f.receipt.sums g + cond (same && not s.minus) amount 0 - cond (same && s.minus) amount 0

  here : (g : ℕ) → g < 8 → s.group ≡ g → group_after b.receipt s m ≡ (with_sale f.receipt s).sums g
  here g lt e =
      ap (λ x. cond s.minus (x - amount_of s m) (x + amount_of s m)) (ap (at b.receipt.groups) e ∙ h.receipt.groups g lt)
      ∙ ap (λ a. cond s.minus (f.receipt.sums g - a) (f.receipt.sums g + a)) told
      ∙ line_here s.minus (f.receipt.sums g) amount
      ∙ sym (ap (sum_if g) (eq-eqb s.group g e))

  elsewhere : (g : ℕ) → g < 8 → (g ≡ s.group → ⊥) → at b.receipt.groups g ≡ (with_sale f.receipt s).sums g
  elsewhere g lt z =
      let same : at b.receipt.groups g ≡ f.receipt.sums g + 0 - 0 = omega (arith, h.receipt.groups g lt) in
      same ∙ sym (ap (sum_if g) (ne_eqb s.group g (λ e. z (sym e))))

  line-groups : length b.receipt.groups ≡ 8 → s.group < 8 → (g : ℕ) → g < 8 → at (with_line b.receipt s m).groups g ≡ (with_sale f.receipt s).sums g
  line-groups eight-long small =
      set_other (λ g x. g < 8 → x ≡ (with_sale f.receipt s).sums g) b.receipt.groups s.group (group_after b.receipt s m) (omega arith)
      (λ lt. here s.group lt refl)
      (λ g z lt. elsewhere g lt z)

  -- the total is the history's, where the groups are
  line-sold : Receipted b.receipt → s.group < 8 → Receipted (with_line b.receipt s m) → ReceiptAgrees (with_sale f.receipt s) (with_line b.receipt s m)
  line-sold old small new =
      let groups = line-groups old.eight_groups small in
      let total = new.total ∙ ap sum (same_eight (at (with_line b.receipt s m).groups) (with_sale f.receipt s).sums groups) in
      record {
        groups = groups;
        total = total;
        lines = ap (λ z. z + 1) h.receipt.lines;
        paid = h.receipt.paid;
        rest = rw (total, h.receipt.paid);
        tried = h.receipt.tried;
        settled = h.receipt.settled;
      }

-- 51 with a Percent or an Abs: the same shares, since groups and total are the history's
module _ (f : Figures) (b : Books) (h : Says f b) (a : Adjust) where
  adjust-groups : (g : ℕ) → g < 8 → at (with_adjust b.receipt a).groups g ≡ (with_adjustment f.receipt a).sums g
  adjust-groups = after_as_told b.receipt a f.receipt.sums h.receipt.groups h.receipt.total

  adjusted : Receipted (with_adjust b.receipt a) → ReceiptAgrees (with_adjustment f.receipt a) (with_adjust b.receipt a)
  adjusted new =
      let total = new.total ∙ ap sum (same_eight (at (with_adjust b.receipt a).groups) (with_adjustment f.receipt a).sums adjust-groups) in
      record {
        groups = adjust-groups;
        total = total;
        lines = h.receipt.lines;
        paid = h.receipt.paid;
        rest = rw (total, h.receipt.paid);
        tried = h.receipt.tried;
        settled = h.receipt.settled;
      }

-- 69
abbrev closed_with : Memory → List ℕ → Memory
closed_with m sums = record { closings = m.closings + 1; total = m.total + sum sums }

-- by the views; what the sheet brings a line is what the entries tell
pub agreeing : (f : Figures) (b : Books) → Says f b → Reached b → (m : Option ℕ) (v : View) → m ≡ match_in f.receipt.sold v → Free b m v
    → left_of (rule_of b m v).shows < 10 ^ 10 → Says (after v (content_of (rule_of b m v).shows b.day (rule_of b m v).after) f) (rule_of b m v).after
agreeing f b h k m Opens told free small =
    record {
      opened = refl;
      receipt = new_receipt_lem;
      day = h.day;
      registers = h.registers;
      drawer = h.drawer;
      counters = rw h.counters;
      memory = h.memory;
    }
agreeing f b h k m (Sells s) told free small =
    record {
      opened = h.opened;
      receipt = line-sold f b h m s (ap (amount_of s) told) k.receipt (fits_parts s (line_done b m s free).fields).0 (reaching b k m (Sells s) free).receipt;
      day = h.day;
      registers = h.registers;
      drawer = h.drawer;
      counters = h.counters;
      memory = h.memory;
    }
agreeing f b h k m (Adjusts a) told free small =
    record {
      opened = h.opened;
      receipt = adjusted f b h a (reaching b k m (Adjusts a) free).receipt;
      day = h.day;
      registers = h.registers;
      drawer = h.drawer;
      counters = h.counters;
      memory = h.memory;
    }
agreeing f b h k m (Pays p) told free small = paid_in f b h k.four_registers p (payment_done b m p free).unpaid small
agreeing f b h k m Closes told free small =
    record {
      opened = refl;
      receipt = new_receipt_lem;
      day = λ g lt. at_eight (with_receipt_of b) g lt ∙ omega (arith, h.day g lt, h.receipt.groups g lt);
      registers = h.registers;
      drawer = h.drawer;
      counters = h.counters;
      memory = h.memory;
    }
agreeing f b h k m Cancels told free small =
    record { opened = refl; receipt = new_receipt_lem; day = h.day; registers = h.registers; drawer = h.drawer; counters = h.counters; memory = h.memory }
agreeing f b h k m OpensText told free small =
    record { opened = refl; receipt = h.receipt; day = h.day; registers = h.registers; drawer = h.drawer; counters = rw h.counters; memory = h.memory }
agreeing f b h k m ClosesText told free small =
    record { opened = refl; receipt = h.receipt; day = h.day; registers = h.registers; drawer = h.drawer; counters = h.counters; memory = h.memory }
agreeing f b h k m Clears told free small =
    record {
      opened = h.opened;
      receipt = h.receipt;
      day = λ g lt. zeros g;
      registers = no_registers;
      drawer = record { cash = h.drawer.cash; covered = h.drawer.covered; put = refl; taken = refl };
      counters = refl;
      memory = ap (λ m. closed_with m (eight (at b.day))) h.memory ∙ ap (closed_with f.memory) (same_eight (at b.day) f.day h.day);
    }
agreeing f b h k m (Puts n) told free small =
    record {
      opened = h.opened;
      receipt = h.receipt;
      day = h.day;
      registers = h.registers;
      drawer = record {
        cash = omega (arith, h.drawer.cash, h.drawer.covered);
        covered = omega (arith, h.drawer.covered);
        put = ap (λ z. z + n) h.drawer.put;
        taken = h.drawer.taken;
      };
      counters = h.counters;
      memory = h.memory;
    }
agreeing f b h k m (Takes n) told free small =
    let enough = takes_within b n free.three in
    record {
      opened = h.opened;
      receipt = h.receipt;
      day = h.day;
      registers = h.registers;
      drawer = record {
        cash = omega (arith, h.drawer.cash, h.drawer.covered);
        covered = omega (arith, h.drawer.cash, h.drawer.covered);
        put = h.drawer.put;
        taken = ap (λ z. z + n) h.drawer.taken;
      };
      counters = h.counters;
      memory = h.memory;
    }
agreeing f b h k m (Asks when shown) told free small = h
