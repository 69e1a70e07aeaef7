-- Each command refused, or done as its rule says; and what is so where there is no reason against it.
use Rattle.std.proofs.lemmas.Bool.{or_parts}
use mathlib.Core.Path.{◌≡◌, refl}
use mathlib.Core.Bool.{Bool, true, false, cond, not, ◌&&◌, ◌||◌, false≢true}
use Prim.Native.Nat.{ℕ, suc, ◌+◌, ◌≤◌, ◌<◌, min}
use native.Mathlib.Omega.{arith}
use lib.Dec.{leb, ltb, eqb}
use borrow.Author.Tests.{ltb-false, leb-false, not-false}
use Rattle.text.specs.Parts.{every}
use Rattle.kinds.specs.declared.Adjust.{Adjust}
use Rattle.kinds.specs.declared.Command.{Command}
use Rattle.kinds.specs.declared.Payment.{Payment}
use Rattle.kinds.specs.declared.Sale.{Sale}
use Rattle.std.specs.Prelude.{Option, is_some, unwrap_or}
use Rattle.receipt.specs.Lines.{product_of, finished_of, too_much_off, adjust_fits, fits}
use Rattle.receipt.specs.Receipts.{amount_of, not_permitted, group_after, total_after, is_cash}
use Rattle.books.specs.Books.{fiscal_open, any_open}
use Rattle.shares.specs.Shares.{sum_after}
use Rattle.shares.specs.Receipts.{not_adjusted, is_sum}
use Rattle.books.specs.Groups.{eight, at}
use Rattle.books.specs.Rates.{rate_in, is_enabled, capacity_of}
use Rattle.books.specs.Registers.{register_of}
use Rattle.books.specs.Sound.{in_twelve}
use Rattle.books.specs.declared.Books.{Books}
use Rattle.rules.specs.Reasons.{full, none_open, owed, tendered}
use Rattle.rules.specs.Rules.{rule_of}
use Rattle.rules.specs.Views.{view_of}
use Rattle.rules.specs.declared.views.View.{View}
use Rattle.rules.specs.declared.views.View.TheVariants.{Sells, Adjusts, Pays, Clears}
use Rattle.deeds.specs.Deeds.{refused_with, done_with, deed_of, carried_out}
use Rattle.deeds.specs.declared.Deed.{Deed}

-- no reason against it, where the sheet brought this match
pub record Free (b : Books) (m : Option ℕ) (v : View) : Type 0 where
  pub one : (rule_of b m v).one ≡ false
  pub three : (rule_of b m v).three ≡ false
  pub four : (rule_of b m v).four ≡ false

pub data Step (b : Books) (m : Option ℕ) (v : View) : Deed → Type 0 where
  refused : (n : ℕ) → n ≤ 3 → Step b m v (refused_with (suc n) b)
  goes : Free b m v → Step b m v (done_with (rule_of b m v).after (rule_of b m v).shows (rule_of b m v).note)

pub judging : (b : Books) (m : Option ℕ) (v : View) → Step b m v (deed_of b m v)
judging b m v = go (rule_of b m v).one (rule_of b m v).three (rule_of b m v).four refl refl refl
  where
    go : (x y z : Bool) → (rule_of b m v).one ≡ x → (rule_of b m v).three ≡ y → (rule_of b m v).four ≡ z
        → Step b m v (cond x (refused_with 1 b) (cond y (refused_with 3 b) (cond z (refused_with 4 b) (done_with (rule_of b m v).after (rule_of b m v).shows (rule_of b m v).note))))
    go true y z e f g = refused 0 (omega arith)
    go false true z e f g = refused 2 (omega arith)
    go false false true e f g = refused 3 (omega arith)
    go false false false e f g = goes (record { one = e; three = f; four = g })

pub taken : (b : Books) (m : Option ℕ) (c : Command) → Step b m (view_of c) (carried_out b m c)
taken b m c = judging b m (view_of c)

-- a line that is done
pub record LineDone (b : Books) (m : Option ℕ) (s : Sale) : Type 0 where
  pub is_open : fiscal_open b.opened ≡ true
  pub untried : b.receipt.tried ≡ false
  pub few : b.receipt.lines < 512
  pub fields : fits s ≡ true
  -- with `-`
  pub found : s.minus ≡ true → is_some m ≡ true
  pub covered : s.minus ≡ true → unwrap_or m 0 ≤ at b.receipt.groups s.group
  pub amount : amount_of s m ≤ 99999999
  pub total : total_after b.receipt s m ≤ 9999999999
  pub sum : at b.day s.group + group_after b.receipt s m ≤ 999999999999

not_both : (x y : Bool) → x && y ≡ false → x ≡ true → y ≡ false
not_both true y e t = e
not_both false y e t = absurd (false≢true t)

pub line_done : (b : Books) (m : Option ℕ) (s : Sale) → Free b m (Sells s) → LineDone b m s
line_done b m s f =
    let r = b.receipt in
    let enabled = is_enabled (rate_in b s.group) in
    let p = product_of s in
    let l = amount_of s m in
    let below = ltb (at r.groups s.group) (unwrap_or m 0) in
    let n5 = or_parts (none_open b) (not_permitted r s m enabled) f.three in
    let n4 = or_parts (r.tried || leb 512 r.lines || not enabled || too_much_off p s.adjust) (s.minus && (not (is_some m) || below)) n5.1 in
    let n3 = or_parts (r.tried || leb 512 r.lines || not enabled) (too_much_off p s.adjust) n4.0 in
    let n2 = or_parts (r.tried || leb 512 r.lines) (not enabled) n3.0 in
    let n1 = or_parts r.tried (leb 512 r.lines) n2.0 in
    let off : s.minus ≡ true → (not (is_some m) ≡ false) × (below ≡ false) =
    λ e. or_parts (not (is_some m)) below (not_both s.minus (not (is_some m) || below) n4.1 e) in
    let v3 = or_parts (ltb 99999999 p || ltb 99999999 l || ltb 9999999999 (total_after r s m)) (ltb 999999999999 (at b.day s.group + group_after r s m)) f.four in
    let v2 = or_parts (ltb 99999999 p || ltb 99999999 l) (ltb 9999999999 (total_after r s m)) v3.0 in
    record {
      is_open = not-false (fiscal_open b.opened) n5.0;
      untried = n1.0;
      few = leb-false 512 r.lines n1.1;
      fields = not-false (fits s) f.one;
      found = λ e. not-false (is_some m) (off e).0;
      covered = λ e. ltb-false (at r.groups s.group) (unwrap_or m 0) (off e).1;
      amount = ltb-false 99999999 l (or_parts (ltb 99999999 p) (ltb 99999999 l) v2.0).1;
      total = ltb-false 9999999999 (total_after r s m) v2.1;
      sum = ltb-false 999999999999 (at b.day s.group + group_after r s m) v3.1;
    }

-- 51 with a Percent or an Abs that is done
pub record AdjustDone (b : Books) (a : Adjust) : Type 0 where
  pub is_open : fiscal_open b.opened ≡ true
  pub untried : b.receipt.tried ≡ false
  pub fields : adjust_fits false a ≡ true
  pub permitted : not_adjusted b.receipt a ≡ false
  pub summed : is_sum b.receipt.groups b.receipt.total ≡ true
  pub total : finished_of b.receipt.total a ≤ 9999999999
  pub days : every in_twelve (eight (λ g. at b.day g + sum_after a b.receipt.total (at b.receipt.groups) g)) ≡ true

pub adjust_done : (b : Books) (m : Option ℕ) (a : Adjust) → Free b m (Adjusts a) → AdjustDone b a
adjust_done b m a f =
    let r = b.receipt in
    let days = every in_twelve (eight (λ g. at b.day g + sum_after a r.total (at r.groups) g)) in
    let n3 = or_parts (none_open b) (not_adjusted r a) f.three in
    let n2 = or_parts (r.tried || eqb r.total 0) (too_much_off r.total a) n3.1 in
    let v2 = or_parts (not (is_sum r.groups r.total) || ltb 9999999999 (finished_of r.total a)) (not days) f.four in
    let v1 = or_parts (not (is_sum r.groups r.total)) (ltb 9999999999 (finished_of r.total a)) v2.0 in
    record {
      is_open = not-false (fiscal_open b.opened) n3.0;
      untried = (or_parts r.tried (eqb r.total 0) n2.0).0;
      fields = not-false (adjust_fits false a) f.one;
      permitted = n3.1;
      summed = not-false (is_sum r.groups r.total) v1.0;
      total = ltb-false 9999999999 (finished_of r.total a) v1.1;
      days = not-false days v2.1;
    }

-- a payment that is done
pub record Paying (b : Books) (p : Payment) : Type 0 where
  pub is_open : fiscal_open b.opened ≡ true
  pub unpaid : b.receipt.settled ≡ false
  pub room : register_of b p.mode + min (tendered b p) (owed b) ≤ 999999999999

pub payment_done : (b : Books) (m : Option ℕ) (p : Payment) → Free b m (Pays p) → Paying b p
payment_done b m p f =
    let above = not (is_cash p.mode) && ltb (owed b) (tendered b p) in
    let n2 = or_parts (none_open b || b.receipt.settled) above f.three in
    let n1 = or_parts (none_open b) b.receipt.settled n2.0 in
    record {
      is_open = not-false (fiscal_open b.opened) n1.0;
      unpaid = n1.1;
      room = ltb-false 999999999999 (register_of b p.mode + min (tendered b p) (owed b)) f.four;
    }

-- a closing that is done: the memory takes one more
pub room_left : (b : Books) (m : Option ℕ) → Free b m Clears → b.memory.closings < capacity_of b
room_left b m f = leb-false (capacity_of b) b.memory.closings (or_parts (any_open b.opened) (full b) f.three).1
