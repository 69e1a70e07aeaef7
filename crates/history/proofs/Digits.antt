-- In every state that a fresh device can reach, every field shown fits its digits.
use Rattle.std.proofs.lemmas.Bool.{and_parts}
use mathlib.Core.Path.{◌≡◌}
use mathlib.Core.Bool.{Bool, true, false, cond}
use Prim.Native.Nat.{ℕ, ◌-◌, ◌^◌, ◌<◌}
use native.Mathlib.Omega.{arith}
use lib.Dec.{leb, ltb}
use borrow.Author.Tests.{ltb-true, not-false}
use Rattle.kinds.specs.declared.Command.{Command}
use Rattle.kinds.specs.declared.Tender.{Tender}
use Rattle.kinds.specs.declared.Tender.TheVariants.{Rest, Amount}
use Rattle.std.specs.Prelude.{Option}
use Rattle.receipt.specs.Receipts.{given_of}
use Rattle.books.specs.Groups.{at}
use Rattle.books.specs.declared.Books.{Books}
use Rattle.books.proofs.Eight.{capacity_small}
use Rattle.books.proofs.Sounding.{DrawerIn, drawer_in, memory_in, Kept, parts, within_eight, day_within}
use Rattle.rules.specs.Reasons.{tender_holds, owed, tendered}
use Rattle.rules.specs.Rules.{rule_of}
use Rattle.rules.specs.Views.{view_of}
use Rattle.rules.specs.declared.views.View.{View}
use Rattle.rules.specs.declared.views.View.TheVariants.{Opens, Sells, Adjusts, Pays, Closes, Cancels, OpensText, ClosesText, Clears, Puts, Takes, Asks}
use Rattle.deeds.specs.Deeds.{carried_out}
use Rattle.deeds.specs.declared.Deed.{Deed}
use Rattle.history.specs.Digits.{InDigits, left_of, Given}
use Rattle.history.specs.Reached.{Reached}
use Rattle.history.proofs.Lists.{group_most}
use Rattle.history.proofs.Steps.{Step, refused, goes, taken}

pub digits_fit : (b : Books) → Reached b → InDigits b
digits_fit b h =
    let k : Kept b = parts b h.fits in
    let d : DrawerIn b.drawer = drawer_in b.drawer k.drawer in
    let m = memory_in b k.memory in
    let days = within_eight (at b.day) (day_within b k.groups) in
    record {
      total = omega (arith, k.total);
      groups = λ g lt. omega (arith, k.total, h.receipt.total, group_most b.receipt.groups g h.receipt.eight_groups);
      day = λ g lt. omega (arith, days g lt);
      taxes = λ rate g lt. omega (arith, days g lt);
      cash = omega (arith, d.cash);
      put = omega (arith, d.put);
      taken = omega (arith, d.taken);
      all = omega (arith, k.all);
      fiscal = omega (arith, k.fiscal, k.all);
      closings = omega (arith, m.0, capacity_small b);
      memory = omega (arith, m.0, m.1, capacity_small b);
    }

-- what is given is below the limit, where the rest is
given_small : (rest : ℕ) (t : Tender) → rest < 10000000000 → tender_holds t ≡ true → given_of rest t < 10000000000
given_small rest Rest h e = h
given_small rest (Amount n) h e = ltb-true n 10000000000 (and_parts (ltb 0 n) (ltb n 10000000000) e).1

left_small : (full : Bool) (given rest : ℕ) → given < 10000000000 → rest < 10000000000 → cond full (given - rest) (rest - given) < 10000000000
left_small true given rest h k = omega arith
left_small false given rest h k = omega arith

pub left_fits : (b : Books) → Reached b → (m : Option ℕ) (v : View) → Given v → left_of (rule_of b m v).shows < 10 ^ 10
left_fits b h m (Pays p) i =
    let k : Kept b = parts b h.fits in
    let small : owed b < 10000000000 = omega (arith, k.total) in
    left_small (leb (owed b) (tendered b p)) (tendered b p) (owed b) (given_small (owed b) p.tender small (not-false (tender_holds p.tender) (i.one b m))) small
left_fits b h m (Asks when shown) i = omega (arith, i.rest)
left_fits b h m Opens i = omega arith
left_fits b h m (Sells s) i = omega arith
left_fits b h m (Adjusts a) i = omega arith
left_fits b h m Closes i = omega arith
left_fits b h m Cancels i = omega arith
left_fits b h m OpensText i = omega arith
left_fits b h m ClosesText i = omega arith
left_fits b h m Clears i = omega arith
left_fits b h m (Puts n) i = omega arith
left_fits b h m (Takes n) i = omega arith

pub rest_and_change_fit : (b : Books) (m : Option ℕ) (c : Command) → Reached b → Given (view_of c) → left_of (carried_out b m c).shown < 10 ^ 10
rest_and_change_fit b m c h i = go (view_of c) i (taken b m c)
  where
    go : (v : View) → Given v → {d : Deed} → Step b m v d → left_of d.shown < 10 ^ 10
    go v i (refused n l) = omega arith
    go v i (goes f) = left_fits b h m v i
