-- Laws of the reasons, as the code asks them, and what their absence says.
use Rattle.std.proofs.lemmas.Bool.{or_parts}
use mathlib.Core.Path.{◌≡◌, sym, ap, ◌∙◌}
use mathlib.Core.Bool.{Bool, true, false, not, ◌||◌}
use Prim.Native.Nat.{ℕ, ◌+◌, ◌-◌, ◌≤◌, ◌<◌}
use native.Mathlib.Omega.{arith}
use lib.Dec.{ltb}
use borrow.Author.Tests.{lt-leb, le-leb, leb-true, leb-false, ltb-false, not-false}
use Rattle.sheet.specs.Sheet.{no_match}
use Rattle.books.specs.Books.{any_open}
use Rattle.books.specs.Sound.{in_twelve}
use Rattle.books.specs.declared.Books.{Books}
use Rattle.rules.specs.Reasons.{full, many_opened}
use Rattle.rules.specs.Rules.{rule_of}
use Rattle.rules.specs.declared.views.View.TheVariants.{Opens, OpensText, Puts, Takes}

-- the or that the code asks is the one of the rule
pub same_or : {x y p q r : Bool} → p ≡ x → q ≡ y → r ≡ (p || q) → (x || y) ≡ r
same_or {x} {y} {p} {q} {r} e f g = sym (g ∙ ap (λ z. z || q) e ∙ ap (λ z. x || z) f)

-- a sum that passes its twelve digits
passes_12 : (n : ℕ) → 999999999999 < n → true ≡ not (in_twelve n)
passes_12 n h = sym (ap not (lt-leb n 999999999999 h))

pub passes_already : (s n : ℕ) → 999999999999 < s → true ≡ not (in_twelve (s + n))
passes_already s n h = passes_12 (s + n) (omega arith)

pub passes_now : (s n : ℕ) → s ≤ 999999999999 → 999999999999 - s < n → true ≡ not (in_twelve (s + n))
passes_now s n h k = passes_12 (s + n) (omega arith)

pub passes_not : (s n : ℕ) → s ≤ 999999999999 → n ≤ 999999999999 - s → false ≡ not (in_twelve (s + n))
passes_not s n h k = sym (ap not (le-leb (s + n) 999999999999 (omega arith)))

pub fits_still : (s n : ℕ) → not (in_twelve (s + n)) ≡ false → s + n ≤ 999999999999
fits_still s n e = leb-true (s + n) 999999999999 (not-false (in_twelve (s + n)) e)

-- 38 and 48 where they are permitted, whatever the sheet says: All can go up by one
pub few_texts : (b : Books) → (rule_of b no_match OpensText).three ≡ false → b.counters.all < 9999
few_texts b e = leb-false 9999 b.counters.all (or_parts (any_open b.opened) (many_opened b) e).1

pub few_receipts : (b : Books) → (rule_of b no_match Opens).three ≡ false → b.counters.all < 9999
few_receipts b e =
    leb-false 9999 b.counters.all (or_parts (any_open b.opened) (many_opened b) (or_parts (any_open b.opened || many_opened b) (full b) e).0).1

-- 70 where it is permitted: cash and In, or Out, take the amount
pub puts_within : (b : Books) (n : ℕ) → (rule_of b no_match (Puts n)).four ≡ false → (b.drawer.cash + n ≤ 999999999999) × (b.drawer.put + n ≤ 999999999999)
puts_within b n e =
    let e1 = or_parts (not (in_twelve (b.drawer.cash + n))) (not (in_twelve (b.drawer.put + n))) e in
    (fits_still b.drawer.cash n e1.0, fits_still b.drawer.put n e1.1)

pub takes_within : (b : Books) (n : ℕ) → (rule_of b no_match (Takes n)).three ≡ false → n ≤ b.drawer.cash
takes_within b n e = ltb-false b.drawer.cash n (or_parts (any_open b.opened) (ltb b.drawer.cash n) e).1
