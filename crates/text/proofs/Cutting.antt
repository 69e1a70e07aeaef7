-- Laws of cutting a list at the first byte of a kind, of its first byte, and of a test of each.
use mathlib.Core.Path.{◌≡◌, refl, sym, ap, ◌∙◌}
use mathlib.Core.Bool.{Bool, true, false, cond, false≢true, ◌&&◌}
use mathlib.Core.List.{List, [], ◌∷◌}
use Prim.Native.Nat.{ℕ, zero, suc, ◌-◌, ◌≤◌}
use native.Mathlib.Omega.{arith}
use lib.Dec.{eqb}
use lib.ListN.{length, take, drop, length-drop}
use lib.Seq.{length-take-le, take_all, take-nil}
use Rattle.std.specs.List.{list_all}
use Rattle.text.specs.Parts.{first_at, begins, every}

pub place_within : (b : ℕ) (xs : List ℕ) → first_at b xs ≤ length xs
place_within b [] = omega arith
place_within b (x ∷ xs) = go (eqb x b) (place_within b xs)
  where
    go : (found : Bool) → first_at b xs ≤ length xs → cond found 0 (suc (first_at b xs)) ≤ suc (length xs)
    go true h = omega arith
    go false h = omega arith

pub cut_length : (b : ℕ) (xs : List ℕ) (at : ℕ) → at ≡ first_at b xs → at ≡ length (take at xs)
cut_length b xs at found = sym (length-take-le at xs (omega (arith, place_within b xs)))

-- the part from i to the end
pub to_end : (i : ℕ) (xs : List ℕ) → take (length xs - i) (drop i xs) ≡ drop i xs
to_end i xs = take_all (length xs - i) (drop i xs) (omega (arith, length-drop i xs))

-- the part from m on of the first n
pub drop-take : (m n : ℕ) (xs : List ℕ) → drop m (take n xs) ≡ take (n - m) (drop m xs)
drop-take zero n xs = let same : n ≡ n - 0 = omega arith in ap (λ k. take k xs) same
drop-take (suc m) zero xs = let none : 0 ≡ 0 - suc m = omega arith in ap (λ k. take k (drop (suc m) xs)) none
drop-take (suc m) (suc n) [] = sym (take-nil (suc n - suc m))
drop-take (suc m) (suc n) (x ∷ xs) =
    let less : suc n - suc m ≡ n - m = omega arith in
    drop-take m n xs ∙ ap (λ k. take k (drop m xs)) (sym less)

-- the first byte
pub begins_some : (b : ℕ) (xs : List ℕ) → true ≡ begins b xs → 1 ≤ length xs
begins_some b [] h = absurd (false≢true (sym h))
begins_some b (x ∷ xs) h = omega arith

-- a test of each byte, as the library says it
pub all_every : (test : ℕ → Bool) (xs : List ℕ) → list_all test xs ≡ every test xs
all_every test [] = refl
all_every test (x ∷ xs) = ap (λ rest. test x && rest) (all_every test xs)
