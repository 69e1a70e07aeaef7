-- Laws of eight sums, one of them changed.
use mathlib.Core.Path.{◌≡◌, refl, sym, ap, ◌∙◌, subst}
use mathlib.Core.Bool.{Bool, true, false}
use mathlib.Core.List.{List, [], ◌∷◌}
use Prim.Native.Nat.{ℕ, zero, suc, ◌+◌, ◌≤◌, ◌<◌}
use native.Mathlib.Omega.{arith}
use lib.Dec.{eqb}
use lib.ListN.{length, set, length-set}
use lib.Seq.{ext_get_or, get_or-set_same, get_or-set_other}
use borrow.Author.Tests.{eqb-true, eqb-false}
use Rattle.books.specs.Groups.{eight, at, sum}
use Rattle.books.proofs.Eight.{at_eight}

-- what holds of the new sum in its place, and of the old ones in theirs, holds of all
pub set_each : (P : ℕ → ℕ → Type 0) (l : List ℕ) (g v : ℕ) → P g v → ((j : ℕ) → P j (at l j)) → (j : ℕ) → P j (at (set l g v) j)
set_each P [] g v new old j = old j
set_each P (x ∷ xs) zero v new old zero = new
set_each P (x ∷ xs) zero v new old (suc j) = old (suc j)
set_each P (x ∷ xs) (suc g) v new old zero = old zero
set_each P (x ∷ xs) (suc g) v new old (suc j) = set_each (λ k. P (suc k)) xs g v new (λ k. old (suc k)) j

-- the same, where the old sum of that place need not hold
pub set_other : (P : ℕ → ℕ → Type 0) (l : List ℕ) (g v : ℕ) → g < length l → P g v → ((j : ℕ) → (j ≡ g → ⊥) → P j (at l j)) → (j : ℕ) → P j (at (set l g v) j)
set_other P l g v lt new old j = go (eqb j g) refl
  where
    go : (t : Bool) → eqb j g ≡ t → P j (at (set l g v) j)
    go true e =
        subst (λ k. P k (at (set l g v) k)) (sym (eqb-true j g e)) (subst (P g) (sym (get_or-set_same l g v 0 lt)) new)
    go false e = subst (P j) (sym (get_or-set_other l g j v 0 (eqb-false j g e))) (old j (eqb-false j g e))

pub sum_set : (l : List ℕ) (g v : ℕ) → g < length l → sum (set l g v) + at l g ≡ sum l + v
sum_set [] g v lt = absurd (omega arith)
sum_set (x ∷ xs) zero v lt = omega arith
sum_set (x ∷ xs) (suc g) v lt = let h = sum_set xs g v (omega arith) in omega (arith, h)

pub at_most_sum : (l : List ℕ) (g : ℕ) → at l g ≤ sum l
at_most_sum [] g = omega arith
at_most_sum (x ∷ xs) zero = omega arith
at_most_sum (x ∷ xs) (suc g) = omega (arith, at_most_sum xs g)

-- eight places are all of a list of eight
pub eight_at : (l : List ℕ) → length l ≡ 8 → eight (at l) ≡ l
eight_at l e = ext_get_or 0 (eight (at l)) l (sym e) (λ i lt. at_eight (at l) i lt)

pub sum_eight_set : (l : List ℕ) (g v : ℕ) → length l ≡ 8 → g < 8 → sum (eight (at (set l g v))) + at l g ≡ sum (eight (at l)) + v
sum_eight_set l g v e lt =
    ap (λ z. sum z + at l g) (eight_at (set l g v) (length-set l g v ∙ e)) ∙ sum_set l g v (omega arith) ∙ ap (λ z. sum z + v) (sym (eight_at l e))

pub group_most : (l : List ℕ) (g : ℕ) → length l ≡ 8 → at l g ≤ sum (eight (at l))
group_most l g e = subst (λ z. at l g ≤ sum z) (sym (eight_at l e)) (at_most_sum l g)

-- sums of eight that agree place by place
pub same_eight : (f h : ℕ → ℕ) → ((g : ℕ) → g < 8 → f g ≡ h g) → eight f ≡ eight h
same_eight f h e =
    rw (e 0 (omega arith), e 1 (omega arith), e 2 (omega arith), e 3 (omega arith), e 4 (omega arith), e 5 (omega arith), e 6 (omega arith), e 7 (omega arith))
