-- A byte put within a run that stands in a buffer, and what `replace` leaves.
use mathlib.Core.Path.{◌≡◌, refl, ap, ◌∙◌}
use mathlib.Core.List.{List, [], ◌∷◌}
use Prim.Native.Nat.{ℕ, zero, suc, ◌+◌, ◌-◌, ◌≤◌, ◌<◌}
use native.Mathlib.Omega.{arith}
use lib.ListN.{length, set}
use lib.Seq.{sets, set-set, set_comm}
use Rattle.faults.specs.Faults.{replaced}

-- a byte before a run may be put first
set_before : (l : List ℕ) (i j : ℕ) (vs : List ℕ) (b : ℕ) → j < i → set (sets l i vs) j b ≡ sets (set l j b) i vs
set_before l i j [] b h = refl
set_before l i j (v ∷ vs) b h = set_before (set l i v) (suc i) j vs b (omega arith) ∙ ap (λ k. sets k (suc i) vs) (set_comm l i j v b (λ e. omega arith))

-- a byte within it is one of the run
set_within : (l : List ℕ) (i j : ℕ) (vs : List ℕ) (b : ℕ) → j < length vs → set (sets l i vs) (i + j) b ≡ sets l i (set vs j b)
set_within l i j [] b h = absurd (omega arith)
set_within l i zero (v ∷ vs) b h =
    let here : i + 0 ≡ i = omega arith in
    ap (λ k. set (sets (set l i v) (suc i) vs) k b) here
    ∙ set_before (set l i v) (suc i) i vs b (omega arith)
    ∙ ap (λ k. sets k (suc i) vs) (set-set l i v b)
set_within l i (suc j) (v ∷ vs) b h =
    let further : i + suc j ≡ suc i + j = omega arith in
    ap (λ k. set (sets (set l i v) (suc i) vs) k b) further ∙ set_within (set l i v) (suc i) j vs b (omega arith)

module _ (l out bytes : List ℕ) (n place byte : ℕ) (size : length bytes ≡ n) (stood : out ≡ sets l 0 bytes) where
  pub at_place : (place ≡ 0 → ⊥) → place ≤ n → set out (place - 1) byte ≡ sets l 0 (replaced place byte bytes)
  at_place some h = ap (λ o. set o (place - 1) byte) stood ∙ go place some h
    where
      go : (p : ℕ) → (p ≡ 0 → ⊥) → p ≤ n → set (sets l 0 bytes) (p - 1) byte ≡ sets l 0 (replaced p byte bytes)
      go zero some h = absurd (some refl)
      go (suc p) some h =
          let here : suc p - 1 ≡ 0 + p = omega arith in
          ap (λ k. set (sets l 0 bytes) k byte) here ∙ set_within l 0 p bytes byte (omega arith)
