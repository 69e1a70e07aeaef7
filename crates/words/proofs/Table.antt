-- A table's rule, once: a row of the text is a row of the table.
use Rattle.std.proofs.lemmas.Bool.{and_parts}
use Prim.Native.Nat.{ℕ, zero, suc, ◌+◌, ◌-◌, ◌≤◌, ◌<◌}
use mathlib.Core.Path.{◌≡◌, refl, sym, ap, ◌∙◌}
use mathlib.Core.Bool.{Bool, true, false, cond}
use mathlib.Core.List.{List, [], ◌∷◌, ◌++◌}
use native.Mathlib.Omega.{arith}
use lib.Dec.{eqb}
use lib.ListN.{length, take, drop, get_or}
use lib.Seq.{take-append_seam, drop-append-add, drop-drop}
use borrow.Author.Tests.{eqb-true}
use Rattle.text.specs.Parts.{first_at, up_to, past}
use Rattle.text.proofs.Cutting.{to_end}
use Rattle.words.specs.Rows.{row_at, joined, clean}

pub row_nil : (k : ℕ) → row_at k [] ≡ []
unfolding row_at
row_nil zero = refl
row_nil (suc k) = row_nil k

-- a row without a line feed ends where the table's next one stands
ends_by : (t : Bool) (n m k : ℕ) → (n ≡ k → m ≡ k) → cond t 0 (suc n) ≡ suc k → cond t 0 (suc m) ≡ suc k
ends_by true n m k h f = absurd (omega (arith, f))
ends_by false n m k h f = ap suc (h (omega (arith, f)))

ends : (r rest : List ℕ) → first_at 10 r ≡ length r → first_at 10 (r ++ 10 ∷ rest) ≡ length r
ends [] rest e = refl
ends (x ∷ xs) rest e = ends_by (eqb x 10) (first_at 10 xs) (first_at 10 (xs ++ 10 ∷ rest)) (length xs) (ends xs rest) e

first_row : (r rest : List ℕ) → first_at 10 r ≡ length r → up_to 10 (r ++ 10 ∷ rest) ≡ r
first_row r rest e = ap (λ n. take n (r ++ 10 ∷ rest)) (ends r rest e) ∙ take-append_seam r (10 ∷ rest)

next_rows : (r rest : List ℕ) → first_at 10 r ≡ length r → past 10 (r ++ 10 ∷ rest) ≡ rest
next_rows r rest e = ap (λ n. drop (n + 1) (r ++ 10 ∷ rest)) (ends r rest e) ∙ drop-append-add r (10 ∷ rest) 1

by_rows : (rows : List (List ℕ)) → clean rows ≡ true → (k : ℕ) → row_at k (joined rows) ≡ get_or rows k []
unfolding row_at
by_rows [] c k = row_nil k
by_rows (r ∷ rs) c zero = first_row r (joined rs) (eqb-true (first_at 10 r) (length r) (and_parts (eqb (first_at 10 r) (length r)) (clean rs) c).0)
by_rows (r ∷ rs) c (suc k) =
    let parts = and_parts (eqb (first_at 10 r) (length r)) (clean rs) c in
    ap (row_at k) (next_rows r (joined rs) (eqb-true (first_at 10 r) (length r) parts.0)) ∙ by_rows rs parts.1 k

-- of the text that the code has
pub in_table : (rows : List (List ℕ)) → clean rows ≡ true → (text : List ℕ) → text ≡ joined rows → (k : ℕ) → row_at k text ≡ get_or rows k []
in_table rows c text e k = ap (row_at k) e ∙ by_rows rows c k

-- what stands behind the first row
pub behind_feed : (t : List ℕ) (f : ℕ) → f ≡ first_at 10 t
    → (let rest : List ℕ = take (length t - f) (drop f t) in take (length rest - 1) (drop 1 rest)) ≡ past 10 t
behind_feed t f e = to_end 1 (take (length t - f) (drop f t)) ∙ ap (drop 1) (to_end f t) ∙ drop-drop 1 f t ∙ ap (λ n. drop (n + 1) t) e

-- the loop over the rows
pub row_next : (k i : ℕ) (l l' x : List ℕ) → i < k → row_at (k - i) l ≡ x → l' ≡ past 10 l → row_at (k - (i + 1)) l' ≡ x
unfolding row_at
row_next k i l l' x h e f =
    let more : k - i ≡ suc (k - (i + 1)) = omega arith in
    ap (row_at (k - (i + 1))) f ∙ ap (λ n. row_at n l) (sym more) ∙ e

pub row_first : (k i : ℕ) (l x : List ℕ) → k ≤ i → row_at (k - i) l ≡ x → up_to 10 l ≡ x
unfolding row_at
row_first k i l x h e = let none : k - i ≡ 0 = omega arith in ap (λ n. row_at n l) (sym none) ∙ e

pub row_past : (left : ℕ) (l x : List ℕ) → length l ≡ 0 → row_at left l ≡ x → up_to 10 l ≡ x
row_past left [] x h e = sym (row_nil left) ∙ e
row_past left (b ∷ l) x h e = absurd (omega (arith, h))
