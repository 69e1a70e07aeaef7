-- A table of texts, and the same as one text.
use Rattle.std.specs.Prelude.{ℕ, zero, suc, Bool, true, ◌&&◌, List, [], ◌∷◌, ◌++◌, eqb, length}
use Rattle.text.specs.Parts.{first_at, up_to, past}

-- the k-th row of a text, from 0, each ended by a line feed; past the last one nothing
unfoldable pub row_at : ℕ → List ℕ → List ℕ
row_at zero t = up_to 10 t
row_at (suc k) t = row_at k (past 10 t)

-- rows as one text
abbrev pub joined : List (List ℕ) → List ℕ
joined [] = []
joined (r ∷ rs) = r ++ 10 ∷ joined rs

-- no row has a line feed
abbrev pub clean : List (List ℕ) → Bool
clean [] = true
clean (r ∷ rs) = eqb (first_at 10 r) (length r) && clean rs
