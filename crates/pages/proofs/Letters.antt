-- Bytes shown one by one; the names that a page has for its marks.
use Prim.Native.Nat.{ℕ, ◌+◌, ◌≤◌, ◌<◌}
use mathlib.Core.Path.{◌≡◌, refl, ap}
use mathlib.Core.List.{List, [], ◌∷◌, ◌++◌}
use native.Mathlib.Numerals.{add-one}
use lib.ListN.{length, get_or, drop, drop_of_length-le}
use lib.Seq.{drop-cons}
use borrow.Author.Tests.{ne_eqb}
use Rattle.sentences.specs.Filled.{shown, escaped}
use Rattle.pages.specs.Pages.{each, page_letter}

module _ (g : ℕ → List ℕ) (bs : List ℕ) (i : ℕ) where
  pub each_next : i < length bs → each g (drop i bs) ≡ g (get_or bs i 0) ++ each g (drop (i + 1) bs)
  each_next h = rw (add-one, drop-cons bs i 0)

  pub each_done : length bs ≤ i → each g (drop i bs) ≡ []
  each_done h = rw (drop_of_length-le bs h)

module _ (b : ℕ) where
  pub as_shown : (b ≡ 0x26 → ⊥) → (b ≡ 0x3C → ⊥) → (b ≡ 0x3E → ⊥) → shown b ≡ page_letter b
  as_shown x y z = rw (ne_eqb b 0x26 x, ne_eqb b 0x3C y, ne_eqb b 0x3E z)

  -- data of one byte
  pub one_shown : escaped (b ∷ []) ≡ shown b
  unfolding escaped
  one_shown = append-nil (shown b)
    where
      append-nil : (l : List ℕ) → l ++ [] ≡ l
      append-nil [] = refl
      append-nil (x ∷ l) = ap (λ t. x ∷ t) (append-nil l)
