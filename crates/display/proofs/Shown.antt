-- What a command shows, case by case.
use mathlib.Core.Path.{◌≡◌}
use mathlib.Core.Bool.{true}
use mathlib.Core.List.{List, [], ◌∷◌}
use Prim.Native.Nat.{ℕ}
use borrow.Author.Tests.{ne_eqb}
use Rattle.display.specs.Display.{plain_of, can_show, shown_by}

pub other_shows : (code : ℕ) (s : List ℕ) → (code ≡ 100 → ⊥) → shown_by code s ≡ []
other_shows code s e = rw (ne_eqb code 100 e)

pub good_shows : (code : ℕ) (s : List ℕ) → code ≡ 100 → can_show s ≡ true → shown_by code s ≡ plain_of s ∷ []
good_shows code s e f = rw (e, f)
