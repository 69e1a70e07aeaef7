-- A text put into a lent buffer.
use Rattle.std.specs.Prelude.{ℕ, ◌+◌, min, ◌≡◌, List, length}
use Rattle.std.proofs.lemmas.List.Edits.{sets}

-- the text stands from a place on, as far as the buffer reaches, and all other bytes stay; the place behind it, or the buffer's end
pub record Put (buffer : List ℕ) (at : ℕ) (text after : List ℕ) (place : ℕ) : Type 0 where
  pub bytes : after ≡ sets buffer at text
  pub behind : place ≡ min (at + length text) (length buffer)
