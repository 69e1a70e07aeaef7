-- A text by value.
use Rattle.std.specs.Prelude.{ℕ, min, List, length, replicate}
use Rattle.std.proofs.lemmas.List.Edits.{sets}
use Rattle.words.specs.declared.rows.Words.{Words}

-- the text at the front, and zeros behind it; of a text of more than 64 bytes the first 64
abbrev pub words_of : List ℕ → Words
words_of l = record { bytes = sets (replicate 64 0) 0 l; count = min (length l) 64 }
