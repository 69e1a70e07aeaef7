-- A note as it is written leaves in the sheet what the note says, and no note changes the sheet's length.
use mathlib.Core.Path.{◌≡◌, refl, ap, ◌∙◌}
use mathlib.Core.List.{List}
use Prim.Native.Nat.{ℕ}
use lib.ListN.{length, get_or, set, length-set, length-replicate}
use lib.Seq.{set-get_or}
use Rattle.sheet.specs.declared.Line.{Line}
use Rattle.sheet.specs.declared.Note.{Note}
use Rattle.sheet.specs.declared.Note.TheVariants.{Nothing, Empties, Adds, TakesBack}
use Rattle.sheet.specs.Sheet.{blank}
use Rattle.sheet.specs.Notes.{taken_back, noted, writes_of, written}

-- `at` is the place of the line found, `next` that of the next line
pub writes_note : (note : Note) (ls : List Line) (at next : ℕ) → written ls (writes_of note at (get_or ls at blank) next) ≡ noted ls at next note
writes_note Nothing ls at next = ap (λ (l : List Line). set l at (get_or ls at blank)) (set-get_or ls at blank) ∙ set-get_or ls at blank
writes_note Empties ls at next = refl
writes_note (Adds l) ls at next = ap (λ (k : List Line). set k next l) (set-get_or ls at blank)
writes_note (TakesBack l) ls at next = refl

pub noted_length : (note : Note) (ls : List Line) (at next : ℕ) → length (noted ls at next note) ≡ length ls
noted_length Nothing ls at next = refl
noted_length Empties ls at next = length-replicate (length ls) blank
noted_length (Adds l) ls at next = length-set ls next l
noted_length (TakesBack l) ls at next = length-set (set ls at (taken_back (get_or ls at blank))) next l ∙ length-set ls at (taken_back (get_or ls at blank))
