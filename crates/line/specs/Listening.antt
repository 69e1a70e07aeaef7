-- DECISIONS 54: bytes of a lent part, heard one after the other up to and including the first that asks for something, or to the end of the part.
use Rattle.std.specs.Prelude.{ℕ, ◌+◌, cond, List, [], ◌∷◌}
use Rattle.wire.specs.declared.Way.TheVariants.{ToDevice}
use Rattle.reader.specs.Reading.{read}
use Rattle.reader.specs.Fields.{place_of, kept_in}
use Rattle.line.specs.Calls.{is_quiet, called_of}
use Rattle.line.specs.declared.Call.TheVariants.{Quiet}
use Rattle.line.specs.declared.Port.{Port}
use Rattle.line.specs.declared.Listened.{Listened}

-- the lent frame with one byte more
abbrev pub frame_after : Port → List ℕ → ℕ → List ℕ
frame_after l frame b = kept_in frame (read ToDevice (place_of l.reader frame) b).place

abbrev pub listened_to : Port → (frame bytes : List ℕ) → Listened
listened_to l frame [] = record { line = l; call = Quiet; taken = 0 }
listened_to l frame (b ∷ bs) =
    let now = called_of l frame b in
    let later = listened_to now.line (frame_after l frame b) bs in
    cond (is_quiet now.call) (record { line = later.line; call = later.call; taken = later.taken + 1 }) (record { line = now.line; call = now.call; taken = 1 })

abbrev pub frame_behind : Port → (frame bytes : List ℕ) → List ℕ
frame_behind l frame [] = frame
frame_behind l frame (b ∷ bs) =
    let now = called_of l frame b in
    cond (is_quiet now.call) (frame_behind now.line (frame_after l frame b) bs) (frame_after l frame b)
