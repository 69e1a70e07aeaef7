-- What the reader's fields say, with the lent array, and the numbers of what a byte brings (PROTOCOL 2.1).
use Rattle.std.specs.Prelude.{ℕ, ◌+◌, Bool, true, false, cond, List, [], ◌∷◌, eqb, length, take}
use Rattle.std.proofs.lemmas.List.Edits.{sets}
use Rattle.reader.specs.Reading.{Place, outside, inside, Event, nothing, broken_frame, heard, Read, Run}
use Rattle.reader.specs.declared.Heard.{Heard}
use Rattle.reader.specs.declared.Heard.TheVariants.{Nothing, Broken, Whole}
use Rattle.reader.specs.declared.Reader.{Reader}
use Rattle.reader.specs.declared.Taken.{Taken}
use Rattle.reader.specs.declared.Told.{Told}

-- PROTOCOL 8.3, 8.5: where reading stands, as the reader's fields say it with the lent array that holds the bytes since 01h
abbrev pub place_of : Reader → List ℕ → Place
place_of r array = cond r.inside (inside r.sum (take r.count array)) outside

-- and the fields that say a place
abbrev pub reader_of : Place → Reader
reader_of outside = record { inside = false; count = 0; sum = 0 }
reader_of (inside sum bytes) = record { inside = true; count = length bytes; sum = sum }

-- the lent array with the bytes since 01h at its front; all its other bytes stay
abbrev pub kept_in : List ℕ → Place → List ℕ
kept_in array outside = array
kept_in array (inside sum bytes) = sets array 0 bytes

-- PROTOCOL 2.1: the number of what a byte brought: 0 taken, 5 a broken frame; a whole frame's own number is its command's to say
abbrev pub heard_number : Heard → ℕ
heard_number Nothing = 0
heard_number Broken = 5
heard_number (Whole seq code count) = 0

-- and the values: a whole frame has its SEQ, its CMD and the number of its data bytes
abbrev pub heard_values : Heard → List ℕ
heard_values Nothing = []
heard_values Broken = []
heard_values (Whole seq code count) = seq ∷ code ∷ count ∷ []

-- an event as it is told, and a step of reading
abbrev pub heard_of : Event → Heard
heard_of nothing = Nothing
heard_of broken_frame = Broken
heard_of (heard m) = Whole m.seq m.code (length m.content)

-- a byte that brings nothing
abbrev pub is_silent : Heard → Bool
is_silent Nothing = true
is_silent Broken = false
is_silent (Whole seq code count) = false

abbrev pub taken_of : Read → Taken
taken_of r = record { reader = reader_of r.place; heard = heard_of r.event }

-- how many broken frames stand in a list of events: those told with 5; and how many whole ones: those told with values
abbrev pub broken_in : Event → ℕ
broken_in e = cond (eqb (heard_number (heard_of e)) 5) 1 0

abbrev pub whole_in : Event → ℕ
whole_in e = cond (eqb (length (heard_values (heard_of e))) 0) 0 1

abbrev pub count : (Event → ℕ) → List Event → ℕ
count of [] = 0
count of (e ∷ es) = of e + count of es

-- a whole run, heard by a fresh reader
abbrev pub told_of : Run → Told
told_of r = record { reader = reader_of r.place; broken = count broken_in r.events; whole = count whole_in r.events }
