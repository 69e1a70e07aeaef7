-- PROTOCOL 8.5: what the till end remembers, in its fields and its lent arrays.
use Rattle.std.specs.Prelude.{ℕ, Bool, cond, ◌||◌, List, eqb, length, take, Option, Some, None}
use Rattle.std.proofs.lemmas.List.Edits.{sets}
use Rattle.reader.specs.Fields.{place_of, reader_of, kept_in}
use Rattle.till.specs.Words.{number_of}
use Rattle.till.specs.Turns.{Ear, Pending, idle, waits, State, Happening, Turn, hears}
use Rattle.till.specs.declared.Ear.{Ear as EarFields}
use Rattle.till.specs.declared.Attempt.{Attempt}
use Rattle.till.specs.declared.Till.{Till}
use Rattle.till.specs.declared.Said.{Said}

-- what the last try has heard, by its fields and the array that holds the answer's bytes since 01h; and the fields that say it
abbrev pub ear_in : EarFields → List ℕ → Ear
ear_in e answer = record { place = place_of e.reader answer }

abbrev pub ear_of : Ear → EarFields
ear_of ear = record { reader = reader_of ear.place }

-- the state that the fields say, with the array that holds the frame and the one that holds the answer's bytes since 01h
abbrev pub pending_of : Option Attempt → List ℕ → List ℕ → Pending
pending_of None frame answer = idle
pending_of (Some a) frame answer = waits a.seq a.code (take a.count frame) a.tries (ear_in a.ear answer)

abbrev pub state_of : Till → List ℕ → List ℕ → State
state_of t frame answer = record { next = t.next; pending = pending_of t.slot frame answer }

-- and the fields that say a state
abbrev pub slot_of : Pending → Option Attempt
slot_of idle = None
slot_of (waits seq code bytes tries ear) = Some (record { seq = seq; code = code; tries = tries; count = length bytes; ear = ear_of ear })

abbrev pub till_of : State → Till
till_of s = record { next = s.next; slot = slot_of s.pending }

-- the lent arrays with the frame, and with the answer's bytes, at their front; all their other bytes stay
abbrev pub framed : List ℕ → Pending → List ℕ
framed array idle = array
framed array (waits seq code bytes tries ear) = sets array 0 bytes

abbrev pub held_in : List ℕ → Pending → List ℕ
held_in array idle = array
held_in array (waits seq code bytes tries ear) = kept_in array ear.place

-- PROTOCOL 2.1: at 7 and 8 everything stays
abbrev pub refused : ℕ → Bool
refused number = eqb number 7 || eqb number 8

abbrev pub said_of : Till → Turn → Said
said_of t turn = record { till = cond (refused (number_of turn.word)) t (till_of turn.state); word = turn.word }

-- PROTOCOL 7.1: what the till end says of an event, by its fields and its arrays
abbrev pub turn_of : Till → (frame answer buffer : List ℕ) → Happening → Turn
turn_of t frame answer buffer h = hears (length buffer) (state_of t frame answer) h
