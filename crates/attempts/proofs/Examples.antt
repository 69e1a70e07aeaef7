-- PROTOCOL 1.6's own bytes, and the fault that this project is to rule out.
use mathlib.Core.Path.{◌≡◌, refl}
use mathlib.Core.List.{List, [], ◌∷◌, ◌++◌}
use Rattle.wire.specs.Frame.{command_of, frame}
use Rattle.wire.specs.declared.Way.TheVariants.{ToDevice}
use Rattle.till.specs.Turns.{fresh_state, seq_after, command, byte, timeout}
use Rattle.attempts.specs.History.{LentEvent, history, words, puts_of, heard_bytes, seq_of}
use Rattle.attempts.specs.Handed.{handed_in}
use Rattle.attempts.specs.Fifth.{FifthFails}
use Rattle.till.specs.declared.Word.TheVariants.{Idle, Waiting, SendAgain, Answered, Unfinished, NotSent}
use Prim.Native.Nat.{ℕ}

abbrev status74 : LentEvent
status74 = record { size = 210; happens = command 74 [] }

abbrev late : LentEvent
late = record { size = 210; happens = timeout }

abbrev nak : LentEvent
nak = record { size = 210; happens = byte 0x15 }

abbrev frame74 : List ℕ
frame74 = 0x01 ∷ 0x24 ∷ 0x20 ∷ 0x4A ∷ 0x05 ∷ 0x30 ∷ 0x30 ∷ 0x39 ∷ 0x33 ∷ 0x03 ∷ []

abbrev answer74 : List ℕ
answer74 =
    0x01 ∷ 0x31 ∷ 0x20 ∷ 0x4A ∷ 0x80 ∷ 0x80 ∷ 0x80 ∷ 0x80 ∷ 0x86 ∷ 0x9A ∷ 0x04 ∷ 0x80 ∷ 0x80 ∷ 0x80 ∷ 0x80 ∷ 0x86 ∷ 0x9A ∷ 0x05 ∷ 0x30 ∷ 0x36 ∷ 0x3E ∷ 0x34
    ∷ 0x03 ∷ []

-- the same frame five times, then Unfinished, and the answer that comes too late is heard by nobody
gives_up : words (history fresh_state (status74 ∷ late ∷ nak ∷ late ∷ status74 ∷ nak ∷ late ∷ heard_bytes (0x01 ∷ 0x31 ∷ [])))
    ≡ Waiting 10 ∷ SendAgain 10 ∷ SendAgain 10 ∷ SendAgain 10 ∷ NotSent ∷ SendAgain 10 ∷ Unfinished 5 ∷ Idle ∷ Idle ∷ []
gives_up = refl

same_frame : puts_of (history fresh_state (status74 ∷ late ∷ nak ∷ [])) ≡ frame74 ∷ frame74 ∷ frame74 ∷ []
same_frame = refl

-- its whole answer, behind a NAK and with a stray byte before it
answered : words (history fresh_state (status74 ∷ nak ∷ heard_bytes (0x16 ∷ answer74)))
    ≡ Waiting 10 ∷ SendAgain 10 ∷ Waiting 0 ∷ Waiting 0 ∷ Waiting 0 ∷ Waiting 0 ∷ Waiting 0 ∷ Waiting 0 ∷ Waiting 0 ∷ Waiting 0 ∷ Waiting 0 ∷ Waiting 0 ∷ Waiting 0
    ∷ Waiting 0 ∷ Waiting 0 ∷ Waiting 0 ∷ Waiting 0 ∷ Waiting 0 ∷ Waiting 0 ∷ Waiting 0 ∷ Waiting 0 ∷ Waiting 0 ∷ Waiting 0 ∷ Waiting 0 ∷ Waiting 0 ∷ Answered 12 ∷ []
answered = refl

-- "after FFh comes 20h"
goes_round : (seq_after 0xFF ≡ 0x20) × ((seq_of 223 ≡ 0xFF) × (seq_of 224 ≡ 0x20))
goes_round = (refl, (refl, refl))

-- two commands with their frames; what comes between takes none
handed_out : handed_in (nak ∷ status74 ∷ late ∷ status74 ∷ nak ∷ heard_bytes answer74 ++ (late ∷ status74 ∷ late ∷ []))
    ≡ record { command = command_of 0x20 74 []; frames = frame74 ∷ frame74 ∷ frame74 ∷ [] }
    ∷ record { command = command_of 0x21 74 []; frames = frame ToDevice (command_of 0x21 74 []) ∷ frame ToDevice (command_of 0x21 74 []) ∷ [] }
    ∷ []
handed_out = refl

-- and there are such histories: too short a buffer and a second command between the tries count for nothing
there_is_a_fifth : FifthFails (nak ∷ []) status74 (late ∷ nak ∷ record { size = 209; happens = timeout } ∷ late ∷ status74 ∷ nak ∷ []) late
there_is_a_fifth = record { code = 74; content = []; count = 10; is_command = refl; is_taken = refl; not_ended = refl; four_failed = refl; one_more_fails = refl }
