-- PROTOCOL 1.2 to 1.5: a command and an answer as values, and the bytes of each.
use Rattle.std.specs.Prelude.{ℕ, ◌+◌, ◌/◌, ◌%◌, Bool, ◌&&◌, List, [], ◌∷◌, ◌++◌, leb, eqb, length}
use Rattle.wire.specs.Bytes.{may_stand, every}
use Rattle.wire.specs.declared.Way.{Way}
use Rattle.wire.specs.declared.Way.TheVariants.{ToDevice, ToTill}
use Rattle.wire.specs.declared.Role.TheVariants.{Name, Data, Status}

-- PROTOCOL 1.2: SEQ, CMD and data. An answer has six status bytes besides, a command none.
pub record Message : Type 0 where
  pub seq : ℕ
  pub code : ℕ
  pub content : List ℕ
  pub status : List ℕ

abbrev pub command_of : ℕ → ℕ → List ℕ → Message
command_of seq code content = record { seq = seq; code = code; content = content; status = [] }

abbrev pub answer_of : ℕ → ℕ → List ℕ → List ℕ → Message
answer_of seq code content status = record { seq = seq; code = code; content = content; status = status }

-- PROTOCOL 1.5: the sum that BCC writes
abbrev pub total : List ℕ → ℕ
total [] = 0
total (b ∷ bs) = b + total bs

-- PROTOCOL 1.5: the last hexadecimal digit as a byte, 30h plus the digit; BCC has four, the highest first (DECISIONS 4)
abbrev pub hexadecimal : ℕ → ℕ
hexadecimal n = 0x30 + n % 16

abbrev pub bcc : ℕ → List ℕ
bcc sum = hexadecimal (sum / 4096) ∷ hexadecimal (sum / 256) ∷ hexadecimal (sum / 16) ∷ hexadecimal sum ∷ []

-- PROTOCOL 1.2: what stands between CMD and 05h: the data, and in an answer 04h and STATUS behind it
abbrev pub inner : Way → Message → List ℕ
inner ToDevice m = m.content
inner ToTill m = m.content ++ 0x04 ∷ m.status

-- PROTOCOL 1.3: the bytes from LEN to 05h; LEN is their number plus 20h
abbrev pub counted : ℕ → ℕ → List ℕ → List ℕ
counted seq code between = (length between + 4 + 0x20) ∷ seq ∷ code ∷ between ++ 0x05 ∷ []

-- PROTOCOL 1.2, 1.5: 01h, the bytes from LEN to 05h, their BCC, 03h
abbrev pub enclosed : ℕ → ℕ → List ℕ → List ℕ
enclosed seq code between = 0x01 ∷ counted seq code between ++ bcc (total (counted seq code between)) ++ 0x03 ∷ []

-- PROTOCOL 1.2: the whole frame of a command or of an answer
abbrev pub frame : Way → Message → List ℕ
frame k m = enclosed m.seq m.code (inner k m)

-- PROTOCOL 1.2: how many status bytes a frame of each kind has
abbrev pub statuses : Way → ℕ
statuses ToDevice = 0
statuses ToTill = 6

-- PROTOCOL 1.2, 7.2: SEQ, CMD and data that can be sent: all in their ranges, 200 data bytes at most
abbrev pub carriable : ℕ → ℕ → List ℕ → Bool
carriable seq code content =
    may_stand Name seq && may_stand Name code && leb (length content) 200 && every (may_stand Data) content

-- PROTOCOL 1.2: what can be sent: these, and as many status bytes as the kind has, each in its range (DECISIONS 6)
abbrev pub sendable : Way → Message → Bool
sendable k m =
    carriable m.seq m.code m.content
    && eqb (length m.status) (statuses k)
    && every (may_stand Status) m.status
