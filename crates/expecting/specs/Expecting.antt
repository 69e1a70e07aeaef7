-- PROTOCOL 1.2, 1.7: for each place of a command's frame the part that stands there, and the bytes that suit it.
use Rattle.std.specs.Prelude.{ℕ, Bool, false, ◌||◌, List, [], ◌∷◌, ◌++◌, map, eqb, length, get_or, replicate}
use Rattle.wire.specs.Bytes.{within}
use Rattle.wire.specs.Frame.{bcc}
use Rattle.wire.specs.Places.{data_count, shortest, longest}
use Rattle.wire.specs.declared.Way.TheVariants.{ToDevice}
use Rattle.reader.specs.Reading.{Place, outside, inside}
use Rattle.expecting.specs.declared.Part.{Part}
use Rattle.expecting.specs.declared.Part.TheVariants.{Start, Len, Seq, Cmd, Data, Five, Bcc, End, Nothing}
use Rattle.expecting.specs.declared.Expected.{Expected}

-- one byte alone, and a range
abbrev pub only : Part → ℕ → Expected
only part byte = record { part = part; least = byte; most = byte }

abbrev pub between : Part → ℕ → ℕ → Expected
between part least most = record { part = part; least = least; most = most }

-- behind 03h nothing suits: no byte is from 1 to 0
abbrev pub behind_all : Expected
behind_all = between Nothing 1 0

-- PROTOCOL 1.2: the places from SEQ to 05h, where n data bytes stand
abbrev pub front_parts : ℕ → List Expected
front_parts n = between Seq 0x20 0xFF ∷ between Cmd 0x20 0xFF ∷ replicate n (between Data 0x20 0xFF) ++ only Five 0x05 ∷ []

-- PROTOCOL 1.5: the places behind 05h: each digit of BCC is the one that the sum calls for
abbrev pub ending_parts : ℕ → List Expected
ending_parts sum = map (only Bcc) (bcc sum) ++ only End 0x03 ∷ []

-- PROTOCOL 1.7: what may come next
abbrev pub expected_at : Place → Expected
expected_at outside = only Start 0x01
expected_at (inside sum []) = between Len (shortest ToDevice) (longest ToDevice)
expected_at (inside sum (len ∷ bytes)) = get_or (front_parts (data_count ToDevice len) ++ ending_parts sum) (length bytes) behind_all

-- PROTOCOL 1.4: whether a byte is among those expected: Tab, line feed and 10h stand in data too
abbrev pub besides : Part → ℕ → Bool
besides Data b = eqb b 0x09 || eqb b 0x0A || eqb b 0x10
besides Start b = false
besides Len b = false
besides Seq b = false
besides Cmd b = false
besides Five b = false
besides Bcc b = false
besides End b = false
besides Nothing b = false

abbrev pub fits : Expected → ℕ → Bool
fits e b = besides e.part b || within e.least e.most b
