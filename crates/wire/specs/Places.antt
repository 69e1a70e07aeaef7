-- PROTOCOL 1.2 and 1.7: one test for each place of a frame. Where commands and answers differ, both stand side by side.
use Rattle.std.specs.Prelude.{ℕ, ◌+◌, ◌-◌, Bool, false, List, [], ◌∷◌, ◌++◌, map, eqb, length, replicate}
use Rattle.wire.specs.Bytes.{may_stand}
use Rattle.wire.specs.Frame.{bcc}
use Rattle.wire.specs.declared.Way.{Way}
use Rattle.wire.specs.declared.Way.TheVariants.{ToDevice, ToTill}
use Rattle.wire.specs.declared.Role.TheVariants.{Name, Data, Status}

-- PROTOCOL 1.7: a place that one byte alone suits
abbrev pub is : ℕ → ℕ → Bool
is wanted b = eqb b wanted

-- PROTOCOL 1.7: 03h is last; behind it nothing suits
abbrev pub none : ℕ → Bool
none b = false

-- PROTOCOL 1.2: between the data and 05h: nothing in a command, 04h and six status bytes in an answer
abbrev pub behind_data : Way → List (ℕ → Bool)
behind_data ToDevice = []
behind_data ToTill = is 0x04 ∷ replicate 6 (may_stand Status)

-- PROTOCOL 1.2, 1.3: LEN without data, 24h or 2Bh, and with 200 data bytes, ECh or F3h
abbrev pub shortest : Way → ℕ
shortest k = 0x24 + length (behind_data k)

abbrev pub longest : Way → ℕ
longest k = shortest k + 200

-- PROTOCOL 1.7: the places from SEQ to 05h, a test to a place, where n data bytes stand: 04h and 05h are where LEN puts them
abbrev pub front : Way → ℕ → List (ℕ → Bool)
front k n = may_stand Name ∷ may_stand Name ∷ replicate n (may_stand Data) ++ behind_data k ++ is 0x05 ∷ []

-- PROTOCOL 1.7: the places behind 05h: the BCC of the bytes before, byte by byte, then 03h
abbrev pub ending : ℕ → List (ℕ → Bool)
ending sum = map is (bcc sum) ++ is 0x03 ∷ []

-- PROTOCOL 1.3: how many data bytes LEN announces
abbrev pub data_count : Way → ℕ → ℕ
data_count k len = len - shortest k
