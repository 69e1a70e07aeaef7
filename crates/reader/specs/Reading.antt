-- PROTOCOL 1.7 to 1.9: reading, one definition for commands (device) and answers (till end).
use Rattle.std.specs.Prelude.{ℕ, ◌+◌, ◌%◌, Bool, false, cond, List, [], ◌∷◌, ◌++◌, eqb, ltb, length, get_or, take, drop}
use Rattle.wire.specs.Bytes.{within}
use Rattle.wire.specs.Frame.{Message, statuses}
use Rattle.wire.specs.Places.{none, front, ending, data_count, shortest, longest}
use Rattle.wire.specs.declared.Way.{Way}

-- PROTOCOL 1.7: where reading stands: outside a frame, or inside one with the bytes since 01h; sum is that of those from LEN to 05h
pub data Place : Type 0 where
  outside : Place
  inside : (sum : ℕ) (bytes : List ℕ) → Place

-- PROTOCOL 1.7: whether a byte suits its place: LEN by its range, all others by the tests
abbrev pub suits : Way → ℕ → List ℕ → ℕ → Bool
suits k sum [] b = within (shortest k) (longest k) b
suits k sum (len ∷ bytes) b = get_or (front k (data_count k len) ++ ending sum) (length bytes) none b

-- PROTOCOL 1.2: whether the next byte is the frame's last: 05h and four BCC bytes have come
abbrev pub at_last : Way → List ℕ → Bool
at_last k [] = false
at_last k (len ∷ bytes) = eqb (length bytes) (length (front k (data_count k len)) + 4)

-- PROTOCOL 1.5: the sum with one byte more: only LEN to 05h are added. Four hexadecimal digits hold it (DECISIONS 4).
abbrev pub grown : Way → ℕ → List ℕ → ℕ → ℕ
grown k sum [] b = b
grown k sum (len ∷ bytes) b = cond (ltb (length bytes) (length (front k (data_count k len)))) ((sum + b) % 65536) sum

-- PROTOCOL 1.7, 1.8: what the bytes since 01h are, once b has come behind them
pub data Standing : Type 0 where
  broken : Standing
  beginning : Standing
  whole : Standing

abbrev pub standing : Way → ℕ → List ℕ → ℕ → Standing
standing k sum bytes b = cond (suits k sum bytes b) (cond (at_last k bytes) whole beginning) broken

-- PROTOCOL 1.2: the command or answer that the bytes LEN to 05h say
abbrev pub message : Way → List ℕ → Message
message k bytes =
    let n = data_count k (get_or bytes 0 0) in
    record {
      seq = get_or bytes 1 0;
      code = get_or bytes 2 0;
      content = take n (drop 3 bytes);
      status = take (statuses k) (drop (4 + n) bytes);
    }

-- PROTOCOL 1.8: what one byte brings: nothing; a broken frame, number 5 (the device gives NAK); or a whole frame
pub data Event : Type 0 where
  nothing : Event
  broken_frame : Event
  heard : Message → Event

-- where reading stands behind a byte, and what the byte brought
pub record Read : Type 0 where
  pub place : Place
  pub event : Event

-- PROTOCOL 1.9: 01h breaks a frame of which more than its 01h had come; else it brings nothing
abbrev pub starts_anew : Place → Event
starts_anew outside = nothing
starts_anew (inside sum []) = nothing
starts_anew (inside sum (b ∷ bytes)) = broken_frame

-- PROTOCOL 1.8, 9.2: a byte that does not suit breaks the frame there and then; reading is outside again, as it is behind a whole frame
abbrev pub goes_on : Standing → Place → Message → Read
goes_on broken next m = record { place = outside; event = broken_frame }
goes_on beginning next m = record { place = next; event = nothing }
goes_on whole next m = record { place = outside; event = heard m }

-- PROTOCOL 1.7: any byte but 01h: outside a frame it is skipped, inside one it has its place
abbrev pub read_other : Way → Place → ℕ → Read
read_other k outside b = record { place = outside; event = nothing }
read_other k (inside sum bytes) b =
    goes_on (standing k sum bytes b) (inside (grown k sum bytes b) (bytes ++ b ∷ [])) (message k bytes)

-- PROTOCOL 1.9: one step of reading; 01h begins anew wherever it comes
abbrev pub read : Way → Place → ℕ → Read
read k p b = cond (eqb b 0x01) (record { place = inside 0 []; event = starts_anew p }) (read_other k p b)

-- a whole run of bytes: where reading stands behind it, and what each byte brought
pub record Run : Type 0 where
  pub place : Place
  pub events : List Event

abbrev pub run : Way → Place → List ℕ → Run
run k p [] = record { place = p; events = [] }
run k p (b ∷ bs) =
    let rest = run k (read k p b).place bs in
    record { place = rest.place; events = (read k p b).event ∷ rest.events }
