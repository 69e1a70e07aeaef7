-- PROTOCOL chapter 9: how a try of a frame arrives, and what reading makes of it, to the byte. One definition for commands and answers.
use Rattle.std.specs.Prelude.{ℕ, zero, suc, ◌+◌, Bool, true, not, cond, ◌&&◌, List, [], ◌∷◌, ◌++◌, ltb, eqb, length, get_or, set, take}
use Rattle.wire.specs.Frame.{Message, frame}
use Rattle.wire.specs.declared.Way.{Way}
use Rattle.reader.specs.Reading.{Event, broken_frame, heard}

-- PROTOCOL 9.1: whole, or with one byte replaced, or cut short; never two of these. The other byte may be any number: nothing rests on its
-- being below 256.
pub data Arrival : Type 0 where
  whole : Arrival
  replaced : (at byte : ℕ) → Arrival
  cut : (count : ℕ) → Arrival

-- PROTOCOL 9.1: the place is one of the frame's and the byte another than stood there; at least the last byte is lost
abbrev pub may_arrive : List ℕ → Arrival → Bool
may_arrive sent whole = true
may_arrive sent (replaced at byte) = ltb at (length sent) && not (eqb byte (get_or sent at 0))
may_arrive sent (cut count) = ltb count (length sent)

-- PROTOCOL 9.1: the bytes that arrive: of a cut try a beginning of its frame, else as many as were sent
abbrev pub arriving : List ℕ → Arrival → List ℕ
arriving sent whole = sent
arriving sent (replaced at byte) = set sent at byte
arriving sent (cut count) = take count sent

-- PROTOCOL 9.2: what stands begun between two tries: nothing, or that many bytes of a message's frame
pub data Begun : Type 0 where
  clear : Begun
  begun : (m : Message) (count : ℕ) → Begun

-- PROTOCOL 9.2: what a try leaves begun. One of which nothing arrives leaves what it found; a last byte that has become 01h begins a frame.
abbrev pub leaves : Way → Begun → Message → Arrival → Begun
leaves k b m whole = clear
leaves k b m (replaced at byte) = cond (eqb byte 0x01 && eqb (at + 1) (length (frame k m))) (begun m 1) clear
leaves k b m (cut zero) = b
leaves k b m (cut (suc n)) = begun m (suc n)

-- PROTOCOL 9.3: the try's own 01h breaks what was begun, if more than 01h had come of it
abbrev pub start_brings : Begun → List Event
start_brings clear = []
start_brings (begun n count) = cond (ltb 1 count) (broken_frame ∷ []) []

-- PROTOCOL 9.4, 9.5: a try whose 01h has become another byte. With nothing begun it is skipped; what was begun is broken, once, unless the
-- byte is the 03h that this frame still lacked.
abbrev pub lost_start_brings : Way → Begun → ℕ → List Event
lost_start_brings k clear byte = []
lost_start_brings k (begun n count) byte = cond (eqb byte 0x03 && eqb (count + 1) (length (frame k n))) (heard n ∷ []) (broken_frame ∷ [])

-- PROTOCOL 9.4: a byte behind 01h replaced: the frame is broken, once; twice where that byte has become 01h, neither directly behind the first 01h nor at the
-- frame's end
abbrev pub damage_brings : ℕ → ℕ → ℕ → List Event
damage_brings size at byte = cond (eqb byte 0x01 && (ltb 1 at && ltb (at + 1) size)) (broken_frame ∷ broken_frame ∷ []) (broken_frame ∷ [])

-- PROTOCOL 9.4: all that a try brings: broken frames, and a message heard
abbrev pub brings : Way → Begun → Message → Arrival → List Event
brings k b m whole = start_brings b ++ heard m ∷ []
brings k b m (replaced zero byte) = lost_start_brings k b byte
brings k b m (replaced (suc i) byte) = start_brings b ++ damage_brings (length (frame k m)) (suc i) byte
brings k b m (cut zero) = []
brings k b m (cut (suc n)) = start_brings b
