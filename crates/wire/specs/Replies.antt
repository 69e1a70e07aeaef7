-- PROTOCOL 2.1, 2.4 and 2.5: what the functions of this layer answer, with its number.
use Rattle.std.specs.Prelude.{ℕ, cond, Result, Ok, Err, List, leb, ltb, length, take, drop}
use Rattle.std.proofs.lemmas.List.Edits.{sets}
use Rattle.wire.specs.Frame.{Message, answer_of, frame, sendable}
use Rattle.wire.specs.declared.Way.{Way}
use Rattle.wire.specs.declared.Way.TheVariants.{ToDevice, ToTill}
use Rattle.wire.specs.declared.Unbuilt.{Unbuilt}
use Rattle.wire.specs.declared.Unbuilt.TheVariants.{Short, Unsendable}

-- PROTOCOL 2.4: how many bytes are to be lent, at the till end and at the device, whatever the frame (DECISIONS 5)
abbrev pub room : Way → ℕ
room ToDevice = 210
room ToTill = 217

-- PROTOCOL 2.1, 2.5: a reply: its number, how many bytes are given back, and the lent buffer afterwards
pub record Reply : Type 0 where
  pub number : ℕ
  pub count : ℕ
  pub buffer : List ℕ

-- PROTOCOL 2.1: number 0 with the frame's bytes, 7 or 8 with none
abbrev pub reply_of : Result ℕ Unbuilt → List ℕ → Reply
reply_of (Ok count) buffer = record { number = 0; count = count; buffer = buffer }
reply_of (Err Short) buffer = record { number = 7; count = 0; buffer = buffer }
reply_of (Err Unsendable) buffer = record { number = 8; count = 0; buffer = buffer }

-- PROTOCOL 2.2, 2.5: 7 is looked for before 8; all bytes but those given back stay. `sets buffer 0 bytes` is the buffer with these
-- bytes from its front on.
abbrev pub building : Way → List ℕ → Message → Reply
building k buffer m =
    cond (ltb (length buffer) (room k)) (reply_of (Err Short) buffer)
    (cond (sendable k m) (reply_of (Ok (length (frame k m))) (sets buffer 0 (frame k m)))
    (reply_of (Err Unsendable) buffer))

-- PROTOCOL 1.2, 2.4, 2.5: an answer around n data bytes that stand in their place, from the buffer's fifth byte on. SEQ and CMD are the
-- command's own, as they came, data and status the device's: only 7 and the number of data bytes are judged (DECISIONS 6).
abbrev pub sealing : List ℕ → ℕ → ℕ → ℕ → List ℕ → Reply
sealing buffer seq code n status =
    let sealed = frame ToTill (answer_of seq code (take n (drop 4 buffer)) status) in
    cond (ltb (length buffer) (room ToTill)) (reply_of (Err Short) buffer)
    (cond (leb n 200) (reply_of (Ok (length sealed)) (sets buffer 0 sealed))
    (reply_of (Err Unsendable) buffer))
