-- PROTOCOL chapter 7: what the till end says of one event.
use Rattle.std.specs.Prelude.{ℕ, ◌+◌, Bool, false, cond, ◌&&◌, List, [], ◌++◌, eqb, ltb, length}
use Rattle.wire.specs.Frame.{Message, command_of, frame, sendable}
use Rattle.wire.specs.Replies.{room}
use Rattle.wire.specs.declared.Way.TheVariants.{ToDevice, ToTill}
use Rattle.reader.specs.Reading.{Place, outside, inside, Event, nothing, broken_frame, heard, read}
use Rattle.till.specs.declared.Word.{Word}
use Rattle.till.specs.declared.Word.TheVariants.{Idle, Waiting, SendAgain, Answered, Unfinished, TooShort, NotSent}

-- PROTOCOL 8.5: what a try has heard: where reading of the answer stands
pub record Ear : Type 0 where
  pub place : Place

-- PROTOCOL 7.6: a try that begins has heard nothing
abbrev pub fresh_ear : Ear
fresh_ear = record { place = outside }

-- PROTOCOL 8.5: no command, or one that waits: its SEQ, CMD and frame, how often the frame was handed out, and what the last try has heard
pub data Pending : Type 0 where
  idle : Pending
  waits : (seq code : ℕ) (bytes : List ℕ) (tries : ℕ) (ear : Ear) → Pending

-- PROTOCOL 8.5: the till end: the SEQ of the next command, and what waits
pub record State : Type 0 where
  pub next : ℕ
  pub pending : Pending

-- PROTOCOL 8.5: a fresh one has SEQ 20h next, and nothing waits
abbrev pub fresh_state : State
fresh_state = record { next = 0x20; pending = idle }

-- PROTOCOL 7.3: one up with each command taken; behind FFh comes 20h
abbrev pub seq_after : ℕ → ℕ
seq_after seq = cond (eqb seq 0xFF) 0x20 (seq + 1)

-- PROTOCOL 7.1: what happens at the till end: a command is to be sent, a byte comes from the line, or none comes in time
pub data Happening : Type 0 where
  command : (code : ℕ) (content : List ℕ) → Happening
  byte : (b : ℕ) → Happening
  timeout : Happening

-- PROTOCOL 7.1: what it says: the word, the bytes put at the front of the lent buffer, and the till end afterwards
pub record Turn : Type 0 where
  pub word : Word
  pub puts : List ℕ
  pub state : State

-- PROTOCOL 7.1: a word with bytes: its count is theirs
abbrev pub gives : (ℕ → Word) → List ℕ → State → Turn
gives word bytes s = record { word = word (length bytes); puts = bytes; state = s }

-- PROTOCOL 7.1: a word with which nothing is put
abbrev pub stays : Word → State → Turn
stays word s = record { word = word; puts = []; state = s }

-- PROTOCOL 7.5: what a byte or a timeout is to the command that waits
pub data Meaning : Type 0 where
  failed : Meaning
  goes_on : (ear : Ear) → Meaning
  answers : (m : Message) → Meaning

-- PROTOCOL 7.5: a byte that breaks an answer is a failed try, 01h is none; the last byte of a whole one answers the command, or is a failed try where SEQ or
-- CMD is another
abbrev pub read_as : (seq code b : ℕ) → Ear → Event → Meaning
read_as seq code b next nothing = goes_on next
read_as seq code b next broken_frame = cond (eqb b 0x01) (goes_on next) failed
read_as seq code b next (heard m) = cond (eqb m.seq seq && eqb m.code code) (answers m) failed

-- PROTOCOL 7.5: outside an answer NAK (15h) is a failed try, and no other byte is
abbrev pub nak_outside : Place → ℕ → Bool
nak_outside outside b = eqb b 0x15
nak_outside (inside sum bytes) b = false

-- PROTOCOL 7.5: bytes are read as answers, by 1.7 to 1.9
abbrev pub ear_after : Ear → ℕ → Ear
ear_after ear b = record { place = (read ToTill ear.place b).place }

abbrev pub byte_means : (seq code : ℕ) → Ear → ℕ → Meaning
byte_means seq code ear b =
    cond (nak_outside ear.place b) failed (read_as seq code b (ear_after ear b) (read ToTill ear.place b).event)

-- PROTOCOL 7.6: before the fifth, Send again with the same frame, and reading begins afresh; the fifth says Unfinished with the number of tries, and the
-- command is given up. PROTOCOL 8.7: tries above five, which no history reaches, count as the fifth.
abbrev pub fails_try : (next seq code : ℕ) → List ℕ → ℕ → Turn
fails_try next seq code bytes tries =
    cond (ltb tries 5) (gives SendAgain bytes (record { next = next; pending = waits seq code bytes (tries + 1) fresh_ear }))
    (stays (Unfinished tries) (record { next = next; pending = idle }))

-- PROTOCOL 7.7: Answered, and no command waits any more; 7.1: its data is put, then its six status bytes. PROTOCOL 7.5: Waiting, where reading goes on
abbrev pub on_meaning : (next seq code : ℕ) → List ℕ → ℕ → Meaning → Turn
on_meaning next seq code bytes tries failed = fails_try next seq code bytes tries
on_meaning next seq code bytes tries (goes_on ear) = stays (Waiting 0) (record { next = next; pending = waits seq code bytes tries ear })
on_meaning next seq code bytes tries (answers m) = gives Answered (m.content ++ m.status) (record { next = next; pending = idle })

-- PROTOCOL 7.4: where nothing waits, bytes and timeouts say Idle and change nothing
abbrev pub on_byte : State → Pending → ℕ → Turn
on_byte s idle b = stays Idle s
on_byte s (waits seq code bytes tries ear) b = on_meaning s.next seq code bytes tries (byte_means seq code ear b)

-- PROTOCOL 7.5: a timeout is a failed try
abbrev pub on_timeout : State → Pending → Turn
on_timeout s idle = stays Idle s
on_timeout s (waits seq code bytes tries ear) = on_meaning s.next seq code bytes tries failed

-- PROTOCOL 7.2: a command taken says Waiting with its frame, which is its first try; it cannot be sent (8) while another one waits, or where CMD or data may
-- not stand in a frame
abbrev pub sent : ℕ → Message → Turn
sent next m = gives Waiting (frame ToDevice m) (record { next = seq_after next; pending = waits m.seq m.code (frame ToDevice m) 1 fresh_ear })

abbrev pub on_command : State → Pending → ℕ → List ℕ → Turn
on_command s idle code content =
    let m = command_of s.next code content in
    cond (sendable ToDevice m) (sent s.next m) (stays NotSent s)
on_command s (waits seq sent_code bytes tries ear) code content = stays NotSent s

-- PROTOCOL 7.1: the three events
abbrev pub takes : State → Happening → Turn
takes s (command code content) = on_command s s.pending code content
takes s (byte b) = on_byte s s.pending b
takes s timeout = on_timeout s s.pending

-- PROTOCOL 2.4: with less than 210 bytes lent it is 7 before anything else is looked at, and the event is not taken
abbrev pub hears : (lent : ℕ) → State → Happening → Turn
hears lent s h = cond (ltb lent (room ToDevice)) (stays TooShort s) (takes s h)
