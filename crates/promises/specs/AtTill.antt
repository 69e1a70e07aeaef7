-- Demand 1 at the till end. The table of PROTOCOL 2.1, row by row, row 0 by its words (7.1): what each means, what is given back, what stays, and every byte
-- of the lent buffer.
use Rattle.std.specs.Prelude.{ℕ, ◌+◌, ◌≤◌, ◌<◌, ◌≡◌, Bool, true, false, not, ◌||◌, List, [], ◌++◌, length}
use Rattle.std.proofs.lemmas.List.Edits.{sets}
use Rattle.wire.specs.Frame.{Message, command_of, frame, sendable}
use Rattle.wire.specs.declared.Way.TheVariants.{ToDevice}
use Rattle.till.specs.Turns as till
use Rattle.till.specs.declared.Word.{Word}
use Rattle.till.specs.declared.Word.TheVariants.{Idle, Waiting, SendAgain, Answered, Unfinished, TooShort, NotSent}

-- PROTOCOL 7.1: what comes from the till end for one event: its reply number, its word, how many bytes are given back, or of 9 the number of tries, which
-- bytes, the lent buffer and the till end afterwards
pub record FromTill : Type 0 where
  pub number : ℕ
  pub word : Word
  pub count : ℕ
  pub bytes : List ℕ
  pub buffer : List ℕ
  pub till : till.State

-- PROTOCOL 2.5: what is given back stands at the front of the lent buffer, and the bytes behind it stay as they were
abbrev pub replies : ℕ → Word → ℕ → List ℕ → List ℕ → till.State → FromTill
replies number word count bytes buffer after =
    record { number = number; word = word; count = count; bytes = bytes; buffer = sets buffer 0 bytes; till = after }

-- PROTOCOL 7.1: a byte or a timeout
abbrev pub from_line : till.Happening → Bool
from_line (till.command code content) = false
from_line (till.byte b) = true
from_line till.timeout = true

-- PROTOCOL 7.5: which events are failed tries; `byte_means` reads the byte
abbrev pub is_failed : till.Meaning → Bool
is_failed till.failed = true
is_failed (till.goes_on ear) = false
is_failed (till.answers m) = false

abbrev pub fails : (seq code : ℕ) → till.Ear → till.Happening → Bool
fails seq code ear (till.command other content) = false
fails seq code ear (till.byte b) = is_failed (till.byte_means seq code ear b)
fails seq code ear till.timeout = true

abbrev pub is_waiting : till.Pending → Bool
is_waiting till.idle = false
is_waiting (till.waits seq code bytes tries ear) = true

-- PROTOCOL 7.2: another command waits, CMD is below 20h, there are more than 200 data bytes, or one that may not stand there
abbrev pub unsendable : till.State → ℕ → List ℕ → Bool
unsendable s code content = is_waiting s.pending || not (sendable ToDevice (command_of s.next code content))

-- PROTOCOL 7.7: no command waits any more; the SEQ of the next command stays
abbrev pub none_waits : till.State → till.State
none_waits s = record { next = s.next; pending = till.idle }

-- PROTOCOL 8.5: a command that waits: its SEQ, CMD and frame, how often the frame was handed out, and what the last try has heard
abbrev pub waits_on : till.State → (seq code : ℕ) → List ℕ → ℕ → till.Ear → till.State
waits_on s seq code bytes tries ear = record { next = s.next; pending = till.waits seq code bytes tries ear }

-- PROTOCOL 2.1, at the till end
pub data ByTill (s : till.State) (buffer : List ℕ) : till.Happening → FromTill → Type 0 where
  -- 0, Idle: nothing waits, and bytes and timeouts change nothing (7.4)
  row_0_idle : {h : till.Happening} → 210 ≤ length buffer → s.pending ≡ till.idle → from_line h ≡ true → ByTill s buffer h (replies 0 Idle 0 [] buffer s)
  -- 0, Waiting: a command is taken, and its frame given back (7.2); it has the next SEQ, which goes up by one (7.3)
  row_0_sent : (code : ℕ) (content : List ℕ) (bytes : List ℕ) → 210 ≤ length buffer → unsendable s code content ≡ false
      → bytes ≡ frame ToDevice (command_of s.next code content)
      → ByTill s buffer (till.command code content)
      (replies 0 (Waiting (length bytes)) (length bytes) bytes buffer (record { next = till.seq_after s.next; pending = till.waits s.next code bytes 1 till.fresh_ear }))
  -- 0, Waiting: a byte with which reading goes on (7.5)
  row_0_byte : (b seq code : ℕ) (bytes : List ℕ) (tries : ℕ) (ear next : till.Ear) → 210 ≤ length buffer → s.pending ≡ till.waits seq code bytes tries ear
      → till.byte_means seq code ear b ≡ till.goes_on next
      → ByTill s buffer (till.byte b) (replies 0 (Waiting 0) 0 [] buffer (waits_on s seq code bytes tries next))
  -- 0, Send again: a failed try before the fifth; the same frame, and reading begins afresh (7.6)
  row_0_again : {h : till.Happening} (seq code : ℕ) (bytes : List ℕ) (tries : ℕ) (ear : till.Ear) → 210 ≤ length buffer
      → s.pending ≡ till.waits seq code bytes tries ear → fails seq code ear h ≡ true → tries < 5
      → ByTill s buffer h (replies 0 (SendAgain (length bytes)) (length bytes) bytes buffer (waits_on s seq code bytes (tries + 1) till.fresh_ear))
  -- 0, Answered: a whole answer with the command's SEQ and CMD; its data, then its six status bytes (7.1), and no command waits any more (7.7)
  row_0_answered : (b seq code : ℕ) (bytes : List ℕ) (tries : ℕ) (ear : till.Ear) (m : Message) → 210 ≤ length buffer
      → s.pending ≡ till.waits seq code bytes tries ear → till.byte_means seq code ear b ≡ till.answers m
      → ByTill s buffer (till.byte b)
      (replies 0 (Answered (length (m.content ++ m.status))) (length (m.content ++ m.status)) (m.content ++ m.status) buffer (none_waits s))
  -- 7, less than 210 bytes lent: nothing is given back; the byte, timeout or command is not taken, and everything stays (2.4)
  row_7 : {h : till.Happening} → length buffer < 210 → ByTill s buffer h (replies 7 TooShort 0 [] buffer s)
  -- 8, cannot be sent: nothing is given back, and everything stays (7.2)
  row_8 : (code : ℕ) (content : List ℕ) → 210 ≤ length buffer → unsendable s code content ≡ true
      → ByTill s buffer (till.command code content) (replies 8 NotSent 0 [] buffer s)
  -- 9, Unfinished: the fifth try fails; the number of tries, 5, and the command is given up (7.6)
  row_9 : {h : till.Happening} (seq code : ℕ) (bytes : List ℕ) (ear : till.Ear) → 210 ≤ length buffer
      → s.pending ≡ till.waits seq code bytes 5 ear → fails seq code ear h ≡ true
      → ByTill s buffer h (replies 9 (Unfinished 5) 5 [] buffer (none_waits s))
