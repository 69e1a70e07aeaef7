-- DECISIONS 38: any list of events at the till end, and what can be seen of it from outside: from the events and what was said of them, not from the state.
use Rattle.std.specs.Prelude.{ℕ, ◌+◌, ◌%◌, Bool, true, false, cond, List, [], ◌∷◌, ◌++◌, ltb}
use Rattle.wire.specs.Frame.{Message, command_of}
use Rattle.wire.specs.Replies.{room}
use Rattle.wire.specs.declared.Way.TheVariants.{ToDevice}
use Rattle.till.specs.Turns.{Pending, idle, waits, State, fresh_state, Happening, command, byte, timeout, Turn, Meaning, failed, goes_on, answers, byte_means, hears}
use Rattle.till.specs.declared.Word.{Word}
use Rattle.till.specs.declared.Word.TheVariants.{Idle, Waiting, SendAgain, Answered, Unfinished, TooShort, NotSent}

-- PROTOCOL 2.4: an event, with the length of the buffer lent with it
pub record LentEvent : Type 0 where
  pub size : ℕ
  pub happens : Happening

abbrev pub says : State → LentEvent → Turn
says s l = hears l.size s l.happens

-- the till end behind a list of events, and what it said of each
abbrev pub behind : State → List LentEvent → State
behind s [] = s
behind s (l ∷ ls) = behind (says s l).state ls

abbrev pub history : State → List LentEvent → List Turn
history s [] = []
history s (l ∷ ls) = says s l ∷ history (says s l).state ls

-- PROTOCOL 7.3: the SEQ of a command, by how many were taken before it: 20h for the first, and 20h again behind FFh
abbrev pub seq_of : ℕ → ℕ
seq_of before = 0x20 + before % 224

-- what is seen of the command that waits: SEQ, CMD and data, every frame handed out since it was taken, and the bytes heard since the last of these
pub data Open : Type 0 where
  none : Open
  one : (m : Message) (frames : List (List ℕ)) (bytes : List ℕ) → Open

-- how many commands were taken, and the one that has not ended
pub record Seen : Type 0 where
  pub commands : ℕ
  pub last : Open

abbrev pub nothing_seen : Seen
nothing_seen = record { commands = 0; last = none }

-- PROTOCOL 7.6: Send again: one frame more, and bytes count from there
abbrev pub handed_again : List ℕ → Open → Open
handed_again bytes none = none
handed_again bytes (one m frames since) = one m (frames ++ bytes ∷ []) []

abbrev pub heard_one : ℕ → Open → Open
heard_one b none = none
heard_one b (one m frames since) = one m frames (since ++ b ∷ [])

-- PROTOCOL 7.1: Waiting: a command was taken, and its frame handed out; or a byte was heard
abbrev pub on_waiting : Seen → Happening → List ℕ → Seen
on_waiting seen (command code content) puts =
    record { commands = seen.commands + 1; last = one (command_of (seq_of seen.commands) code content) (puts ∷ []) [] }
on_waiting seen (byte b) puts = record { commands = seen.commands; last = heard_one b seen.last }
on_waiting seen timeout puts = seen

-- PROTOCOL 7.6, 7.7: Answered and Unfinished end it
abbrev pub on_word : Seen → Happening → Word → List ℕ → Seen
on_word seen h Idle puts = seen
on_word seen h (Waiting count) puts = on_waiting seen h puts
on_word seen h (SendAgain count) puts = record { commands = seen.commands; last = handed_again puts seen.last }
on_word seen h (Answered count) puts = record { commands = seen.commands; last = none }
on_word seen h (Unfinished tries) puts = record { commands = seen.commands; last = none }
on_word seen h TooShort puts = seen
on_word seen h NotSent puts = seen

abbrev pub noted : Seen → Happening → Turn → Seen
noted seen h turn = on_word seen h turn.word turn.puts

abbrev pub watch : Seen → State → List LentEvent → Seen
watch seen s [] = seen
watch seen s (l ∷ ls) = watch (noted seen l.happens (says s l)) (says s l).state ls

-- what is seen of a fresh till end's history
abbrev pub watched : List LentEvent → Seen
watched ls = watch nothing_seen fresh_state ls

-- PROTOCOL 7.2, 7.6, 7.7: a command taken, and a command ended, in the order in which they were said
pub data Mark : Type 0 where
  took : Mark
  ended : Mark

abbrev pub took_one : Happening → List Mark
took_one (command code content) = took ∷ []
took_one (byte b) = []
took_one timeout = []

abbrev pub marks_of : Happening → Word → List Mark
marks_of h Idle = []
marks_of h (Waiting count) = took_one h
marks_of h (SendAgain count) = []
marks_of h (Answered count) = ended ∷ []
marks_of h (Unfinished tries) = ended ∷ []
marks_of h TooShort = []
marks_of h NotSent = []

abbrev pub marks : State → List LentEvent → List Mark
marks s [] = []
marks s (l ∷ ls) = marks_of l.happens (says s l).word ++ marks (says s l).state ls

-- PROTOCOL 7.2: one after the other, each command ends once and before the next is taken; `waiting` says whether one was taken and has not ended
abbrev pub alternate : (waiting : Bool) → List Mark → Bool
alternate waiting [] = true
alternate false (took ∷ ms) = alternate true ms
alternate false (ended ∷ ms) = false
alternate true (took ∷ ms) = false
alternate true (ended ∷ ms) = alternate false ms

abbrev pub ends : List Mark → Bool
ends [] = false
ends (took ∷ ms) = ends ms
ends (ended ∷ ms) = true

-- PROTOCOL 7.5: the failed tries among the events, whatever was said of them: those that are taken while a command waits, and mean one
abbrev pub failure : Meaning → ℕ
failure failed = 1
failure (goes_on ear) = 0
failure (answers m) = 0

abbrev pub failure_of : Pending → Happening → ℕ
failure_of idle h = 0
failure_of (waits seq code bytes tries ear) (command sent_code content) = 0
failure_of (waits seq code bytes tries ear) (byte b) = failure (byte_means seq code ear b)
failure_of (waits seq code bytes tries ear) timeout = 1

abbrev pub failures : State → List LentEvent → ℕ
failures s [] = 0
failures s (l ∷ ls) = cond (ltb l.size (room ToDevice)) 0 (failure_of s.pending l.happens) + failures (says s l).state ls

-- the bytes of the line, each with 210 bytes lent
abbrev pub heard_bytes : List ℕ → List LentEvent
heard_bytes [] = []
heard_bytes (b ∷ bs) = record { size = 210; happens = byte b } ∷ heard_bytes bs

abbrev pub words : List Turn → List Word
words [] = []
words (t ∷ ts) = t.word ∷ words ts

abbrev pub puts_of : List Turn → List (List ℕ)
puts_of [] = []
puts_of (t ∷ ts) = t.puts ∷ puts_of ts
