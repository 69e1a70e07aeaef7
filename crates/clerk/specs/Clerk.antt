-- SCRIPTS 8, LINE 5: a script sent over a real line, by a till end.
use Rattle.std.specs.Prelude.{ℕ, ◌-◌, Bool, true, false, Some, None, cond, not, ◌||◌, List, [], eqb, length, take, Result, Ok, Err}
use Rattle.std.proofs.lemmas.List.Edits.{sets}
use Rattle.exchange.specs.Exchange.{Heard, heard_some, heard_back}
use Rattle.script.specs.declared.Act.{Act}
use Rattle.script.specs.declared.Act.TheVariants.{Nothing, Happens, Command}
use Rattle.script.specs.declared.Mistake.{Mistake}
use Rattle.script.specs.Script as mistakes
use Rattle.tally.specs.Tally.{one_more}
use Rattle.till.specs.Turns.{fresh_state, command}
use Rattle.till.specs.Fields.{till_of, framed, said_of, turn_of}
use Rattle.till.specs.declared.Said.{Said}
use Rattle.till.specs.declared.Word.{Word}
use Rattle.till.specs.declared.Word.TheVariants.{Idle, Waiting, SendAgain, Answered, Unfinished, TooShort, NotSent}
use Rattle.clerk.specs.declared.Clerk.{Clerk}
use Rattle.clerk.specs.declared.Phase.{Phase}
use Rattle.clerk.specs.declared.Phase.TheVariants.{Plays, Sends, Hears, Tells, Ended, Stopped, Other}
use Rattle.clerk.specs.declared.Stop.{Stop}
use Rattle.clerk.specs.declared.Stop.TheVariants.{Wrong, Fault}
use Rattle.clerk.specs.declared.Stop.TheVariants as stop

-- LINE 5.1: the reads of one try
abbrev pub most_reads : ℕ
most_reads = 1000

-- SCRIPTS 8: the number of what stops a script: of a wrong line SCRIPTS 6's; beside these a fault in it, and a command that ended UNFINISHED
abbrev pub number_of : Stop → ℕ
number_of (Wrong mistake) = mistakes.number_of mistake
number_of Fault = 6
number_of stop.Unfinished = 7

-- SCRIPTS 8: a fresh till end, and no line of the script read
abbrev pub fresh_clerk : Clerk
fresh_clerk = record { till = till_of fresh_state; word = Idle; phase = Plays; lines = 0; why = None; reads = 0 }

-- SCRIPTS 1: the script has no line more
abbrev pub end_of : Clerk → Clerk
end_of c = record c { phase = Ended }

-- PROTOCOL 7.5, 7.6: Send again is a frame to write, and any other word but Waiting ends the command
abbrev pub next_of : (waiting : Phase) → Word → Phase
next_of waiting Idle = Tells
next_of waiting (Waiting count) = waiting
next_of waiting (SendAgain count) = Sends
next_of waiting (Answered count) = Tells
next_of waiting (Unfinished tries) = Tells
next_of waiting TooShort = Tells
next_of waiting NotSent = Tells

abbrev pub behind : Clerk → (waiting : Phase) → Said → (reads : ℕ) → Clerk
behind c waiting said reads =
    record c { till = said.till; word = said.word; phase = next_of waiting said.word; reads = reads }

-- a clerk, with the frame's array and the lent buffer
pub record Begun : Type 0 where
  pub clerk : Clerk
  pub frame : List ℕ
  pub buffer : List ℕ

-- PROTOCOL 7.1, 7.2: the till end is told of a command: Waiting is its first try, a frame to write
abbrev pub begun : Clerk → (code : ℕ) → (content frame buffer : List ℕ) → Begun
begun c code content frame buffer =
    let turn = turn_of c.till frame [] buffer (command code content) in
    record { clerk = behind c Sends (said_of c.till turn) c.reads; frame = framed frame turn.state.pending; buffer = sets buffer 0 turn.puts }

-- SCRIPTS 6, 8: each line is counted; a wrong one stops the script, and so does a fault; the data of a command is the front of what is lent
abbrev pub counted : Clerk → Clerk
counted c = record c { lines = one_more c.lines }

abbrev pub halted : Clerk → Stop → Clerk
halted c stop = record c { phase = Stopped; why = Some stop }

abbrev pub unsent : Clerk → (frame buffer : List ℕ) → Begun
unsent c frame buffer = record { clerk = c; frame = frame; buffer = buffer }

abbrev pub line_of : Clerk → Result Act Mistake → (content frame buffer : List ℕ) → Begun
line_of c (Ok Nothing) content frame buffer = unsent (counted c) frame buffer
line_of c (Ok (Command code count)) content frame buffer = begun (counted c) code (take count content) frame buffer
line_of c (Ok (Happens answer attempt fault)) content frame buffer = unsent (halted (counted c) Fault) frame buffer
line_of c (Err mistake) content frame buffer = unsent (halted (counted c) (Wrong mistake)) frame buffer

-- LINE 5.1: a frame is written, and its try has all its reads
abbrev pub written_by : Clerk → Clerk
written_by c = record c { phase = Hears; reads = most_reads }

-- whether bytes are to be read
abbrev pub is_hearing : Phase → Bool
is_hearing Plays = false
is_hearing Sends = false
is_hearing Hears = true
is_hearing Tells = false
is_hearing Ended = false
is_hearing Stopped = false
is_hearing (Other n) = false

-- LINE 5.1: behind a read that gives nothing, and behind the last one, no byte comes in time (PROTOCOL 7.5)
abbrev pub is_last : (reads : ℕ) → (bytes : List ℕ) → Bool
is_last reads bytes = eqb (reads - 1) 0 || eqb (length bytes) 0

abbrev pub read_by : Clerk → (frame answer buffer bytes : List ℕ) → Heard
read_by c frame answer buffer bytes =
    cond (is_last c.reads bytes) (heard_back frame c.till answer buffer bytes) (heard_some frame c.till answer buffer bytes)

-- PROTOCOL 7.5: where the till end waits still, bytes are read again
abbrev pub heard_by : Clerk → Said → Clerk
heard_by c said = behind c Hears said (c.reads - 1)

-- SCRIPTS 8: UNFINISHED stops a script, unless it is told -k
abbrev pub stops : (keep : Bool) → Word → Bool
stops keep Idle = false
stops keep (Waiting count) = false
stops keep (SendAgain count) = false
stops keep (Answered count) = false
stops keep (Unfinished tries) = not keep
stops keep TooShort = false
stops keep NotSent = false

abbrev pub told_of : (keep : Bool) → Clerk → Clerk
told_of keep c = cond (stops keep c.word) (halted c stop.Unfinished) (record c { phase = Plays })
