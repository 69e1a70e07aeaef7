-- SCRIPTS 5, 7: the script, the till end and the line, around a device.
use Rattle.std.specs.Prelude.{ℕ, ◌+◌, ◌%◌, min, true, false, List, length, take, Option, Some, None, Result, Ok, Err}
use Rattle.faults.specs.Faults.{no_faults, with_fault, fault_of, arrived_of}
use Rattle.line.specs.declared.Call.{Call}
use Rattle.lines.specs.Lines.{most}
use Rattle.script.specs.declared.Act.{Act}
use Rattle.script.specs.declared.Act.TheVariants.{Nothing, Happens, Command}
use Rattle.script.specs.declared.Mistake.{Mistake}
use Rattle.tally.specs.Tally.{one_more, none_yet, ended_by, called_by}
use Rattle.till.specs.Words.{count_of}
use Rattle.till.specs.Turns.{fresh_state}
use Rattle.till.specs.Fields.{till_of}
use Rattle.till.specs.declared.Till.{Till}
use Rattle.till.specs.declared.Said.{Said}
use Rattle.till.specs.declared.Word.{Word}
use Rattle.till.specs.declared.Word.TheVariants.{Idle, Waiting, SendAgain, Answered, Unfinished, TooShort, NotSent}
use Rattle.desk.specs.declared.Desk.{Desk}
use Rattle.desk.specs.declared.Phase.TheVariants.{Plays, Sends, Hears, Ended, Stopped}
use Rattle.desk.specs.declared.Told.{Told}

-- SCRIPTS 1, 5: a fresh till end, a line without faults, and no line of the script read
abbrev pub fresh_desk : Desk
fresh_desk =
    record { till = till_of fresh_state; faults = no_faults; tally = none_yet; phase = Plays; lines = 0; attempt = 1; count = 0; got = 0; place = 0; given = 0 }

-- SCRIPTS 1: the script has no line more
abbrev pub end_of : Desk → Desk
end_of d = record d { phase = Ended }

-- SCRIPTS 5, 6: each line is counted; a wrong one stops the script; a fault is of the next command
abbrev pub counted : Desk → Desk
counted d = record d { lines = one_more d.lines }

abbrev pub line_of : Desk → Result Act Mistake → Desk
line_of d (Ok Nothing) = counted d
line_of d (Ok (Command code count)) = counted d
line_of d (Ok (Happens answer attempt fault)) = record (counted d) { faults = with_fault d.faults answer attempt fault }
line_of d (Err mistake) = record (counted d) { phase = Stopped }

-- PROTOCOL 7.6, SCRIPTS 5, 7: a command that is at its end is counted, and its faults are gone with it
abbrev pub finished : Desk → Till → Word → Desk
finished d till word = record d { till = till; faults = no_faults; tally = ended_by d.tally word; phase = Plays }

-- PROTOCOL 7.1, 7.6: Waiting hands out the first try, Send again the next one, and any other word none
abbrev pub try_of : (attempt : ℕ) → Word → Option ℕ
try_of attempt Idle = None
try_of attempt (Waiting count) = Some 1
try_of attempt (SendAgain count) = Some (attempt % 5 + 1)
try_of attempt (Answered count) = None
try_of attempt (Unfinished tries) = None
try_of attempt TooShort = None
try_of attempt NotSent = None

-- PROTOCOL 7.6: the command goes on with a try, or is at its end
abbrev pub at_try : Desk → Till → Word → Option ℕ → Desk
at_try d till word (Some attempt) = record d { till = till; phase = Sends; attempt = attempt; count = count_of word }
at_try d till word None = finished d till word

abbrev pub behind : Desk → Till → Word → Desk
behind d till word = at_try d till word (try_of d.attempt word)

abbrev pub told : Desk → Said → Told
told d said = record { desk = behind d said.till said.word; word = said.word }

-- PROTOCOL 9.1: what arrives of a try, whose frame stands in the till end's buffer, and of what the device gave back
abbrev pub arriving : Desk → (buffer : List ℕ) → List ℕ
arriving d buffer = arrived_of (fault_of d.faults false d.attempt) (take d.count buffer)

abbrev pub coming : Desk → (back : List ℕ) → List ℕ
coming d back = arrived_of (fault_of d.faults true d.attempt) (take d.given back)

-- PROTOCOL 9.1: the device has heard nothing of a try that arrives, and given nothing back
abbrev pub on_way : Desk → (arrived : List ℕ) → Desk
on_way d arrived = record d { phase = Hears; got = min (length arrived) 256; place = 0; given = 0 }

-- PROTOCOL 2.1, SCRIPTS 7: a call of the device takes bytes, and gives an answer back, behind those that stand there
abbrev pub heard_by : Desk → Call → (taken : ℕ) → (answer : List ℕ) → Desk
heard_by d call taken answer =
    record d { tally = called_by d.tally call; place = min (d.place + taken) most; given = min (d.given + length answer) 1024 }
