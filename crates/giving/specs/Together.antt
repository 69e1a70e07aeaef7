-- The two halves of a call and the sheet between them.
use Rattle.std.specs.Prelude.{ℕ, List, length, get_or}
use Rattle.sheet.specs.Sheet.{blank, newest}
use Rattle.sheet.specs.Notes.{written}
use Rattle.sheet.specs.declared.Line.{Line}
use Rattle.machine.specs.Hearing.{PartHeard, part_of}
use Rattle.machine.specs.Beginning.{FirstHalf, beginning}
use Rattle.giving.specs.Ending.{SecondHalf, ending}
use Rattle.machine.specs.declared.Device.{Device}

abbrev pub put_together : FirstHalf → SecondHalf → List Line → PartHeard
put_together f e sheet = part_of e.ended.hearing f.frame e.last e.buffer f.display (written sheet e.ended.writes) (length sheet)

abbrev pub searched_at : FirstHalf → List Line → ℕ
searched_at f sheet = newest sheet f.begun.wanted f.begun.lines f.begun.lines

abbrev pub going_on : FirstHalf → (last buffer : List ℕ) → List Line → PartHeard
going_on f last buffer sheet = put_together f (ending f.begun (searched_at f sheet) (get_or sheet (searched_at f sheet) blank) last buffer) sheet

abbrev pub together : Device → (frame last buffer display : List ℕ) → List Line → (bytes : List ℕ) → PartHeard
together d frame last buffer display sheet bytes = going_on (beginning d frame display (length buffer) (length sheet) bytes) last buffer sheet
