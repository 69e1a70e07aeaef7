-- The second half of a call of the device: with the line found in the sheet, what is given back, and what is written into the sheet.
use Rattle.std.specs.Prelude.{ℕ, false, cond, ◌&&◌, List, [], ◌∷◌, leb, length, take}
use Rattle.std.proofs.lemmas.List.Edits.{sets}
use Rattle.sheet.specs.Sheet.{match_at}
use Rattle.sheet.specs.Notes.{put_back, writes_of}
use Rattle.sheet.specs.declared.Line.{Line}
use Rattle.sheet.specs.declared.Writes.{Writes}
use Rattle.line.specs.Turns.{last_answer}
use Rattle.line.specs.Calls.{before_of, call_number}
use Rattle.line.specs.declared.Call.{Call}
use Rattle.line.specs.declared.Call.TheVariants.{Quiet, Nak, Again, Order}
use Rattle.line.specs.declared.Previous.TheVariants.{Frame}
use Rattle.carrying.specs.Work.{Worked, worked}
use Rattle.carrying.specs.declared.Work.{Work}
use Rattle.machine.specs.declared.Begun.{Begun}
use Rattle.giving.specs.declared.Ended.{Ended}
use Rattle.machine.specs.declared.Given.{Given}

-- what is given back, what is kept of it, and what is written into the sheet
pub record SecondHalf : Type 0 where
  pub ended : Ended
  pub last : List ℕ
  pub buffer : List ℕ

abbrev pub ended_by : Begun → Given → Writes → Ended
ended_by b g w = record { hearing = record { given = g; call = b.call; taken = b.taken }; writes = w }

-- nothing is carried out: the device stays, and so does the sheet
abbrev pub staying_with : Begun → (number count at : ℕ) → Line → Ended
staying_with b number count at found = ended_by b (record { device = b.device; number = number; count = count; shows = b.shows }) (put_back false at found)

abbrev pub ended_with : Begun → (number at : ℕ) → Line → (last buffer bytes : List ℕ) → SecondHalf
ended_with b number at found last buffer bytes =
    record { ended = staying_with b number (length bytes) at found; last = last; buffer = sets buffer 0 bytes }

-- PROTOCOL 1.11: a command carried out is the frame before from now on, and its answer is kept
abbrev pub hands_back : Begun → (seq code : ℕ) → Work → (at : ℕ) → Line → Ended
hands_back b seq code w at found =
    ended_by b
    (record {
      device = record { line = record { reader = b.device.line.reader; previous = Frame seq code w.count }; books = w.books; guard = b.device.guard };
      number = w.number;
      count = w.count;
      shows = b.shows;
    })
    (writes_of w.note at found b.device.books.receipt.lines)

abbrev pub carried_behind : Begun → (seq code at : ℕ) → Line → (last : List ℕ) → Worked → SecondHalf
carried_behind b seq code at found last w =
    record { ended = hands_back b seq code w.work at found; last = sets last 0 (take w.work.count w.buffer); buffer = w.buffer }

abbrev pub ending_as : Call → Begun → (at : ℕ) → Line → (last buffer : List ℕ) → SecondHalf
ending_as Quiet b at found last buffer = ended_with b (call_number Quiet 0) at found last buffer []
ending_as Nak b at found last buffer = ended_with b (call_number Nak 0) at found last buffer (0x15 ∷ [])
ending_as Again b at found last buffer =
    ended_with b (call_number Again 0) at found last buffer (last_answer (before_of b.device.line.previous last))
ending_as (Order seq code n) b at found last buffer =
    carried_behind b seq code at found last (worked b.device.books (match_at at b.lines found) seq code b.passes b.parsed buffer)

abbrev pub ending : Begun → (at : ℕ) → Line → (last buffer : List ℕ) → SecondHalf
ending b at found last buffer =
    cond (b.enough && leb 217 (length buffer)) (ending_as b.call b at found last buffer) (ended_with b 7 at found last buffer [])
