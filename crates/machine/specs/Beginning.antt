-- The first half of a call of the device: what is heard, and what it looks for in the sheet, which it does not see.
use Rattle.std.specs.Prelude.{ℕ, Bool, true, false, cond, ◌&&◌, List, leb, length, take, drop, Option, None, Err}
use Rattle.display.specs.Display.{display_of, displayed}
use Rattle.kinds.specs.Fields.{Parsed}
use Rattle.kinds.specs.declared.Unread.TheVariants.{Unknown}
use Rattle.command.specs.Commands.{parsed_of}
use Rattle.sheet.specs.Searches.{no_search}
use Rattle.books.specs.declared.Books.{Books}
use Rattle.line.specs.Listening.{listened_to, frame_behind}
use Rattle.line.specs.declared.Call.{Call}
use Rattle.line.specs.declared.Call.TheVariants.{Quiet, Nak, Again, Order}
use Rattle.line.specs.declared.Listened.{Listened}
use Rattle.guard.specs.Guard.{judged_by}
use Rattle.guard.specs.declared.Guard.{Guard}
use Rattle.guard.specs.declared.Judged.{Judged}
use Rattle.carrying.specs.Carrying.{search_in, texts_of}
use Rattle.machine.specs.Hearing.{carried_by}
use Rattle.machine.specs.declared.Asked.{Asked}
use Rattle.machine.specs.declared.Begun.{Begun}
use Rattle.machine.specs.declared.Device.{Device}

-- PROTOCOL 2.4: as `enough` has it, of lengths
abbrev pub long_enough : (room lines shown : ℕ) → Bool
long_enough room lines shown = leb 217 room && leb 512 lines && leb 40 shown

-- PROTOCOL 1.11, 5.4, 5.20: a command's data, which stands in the frame from its fourth byte on, as it is read, what it looks for, and what the guard says to
-- it; nothing else looks for anything
abbrev pub asking : Books → Parsed → Option ℕ → Judged → Asked
asking b p shows j = record { parsed = p; search = search_in b p; shows = shows; guard = j.guard; passes = j.passes }

abbrev pub asks_nothing : Guard → Asked
asks_nothing g = record { parsed = Err Unknown; search = no_search; shows = None; guard = g; passes = true }

-- PROTOCOL 5.17: what a call's command shows
abbrev pub texts_by : Call → (frame : List ℕ) → List (List ℕ)
texts_by call frame = texts_of (carried_by call frame)

abbrev pub asked_of : Books → Guard → Call → List ℕ → Asked
asked_of b g Quiet frame = asks_nothing g
asked_of b g Nak frame = asks_nothing g
asked_of b g Again frame = asks_nothing g
asked_of b g (Order seq code n) frame =
    let content = take n (drop 3 frame) in
    asking b (parsed_of code content) (display_of (texts_by (Order seq code n) frame)) (judged_by g (parsed_of code content) content)

-- the first half: the bytes listened to; with too little lent none is
abbrev pub begun_by : Books → Listened → Asked → Begun
begun_by b x q =
    record {
      device = record { line = x.line; books = b; guard = q.guard };
      call = x.call;
      taken = x.taken;
      parsed = q.parsed;
      lines = q.search.lines;
      wanted = q.search.wanted;
      shows = q.shows;
      passes = q.passes;
      enough = true;
    }

abbrev pub not_begun : Device → Begun
not_begun d =
    record { device = d; call = Quiet; taken = 0; parsed = Err Unknown; lines = 0; wanted = no_search.wanted; shows = None; passes = true; enough = false }

pub record FirstHalf : Type 0 where
  pub begun : Begun
  pub frame : List ℕ
  pub display : List ℕ

abbrev pub begun_with : Books → Guard → Listened → (frame display : List ℕ) → FirstHalf
begun_with b g x frame display =
    record { begun = begun_by b x (asked_of b g x.call frame); frame = frame; display = displayed display (texts_by x.call frame) }

abbrev pub beginning : Device → (frame display : List ℕ) → (room lines : ℕ) → (bytes : List ℕ) → FirstHalf
beginning d frame display room lines bytes =
    cond (long_enough room lines (length display))
    (begun_with d.books d.guard (listened_to d.line frame bytes) (frame_behind d.line frame bytes) display)
    (record { begun = not_begun d; frame = frame; display = display })
