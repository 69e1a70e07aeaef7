-- The device: its fields and arrays as a state, and one byte with what is lent for it.
use Rattle.std.specs.Prelude.{ℕ, Bool, cond, ◌&&◌, List, [], ◌∷◌, leb, length, Option, None}
use Rattle.std.proofs.lemmas.List.Edits.{sets}
use Rattle.wire.specs.Frame.{Message}
use Rattle.reader.specs.Reading.{outside}
use Rattle.reader.specs.Fields.{place_of, reader_of, kept_in}
use Rattle.line.specs.Turns.{Before, State, Turn, turn, last_answer}
use Rattle.line.specs.Calls.{before_of}
use Rattle.line.specs.declared.Previous.{Previous}
use Rattle.line.specs.declared.Previous.TheVariants.{Nothing, Frame}
use Rattle.sheet.specs.declared.Line.{Line}
use Rattle.books.specs.Books.{fresh_books}
use Rattle.guard.specs.Guard.{fresh_guard, calmed}
use Rattle.store.specs.Store.{Store}
use Rattle.display.specs.Display.{display_of, displayed}
use Rattle.carrying.specs.Carrying.{carry, texts_of}
use Rattle.machine.specs.declared.Device.{Device}

-- PROTOCOL 2.4: what is lent with each byte, whatever it holds: the buffer for what is given back, how many lines of the sheet, and the display's buffer
pub record Lent : Type 0 where
  pub buffer : List ℕ
  pub lines : ℕ
  pub display : List ℕ

-- PROTOCOL 2.4: all of it is long enough; if not it is 7, before anything else is looked at
abbrev pub enough : Lent → Bool
enough lent = leb 217 (length lent.buffer) && leb 512 lent.lines && leb 40 (length lent.display)

-- PROTOCOL 8.3, 8.8: a device: its fields, its own two arrays, the bytes since 01h and the last answer, and the sheet, as it left it
pub record Machine : Type 0 where
  pub device : Device
  pub frame : List ℕ
  pub last : List ℕ
  pub sheet : List Line

-- PROTOCOL 8.4: the fields of a fresh device
abbrev pub fresh_fields : Device
fresh_fields = record { line = record { reader = reader_of outside; previous = Nothing }; books = fresh_books; guard = fresh_guard }

-- PROTOCOL 8.9: switched on anew: reading place and frame before are a fresh device's, count and lock are forgotten
abbrev pub fields_anew : Device → Device
fields_anew d = record { line = fresh_fields.line; books = d.books; guard = calmed d.guard }

-- PROTOCOL 8.3: what commands work on, as the device's fields and arrays say it
abbrev pub store_of : Machine → Store
store_of m = record { books = m.device.books; sheet = m.sheet; guard = m.device.guard }

abbrev pub state_of : Machine → State Store
state_of m =
    record { place = place_of m.device.line.reader m.frame; before = before_of m.device.line.previous m.last; store = store_of m }

-- PROTOCOL 8.9: the same of the whole device: its arrays and the sheet hold what they held
abbrev pub machine_anew : Machine → Machine
machine_anew m = record { device = fields_anew m.device; frame = m.frame; last = m.last; sheet = m.sheet }

-- the device and what was lent after one byte: the reply number, how many bytes are given back, and what the display shows
pub record After : Type 0 where
  pub machine : Machine
  pub lent : Lent
  pub number : ℕ
  pub count : ℕ
  pub shows : Option ℕ

-- PROTOCOL 1.11: a command carried out becomes the frame before, with its answer; nothing else does
abbrev pub previous_after : Previous → List Message → Before → Previous
previous_after p [] before = p
previous_after p (m ∷ ms) before = Frame m.seq m.code (length (last_answer before))

abbrev pub last_after : List ℕ → List Message → Before → List ℕ
last_after last [] before = last
last_after last (m ∷ ms) before = sets last 0 (last_answer before)

-- PROTOCOL 2.5: a turn of the device, in its fields and in every byte of its own and of what is lent: those behind what is given back stay as they were
abbrev pub machine_after : Machine → Turn Store → Machine
machine_after m t =
    record {
      device = record {
        line = record {
          reader = reader_of t.state.place;
          previous = previous_after m.device.line.previous t.carried t.state.before;
        };
        books = t.state.store.books;
        guard = t.state.store.guard;
      };
      frame = kept_in m.frame t.state.place;
      last = last_after m.last t.carried t.state.before;
      sheet = t.state.store.sheet;
    }

abbrev pub taken : Machine → Lent → Turn Store → After
taken m lent t =
    record {
      machine = machine_after m t;
      lent = record { buffer = sets lent.buffer 0 t.gives; lines = lent.lines; display = displayed lent.display (texts_of t.carried) };
      number = t.number;
      count = length t.gives;
      shows = display_of (texts_of t.carried);
    }

-- PROTOCOL 2.4: 7, the byte is not taken, and everything stays
abbrev pub not_taken : Machine → Lent → After
not_taken m lent = record { machine = m; lent = lent; number = 7; count = 0; shows = None }

-- PROTOCOL 2.4: one byte with this lent
abbrev pub lent_turn : Lent → State Store → ℕ → Turn Store
lent_turn lent s byte = cond (enough lent) (turn carry s byte) (record { number = 7; gives = []; carried = []; state = s })
