-- Demand 1 at the device. The table of PROTOCOL 2.1, row by row: what each row means, what is given back, what stays, and every byte and record that is lent.
use Rattle.std.specs.Prelude.{ℕ, ◌≡◌, Bool, true, false, not, ◌||◌, List, [], ◌∷◌, length, Ok, Err}
use Rattle.std.proofs.lemmas.List.Edits.{sets}
use Rattle.wire.specs.Frame.{Message, answer_of, frame}
use Rattle.wire.specs.declared.Way.TheVariants.{ToDevice, ToTill}
use Rattle.reader.specs.Reading.{nothing, broken_frame, heard, Read, read}
use Rattle.display.specs.Display.{shown_by, displayed}
use Rattle.books.specs.declared.Books.{Books}
use Rattle.answers.specs.Contents.{content_of}
use Rattle.answers.specs.Status.{receipts, memories}
use Rattle.kinds.specs.declared.Command as kinds
use Rattle.kinds.specs.declared.Unread.TheVariants as unread
use Rattle.command.specs.Commands.{parsed_of}
use Rattle.line.specs.Turns.{was, State, switched_on, repeats, last_answer}
use Rattle.sheet.specs.Notes.{noted}
use Rattle.rules.specs.Views.{view_of}
use Rattle.guard.specs.Guard.{trial_of, verdict_of, passes, guard_after, count_after, with_count}
use Rattle.guard.specs.declared.Verdict.{Verdict}
use Rattle.store.specs.Store.{Store, with_guard, store_anew}
use Rattle.store.specs.Commands.{place_for, rule_for}
use Rattle.machine.specs.Device.{Lent, enough}

-- PROTOCOL 1.1, 2.1: what comes from the device for one byte: its reply number, how many bytes are given back and which, the texts for the display (5.17),
-- none or one, what was lent and the device afterwards
pub record FromDevice : Type 0 where
  pub number : ℕ
  pub count : ℕ
  pub bytes : List ℕ
  pub shows : List (List ℕ)
  pub lent : Lent
  pub device : State Store

-- PROTOCOL 2.5: what is given back stands at the front of the lent buffer, a text at the front of the display's, and the bytes behind them stay as they were
abbrev pub shows : ℕ → List ℕ → (texts : List (List ℕ)) → Lent → State Store → FromDevice
shows number bytes texts lent after =
    record {
      number = number;
      count = length bytes;
      bytes = bytes;
      shows = texts;
      lent = record { buffer = sets lent.buffer 0 bytes; lines = lent.lines; display = displayed lent.display texts };
      device = after;
    }

-- PROTOCOL 5.17: no text: every byte of the display's buffer stays
abbrev pub tells : ℕ → List ℕ → Lent → State Store → FromDevice
tells number bytes lent after = shows number bytes [] lent after

-- PROTOCOL 1.7: what the byte is to the frame that is being read, and where reading stands behind it
abbrev pub reads : State Store → ℕ → Read
reads s byte = read ToDevice s.place byte

-- PROTOCOL 8.9: switched on anew: reading place, frame before, count and lock are forgotten, and all else stays, an open receipt too
abbrev pub anew : State Store → State Store
anew s = switched_on (store_anew s.store)

-- PROTOCOL 2.1: all but where reading stands is as it was
abbrev pub moved : State Store → ℕ → State Store
moved s byte = record { place = (reads s byte).place; before = s.before; store = s.store }

-- PROTOCOL 1.11: a command done, and one refused (1 to 4), becomes the frame before, with its answer; this is what is remembered from then on
abbrev pub remembers : State Store → ℕ → Message → List ℕ → Store → State Store
remembers s byte m answer after = record { place = (reads s byte).place; before = was m.seq m.code answer; store = after }

-- PROTOCOL 2.4, 1.11: with enough lent, a whole frame that is no repeat
pub record NewFrame (s : State Store) (lent : Lent) (byte : ℕ) (m : Message) : Type 0 where
  pub room : enough lent ≡ true
  pub whole : (reads s byte).event ≡ heard m
  pub new : repeats s.before m ≡ false

-- PROTOCOL 5.1: and it is read as one of the seventeen kinds
pub record NewCommand (s : State Store) (lent : Lent) (byte : ℕ) (m : Message) (c : kinds.Command) : Type 0 where
  pub frame : NewFrame s lent byte m
  pub kind : parsed_of m.code m.content ≡ Ok c

-- PROTOCOL 1.2, 3.2, 3.3: the answer to a command, with its SEQ and CMD: two status bytes tell the verdict, the other four the books behind it. Bit k of a
-- status byte counts 2 to the power of k, and bit 7 is 1 in all of them (3.1): bit 0.0 is 01h, 0.1 02h, 0.5 20h; 1.0 01h, 1.1 02h.
abbrev pub answer_with : Message → List ℕ → (first second : ℕ) → Books → List ℕ
answer_with m content first second b =
    frame ToTill
    (answer_of m.seq m.code content (first ∷ second ∷ receipts b.opened ∷ 0x80 ∷ memories b ∷ 0x9A ∷ []))

-- PROTOCOL 5.20: what the guard says to a command
abbrev pub verdict : Store → kinds.Command → Verdict
verdict s c = verdict_of s.guard (trial_of c)

-- PROTOCOL chapter 5: a reason for 3, the guard's or the rule's, and one for 4
abbrev pub three : Store → kinds.Command → Bool
three s c = not (passes (verdict s c)) || (rule_for s c).three

abbrev pub four : Store → kinds.Command → Bool
four s c = (rule_for s c).four

-- PROTOCOL 5.1: of a command done: what it shows, after its effect
abbrev pub done_with : Store → Message → kinds.Command → List ℕ
done_with s m c = let r = rule_for s c in answer_with m (content_of r.shows s.books.day r.after) 0x80 0x80 r.after

-- PROTOCOL chapter 5: what it leaves, in the books, in the sheet and in the guard
abbrev pub leaves_of : Store → kinds.Command → (content : List ℕ) → Store
leaves_of s c content =
    let r = rule_for s c in
    record {
      books = r.after;
      sheet = noted s.sheet (place_for s (view_of c)) s.books.receipt.lines r.note;
      guard = guard_after s.guard (verdict s c) (trial_of c) content;
    }

-- PROTOCOL 2.3, 5.20: what 3 and 4 leave: the count of wrong passwords is moved by a command that gives one, and nothing else is
abbrev pub counted : Store → kinds.Command → Store
counted s c = with_guard s (with_count s.guard (count_after s.guard (verdict s c)))

-- PROTOCOL 2.1, at the device
pub data ByDevice (s : State Store) (lent : Lent) (byte : ℕ) : FromDevice → Type 0 where
  -- 0, a byte taken: nothing is given back; all but where reading stands is as it was
  row_0_taken : enough lent ≡ true → (reads s byte).event ≡ nothing → ByDevice s lent byte (tells 0 [] lent (moved s byte))
  -- 0, done: no reason for 3 and none for 4; an answer, with verdict 80 80 (3.2); what changes is the command's effect, and 100 shows its text (5.17)
  row_0_done : (m : Message) (c : kinds.Command) → NewCommand s lent byte m c → three s.store c ≡ false → four s.store c ≡ false
      → ByDevice s lent byte (shows 0 (done_with s.store m c) (shown_by m.code m.content) lent (remembers s byte m (done_with s.store m c) (leaves_of s.store c m.content)))
  -- 1, syntax: an answer with no data and verdict A1 80 (3.2); the books stay, counters and closings too (2.3)
  row_1 : (m : Message) → NewFrame s lent byte m → parsed_of m.code m.content ≡ Err unread.Syntax
      → ByDevice s lent byte (tells 1 (answer_with m [] 0xA1 0x80 s.store.books) lent (remembers s byte m (answer_with m [] 0xA1 0x80 s.store.books) s.store))
  -- 2, unknown command: the same with verdict A2 80
  row_2 : (m : Message) → NewFrame s lent byte m → parsed_of m.code m.content ≡ Err unread.Unknown
      → ByDevice s lent byte (tells 2 (answer_with m [] 0xA2 0x80 s.store.books) lent (remembers s byte m (answer_with m [] 0xA2 0x80 s.store.books) s.store))
  -- 3, not permitted now: a reason for 3; the same with verdict A0 82, but for the count of wrong passwords (5.20)
  row_3 : (m : Message) (c : kinds.Command) → NewCommand s lent byte m c → three s.store c ≡ true
      → ByDevice s lent byte (tells 3 (answer_with m [] 0xA0 0x82 s.store.books) lent (remembers s byte m (answer_with m [] 0xA0 0x82 s.store.books) (counted s.store c)))
  -- 4, overflow: no reason for 3 and one for 4; as 3, with verdict A0 83
  row_4 : (m : Message) (c : kinds.Command) → NewCommand s lent byte m c → three s.store c ≡ false → four s.store c ≡ true
      → ByDevice s lent byte (tells 4 (answer_with m [] 0xA0 0x83 s.store.books) lent (remembers s byte m (answer_with m [] 0xA0 0x83 s.store.books) (counted s.store c)))
  -- 5, broken frame: NAK (1.8); all but where reading stands is as it was
  row_5 : enough lent ≡ true → (reads s byte).event ≡ broken_frame → ByDevice s lent byte (tells 5 (0x15 ∷ []) lent (moved s byte))
  -- 6, repeat: the last answer (1.10); all but where reading stands is as it was
  row_6 : (m : Message) → enough lent ≡ true → (reads s byte).event ≡ heard m → repeats s.before m ≡ true
      → ByDevice s lent byte (tells 6 (last_answer s.before) lent (moved s byte))
  -- 7, less than 217 bytes, 512 lines or 40 bytes for the display lent: nothing is given back; the byte is not taken, and everything stays (2.4)
  row_7 : enough lent ≡ false → ByDevice s lent byte (tells 7 [] lent s)
