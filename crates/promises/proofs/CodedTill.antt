-- A call of the till end: its result is the table's reply, and the arrays that it is not lent to write stay as they are.
use mathlib.Core.Path.{◌≡◌, refl, sym, ap, ◌∙◌, subst}
use mathlib.Core.Bool.{Bool, true, false, cond, false≢true}
use mathlib.Core.List.{List}
use Prim.Native.Nat.{ℕ, ◌≤◌, ◌<◌}
use native.Mathlib.Omega.{arith}
use lib.Dec.{ltb}
use lib.ListN.{length, take}
use lib.Seq.{sets, length-sets}
use Rattle.wire.specs.Frame.{command_of, sendable}
use Rattle.wire.specs.declared.Way.TheVariants.{ToDevice, ToTill}
use Rattle.reader.specs.Reading.{Place, outside, inside, read}
use Rattle.reader.proofs.Holding.{Underway, underway_few}
use Rattle.reader.specs.Fields.{reader_of}
use Rattle.reader.proofs.Running.{kept_length}
use Rattle.machine.proofs.Working.{front_stands}
use Rattle.till.specs.Turns as till
use Rattle.till.specs.Fields as fields
use Rattle.attempts.specs.Promises.{Bytes}
use Rattle.till.specs.Words.{number_of}
use Rattle.till.specs.declared.Till.{Till}
use Rattle.till.specs.declared.Word.TheVariants.{TooShort, NotSent}
use Rattle.attempts.proofs.Following.{fields_follow}
use Rattle.till.proofs.Outer.{read_same, framed_same}
use Rattle.till.proofs.Turning.{fails_by}
use Rattle.promises.specs.AtTill.{from_line}
use Rattle.promises.specs.Ends.{of_till}
use Rattle.promises.specs.Coded.{Machines, turn_after, sent_after, answer_after, given_in, TillResult}
use Rattle.promises.proofs.Demand1.{tries_stay}
use Rattle.promises.proofs.TillRows.{tries_of}
use Rattle.promises.proofs.Sizes.{Sized, turn_fits}

-- the till end's fields and arrays
pub record TillOk (t : Till) (frame answer : List ℕ) : Type 0 where
  pub small : Bytes t.slot
  pub frames : length frame ≡ 256
  pub answers : length answer ≡ 256
  pub sized : Sized (fields.state_of t frame answer).pending
  pub tries : tries_of (fields.state_of t frame answer).pending ≤ 5

-- a word counts the bytes that are put
failed_count : (next seq code : ℕ) (bytes : List ℕ) (tries : ℕ) → given_in (till.fails_try next seq code bytes tries).word ≡ length (till.fails_try next seq code bytes tries).puts
failed_count next seq code bytes tries = go (ltb tries 5)
  where
    go : (early : Bool) → given_in (fails_by next seq code bytes tries early).word ≡ length (fails_by next seq code bytes tries early).puts
    go true = refl
    go false = refl

meant_count : (next seq code : ℕ) (bytes : List ℕ) (tries : ℕ) (x : till.Meaning)
    → given_in (till.on_meaning next seq code bytes tries x).word ≡ length (till.on_meaning next seq code bytes tries x).puts
meant_count next seq code bytes tries till.failed = failed_count next seq code bytes tries
meant_count next seq code bytes tries (till.goes_on q) = refl
meant_count next seq code bytes tries (till.answers m) = refl

taken_count : (next : ℕ) (p : till.Pending) (h : till.Happening)
    → given_in (till.takes (record { next = next; pending = p }) h).word ≡ length (till.takes (record { next = next; pending = p }) h).puts
taken_count next till.idle (till.command code content) = go (sendable ToDevice (command_of next code content))
  where
    go : (can : Bool)
        → given_in (cond can (till.sent next (command_of next code content)) (till.stays NotSent (record { next = next; pending = till.idle }))).word
        ≡ length (cond can (till.sent next (command_of next code content)) (till.stays NotSent (record { next = next; pending = till.idle }))).puts
    go true = refl
    go false = refl
taken_count next till.idle (till.byte b) = refl
taken_count next till.idle till.timeout = refl
taken_count next (till.waits seq code bytes tries ear) (till.command other content) = refl
taken_count next (till.waits seq code bytes tries ear) (till.byte b) = meant_count next seq code bytes tries (till.byte_means seq code ear b)
taken_count next (till.waits seq code bytes tries ear) till.timeout = failed_count next seq code bytes tries

word_counts : (s : till.State) (lent : ℕ) (h : till.Happening) → given_in (till.hears lent s h).word ≡ length (till.hears lent s h).puts
word_counts s lent h = go (ltb lent 210)
  where
    go : (short : Bool) → given_in (cond short (till.stays TooShort s) (till.takes s h)).word ≡ length (cond short (till.stays TooShort s) (till.takes s h)).puts
    go true = refl
    go false = taken_count s.next s.pending h

-- fields that say what fits are bytes
bytes_of : (s : till.State) → Sized s.pending → Bytes (fields.till_of s).slot
bytes_of s z = go s.pending z
  where
    go : (p : till.Pending) → Sized p → Bytes (fields.till_of (record { next = s.next; pending = p })).slot
    go till.idle z = tt
    go (till.waits seq code bytes tries ear) z = (omega (arith, z.0), few ear.place z.1)
      where
        few : (p : Place) → Underway ToTill p → (reader_of p).count < 256
        few outside u = omega arith
        few (inside sum read) u = underway_few ToTill (inside sum read) u

framed_length : (array : List ℕ) (p : till.Pending) → length (fields.framed array p) ≡ length array
framed_length array till.idle = refl
framed_length array (till.waits seq code bytes tries ear) = length-sets array 0 bytes

read_length : (array : List ℕ) (p : till.Pending) → length (fields.held_in array p) ≡ length array
read_length array till.idle = refl
read_length array (till.waits seq code bytes tries ear) = kept_length array ear.place

abbrev is_byte : till.Happening → Bool
is_byte (till.command code content) = false
is_byte (till.byte b) = true
is_byte till.timeout = false

-- what is not lent to be written stays: the frame of a command that waits, and the bytes of its answer
module _ (array : List ℕ) where
  frame-failed : (next seq code : ℕ) (bytes : List ℕ) (tries : ℕ) → sets array 0 bytes ≡ array
      → fields.framed array (till.fails_try next seq code bytes tries).state.pending ≡ array
  frame-failed next seq code bytes tries e = go (ltb tries 5)
    where
      go : (early : Bool) → fields.framed array (fails_by next seq code bytes tries early).state.pending ≡ array
      go true = e
      go false = refl

  frame-stays : (next : ℕ) (p : till.Pending) → fields.framed array p ≡ array → (h : till.Happening) → from_line h ≡ true
      → fields.framed array (till.takes (record { next = next; pending = p }) h).state.pending ≡ array
  frame-stays next p e (till.command code content) l = absurd (false≢true l)
  frame-stays next till.idle e (till.byte b) l = refl
  frame-stays next till.idle e till.timeout l = refl
  frame-stays next (till.waits seq code bytes tries ear) e (till.byte b) l = go (till.byte_means seq code ear b)
    where
      go : (x : till.Meaning) → fields.framed array (till.on_meaning next seq code bytes tries x).state.pending ≡ array
      go till.failed = frame-failed next seq code bytes tries e
      go (till.goes_on q) = e
      go (till.answers m) = refl
  frame-stays next (till.waits seq code bytes tries ear) e till.timeout l = frame-failed next seq code bytes tries e

  answer-stays : (next : ℕ) (p : till.Pending) → fields.held_in array p ≡ array → (h : till.Happening) → is_byte h ≡ false
      → fields.held_in array (till.takes (record { next = next; pending = p }) h).state.pending ≡ array
  answer-stays next till.idle e (till.command code content) l = go (sendable ToDevice (command_of next code content))
    where
      go : (can : Bool)
          → fields.held_in array (cond can (till.sent next (command_of next code content)) (till.stays NotSent (record { next = next; pending = till.idle }))).state.pending ≡ array
      go true = refl
      go false = refl
  answer-stays next (till.waits seq code bytes tries ear) e (till.command other content) l = e
  answer-stays next p e (till.byte b) l = absurd (false≢true (sym l))
  answer-stays next till.idle e till.timeout l = refl
  answer-stays next (till.waits seq code bytes tries ear) e till.timeout l = go (ltb tries 5)
    where
      go : (early : Bool) → fields.held_in array (fails_by next seq code bytes tries early).state.pending ≡ array
      go true = refl
      go false = refl

-- one call of the till end
module _ (f : Machines) (ok : TillOk f.till f.sent f.answer) (buffer : List ℕ) where
  abbrev state : till.State
  state = fields.state_of f.till f.sent f.answer

  abbrev turn : till.Happening → till.Turn
  turn h = turn_after f buffer h

  framed_is : (h : till.Happening) → from_line h ≡ true → fields.framed f.sent (turn h).state.pending ≡ f.sent
  framed_is h l = go (ltb (length buffer) 210)
    where
      go : (short : Bool) → fields.framed f.sent (cond short (till.stays TooShort state) (till.takes state h)).state.pending ≡ f.sent
      go true = sym (framed_same f.till.slot f.sent f.answer)
      go false = frame-stays f.sent state.next state.pending (sym (framed_same f.till.slot f.sent f.answer)) h l

  read_is : (h : till.Happening) → is_byte h ≡ false → fields.held_in f.answer (turn h).state.pending ≡ f.answer
  read_is h l = go (ltb (length buffer) 210)
    where
      go : (short : Bool) → fields.held_in f.answer (cond short (till.stays TooShort state) (till.takes state h)).state.pending ≡ f.answer
      go true = sym (read_same f.till.slot f.sent f.answer)
      go false = answer-stays f.answer state.next state.pending (sym (read_same f.till.slot f.sent f.answer)) h l

  sent_is : (h : till.Happening) → sent_after f buffer h ≡ fields.framed f.sent (turn h).state.pending
  sent_is (till.command code content) = refl
  sent_is (till.byte b) = sym (framed_is (till.byte b) refl)
  sent_is till.timeout = sym (framed_is till.timeout refl)

  answer-is : (h : till.Happening) → answer_after f buffer h ≡ fields.held_in f.answer (turn h).state.pending
  answer-is (till.command code content) = sym (read_is (till.command code content) refl)
  answer-is (till.byte b) = refl
  answer-is till.timeout = sym (read_is till.timeout refl)

  module _ (h : till.Happening) where
    pub follows : fields.state_of (fields.said_of f.till (turn h)).till (sent_after f buffer h) (answer_after f buffer h) ≡ (turn h).state
    follows =
        ap (λ z. fields.state_of (fields.said_of f.till (turn h)).till z (answer_after f buffer h)) (sent_is h)
        ∙ ap (λ z. fields.state_of (fields.said_of f.till (turn h)).till (fields.framed f.sent (turn h).state.pending) z) (answer-is h)
        ∙ fields_follow f.till f.sent f.answer ok.frames ok.answers ok.small buffer h

    pub till_result : TillResult f buffer h (of_till buffer (turn h))
    till_result =
        record {
          word = refl;
          number = refl;
          count = refl;
          bytes =
              ap (λ n. take n (sets buffer 0 (turn h).puts)) (word_counts state (length buffer) h)
              ∙ front_stands buffer (turn h).puts (turn_fits state ok.sized buffer h).puts;
          buffer = refl;
          state = follows;
        }

    pub till_after : TillOk (fields.said_of f.till (turn h)).till (sent_after f buffer h) (answer_after f buffer h)
    till_after =
        let sized : Sized (turn h).state.pending = (turn_fits state ok.sized buffer h).leaves in
        record {
          small = go (fields.refused (number_of (turn h).word)) sized;
          frames = ap length (sent_is h) ∙ framed_length f.sent (turn h).state.pending ∙ ok.frames;
          answers = ap length (answer-is h) ∙ read_length f.answer (turn h).state.pending ∙ ok.answers;
          sized = subst (λ (s : till.State). Sized s.pending) (sym follows) sized;
          tries = subst (λ (s : till.State). tries_of s.pending ≤ 5) (sym follows) (tries_stay (length buffer) state h ok.tries);
        }
      where
        go : (refused : Bool) → Sized (turn h).state.pending → Bytes (cond refused f.till (fields.till_of (turn h).state)).slot
        go true z = ok.small
        go false z = bytes_of (turn h).state z
