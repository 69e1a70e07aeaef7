-- PROTOCOL 1.8 to 1.11: one byte heard by the device, broken frames (5) and repeats (6) among it. What a command does is a parameter here: B is what
-- commands work on, and `carry` what one of them makes of it.
use Rattle.std.specs.Prelude.{ℕ, Bool, false, cond, ◌&&◌, List, [], ◌∷◌, ◌++◌, eqb}
use Rattle.wire.specs.Frame.{Message}
use Rattle.wire.specs.declared.Way.TheVariants.{ToDevice}
use Rattle.reader.specs.Reading.{Place, outside, Event, nothing, broken_frame, heard, read}

-- PROTOCOL 1.10: the whole frame before, with its answer; a fresh device has none
pub data Before : Type 0 where
  none : Before
  was : (seq code : ℕ) (answer : List ℕ) → Before

-- PROTOCOL 8.3: the device: where reading stands, the frame before, and what commands work on
pub record State (B : Type 0) : Type 0 where
  pub place : Place
  pub before : Before
  pub store : B

-- PROTOCOL 8.4: a device that is switched on: reading is outside, no frame before
abbrev pub switched_on : {B : Type 0} → B → State B
switched_on store = record { place = outside; before = none; store = store }

-- PROTOCOL 1.11: a command carried out: its reply number, what it leaves behind, and its whole answer frame. DECISIONS 63: the lead goes out before the answer
-- and is no part of it: a repeat has none
pub record Carried (B : Type 0) : Type 0 where
  pub number : ℕ
  pub store : B
  pub lead : List ℕ
  pub answer : List ℕ

-- PROTOCOL 1.1: what one byte brings: the reply number, the bytes given back, the command carried out, if any, and the device afterwards
pub record Turn (B : Type 0) : Type 0 where
  pub number : ℕ
  pub gives : List ℕ
  pub carried : List Message
  pub state : State B

-- PROTOCOL 1.1: what bytes heard one after the other bring: all that was given back, the commands carried out, and the device at the end
pub record Session (B : Type 0) : Type 0 where
  pub gives : List ℕ
  pub carried : List Message
  pub state : State B

-- PROTOCOL 1.10: a repeat has the SEQ and CMD of the frame before, whatever its data
abbrev pub repeats : Before → Message → Bool
repeats none m = false
repeats (was seq code answer) m = eqb seq m.seq && eqb code m.code

abbrev pub last_answer : Before → List ℕ
last_answer none = []
last_answer (was seq code answer) = answer

module _ {B : Type 0} (carry : B → Message → Carried B) where
  -- PROTOCOL 1.10: at a repeat (6) nothing is done, and the last answer goes out once more. PROTOCOL 1.11: every other whole frame is carried out, and
  -- becomes the frame before, with its answer, refused ones too.
  abbrev pub on_whole : State B → Place → Message → Turn B
  on_whole s next m =
      cond (repeats s.before m)
      (record { number = 6; gives = last_answer s.before; carried = []; state = record { place = next; before = s.before; store = s.store } })
      (record {
        number = (carry s.store m).number;
        gives = (carry s.store m).lead ++ (carry s.store m).answer;
        carried = m ∷ [];
        state = record { place = next; before = was m.seq m.code (carry s.store m).answer; store = (carry s.store m).store };
      })

  -- PROTOCOL 2.1: 0, a byte taken. PROTOCOL 1.8, 1.9: 5, one NAK. Both leave all but where reading stands: a broken frame is not the frame before (1.10)
  abbrev pub on_event : State B → Place → Event → Turn B
  on_event s next nothing = record { number = 0; gives = []; carried = []; state = record { place = next; before = s.before; store = s.store } }
  on_event s next broken_frame =
      record { number = 5; gives = 0x15 ∷ []; carried = []; state = record { place = next; before = s.before; store = s.store } }
  on_event s next (heard m) = on_whole s next m

  -- PROTOCOL 1.1: one byte
  abbrev pub turn : State B → ℕ → Turn B
  turn s b = on_event s (read ToDevice s.place b).place (read ToDevice s.place b).event

  -- PROTOCOL 1.1: bytes heard one after the other
  abbrev pub session : State B → List ℕ → Session B
  session s [] = record { gives = []; carried = []; state = s }
  session s (b ∷ bs) =
      let t = turn s b in
      let rest = session t.state bs in
      record { gives = t.gives ++ rest.gives; carried = t.carried ++ rest.carried; state = rest.state }
