-- README, *For the apprentice*: the events that the replay programs are told of. DECISIONS 72: what is lent too short.
use Rattle.std.specs.Prelude.{ℕ, ◌+◌, ◌*◌, Bool, Option, Some, None, cond, ◌&&◌, List, [], ◌∷◌, eqb, leb, get_or}
use Rattle.events.specs.declared.End.{End}
use Rattle.events.specs.declared.End.TheVariants.{Device, Till}
use Rattle.events.specs.declared.Lent.{Lent}

-- how many bytes an event has, as far as its first ones tell, where it is one. Of a device: 4Fh alone; 42h and a byte; 53h, 0 to 2, a length of two bytes and a byte
abbrev pub byte_event : (kind : ℕ) → List ℕ → Option ℕ
byte_event kind [] = Some 2
byte_event kind (b ∷ bs) = cond (eqb kind 0x42) (Some 2) (cond (eqb kind 0x53 && leb b 2) (Some 5) None)

abbrev pub device_event : List ℕ → Option ℕ
device_event [] = Some 1
device_event (kind ∷ bs) = cond (eqb kind 0x4F) (Some 1) (byte_event kind bs)

-- of a till end: the length lent, then 54h; or 42h and a byte; or 43h, n, CMD and n bytes
abbrev pub command_event : List ℕ → ℕ
command_event [] = 3
command_event (n ∷ bs) = n + 4

abbrev pub till_event : List ℕ → Option ℕ
till_event [] = Some 1
till_event (room ∷ []) = Some 2
till_event (room ∷ kind ∷ bs) = cond (eqb kind 0x54) (Some 2) (cond (eqb kind 0x42) (Some 3) (cond (eqb kind 0x43) (Some (command_event bs)) None))

abbrev pub event_of : End → List ℕ → Option ℕ
event_of Device event = device_event event
event_of Till event = till_event event

-- the device is switched on anew
abbrev pub switches_on : List ℕ → Bool
switches_on event = eqb (get_or event 0 0) 0x4F

-- PROTOCOL 2.4: what a device's event lends: all; or one thing at its length, the high byte first: 0 is the buffer, 1 the sheet, 2 the display's buffer
abbrev pub size_in : List ℕ → ℕ
size_in event = get_or event 2 0 * 256 + get_or event 3 0

abbrev pub sized_in : List ℕ → (this all : ℕ) → ℕ
sized_in event this all = cond (eqb (get_or event 1 0) this) (size_in event) all

abbrev pub lent_by : List ℕ → (room lines shown : ℕ) → Lent
lent_by event room lines shown =
    cond (eqb (get_or event 0 0) 0x42)
    (record { room = room; lines = lines; shown = shown; byte = get_or event 1 0 })
    (record { room = sized_in event 0 room; lines = sized_in event 1 lines; shown = sized_in event 2 shown; byte = get_or event 4 0 })
