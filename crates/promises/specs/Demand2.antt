-- Demand 2: "Cash equals all that was put in less all that was taken out, over the whole history." What the statements speak of: any bytes that
-- arrive at a fresh device, each with some buffer lent, however often it is switched on anew, and what its turns gave back.
use Rattle.std.specs.Prelude.{ℕ, ◌-◌, List, [], ◌∷◌, ◌++◌, map, length, take, drop, replicate, Ok, Err}
use Rattle.text.specs.Digits.{number}
use Rattle.wire.specs.Frame.{Message}
use Rattle.kinds.specs.Fields.{Parsed}
use Rattle.command.specs.Commands.{parsed_of}
use Rattle.books.specs.declared.Books.{Books}
use Rattle.history.specs.Entries.{Entry}
use Rattle.sheet.specs.declared.Line.{Line}
use Rattle.line.specs.Turns.{State, Turn, switched_on}
use Rattle.store.specs.Store.{Store, fresh_store}
use Rattle.machine.specs.Device.{Lent, lent_turn}
use Rattle.promises.specs.AtDevice.{anew}

-- PROTOCOL 2.4: what a device meets: a byte that arrives, and what is lent for it; or it is switched on anew (8.9)
pub data Moment : Type 0 where
  comes : (lent : Lent) (byte : ℕ) → Moment
  on_anew : Moment

-- PROTOCOL 1.1: a recording, with 217 bytes, 512 lines and 40 bytes for the display lent each time
abbrev pub always_lent : List ℕ → List Moment
always_lent = map (comes (record { buffer = replicate 217 0; lines = 512; display = replicate 40 0 }))

-- PROTOCOL 8.9: nothing is given back on switching on, and nothing carried out
abbrev pub on_turn : State Store → Turn Store
on_turn s = record { number = 0; gives = []; carried = []; state = anew s }

abbrev pub turn_by : State Store → Moment → Turn Store
turn_by s (comes lent byte) = lent_turn lent s byte
turn_by s on_anew = on_turn s

-- the turns of a device, one after the other, and the device behind them
abbrev pub turns_of : State Store → List Moment → List (Turn Store)
turns_of s [] = []
turns_of s (a ∷ more) = turn_by s a ∷ turns_of (turn_by s a).state more

abbrev pub device_after : State Store → List Moment → State Store
device_after s [] = s
device_after s (a ∷ more) = device_after (turn_by s a).state more

-- all that turns gave back, and the commands they carried out
abbrev pub all_given : List (Turn Store) → List ℕ
all_given [] = []
all_given (t ∷ ts) = t.gives ++ all_given ts

abbrev pub all_carried : List (Turn Store) → List Message
all_carried [] = []
all_carried (t ∷ ts) = t.carried ++ all_carried ts

-- PROTOCOL 1.2: the data of an answer: 01h, LEN, SEQ and CMD stand before it; 04h, six status bytes, 05h, four of BCC and 03h behind it
abbrev pub data_in : List ℕ → List ℕ
data_in answer = take (length answer - 17) (drop 4 answer)

-- what a turn tells of the command it carried out: the turn's own reply number, and the data of the answer it gave back. Syntax (1) and unknown
-- commands (2) are no commands
abbrev pub with_read : Turn Store → Parsed → List Entry → List Entry
with_read t (Ok c) es = record { command = c; number = t.number; shown = data_in t.gives } ∷ es
with_read t (Err why) es = es

-- a turn that carried out nothing tells nothing: a byte within a frame, NAK, a repeat, 7
abbrev pub with_turn : Turn Store → List Message → List Entry → List Entry
with_turn t [] es = es
with_turn t (m ∷ ms) es = with_turn t ms (with_read t (parsed_of m.code m.content) es)

-- the entries told from the turns alone, newest first
abbrev pub told_by : List Entry → List (Turn Store) → List Entry
told_by es [] = es
told_by es (t ∷ ts) = told_by (with_turn t t.carried es) ts

-- of a fresh device, whatever the sheet held that it is lent: its entries, and what it is left with
abbrev pub fresh_device : List Line → State Store
fresh_device sheet = switched_on (fresh_store sheet)

abbrev pub entries_of : List Line → List Moment → List Entry
entries_of sheet arrived = told_by [] (turns_of (fresh_device sheet) arrived)

abbrev pub store_after : List Line → List Moment → Store
store_after sheet arrived = (device_after (fresh_device sheet) arrived).store

abbrev pub books_after : List Line → List Moment → Books
books_after sheet arrived = (store_after sheet arrived).books

-- PROTOCOL 5.14: cash in an answer to 70, the 12 digits behind `P,`, read back as a number
abbrev pub cash_in : List ℕ → ℕ
cash_in content = number 0 (take 12 (drop 2 content))
