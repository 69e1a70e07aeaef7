-- What a case is, and when it holds: by the definitions that the code is proved to meet.
use Rattle.std.specs.Prelude.{ℕ, ◌-◌, List, [], ◌∷◌, ◌++◌, map, length, set, replicate}
use Prim.Native.String as string
use Rattle.letters.specs.Letters.{bytes}
use Rattle.wire.specs.Frame.{Message, command_of, answer_of, frame}
use Rattle.wire.specs.declared.Way.TheVariants.{ToDevice, ToTill}
use Rattle.sheet.specs.Sheet.{blank}
use Rattle.sheet.specs.declared.Line.{Line}
use Rattle.store.specs.Store.{Store, fresh_store}
use Rattle.line.specs.Turns.{State, switched_on, session}
use Rattle.carrying.specs.Carrying.{carry}

-- some bytes that the device hears, and all that it gives back on them
pub record Exchange : Type 0 where
  pub hears : List ℕ
  pub gives : List ℕ

pub record Listed : Type 0 where
  pub seq : ℕ
  pub code : ℕ

-- each case has its number in document 01, or that of its request
pub data Case : Type 0 where
  -- this command is these bytes
  built : (number : ℕ) (command : Message) (sent : List ℕ) → Case
  -- a fresh device hears these in turn, and these are the commands that it carries out
  talk : (number : ℕ) (exchanges : List Exchange) (done : List Listed) → Case

-- PROTOCOL 1.2: SEQ, CMD and data of a command; data and status of its answer
abbrev pub asks : ℕ → ℕ → string.String → string.String → List ℕ → Exchange
asks seq code content answer status =
    record { hears = frame ToDevice (command_of seq code (bytes content)); gives = frame ToTill (answer_of seq code (bytes answer) status) }

-- a command whose last byte arrives as another
abbrev pub ends_in : ℕ → List ℕ → List ℕ
ends_in b sent = set sent (length sent - 1) b

abbrev pub marked : ℕ → ℕ → Listed
marked seq code = record { seq = seq; code = code }

-- the same device, exchange by exchange: what it hears, with what it gives back
abbrev pub exchanged : State Store → List Exchange → List Exchange
exchanged s [] = []
exchanged s (e ∷ es) =
    let now = session carry s e.hears in
    record { hears = e.hears; gives = now.gives } ∷ exchanged now.state es

abbrev pub heard_in_all : List Exchange → List ℕ
heard_in_all [] = []
heard_in_all (e ∷ es) = e.hears ++ heard_in_all es

-- whatever the sheet holds that a fresh device is lent: here nothing
abbrev pub no_lines : List Line
no_lines = replicate 512 blank

abbrev pub all_marked : List Exchange → List Listed
all_marked es = map (λ m. marked m.seq m.code) (session carry (switched_on (fresh_store no_lines)) (heard_in_all es)).carried

-- a case worked out: what it says is sent, given back and carried out, by the definitions
abbrev pub worked : Case → Case
worked (built number command sent) = built number command (frame ToDevice command)
worked (talk number exchanges done) = talk number (exchanged (switched_on (fresh_store no_lines)) exchanges) (all_marked exchanges)
