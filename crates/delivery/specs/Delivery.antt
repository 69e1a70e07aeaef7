-- Demand 3 with request 2026-11: "A fresh device, always lent its 217 bytes, hears a list of sendable commands, neighbours differing in sequence
-- number or code. Each is tried one or more times with one and the same frame"; each try arrives in one of the ways of `Arrival`, "at least one
-- whole". "Then the device carries out that very list, each command once and in order."
-- `session` is the device that is always lent its bytes, so that number 7 never comes.
use Rattle.std.specs.Prelude.{ℕ, ◌≡◌, Bool, true, false, not, cond, ◌&&◌, ◌||◌, List, [], ◌∷◌, ◌++◌, map, eqb}
use Rattle.wire.specs.Frame.{Message, frame, sendable}
use Rattle.wire.specs.declared.Way.TheVariants.{ToDevice}
use Rattle.reader.specs.Reading.{outside, Event, nothing, broken_frame, heard}
use Rattle.line.specs.Turns.{State, Carried, Session, on_whole, turn, session}
use Rattle.tries.specs.Tries.{Arrival, whole, replaced, cut, may_arrive, arriving, Begun, leaves, brings}

abbrev pub is_whole : Arrival → Bool
is_whole whole = true
is_whole (replaced at byte) = false
is_whole (cut count) = false

-- PROTOCOL 9.1: a command and its tries
pub record Sent : Type 0 where
  pub command : Message
  pub tries : List Arrival

abbrev pub all : (Arrival → Bool) → List Arrival → Bool
all test [] = true
all test (a ∷ rest) = test a && all test rest

abbrev pub any : (Arrival → Bool) → List Arrival → Bool
any test [] = false
any test (a ∷ rest) = test a || any test rest

-- PROTOCOL 9.1: a command that can be sent, each try of it in one of the ways of `Arrival`; there may be none
abbrev pub may_come : Sent → Bool
may_come c = sendable ToDevice c.command && all (may_arrive (frame ToDevice c.command)) c.tries

-- PROTOCOL 9.6: at least one try of it arrives whole
abbrev pub tried : Sent → Bool
tried c = may_come c && any is_whole c.tries

-- PROTOCOL 9.6: neighbours differ in SEQ or CMD (1.12 says why)
abbrev pub differ : Message → Message → Bool
differ m n = not (eqb m.seq n.seq && eqb m.code n.code)

abbrev pub differs_from : Message → List Sent → Bool
differs_from m [] = true
differs_from m (c ∷ cs) = differ m c.command

-- PROTOCOL 9.6: both, of a whole list
abbrev pub delivery : List Sent → Bool
delivery [] = true
delivery (c ∷ cs) = tried c && differs_from c.command cs && delivery cs

-- PROTOCOL 9.6: the list of commands that was sent
abbrev pub commands : List Sent → List Message
commands = map (λ c. c.command)

-- PROTOCOL 9.1: all tries of a command send the same bytes: what arrives of them, and of the whole list
abbrev pub tries_arriving : List ℕ → List Arrival → List ℕ
tries_arriving sent [] = []
tries_arriving sent (a ∷ rest) = arriving sent a ++ tries_arriving sent rest

abbrev pub all_arriving : List Sent → List ℕ
all_arriving [] = []
all_arriving (c ∷ cs) = tries_arriving (frame ToDevice c.command) c.tries ++ all_arriving cs

-- PROTOCOL 9.2: what all the tries of one command leave begun
abbrev pub tries_leave : Begun → Message → List Arrival → Begun
tries_leave b m [] = b
tries_leave b m (a ∷ rest) = tries_leave (leaves ToDevice b m a) m rest

-- PROTOCOL 9.4: what is given back for what a try of m brings: NAK (15h) for a broken frame; for a frame heard its answer, that of m, with its lead where m is
-- carried out now, or that of the command before m once more; `done` says whether m was carried out before
abbrev pub given_back : {B : Type 0} → Message → (last : List ℕ) → Carried B → (done : Bool) → List Event → List ℕ
given_back m last k done [] = []
given_back m last k done (nothing ∷ es) = given_back m last k done es
given_back m last k done (broken_frame ∷ es) = 0x15 ∷ given_back m last k done es
given_back m last k done (heard n ∷ es) = cond (differ n m) last (cond done [] k.lead ++ k.answer) ++ given_back m last k (done || not (differ n m)) es

-- whether m itself is heard
abbrev pub heard_in : Message → List Event → Bool
heard_in m [] = false
heard_in m (nothing ∷ es) = heard_in m es
heard_in m (broken_frame ∷ es) = heard_in m es
heard_in m (heard n ∷ es) = not (differ n m) || heard_in m es

-- PROTOCOL 9.6: each command once, with the first try in which it is heard
abbrev pub carried_in : Message → (done now : Bool) → List Message
carried_in m done now = cond (not done && now) (m ∷ []) []

module _ {B : Type 0} (carry : B → Message → Carried B) where
  -- PROTOCOL 9.6: what a list of commands makes of the store, each carried out once and in order
  abbrev pub carry_all : B → List Message → B
  carry_all store [] = store
  carry_all store (m ∷ ms) = carry_all (carry store m).store ms

  -- PROTOCOL 9.4: one try of m: what is given back during it, and whether m is carried out with it; `done` says whether it was before
  pub record TryBrings (s : State B) (m : Message) (done : Bool) (last : List ℕ) (k : Carried B) (a : Arrival) (brought : List Event) : Type 0 where
    pub gives : (session carry s (arriving (frame ToDevice m) a)).gives ≡ given_back m last k done brought
    pub carried : (session carry s (arriving (frame ToDevice m) a)).carried ≡ carried_in m done (heard_in m brought)

  -- the tries of one command, one after the other, from what stands begun
  abbrev pub TriesBring : State B → Begun → Message → Bool → (last : List ℕ) → Carried B → List Arrival → Type 0
  TriesBring s b m done last k [] = Unit {0}
  TriesBring s b m done last k (a ∷ rest) =
      let brought = brings ToDevice b m a in
      TryBrings s m done last k a brought
      × TriesBring (session carry s (arriving (frame ToDevice m) a)).state (leaves ToDevice b m a) m (done || heard_in m brought) last k rest

  -- and of every command of the list: its answer is that of carrying it out at its turn
  abbrev pub AllBring : State B → Begun → B → (last : List ℕ) → List Sent → Type 0
  AllBring s b store last [] = Unit {0}
  AllBring s b store last (c ∷ cs) =
      let m = c.command in
      let k = carry store m in
      TriesBring s b m false last k c.tries
      × AllBring (session carry s (tries_arriving (frame ToDevice m) c.tries)).state (tries_leave b m c.tries) k.store k.answer cs

  -- PROTOCOL 9.5: a try of m that is cut, and the next one, of n, whose first byte has become 03h
  abbrev pub lacking : State B → Message → ℕ → Session B
  lacking s m count = session carry s (arriving (frame ToDevice m) (cut count))

  abbrev pub ended_by : State B → (m n : Message) → ℕ → Session B
  ended_by s m n count = session carry (lacking s m count).state (arriving (frame ToDevice n) (replaced 0 0x03))

  -- PROTOCOL 9.5, where m's try lacks only its last byte: it brings nothing; with the next one's first byte m's frame is whole, and carried out or
  -- answered again as such; the rest of the next one brings nothing
  pub record EndedByTheNext (s : State B) (m n : Message) (count : ℕ) : Type 0 where
    pub quiet : (lacking s m count).gives ≡ []
    pub none_yet : (lacking s m count).carried ≡ []
    pub at_once : turn carry (lacking s m count).state 0x03 ≡ on_whole carry s outside m
    pub gives : (ended_by s m n count).gives ≡ (on_whole carry s outside m).gives
    pub carried : (ended_by s m n count).carried ≡ (on_whole carry s outside m).carried
    pub state : (ended_by s m n count).state ≡ (on_whole carry s outside m).state
