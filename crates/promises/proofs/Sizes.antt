-- Sizes that hold in every history: what waits at the till end, and what is given back.
use mathlib.Core.Path.{◌≡◌, refl, sym, subst}
use mathlib.Core.Bool.{Bool, true, false, cond}
use mathlib.Core.List.{List, [], ◌∷◌, ◌++◌}
use Prim.Native.Nat.{ℕ, ◌+◌, ◌≤◌}
use native.Mathlib.Omega.{arith}
use lib.Dec.{eqb, ltb}
use lib.ListN.{length, get_or, take, drop, length-append, length-take}
use borrow.Author.Tests.{ltb-false}
use Rattle.wire.specs.Frame.{command_of, frame, sendable}
use Rattle.wire.specs.Places.{data_count}
use Rattle.wire.specs.declared.Way.TheVariants.{ToDevice, ToTill}
use Rattle.reader.specs.Reading.{Place, outside, inside, Event, nothing, broken_frame, heard, suits, at_last, Standing, broken, beginning, whole, goes_on, grown, message, starts_anew, read_other, read}
use Rattle.reader.proofs.Holding.{Underway, underway_read}
use Rattle.reader.proofs.RoundTrip.{frame_size}
use Rattle.till.specs.Turns as till
use Rattle.till.specs.declared.Word.TheVariants.{TooShort, NotSent}
use Rattle.attempts.proofs.Answers.{answers_heard}
use Rattle.till.proofs.Turning.{fails_by}
use Rattle.attempts.proofs.Seeing.{goes_on_lem}

-- a whole answer heard: at most 200 bytes of data and six of status
abbrev Brief : Event → Type 0
Brief nothing = Unit {0}
Brief broken_frame = Unit {0}
Brief (heard m) = length (m.content ++ m.status) ≤ 206

brief_message : (sum : ℕ) (bytes : List ℕ) → Underway ToTill (inside sum bytes) → length ((message ToTill bytes).content ++ (message ToTill bytes).status) ≤ 206
brief_message sum bytes h =
    let n : ℕ = data_count ToTill (get_or bytes 0 0) in
    omega (arith, length-append (take n (drop 3 bytes)) (take 6 (drop (4 + n) bytes)), length-take n (drop 3 bytes), length-take 6 (drop (4 + n) bytes), announced bytes h)
  where
    announced : (bytes : List ℕ) → Underway ToTill (inside sum bytes) → data_count ToTill (get_or bytes 0 0) ≤ 200
    announced [] h = omega arith
    announced (len ∷ rest) h = omega (arith, h.0)

brief_read : (p : Place) (b : ℕ) → Underway ToTill p → Brief (read ToTill p b).event
brief_read p b h = go (eqb b 0x01)
  where
    anew : (q : Place) → Brief (starts_anew q)
    anew outside = tt
    anew (inside sum []) = tt
    anew (inside sum (x ∷ xs)) = tt

    by : (sum : ℕ) (bytes : List ℕ) → Underway ToTill (inside sum bytes) → (st : Standing) (next : Place) → Brief (goes_on st next (message ToTill bytes)).event
    by sum bytes s broken next = tt
    by sum bytes s beginning next = tt
    by sum bytes s whole next = brief_message sum bytes s

    other : (q : Place) → Underway ToTill q → Brief (read_other ToTill q b).event
    other outside s = tt
    other (inside sum bytes) s = by sum bytes s (cond (suits ToTill sum bytes b) (cond (at_last ToTill bytes) whole beginning) broken) (inside (grown ToTill sum bytes b) (bytes ++ b ∷ []))

    go : (start : Bool) → Brief (cond start (record { place = inside 0 []; event = starts_anew p }) (read_other ToTill p b)).event
    go true = anew p
    go false = other p h

-- what waits at the till end: a frame of 210 bytes at most, and its answer in reading
abbrev pub Sized : till.Pending → Type 0
Sized till.idle = Unit {0}
Sized (till.waits seq code bytes tries ear) = (length bytes ≤ 210) × Underway ToTill ear.place

-- and what an event leaves waiting, and puts in the lent buffer
pub record Fitting-turn (t : till.Turn) : Type 0 where
  pub leaves : Sized t.state.pending
  pub puts : length t.puts ≤ 210

failing : (next seq code : ℕ) (bytes : List ℕ) (tries : ℕ) → length bytes ≤ 210 → Fitting-turn (till.fails_try next seq code bytes tries)
failing next seq code bytes tries h = go (ltb tries 5)
  where
    go : (early : Bool) → Fitting-turn (fails_by next seq code bytes tries early)
    go true = record { leaves = (h, tt); puts = h }
    go false = record { leaves = tt; puts = omega arith }

meaning : (next seq code : ℕ) (bytes : List ℕ) (tries : ℕ) (ear : till.Ear) (b : ℕ) → Sized (till.waits seq code bytes tries ear) → (x : till.Meaning)
    → till.byte_means seq code ear b ≡ x → Fitting-turn (till.on_meaning next seq code bytes tries x)
meaning next seq code bytes tries ear b h till.failed e = failing next seq code bytes tries h.0
meaning next seq code bytes tries ear b h (till.goes_on q) e =
    record { leaves = (h.0, subst (λ (z : till.Ear). Underway ToTill z.place) (sym (goes_on_lem seq code ear b q e)) (underway_read ToTill ear.place b h.1)); puts = omega arith }
meaning next seq code bytes tries ear b h (till.answers m) e =
    let brief : length (m.content ++ m.status) ≤ 206 = subst Brief (answers_heard seq code ear b m e).hears (brief_read ear.place b h.1) in
    record { leaves = tt; puts = omega (arith, brief) }

taken : (next : ℕ) (p : till.Pending) → Sized p → (h : till.Happening) → Fitting-turn (till.takes (record { next = next; pending = p }) h)
taken next till.idle s (till.command code content) = go (sendable ToDevice (command_of next code content)) refl
  where
    go : (can : Bool) → sendable ToDevice (command_of next code content) ≡ can
        → Fitting-turn (cond can (till.sent next (command_of next code content)) (till.stays NotSent (record { next = next; pending = till.idle })))
    go true e =
        let few : length (frame ToDevice (command_of next code content)) ≤ 210 = (frame_size ToDevice (command_of next code content) e).1 in
        record { leaves = (few, tt); puts = few }
    go false e = record { leaves = tt; puts = omega arith }
taken next till.idle s (till.byte b) = record { leaves = tt; puts = omega arith }
taken next till.idle s till.timeout = record { leaves = tt; puts = omega arith }
taken next (till.waits seq code bytes tries ear) s (till.command other content) = record { leaves = s; puts = omega arith }
taken next (till.waits seq code bytes tries ear) s (till.byte b) = meaning next seq code bytes tries ear b s (till.byte_means seq code ear b) refl
taken next (till.waits seq code bytes tries ear) s till.timeout = failing next seq code bytes tries s.0

-- with a buffer lent: what is put has room in it
pub record Roomy-turn (buffer : List ℕ) (t : till.Turn) : Type 0 where
  pub leaves : Sized t.state.pending
  pub puts : length t.puts ≤ length buffer

pub turn_fits : (s : till.State) → Sized s.pending → (buffer : List ℕ) (h : till.Happening) → Roomy-turn buffer (till.hears (length buffer) s h)
turn_fits s z buffer h = go (ltb (length buffer) 210) refl
  where
    go : (short : Bool) → ltb (length buffer) 210 ≡ short → Roomy-turn buffer (cond short (till.stays TooShort s) (till.takes s h))
    go true e = record { leaves = z; puts = omega arith }
    go false e =
        let t : Fitting-turn (till.takes s h) = taken s.next s.pending z h in
        record { leaves = t.leaves; puts = omega (arith, t.puts, ltb-false (length buffer) 210 e) }
