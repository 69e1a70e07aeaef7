-- A byte heard on the line and what it asks for, together, are a turn of the device.
use mathlib.Core.Path.{◌≡◌, refl, sym, ap, ◌∙◌, subst}
use mathlib.Core.Bool.{Bool, true, false, cond, false≢true}
use mathlib.Core.List.{List, [], ◌∷◌, ◌++◌}
use Prim.Native.Nat.{ℕ, zero, suc, ◌+◌}
use native.Mathlib.Omega.{arith}
use lib.Dec.{eqb}
use lib.ListN.{length, get_or, take, drop}
use Rattle.wire.specs.Frame.{Message, command_of}
use Rattle.wire.specs.Places.{data_count}
use Rattle.wire.specs.declared.Way.TheVariants.{ToDevice}
use Rattle.reader.proofs.History.{no_start}
use Rattle.reader.specs.Reading.{Place, outside, inside, Event, nothing, broken_frame, heard, Read, Standing, broken, beginning, whole, standing, goes_on, grown, message, starts_anew, read, read_other}
use Rattle.reader.specs.Fields.{place_of, reader_of, kept_in}
use Rattle.reader.specs.declared.Reader.{Reader}
use Rattle.line.specs.Turns.{was, Carried, Turn, turn, on_event, repeats, last_answer}
use Rattle.line.specs.Calls.{before_of, is_repeat, is_quiet, call_of, called_of}
use Rattle.line.specs.Listening.{frame_after}
use Rattle.line.specs.declared.Call.{Call}
use Rattle.line.specs.declared.Call.TheVariants.{Quiet, Nak, Again, Order}
use Rattle.line.specs.declared.Previous.{Previous}
use Rattle.line.specs.declared.Previous.TheVariants.{Nothing, Frame}
use Rattle.store.specs.Store.{Store}
use Rattle.carrying.specs.Carrying.{carry, texts_of}
use Rattle.machine.specs.Device.{Lent, Machine, store_of, state_of, taken}
use Rattle.machine.specs.Answering.{answering, orders, gives}
use Rattle.machine.specs.Hearing.{unmoved}

-- a part of a part is a beginning
take-take : (n c : ℕ) (xs : List ℕ) → take (length (take n (take c xs))) xs ≡ take n (take c xs)
take-take zero c xs = refl
take-take (suc n) zero [] = refl
take-take (suc n) zero (x ∷ xs) = refl
take-take (suc n) (suc c) [] = refl
take-take (suc n) (suc c) (x ∷ xs) = ap (λ z. x ∷ z) (take-take n c xs)

part_of : (n c k : ℕ) (xs : List ℕ) → take (length (take n (drop k (take c xs)))) (drop k xs) ≡ take n (drop k (take c xs))
part_of n c zero xs = take-take n c xs
part_of zero c (suc k) xs = refl
part_of (suc n) zero (suc k) [] = refl
part_of (suc n) zero (suc k) (x ∷ xs) = refl
part_of (suc n) (suc c) (suc k) [] = refl
part_of (suc n) (suc c) (suc k) (x ∷ xs) = part_of (suc n) c k xs

-- a whole frame: reading is outside again, and the message is the one that stands in the lent frame
not_nothing : (m : Message) → nothing ≡ heard m → ⊥
not_nothing m e = let z : ◌≡◌ {A = ℕ} 0 1 = cc in omega arith

not_broken : (m : Message) → broken_frame ≡ heard m → ⊥
not_broken m e = let z : ◌≡◌ {A = ℕ} 0 1 = cc in omega arith

same_heard : (m n : Message) → heard m ≡ heard n → n ≡ m
same_heard m n e = cc

abbrev pub Standing-in : List ℕ → Message → Type 0
Standing-in frame m = m ≡ command_of m.seq m.code (take (length m.content) (drop 3 frame))

stands_in : (frame : List ℕ) (c : ℕ) → Standing-in frame (message ToDevice (take c frame))
stands_in frame c = ap (λ z. command_of (message ToDevice (take c frame)).seq (message ToDevice (take c frame)).code z) (sym (part_of (data_count ToDevice (get_or (take c frame) 0 0)) c 3 frame))

went : (frame : List ℕ) (c : ℕ) (st : Standing) (next : Place) (m : Message) → (goes_on st next (message ToDevice (take c frame))).event ≡ heard m
    → ((goes_on st next (message ToDevice (take c frame))).place ≡ outside) × Standing-in frame m
went frame c broken next m e = absurd (not_broken m e)
went frame c beginning next m e = absurd (not_nothing m e)
went frame c whole next m e = (refl, subst (Standing-in frame) (sym (same_heard (message ToDevice (take c frame)) m e)) (stands_in frame c))

heard_inside : (r : Reader) (frame : List ℕ) (b : ℕ) (m : Message) (within start : Bool)
    → (cond start (record { place = inside 0 []; event = starts_anew (cond within (inside r.sum (take r.count frame)) outside) }) (read_other ToDevice (cond within (inside r.sum (take r.count frame)) outside) b)).event ≡ heard m
    → ((cond start (record { place = inside 0 []; event = starts_anew (cond within (inside r.sum (take r.count frame)) outside) }) (read_other ToDevice (cond within (inside r.sum (take r.count frame)) outside) b)).place ≡ outside) × Standing-in frame m
heard_inside r frame b m within true e = absurd (no_start (cond within (inside r.sum (take r.count frame)) outside) m e)
heard_inside r frame b m false false e = absurd (not_nothing m e)
heard_inside r frame b m true false e =
    went frame r.count (standing ToDevice r.sum (take r.count frame) b) (inside (grown ToDevice r.sum (take r.count frame) b) (take r.count frame ++ b ∷ [])) m e

pub heard_whole : (r : Reader) (frame : List ℕ) (b : ℕ) (m : Message) → (read ToDevice (place_of r frame) b).event ≡ heard m
    → ((read ToDevice (place_of r frame) b).place ≡ outside) × Standing-in frame m
heard_whole r frame b m e = heard_inside r frame b m r.inside (eqb b 0x01) e

pub quiet_is : (c : Call) → is_quiet c ≡ true → c ≡ Quiet
quiet_is Quiet e = refl
quiet_is Nak e = absurd (false≢true e)
quiet_is Again e = absurd (false≢true e)
quiet_is (Order s c n) e = absurd (false≢true e)

-- the frame before, in the fields and as a state
pub same_repeat : (p : Previous) (last : List ℕ) (m : Message) → repeats (before_of p last) m ≡ is_repeat p m.seq m.code
same_repeat Nothing last m = refl
same_repeat (Frame s c n) last m = refl

-- a byte in two halves
module _ (m : Machine) (lent : Lent) where
  abbrev previous : Previous
  previous = m.device.line.previous

  -- the device with reading moved, and this frame
  abbrev pub reading_at : Place → List ℕ → Machine
  reading_at next frame =
      record { device = record { line = record { reader = reader_of next; previous = previous }; books = m.device.books; guard = m.device.guard }; frame = frame; last = m.last; sheet = m.sheet }

  -- a whole frame given again, and carried out
  abbrev pub again_turn : Place → Turn Store
  again_turn next =
      record { number = 6; gives = last_answer (before_of previous m.last); carried = []; state = record { place = next; before = before_of previous m.last; store = store_of m } }

  abbrev pub order_turn : Place → Message → Turn Store
  order_turn next n =
      let k : Carried Store = carry (store_of m) n in
      record { number = k.number; gives = k.lead ++ k.answer; carried = n ∷ []; state = record { place = next; before = was n.seq n.code k.answer; store = k.store } }

  whole-turn : (next : Place) (n : Message) (repeat : Bool) → kept_in m.frame next ≡ m.frame → Standing-in m.frame n
      → answering (cond repeat Again (Order n.seq n.code (length n.content))) (reading_at next m.frame) lent
      ≡ taken m lent (cond repeat (again_turn next) (order_turn next n))
  whole-turn next n true same stands = ap (λ z. gives Again (last_answer (before_of previous m.last)) (reading_at next z) lent) (sym same)
  whole-turn next n false same stands =
      ap (λ z. orders n.seq n.code (carry (store_of m) z) (texts_of (z ∷ [])) (reading_at next m.frame) lent) (sym stands)
      ∙ ap (λ z. orders n.seq n.code (carry (store_of m) n) (texts_of (n ∷ [])) (reading_at next z) lent) (sym same)

  pub turn_is : (next : Place) (e : Event) → ((n : Message) → e ≡ heard n → (next ≡ outside) × Standing-in m.frame n) → (frame : List ℕ) → frame ≡ kept_in m.frame next
      → answering (call_of previous e) (reading_at next frame) lent ≡ taken m lent (on_event carry (state_of m) next e)
  turn_is next nothing k frame ef = ap (λ z. answering Quiet (reading_at next z) lent) ef
  turn_is next broken_frame k frame ef = ap (λ z. answering Nak (reading_at next z) lent) ef
  turn_is next (heard n) k frame ef =
      let same : kept_in m.frame next ≡ m.frame = ap (kept_in m.frame) (k n refl).0 in
      ap (λ z. answering (call_of previous (heard n)) (reading_at next z) lent) (ef ∙ same)
      ∙ whole-turn next n (is_repeat previous n.seq n.code) same (k n refl).1
      ∙ sym (ap (λ z. taken m lent (cond z (again_turn next) (order_turn next n))) (same_repeat previous m.last n))

  -- the device behind a byte that was heard, before what it asks for
  abbrev pub heard_up_to : ℕ → Machine
  heard_up_to byte =
      record { device = record { line = (called_of m.device.line m.frame byte).line; books = m.device.books; guard = m.device.guard }; frame = frame_after m.device.line m.frame byte; last = m.last; sheet = m.sheet }

  abbrev pub call_at : ℕ → Call
  call_at byte = (called_of m.device.line m.frame byte).call

  -- the whole byte: what is heard, then what it asks for
  pub byte_is : (byte : ℕ) → answering (call_at byte) (heard_up_to byte) lent ≡ taken m lent (turn carry (state_of m) byte)
  byte_is byte =
      let at : Read = read ToDevice (place_of m.device.line.reader m.frame) byte in
      turn_is at.place at.event (heard_whole m.device.line.reader m.frame byte) (frame_after m.device.line m.frame byte) refl

  -- a quiet byte moves nothing but reading and the frame
  pub byte_quiet : (byte : ℕ) → is_quiet (call_at byte) ≡ true → unmoved (heard_up_to byte) lent ≡ taken m lent (turn carry (state_of m) byte)
  byte_quiet byte e = ap (λ z. answering z (heard_up_to byte) lent) (sym (quiet_is (call_at byte) e)) ∙ byte_is byte
