-- Whatever bytes come, at most 217 are given back, by a device whose books have eight sums each, and its sheet keeps its length.
use mathlib.Core.Path.{◌≡◌, refl, ◌∙◌}
use mathlib.Core.Bool.{Bool, true, false, cond}
use mathlib.Core.List.{List, [], ◌∷◌}
use Prim.Native.Nat.{ℕ, ◌≤◌}
use native.Mathlib.Omega.{arith}
use lib.ListN.{length}
use lib.Seq.{length-sets}
use Rattle.wire.specs.Frame.{Message}
use Rattle.wire.specs.declared.Way.TheVariants.{ToDevice}
use Rattle.reader.specs.Reading.{Place, Event, nothing, broken_frame, heard, Read, read}
use Rattle.line.specs.Turns.{Before, Turn, turn, on_event, repeats, last_answer}
use Rattle.line.specs.Calls.{is_quiet, called_of}
use Rattle.line.specs.declared.Call.{Call}
use Rattle.store.specs.Store.{Store}
use Rattle.carrying.specs.Carrying.{carry}
use Rattle.carrying.proofs.Eights.{Eights, carry_keeps, carry_lines, answer_few}
use Rattle.machine.specs.Device.{Lent, Machine, After, store_of, state_of, taken, last_after}
use Rattle.machine.specs.Hearing.{PartHeard, one_more, hearing}
use Rattle.machine.proofs.Working.{again_few}
use Rattle.machine.proofs.Turning.{again_turn, order_turn}

-- the device's own array for the last answer keeps its length
pub last_kept : (m : Machine) → length m.last ≡ 217 → (before : Before) (ms : List Message) → length (last_after m.last ms before) ≡ 217
last_kept m lasts before [] = lasts
last_kept m lasts before (n ∷ ns) = length-sets m.last 0 (last_answer before) ∙ lasts

module _ (m : Machine) (lasts : length m.last ≡ 217) (eights : Eights m.device.books) where
  abbrev none : Lent
  none = record { buffer = []; lines = 0; display = [] }

  abbrev whole : Place → Message → Bool → Turn Store
  whole next n repeat = cond repeat (again_turn m none next) (order_turn m none next n)

  pub few_given : (next : Place) (e : Event) → length (on_event carry (state_of m) next e).gives ≤ 217
  few_given next nothing = omega arith
  few_given next broken_frame = omega arith
  few_given next (heard n) = go (repeats (state_of m).before n)
    where
      go : (repeat : Bool) → length (whole next n repeat).gives ≤ 217
      go true = again_few m.device.line.previous m.last lasts
      go false = answer_few (store_of m) n eights

  pub eights_kept : (next : Place) (e : Event) → Eights (on_event carry (state_of m) next e).state.store.books
  eights_kept next nothing = eights
  eights_kept next broken_frame = eights
  eights_kept next (heard n) = go (repeats (state_of m).before n)
    where
      go : (repeat : Bool) → Eights (whole next n repeat).state.store.books
      go true = eights
      go false = carry_keeps (store_of m) n eights

  pub sheet_kept : (next : Place) (e : Event) → length (on_event carry (state_of m) next e).state.store.sheet ≡ length m.sheet
  sheet_kept next nothing = refl
  sheet_kept next broken_frame = refl
  sheet_kept next (heard n) = go (repeats (state_of m).before n)
    where
      go : (repeat : Bool) → length (whole next n repeat).state.store.sheet ≡ length m.sheet
      go true = refl
      go false = carry_lines (store_of m) n

-- a call
pub record Fits (m : Machine) (h : PartHeard) : Type 0 where
  pub few : h.after.count ≤ 217
  pub lines : length h.after.machine.sheet ≡ length m.sheet
  pub eights : Eights h.after.machine.device.books

pub heard_fits : (bytes : List ℕ) (m : Machine) (lent : Lent) → length m.last ≡ 217 → Eights m.device.books → Fits m (hearing m lent bytes)
heard_fits [] m lent lasts eights = record { few = omega arith; lines = refl; eights = eights }
heard_fits (x ∷ xs) m lent lasts eights =
    go (is_quiet call) (heard_fits xs a.machine a.lent (last_kept m lasts t.state.before t.carried) now)
  where
    at : Read
    at = read ToDevice (state_of m).place x

    t : Turn Store
    t = turn carry (state_of m) x

    a : After
    a = taken m lent t

    call : Call
    call = (called_of m.device.line m.frame x).call

    now : Eights t.state.store.books
    now = eights_kept m lasts eights at.place at.event

    same : length t.state.store.sheet ≡ length m.sheet
    same = sheet_kept m lasts eights at.place at.event

    go : (q : Bool) → Fits a.machine (hearing a.machine a.lent xs)
        → Fits m (cond q (one_more (hearing a.machine a.lent xs)) (record { after = a; call = call; taken = 1 }))
    go true h = record { few = h.few; lines = h.lines ∙ same; eights = h.eights }
    go false h = record { few = few_given m lasts eights at.place at.event; lines = same; eights = now }
