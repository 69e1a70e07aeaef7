-- A call of the device's `hear`: its result is the table's reply to the last byte that it takes.
use mathlib.Core.Path.{◌≡◌, refl, sym, ap, ◌∙◌, subst}
use mathlib.Core.Bool.{Bool, true, false, cond}
use mathlib.Core.List.{List, [], ◌∷◌}
use Prim.Native.Nat.{ℕ, ◌≤◌}
use native.Mathlib.Omega.{arith}
use lib.ListN.{length}
use Rattle.wire.specs.declared.Way.TheVariants.{ToDevice}
use Rattle.reader.specs.Reading.{Place, Event, nothing, broken_frame, heard, Read, read}
use Rattle.reader.proofs.Holding.{Underway, underway_few, underway_read}
use Rattle.reader.proofs.Running.{kept_length}
use Rattle.history.specs.Reached.{Reached}
use Rattle.line.specs.Turns as line
use Rattle.line.specs.Calls.{is_repeat, is_quiet, call_of}
use Rattle.line.specs.declared.Previous.{Previous}
use Rattle.line.specs.declared.Call.{Call}
use Rattle.line.specs.declared.Call.TheVariants.{Quiet, Nak, Again, Order}
use Rattle.store.specs.Store.{Store}
use Rattle.carrying.specs.Carrying.{carry}
use Rattle.carrying.proofs.Eights.{Eights}
use Rattle.carrying.proofs.Texts.{texts_stand}
use Rattle.machine.specs.Device as device
use Rattle.machine.specs.Hearing.{PartHeard, one_more, hearing, after_part}
use Rattle.machine.proofs.Room.{long}
use Rattle.machine.proofs.Parts.{state_back, place_kept, one_at_most}
use Rattle.machine.proofs.Working.{front_stands}
use Rattle.machine.proofs.Fitting.{few_given, last_kept, sheet_kept}
use Rattle.till.specs.Turns as till
use Rattle.promises.specs.AtDevice.{FromDevice, tells, row_7}
use Rattle.promises.specs.Demand1.{Bench, at_device, from_device, ByTheTable, at_device_lem}
use Rattle.promises.specs.Ends.{of_device}
use Rattle.promises.specs.Coded.{DeviceResult, is_asking, PartByTheTable, not_taken_lem, no_byte, asking_byte, quiet_byte}
use Rattle.promises.proofs.Demand1.{by_the_device, event_stays}
use Rattle.promises.proofs.DeviceRows.{short7}

-- the device's fields and arrays, at the sizes that their types give, with books that a fresh device comes to
pub record DeviceOk (m : device.Machine) : Type 0 where
  pub frames : length m.frame ≡ 256
  pub lasts : length m.last ≡ 217
  pub short : Underway ToDevice (device.state_of m).place
  pub lines : 512 ≤ length m.sheet
  pub reached : Reached m.device.books

module _ (m : device.Machine) (ok : DeviceOk m) where
  abbrev here : line.State Store
  here = device.state_of m

  eight : Eights m.device.books
  eight = record { day = ok.reached.eight_sums; groups = ok.reached.receipt.eight_groups }

  module _ (x : ℕ) (lent : device.Lent) where
    abbrev at : Read
    at = read ToDevice here.place x

    -- the turn of an event, and the device and what is lent behind it
    abbrev turned : Event → line.Turn Store
    turned e = line.on_event carry here at.place e

    abbrev after : Event → device.After
    after e = device.taken m lent (turned e)

    module _ (e : Event) (is : at.event ≡ e) where
      few : length (turned e).gives ≤ 217
      few = few_given m ok.lasts eight at.place e

      few-carried : length (turned e).carried ≤ 1
      few-carried = one_at_most m ok.lasts at.place e

      back : device.state_of (after e).machine ≡ (turned e).state
      back =
          subst (λ z. device.state_of (after z).machine ≡ (turned z).state) is
          (state_back m ok.lasts x (underway_few ToDevice here.place ok.short) ok.frames (few_given m ok.lasts eight at.place at.event))

      short-now : Underway ToDevice (turned e).state.place
      short-now = subst (Underway ToDevice) (sym (place_kept m ok.lasts at.place e)) (underway_read ToDevice here.place x ok.short)

      ok-after : DeviceOk (after e).machine
      ok-after =
          record {
            frames = kept_length m.frame (turned e).state.place ∙ ok.frames;
            lasts = last_kept m ok.lasts (turned e).state.before (turned e).carried;
            short = subst (Underway ToDevice) (sym (ap (λ (s : line.State Store). s.place) back)) short-now;
            lines = omega (arith, sheet_kept m ok.lasts eight at.place e, ok.lines);
            reached = event_stays here at.place e ok.reached;
          }

      module _ (room : device.enough lent ≡ true) (t : till.State) where
        abbrev bench : Bench
        bench = record { device = here; till = t }

        by-event : ByTheTable bench (at_device lent x) (from_device (of_device lent (turned e)))
        by-event =
            subst (λ z. ByTheTable bench (at_device lent x) (from_device (of_device lent (turned z)))) is
            (subst (λ z. ByTheTable bench (at_device lent x) (from_device (of_device lent (cond z (line.turn carry here x) (short7 here))))) room
            (by_the_device bench lent x))

        result : DeviceResult (after e) (of_device lent (turned e))
        result = record { number = refl; count = refl; bytes = front_stands lent.buffer (turned e).gives (omega (arith, few, (long lent room).room)); told = refl; texts = texts_stand (turned e).carried few-carried lent.display (long lent room).display; lent = refl; state = back }

-- a part of bytes heard, by the table
pub record HeardBy (t : till.State) (m : device.Machine) (lent : device.Lent) (bytes : List ℕ) (p : PartHeard) : Type 0 where
  pub reply : FromDevice
  pub by : PartByTheTable lent (record { device = device.state_of m; till = t }) bytes p.taken reply
  pub result : DeviceResult p.after reply
  pub few : p.after.count ≤ 217
  pub ok : DeviceOk p.after.machine

module _ (t : till.State) (lent : device.Lent) (room : device.enough lent ≡ true) where
  asked : (m : device.Machine) (ok : DeviceOk m) (x : ℕ) (bytes : List ℕ) (e : Event) (call : Call)
      → (read ToDevice (device.state_of m).place x).event ≡ e → is_asking e ≡ true
      → HeardBy t m lent (x ∷ bytes) (record { after = after m ok x lent e; call = call; taken = 1 })
  asked m ok x bytes e call is some =
      record {
        reply = of_device lent (turned m ok x lent e);
        by = asking_byte room (subst (λ z. is_asking z ≡ true) (sym is) some) (by-event m ok x lent e is room t);
        result = result m ok x lent e is room t;
        few = few m ok x lent e is;
        ok = ok-after m ok x lent e is;
      }

  parts : (m : device.Machine) → DeviceOk m → (bytes : List ℕ) → HeardBy t m lent bytes (hearing m lent bytes)
  parts m ok [] =
      record {
        reply = tells 0 [] lent (device.state_of m);
        by = no_byte room;
        result = record { number = refl; count = refl; bytes = refl; told = refl; texts = refl; lent = refl; state = refl };
        few = omega arith;
        ok = ok;
      }
  parts m ok (x ∷ xs) = go (λ n is. parts n is xs) (at m ok x lent).event refl
    where
      Rest : Type 0
      Rest = (n : device.Machine) → DeviceOk n → HeardBy t n lent xs (hearing n lent xs)

      a : Event → device.After
      a e = after m ok x lent e

      one : Event → Call → PartHeard
      one e call = record { after = a e; call = call; taken = 1 }

      previous : Previous
      previous = m.device.line.previous

      go : Rest → (e : Event) → (at m ok x lent).event ≡ e
          → HeardBy t m lent (x ∷ xs) (cond (is_quiet (call_of previous e)) (one_more (hearing (a e).machine (a e).lent xs)) (one e (call_of previous e)))
      go heard-on nothing is =
          let rest = heard-on (a nothing).machine (ok-after m ok x lent nothing is) in
          record {
            reply = rest.reply;
            by =
                quiet_byte room (ap is_asking is) (by-event m ok x lent nothing is room t)
                (subst (λ s. PartByTheTable lent (record { device = s; till = t }) xs (hearing (a nothing).machine lent xs).taken rest.reply) (back m ok x lent nothing is) rest.by);
            result = rest.result;
            few = rest.few;
            ok = rest.ok;
          }
      go heard-on broken_frame is = asked m ok x xs broken_frame Nak is refl
      go heard-on (heard n) is = by-repeat (is_repeat previous n.seq n.code)
        where
          call_if : Bool → Call
          call_if repeat = cond repeat Again (Order n.seq n.code (length n.content))

          by-repeat : (repeat : Bool)
              → HeardBy t m lent (x ∷ xs) (cond (is_quiet (call_if repeat)) (one_more (hearing (a (heard n)).machine (a (heard n)).lent xs)) (one (heard n) (call_if repeat)))
          by-repeat true = asked m ok x xs (heard n) Again is refl
          by-repeat false = asked m ok x xs (heard n) (Order n.seq n.code (length n.content)) is refl

-- one call of the device
pub device_called : (t : till.State) (m : device.Machine) → DeviceOk m → (lent : device.Lent) (bytes : List ℕ) → HeardBy t m lent bytes (after_part m lent bytes)
device_called t m ok lent bytes = go (device.enough lent) refl
  where
    go : (long : Bool) → device.enough lent ≡ long
        → HeardBy t m lent bytes (cond long (hearing m lent bytes) (record { after = device.not_taken m lent; call = Quiet; taken = 0 }))
    go true e = parts t lent e m ok bytes
    go false e =
        record {
          reply = tells 7 [] lent (device.state_of m);
          by = not_taken_lem e (λ byte. at_device_lem (row_7 e));
          result = record { number = refl; count = refl; bytes = refl; told = refl; texts = refl; lent = refl; state = refl };
          few = omega arith;
          ok = ok;
        }
