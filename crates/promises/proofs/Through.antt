-- Calls of the device until every byte is taken come to the session of these bytes.
use mathlib.Core.Path.{◌≡◌, refl, sym, ap, ◌∙◌}
use mathlib.Core.Bool.{Bool, true, false, cond}
use mathlib.Core.List.{List, [], ◌++◌, append_assoc}
use Prim.Native.Nat.{ℕ, ◌≤◌}
use lib.ListN.{length, take, drop}
use native.Mathlib.Omega.{arith}
use Rattle.display.specs.Display.{display_of, texts_in}
use Rattle.wire.specs.Frame.{Message}
use Rattle.line.specs.Turns.{State, Session, session, switched_on}
use Rattle.line.specs.declared.Call.{Call}
use Rattle.line.specs.declared.Call.TheVariants.{Quiet, Nak, Again, Order}
use Rattle.delivery.proofs.Sessions.{session_append}
use Rattle.carrying.specs.Carrying.{carry, texts_of}
use Rattle.carrying.proofs.Texts.{texts_append, texts_stand}
use Rattle.store.specs.Store.{Store, fresh_store}
use Rattle.machine.specs.Device.{Lent, enough, store_of, state_of, not_taken}
use Rattle.machine.specs.Hearing.{PartHeard, hearing, carried_by}
use Rattle.recorder.specs.Recording.{recording}
use Rattle.machine.proofs.Room.{long}
use Rattle.machine.proofs.Parts.{behind, part_is}
use Rattle.promises.specs.Coded.{Machines, Fresh, bench_of, hear, part_after, handed_on, HeardThrough, all_taken, one_call_lem}
use Rattle.promises.proofs.CodedDevice.{DeviceOk, device_called}
use Rattle.promises.proofs.Coded.{fresh_device_lem}

abbrev state_in : Machines → State Store
state_in f = state_of f.device

-- a session with more bytes behind it
abbrev joined : Session Store → List ℕ → Session Store
joined s rest =
    let later = session carry s.state rest in
    record { gives = s.gives ++ later.gives; carried = s.carried ++ later.carried; state = later.state }

more_behind : (s h : State Store) (gives : List ℕ) (carried : List Message) (part left rest : List ℕ) → session carry s part ≡ behind gives carried (session carry h left)
    → session carry s (part ++ rest) ≡ behind gives carried (session carry h (left ++ rest))
more_behind s h gives carried part left rest e =
    let first : Session Store = session carry h left in
    let later : Session Store = session carry first.state rest in
    let all-given = append_assoc gives first.gives later.gives in
    let all-carried = append_assoc carried first.carried later.carried in
    session_append carry s part rest ∙ ap (λ z. joined z rest) e
    ∙ (λ i. record { gives = all-given i; carried = all-carried i; state = later.state })
    ∙ ap (behind gives carried) (sym (session_append carry h left rest))

-- what a call gives back, and what it leaves to the rest
record Called (f : Machines) (part : List ℕ) (p : PartHeard) : Type 0 where
  carried : List Message
  texts_are : texts_in p.after.shows p.after.lent.display ≡ texts_of carried
  goes_on : session carry (state_in f) part
      ≡ behind (take p.after.count p.after.lent.buffer) carried (session carry (state_of p.after.machine) (drop p.taken part))

-- a call carries out one command at most
one_carried : (call : Call) (frame : List ℕ) → length (carried_by call frame) ≤ 1
one_carried Quiet frame = omega arith
one_carried Nak frame = omega arith
one_carried Again frame = omega arith
one_carried (Order seq code n) frame = omega arith

module _ (f : Machines) (ok : DeviceOk f.device) (lent : Lent) (part : List ℕ) where
  called : Called f part (part_after f lent part)
  called = go (enough lent) refl (device_called (bench_of f).till f.device ok lent part).few
    where
      either : Bool → PartHeard
      either all = cond all (hearing f.device lent part) (record { after = not_taken f.device lent; call = Quiet; taken = 0 })

      go : (all : Bool) → enough lent ≡ all → (either all).after.count ≤ 217 → Called f part (either all)
      go false e few = record { carried = []; texts_are = refl; goes_on = refl }
      go true e few =
          let p = part_is part f.device lent ok.frames ok.lasts (long lent e).room ok.short few in
          let h : PartHeard = hearing f.device lent part in
          let carried = carried_by h.call h.after.machine.frame in
          record {
            carried = carried;
            texts_are =
                ap (λ z. texts_in z h.after.lent.display) p.shows_is
                ∙ ap (texts_in (display_of (texts_of carried))) p.display_is
                ∙ texts_stand carried (one_carried h.call h.after.machine.frame) lent.display (long lent e).display;
            goes_on = p.goes_on ∙ ap (λ z. behind z carried (session carry (state_of h.after.machine) (drop h.taken part))) (sym p.given_is);
          }

-- all calls
record Through (f g : Machines) (bytes gives : List ℕ) (texts : List (List ℕ)) : Type 0 where
  carried : List Message
  texts_are : texts ≡ texts_of carried
  is_session : session carry (state_in f) bytes ≡ record { gives = gives; carried = carried; state = state_in g }

through : {f g : Machines} {bytes gives : List ℕ} {texts : List (List ℕ)} → DeviceOk f.device → HeardThrough f bytes gives texts g → Through f g bytes gives texts
through ok all_taken = record { carried = []; texts_are = refl; is_session = refl }
through {f} {g} ok (one_call_lem {gives = gives} {texts = texts} lent part rest more) =
    let p : PartHeard = part_after f lent part in
    let one = called f ok lent part in
    let later = through {f = handed_on f (hear lent part)} {g = g} (device_called (bench_of f).till f.device ok lent part).ok more in
    record {
      carried = one.carried ++ later.carried;
      texts_are =
          ap (λ z. z ++ texts) one.texts_are ∙ ap (λ z. texts_of one.carried ++ z) later.texts_are
          ∙ sym (texts_append one.carried later.carried);
      is_session =
          more_behind (state_in f) (state_in (handed_on f (hear lent part))) (take p.after.count p.after.lent.buffer) one.carried part (drop p.taken part) rest one.goes_on
          ∙ ap (behind (take p.after.count p.after.lent.buffer) one.carried) later.is_session;
    }

-- the theorem: whatever buffers are lent, and however the bytes come in parts, all that the fields of a device that is switched on give back, what they
-- remember behind it and the texts that are shown are those of the session
pub the_calls_are_the_session : (f g : Machines) → DeviceOk f.device → (store : Store) → state_in f ≡ switched_on store
    → (bytes gives : List ℕ) (texts : List (List ℕ)) → HeardThrough f bytes gives texts g
    → let s : Session Store = session carry (switched_on store) bytes in
    (gives ≡ s.gives) × ((store_of g.device ≡ s.state.store) × (texts ≡ texts_of s.carried))
the_calls_are_the_session f g ok store on bytes gives texts h =
    let t = through ok h in
    let same : session carry (switched_on store) bytes ≡ record { gives = gives; carried = t.carried; state = state_in g } = sym (ap (λ s. session carry s bytes) on) ∙ t.is_session in (
      sym (ap (λ (s : Session Store). s.gives) same),
      (sym (ap (λ (s : Session Store). s.state.store) same), t.texts_are ∙ sym (ap (λ (s : Session Store). texts_of s.carried) same)),
    )

-- and so of fresh fields: a recording
pub the_calls_are_the_recording : (f g : Machines) → Fresh f → (bytes gives : List ℕ) (texts : List (List ℕ)) → HeardThrough f bytes gives texts g
    → (gives ≡ (recording f.device.sheet bytes).gives) × ((store_of g.device ≡ (recording f.device.sheet bytes).state.store)
    × (texts ≡ texts_of (recording f.device.sheet bytes).carried))
the_calls_are_the_recording f g fresh bytes gives texts h =
    let says-fresh : state_in f ≡ switched_on (fresh_store f.device.sheet) = rw fresh.device in
    the_calls_are_the_session f g (fresh_device_lem f fresh) (fresh_store f.device.sheet) says-fresh bytes gives texts h
