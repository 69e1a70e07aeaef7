-- "Mind the try that lacks only its last byte when the next one's first byte has become 03h": the frame is whole then, and heard at once.
use mathlib.Core.Path.{◌≡◌, refl, sym, ap, ◌∙◌}
use mathlib.Core.Bool.{true, cond, ◌&&◌}
use mathlib.Core.List.{[], ◌∷◌, append-nil}
use Prim.Native.Nat.{ℕ, zero, suc, ◌+◌}
use native.Mathlib.Omega.{arith}
use lib.ListN.{length}
use borrow.Author.Tests.{eq-eqb, lt-ltb}
use Rattle.wire.specs.Frame.{Message, frame, sendable}
use Rattle.wire.specs.declared.Way.TheVariants.{ToDevice}
use Rattle.reader.specs.Reading.{outside, broken_frame, heard, Read}
use Rattle.reader.proofs.RoundTrip.{frame_size}
use Rattle.line.specs.Turns.{Before, State, Carried, Turn, Session, on_whole, on_event, turn, session}
use Rattle.tries.specs.Tries.{replaced, cut, arriving, clear, begun}
use Rattle.tries.specs.TryRead.{stands_at}
use Rattle.tries.proofs.Trying.{ends_it}
use Rattle.delivery.specs.Delivery.{EndedByTheNext}
use Rattle.delivery.proofs.Sessions.{device, ending_at, reacts, frame_anywhere}
use Rattle.delivery.proofs.Delivered.{any_try}

-- m's try lacks its last byte, and the next try is one of n, which may be m again
module _ {B : Type 0} (carry : B → Message → Carried B) (m n : Message) (cm : sendable ToDevice m ≡ true) (cn : sendable ToDevice n ≡ true) (before : Before) (store : B) where
  pub ended_by_the_next : (count : ℕ) → count + 1 ≡ length (frame ToDevice m) → EndedByTheNext carry (device outside before store) m n count
  ended_by_the_next zero e = absurd (omega (arith, (frame_size ToDevice m cm).0))
  ended_by_the_next (suc c) e =
      let found : State B = device outside before store in
      let t = on_whole carry found outside m in
      let one = any_try carry m cm (cut (suc c)) (lt-ltb (suc c) (length (frame ToDevice m)) (omega arith)) clear tt before store in
      let two = any_try carry n cn (replaced 0 0x03) (ap (λ z. z && true) (lt-ltb 0 (length (frame ToDevice n)) (omega arith))) (begun m (suc c)) (cm, omega arith, omega arith) before store in
      let heard-m = ap (λ z. reacts carry before store (cond z (heard m ∷ []) (broken_frame ∷ []))) (eq-eqb (suc c + 1) (length (frame ToDevice m)) e) in
      let behind = ap (λ (z : Session B). session carry z.state (arriving (frame ToDevice n) (replaced 0 0x03))) one ∙ two ∙ ap (ending_at outside) heard-m in
      let at : State B = device (stands_at ToDevice (begun m (suc c))) before store in
      let last = ends_it ToDevice n m cn cm c (omega arith) 0x03 (λ q. omega arith) refl e in
      record {
        quiet = ap (λ (z : Session B). z.gives) one;
        none_yet = ap (λ (z : Session B). z.carried) one;
        at_once = ap (λ (z : Session B). turn carry z.state 0x03) one
            ∙ ap (λ (r : Read). on_event carry at r.place r.event) last
            ∙ frame_anywhere carry at outside m
            ∙ sym (frame_anywhere carry found outside m);
        gives = ap (λ (z : Session B). z.gives) behind ∙ append-nil t.gives;
        carried = ap (λ (z : Session B). z.carried) behind ∙ append-nil t.carried;
        state = ap (λ (z : Session B). z.state) behind ∙ ap (λ (z : Turn B). z.state) (sym (frame_anywhere carry found outside m));
      }
