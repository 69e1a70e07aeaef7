-- Fields and arrays follow the definition: what a function leaves in them says the state that it promised, so that call after call is a history.
use mathlib.Core.Path.{◌≡◌, refl, sym, ap, ◌∙◌, subst}
use mathlib.Core.Bool.{Bool, true, false, cond}
use mathlib.Core.List.{List}
use Prim.Native.Nat.{ℕ, ◌+◌, ◌≤◌, ◌<◌}
use native.Mathlib.Omega.{arith}
use lib.Dec.{ltb}
use lib.ListN.{length, take, drop, length-take}
use lib.Seq.{sets, sets-eq, take_at}
use borrow.Author.Tests.{ltb-true, ltb-false}
use Rattle.wire.specs.Frame.{command_of, frame, sendable}
use Rattle.wire.specs.declared.Way.TheVariants.{ToDevice, ToTill}
use Rattle.reader.specs.Reading.{outside, inside}
use Rattle.reader.specs.Fields.{place_of, reader_of, kept_in}
use Rattle.reader.specs.declared.Reader.{Reader}
use Rattle.reader.proofs.RoundTrip.{frame_size}
use Rattle.reader.proofs.Running.{bytes_of, place_back, read_room}
use Rattle.till.specs.Words.{number_of}
use Rattle.till.specs.Turns.{Ear, Pending, idle, waits, State, fresh_state, Happening, command, byte, timeout, Turn, stays, sent, Meaning, failed, goes_on, answers, byte_means, on_meaning}
use Rattle.till.specs.Fields.{ear_in, pending_of, state_of, till_of, framed, held_in, refused, said_of, turn_of}
use Rattle.attempts.specs.Promises.{Bytes}
use Rattle.till.specs.Private.{failed_by, heard_by, sent_by}
use Rattle.till.specs.declared.Attempt.{Attempt}
use Rattle.std.proofs.Common.{Option, Some, None}
use Rattle.till.specs.declared.Till.{Till}
use Rattle.till.specs.declared.Word.{Word}
use Rattle.till.specs.declared.Word.TheVariants.{Idle, TooShort, NotSent}
use Rattle.till.proofs.Outer.{read_same, framed_same, not_refused, too_short, byte_idle, byte_held, timeout_idle, timeout_held, command_free, command_held}
use Rattle.till.proofs.Turning.{fails_by}
use Rattle.attempts.proofs.Seeing.{goes_on_lem}

-- what stands in the arrays has room there
abbrev Roomy : Pending → Type 0
Roomy idle = Unit {0}
Roomy (waits seq code bytes tries ear) = (length bytes ≤ 256) × (length (bytes_of ear.place) ≤ 256)

place_few : (r : Reader) (array : List ℕ) → length (bytes_of (place_of r array)) ≤ r.count
place_few r array = go r.inside
  where
    go : (within : Bool) → length (bytes_of (cond within (inside r.sum (take r.count array)) outside)) ≤ r.count
    go true = omega (arith, length-take r.count array)
    go false = omega arith

-- a command that waits
module _ (next : ℕ) (a : Attempt) (frame-in answer-in : List ℕ) (small : (a.count < 256) × (a.ear.reader.count < 256)) where
  abbrev held : List ℕ
  held = take a.count frame-in

  abbrev at : Ear
  at = ear_in a.ear answer-in

  held-few : length held ≤ 256
  held-few = omega (arith, length-take a.count frame-in, small.0)

  roomy-failed : Roomy (on_meaning next a.seq a.code held a.tries failed).state.pending
  roomy-failed = go (ltb a.tries 5)
    where
      go : (s : Bool) → Roomy (fails_by next a.seq a.code held a.tries s).state.pending
      go true = (held-few, omega arith)
      go false = tt

  roomy-byte : (b : ℕ) (x : Meaning) → byte_means a.seq a.code at b ≡ x → Roomy (on_meaning next a.seq a.code held a.tries x).state.pending
  roomy-byte b failed e = roomy-failed
  roomy-byte b (goes_on q) e =
      (held-few, omega (arith, ap (λ (z : Ear). length (bytes_of z.place)) (goes_on_lem a.seq a.code at b q e), read_room ToTill at.place b, place_few a.ear.reader answer-in, small.1))
  roomy-byte b (answers m) e = tt

made : (s : State) (frame answer : List ℕ) → length frame ≡ 256 → length answer ≡ 256 → Roomy s.pending
    → state_of (till_of s) (framed frame s.pending) (held_in answer s.pending) ≡ s
made s frame answer sf sa roomy = go s.pending roomy
  where
    go : (p : Pending) → Roomy p → state_of (till_of (record { next = s.next; pending = p })) (framed frame p) (held_in answer p) ≡ record { next = s.next; pending = p }
    go idle h = refl
    go (waits seq code bytes tries ear) h =
        let held : take (length bytes) (sets frame 0 bytes) ≡ bytes =
        ap (take (length bytes)) (sets-eq bytes frame 0 (omega (arith, h.0))) ∙ take_at bytes (drop (0 + length bytes) frame) (length bytes) refl in
        let read_back : place_of (reader_of ear.place) (kept_in answer ear.place) ≡ ear.place = place_back answer ear.place (omega (arith, h.1)) in
        λ i. record { next = s.next; pending = waits seq code (held i) tries (record { place = read_back i }) }

module _ (t : Till) (frame-in answer-in : List ℕ) (sf : length frame-in ≡ 256) (sa : length answer-in ≡ 256) (bytes-in : Bytes t.slot) where
  abbrev Follows : Turn → Type 0
  Follows x = state_of (said_of t x).till (framed frame-in x.state.pending) (held_in answer-in x.state.pending) ≡ x.state

  follows-stays : (word : Word) → refused (number_of word) ≡ true → Follows (stays word (state_of t frame-in answer-in))
  follows-stays word e =
      ap (λ r. state_of (cond r t (till_of (state_of t frame-in answer-in))) (framed frame-in (pending_of t.slot frame-in answer-in)) (held_in answer-in (pending_of t.slot frame-in answer-in))) e
      ∙ ap (λ z. state_of t z (held_in answer-in (pending_of t.slot frame-in answer-in))) (sym (framed_same t.slot frame-in answer-in))
      ∙ ap (λ z. state_of t frame-in z) (sym (read_same t.slot frame-in answer-in))

  follows-made : (x : Turn) → refused (number_of x.word) ≡ false → Roomy x.state.pending → Follows x
  follows-made x e roomy =
      ap (λ r. state_of (cond r t (till_of x.state)) (framed frame-in x.state.pending) (held_in answer-in x.state.pending)) e
      ∙ made x.state frame-in answer-in sf sa roomy

  -- each kind of turn
  module _ (buf : List ℕ) (big : 210 ≤ length buf) where
    free-sent : (code : ℕ) (content : List ℕ) → t.slot ≡ None → Follows (sent_by t.next code content)
    free-sent code content e = go (sendable ToDevice (command_of t.next code content)) refl
      where
        go : (s : Bool) → sendable ToDevice (command_of t.next code content) ≡ s
            → Follows (cond s (sent t.next (command_of t.next code content)) (stays NotSent (record { next = t.next; pending = idle })))
        go true es =
            follows-made (sent t.next (command_of t.next code content)) refl
            (omega (arith, (frame_size ToDevice (command_of t.next code content) es).1), omega arith)
        go false es = ap (λ z. record { next = t.next; pending = pending_of z frame-in answer-in }) e

    free : t.slot ≡ None → (h : Happening) → Follows (turn_of t frame-in answer-in buf h)
    free e (command code content) = subst Follows (sym (command_free t frame-in answer-in buf big code content e)) (free-sent code content e)
    free e (byte b) = subst Follows (sym (byte_idle t frame-in answer-in buf big b e))
        (follows-made (stays Idle (state_of t frame-in answer-in)) refl (subst (λ z. Roomy (pending_of z frame-in answer-in)) (sym e) tt))
    free e timeout = subst Follows (sym (timeout_idle t frame-in answer-in buf big e))
        (follows-made (stays Idle (state_of t frame-in answer-in)) refl (subst (λ z. Roomy (pending_of z frame-in answer-in)) (sym e) tt))

    waiting : (a : Attempt) → t.slot ≡ Some a → (a.count < 256) × (a.ear.reader.count < 256) → (h : Happening) → Follows (turn_of t frame-in answer-in buf h)
    waiting a e small (command code content) = subst Follows (sym (command_held t frame-in answer-in buf big code content a e)) (follows-stays NotSent refl)
    waiting a e small (byte b) =
        let means : Meaning = byte_means a.seq a.code (ear_in a.ear answer-in) b in
        subst Follows (sym (byte_held t frame-in answer-in buf big b a e))
        (follows-made (heard_by t.next a frame-in answer-in b) (not_refused t.next a.seq a.code (take a.count frame-in) a.tries means)
        (roomy-byte t.next a frame-in answer-in small b means refl))
    waiting a e small timeout =
        subst Follows (sym (timeout_held t frame-in answer-in buf big a e))
        (follows-made (failed_by t.next a frame-in) (not_refused t.next a.seq a.code (take a.count frame-in) a.tries failed)
        (roomy-failed t.next a frame-in answer-in small))

  -- the theorem: the fields and arrays that a turn leaves say the state that it leaves
  pub fields_follow : (buf : List ℕ) (h : Happening)
      → let x = turn_of t frame-in answer-in buf h in
      state_of (said_of t x).till (framed frame-in x.state.pending) (held_in answer-in x.state.pending) ≡ x.state
  fields_follow buf h = go (ltb (length buf) 210) refl
    where
      by : 210 ≤ length buf → (z : Option Attempt) → t.slot ≡ z → Bytes z → Follows (turn_of t frame-in answer-in buf h)
      by big None e small = free buf big e h
      by big (Some a) e small = waiting buf big a e small h

      go : (s : Bool) → ltb (length buf) 210 ≡ s → Follows (turn_of t frame-in answer-in buf h)
      go true e = subst Follows (sym (too_short t frame-in answer-in buf h (ltb-true (length buf) 210 e))) (follows-stays TooShort refl)
      go false e = by (ltb-false (length buf) 210 e) t.slot refl bytes-in

-- and a fresh till end's say the fresh state, whatever the arrays hold
pub fresh_follows : (frame-in answer-in : List ℕ) → state_of (till_of fresh_state) frame-in answer-in ≡ fresh_state
fresh_follows frame-in answer-in = refl
