-- The state is what can be seen of the history.
use mathlib.Core.Path.{◌≡◌, refl, sym, ap, ◌∙◌, subst}
use mathlib.Core.Bool.{Bool, true, false, cond, ◌&&◌}
use mathlib.Core.List.{List, [], ◌∷◌, ◌++◌}
use Prim.Native.Nat.{ℕ, ◌+◌, ◌%◌, ◌<◌}
use native.Mathlib.Omega.{arith}
use native.Mathlib.Decide.{dec_lt}
use lib.Dec.{ltb, eqb}
use lib.ListN.{length, replicate, length-append, replicate-append-replicate}
use borrow.Author.Tests.{ltb-true, eqb-true, eqb-false}
use Rattle.wire.specs.Frame.{Message, command_of, frame, sendable}
use Rattle.wire.specs.Replies.{room}
use Rattle.wire.specs.declared.Way.TheVariants.{ToDevice, ToTill}
use Rattle.reader.specs.Reading.{outside, Event, nothing, broken_frame, heard, read, Run, run}
use Rattle.reader.proofs.Walking.{run_append}
use Rattle.till.specs.Turns.{Ear, fresh_ear, ear_after, Pending, idle, waits, State, fresh_state, seq_after, Happening, command, byte, timeout, Turn, stays, sent, Meaning, failed, goes_on, answers, read_as, nak_outside, byte_means, fails_try, on_meaning, on_command, takes}
use Rattle.attempts.specs.History.{LentEvent, says, behind, seq_of, Open, none, one, Seen, nothing_seen, noted, watch, watched}
use Rattle.attempts.specs.Promises.{Tried}
use Rattle.till.specs.declared.Word.TheVariants.{TooShort, NotSent}
use Rattle.till.proofs.Turning.{fails_by}

-- what the last try has heard, by the bytes since its frame was handed out
abbrev pub ear_seen : List ℕ → Ear
ear_seen bytes = record { place = (run ToTill outside bytes).place }

-- the state that was seen
abbrev pub pending_seen : Open → Pending
pending_seen none = idle
pending_seen (one m frames bytes) = waits m.seq m.code (frame ToDevice m) (length frames) (ear_seen bytes)

abbrev pub state_seen : Seen → State
state_seen seen = record { next = seq_of seen.commands; pending = pending_seen seen.last }

-- and what is known of it
abbrev pub Sound : Open → Type 0
Sound none = Unit {0}
Sound (one m frames bytes) = Tried m frames

-- SEQ goes round
seq_up : (k : ℕ) → seq_after (seq_of k) ≡ seq_of (k + 1)
seq_up k = go (eqb (seq_of k) 0xFF) refl
  where
    go : (s : Bool) → eqb (seq_of k) 0xFF ≡ s → cond s 0x20 (seq_of k + 1) ≡ seq_of (k + 1)
    go true e = omega (arith, eqb-true (seq_of k) 0xFF e)
    go false e = by (dec_lt (k % 224) 223)
      where
        by : Dec (k % 224 < 223) → seq_of k + 1 ≡ seq_of (k + 1)
        by (yes h) = omega arith
        by (no h) = absurd (eqb-false (seq_of k) 0xFF e (omega arith))

-- a byte that goes on is read
pub goes_on_lem : (seq code : ℕ) (ear : Ear) (b : ℕ) (q : Ear) → byte_means seq code ear b ≡ goes_on q → q ≡ ear_after ear b
goes_on_lem seq code ear b q = go (nak_outside ear.place b) (read ToTill ear.place b).event
  where
    go : (n : Bool) (e : Event) → cond n failed (read_as seq code b (ear_after ear b) e) ≡ goes_on q → q ≡ ear_after ear b
    go true e h = let z : ◌≡◌ {A = ℕ} 0 1 = cc in absurd (omega arith)
    go false nothing h = cc
    go false broken_frame h = by (eqb b 0x01) h
      where
        by : (s : Bool) → cond s (goes_on (ear_after ear b)) failed ≡ goes_on q → q ≡ ear_after ear b
        by true h = cc
        by false h = let z : ◌≡◌ {A = ℕ} 0 1 = cc in absurd (omega arith)
    go false (heard m) h = by (eqb m.seq seq && eqb m.code code) h
      where
        by : (s : Bool) → cond s (answers m) failed ≡ goes_on q → q ≡ ear_after ear b
        by true h = let z : ◌≡◌ {A = ℕ} 0 1 = cc in absurd (omega arith)
        by false h = let z : ◌≡◌ {A = ℕ} 0 1 = cc in absurd (omega arith)

-- one byte more of a run
ear_more : (bytes : List ℕ) (b : ℕ) → ear_seen (bytes ++ b ∷ []) ≡ ear_after (ear_seen bytes) b
ear_more bytes b = ap (λ (r : Run). record { place = r.place }) (run_append ToTill outside bytes (b ∷ []))

-- what a turn leaves is what is seen of it
abbrev Good : Seen → Happening → Turn → Type 0
Good seen h t = (t.state ≡ state_seen (noted seen h t)) × Sound (noted seen h t).last

module _ (k : ℕ) (m : Message) (frames : List (List ℕ)) (bytes : List ℕ) (tried : Tried m frames) where
  abbrev here : Seen
  here = record { commands = k; last = one m frames bytes }

  abbrev bytes_out : List ℕ
  bytes_out = frame ToDevice m

  one_more_lem : length frames + 1 ≡ length (frames ++ bytes_out ∷ [])
  one_more_lem = omega (arith, length-append frames (bytes_out ∷ []))

  same-again : frames ++ bytes_out ∷ [] ≡ replicate (length (frames ++ bytes_out ∷ [])) bytes_out
  same-again =
      ap (λ z. z ++ bytes_out ∷ []) tried.same ∙ replicate-append-replicate (length frames) 1 bytes_out
      ∙ ap (λ j. replicate j bytes_out) one_more_lem

  fails-good : (h : Happening) → Good here h (fails_try (seq_of k) m.seq m.code bytes_out (length frames))
  fails-good h = go (ltb (length frames) 5) refl
    where
      go : (s : Bool) → ltb (length frames) 5 ≡ s
          → Good here h (fails_by (seq_of k) m.seq m.code bytes_out (length frames) s)
      go true e = (
        ap (λ j. record { next = seq_of k; pending = waits m.seq m.code bytes_out j fresh_ear }) one_more_lem,
        record { can = tried.can; same = same-again; some = omega (arith, one_more_lem); few = omega (arith, one_more_lem, ltb-true (length frames) 5 e) },
      )
      go false e = (refl, tt)

  byte-good : (b : ℕ) → Good here (byte b) (on_meaning (seq_of k) m.seq m.code bytes_out (length frames) (byte_means m.seq m.code (ear_seen bytes) b))
  byte-good b = go (byte_means m.seq m.code (ear_seen bytes) b) refl
    where
      go : (x : Meaning) → byte_means m.seq m.code (ear_seen bytes) b ≡ x
          → Good here (byte b) (on_meaning (seq_of k) m.seq m.code bytes_out (length frames) x)
      go failed e = fails-good (byte b)
      go (goes_on q) e = (
        ap (λ z. record { next = seq_of k; pending = waits m.seq m.code bytes_out (length frames) z })
            (goes_on_lem m.seq m.code (ear_seen bytes) b q e ∙ sym (ear_more bytes b)),
        tried,
      )
      go (answers a) e = (refl, tt)

-- a command, where none waits
sent_good : (k code : ℕ) (content : List ℕ)
    → Good (record { commands = k; last = none }) (command code content) (on_command (record { next = seq_of k; pending = idle }) idle code content)
sent_good k code content = go (sendable ToDevice (command_of (seq_of k) code content)) refl
  where
    go : (s : Bool) → sendable ToDevice (command_of (seq_of k) code content) ≡ s
        → Good (record { commands = k; last = none }) (command code content)
        (cond s (sent (seq_of k) (command_of (seq_of k) code content)) (stays NotSent (record { next = seq_of k; pending = idle })))
    go true e = (
      ap (λ z. record { next = z; pending = waits (seq_of k) code (frame ToDevice (command_of (seq_of k) code content)) 1 fresh_ear }) (seq_up k),
      record { can = e; same = refl; some = omega arith; few = omega arith },
    )
    go false e = (refl, tt)

takes_good : (seen : Seen) (h : Happening) → Sound seen.last → Good seen h (takes (state_seen seen) h)
takes_good seen h sound = go seen.commands seen.last sound h
  where
    go : (k : ℕ) (o : Open) → Sound o → (h : Happening) → Good (record { commands = k; last = o }) h (takes (state_seen (record { commands = k; last = o })) h)
    go k none s (command code content) = sent_good k code content
    go k none s (byte b) = (refl, tt)
    go k none s timeout = (refl, tt)
    go k (one m frames bytes) s (command code content) = (refl, s)
    go k (one m frames bytes) s (byte b) = byte-good k m frames bytes s b
    go k (one m frames bytes) s timeout = fails-good k m frames bytes s timeout

pub turn_good : (seen : Seen) (l : LentEvent) → Sound seen.last → Good seen l.happens (says (state_seen seen) l)
turn_good seen l sound = go (ltb l.size (room ToDevice))
  where
    go : (s : Bool) → Good seen l.happens (cond s (stays TooShort (state_seen seen)) (takes (state_seen seen) l.happens))
    go true = (refl, sound)
    go false = takes_good seen l.happens sound

-- the till end behind any list of events is in the state that was seen
seen_behind : (ls : List LentEvent) (seen : Seen) → Sound seen.last
    → (behind (state_seen seen) ls ≡ state_seen (watch seen (state_seen seen) ls)) × Sound (watch seen (state_seen seen) ls).last
seen_behind [] seen sound = (refl, sound)
seen_behind (l ∷ ls) seen sound =
    let good = turn_good seen l sound in
    let next : Seen = noted seen l.happens (says (state_seen seen) l) in
    subst (λ (z : State). (behind z ls ≡ state_seen (watch next z ls)) × Sound (watch next z ls).last) (sym good.0) (seen_behind ls next good.1)

pub state_seen_lem : (ls : List LentEvent) → behind fresh_state ls ≡ state_seen (watched ls)
state_seen_lem ls = (seen_behind ls nothing_seen tt).0

pub sound_seen : (ls : List LentEvent) → Sound (watched ls).last
sound_seen ls = (seen_behind ls nothing_seen tt).1
