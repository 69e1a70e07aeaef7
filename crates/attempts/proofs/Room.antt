-- What is put in the lent buffer always has room there.
use mathlib.Core.Path.{◌≡◌, refl, sym, subst}
use mathlib.Core.Bool.{Bool, true, false, cond}
use mathlib.Core.List.{List}
use Prim.Native.Nat.{ℕ, ◌≤◌}
use native.Mathlib.Omega.{arith}
use lib.Dec.{ltb}
use lib.ListN.{length, length-append}
use Rattle.wire.specs.Frame.{Message, command_of, frame, sendable}
use Rattle.wire.specs.Replies.{room}
use Rattle.wire.specs.declared.Way.TheVariants.{ToDevice, ToTill}
use Rattle.reader.proofs.RoundTrip.{parts, frame_size}
use Rattle.reader.proofs.History.{built_is_all_that_is_read}
use Rattle.till.specs.Turns.{idle, State, fresh_state, Happening, command, byte, timeout, stays, sent, Meaning, failed, goes_on, answers, byte_means, fails_try, on_meaning, on_command, takes}
use Rattle.attempts.specs.History.{LentEvent, says, behind, seq_of, Open, none, one, Seen, watched}
use Rattle.attempts.specs.Promises.{Tried}
use Rattle.till.specs.declared.Word.TheVariants.{TooShort, NotSent}
use Rattle.attempts.proofs.Answers.{answers_heard}
use Rattle.till.proofs.Turning.{fails_by}
use Rattle.attempts.proofs.Seeing.{ear_seen, state_seen, Sound, state_seen_lem, sound_seen}

failed_few : (next seq code : ℕ) (bytes : List ℕ) (tries : ℕ) → length bytes ≤ 210 → length (fails_try next seq code bytes tries).puts ≤ 210
failed_few next seq code bytes tries few = go (ltb tries 5)
  where
    go : (s : Bool) → length (fails_by next seq code bytes tries s).puts ≤ 210
    go true = few
    go false = omega arith

sent_few : (k code : ℕ) (content : List ℕ) → length (on_command (record { next = seq_of k; pending = idle }) idle code content).puts ≤ 210
sent_few k code content = go (sendable ToDevice (command_of (seq_of k) code content)) refl
  where
    go : (s : Bool) → sendable ToDevice (command_of (seq_of k) code content) ≡ s
        → length (cond s (sent (seq_of k) (command_of (seq_of k) code content)) (stays NotSent (record { next = seq_of k; pending = idle }))).puts ≤ 210
    go true e = (frame_size ToDevice (command_of (seq_of k) code content) e).1
    go false e = omega arith

byte_few : (k : ℕ) (m : Message) (frames : List (List ℕ)) (since : List ℕ) (b : ℕ) → Tried m frames → (x : Meaning)
    → byte_means m.seq m.code (ear_seen since) b ≡ x
    → length (on_meaning (seq_of k) m.seq m.code (frame ToDevice m) (length frames) x).puts ≤ 210
byte_few k m frames since b tried failed e = failed_few (seq_of k) m.seq m.code (frame ToDevice m) (length frames) (frame_size ToDevice m tried.can).1
byte_few k m frames since b tried (goes_on ear) e = omega arith
byte_few k m frames since b tried (answers a) e =
    let h = answers_heard m.seq m.code (ear_seen since) b a e in
    let p = parts ToTill a (built_is_all_that_is_read ToTill since b a h.hears).0 in
    omega (arith, length-append a.content a.status, p.few, p.size)

few_seen : (seen : Seen) (l : LentEvent) → Sound seen.last → length (says (state_seen seen) l).puts ≤ 210
few_seen seen l sound = go (ltb l.size (room ToDevice))
  where
    taken : (o : Open) → Sound o → (h : Happening) → length (takes (state_seen (record { commands = seen.commands; last = o })) h).puts ≤ 210
    taken none s (command code content) = sent_few seen.commands code content
    taken none s (byte b) = omega arith
    taken none s timeout = omega arith
    taken (one m frames since) s (command code content) = omega arith
    taken (one m frames since) s (byte b) = byte_few seen.commands m frames since b s (byte_means m.seq m.code (ear_seen since) b) refl
    taken (one m frames since) s timeout = failed_few (seq_of seen.commands) m.seq m.code (frame ToDevice m) (length frames) (frame_size ToDevice m s.can).1

    go : (short : Bool) → length (cond short (stays TooShort (state_seen seen)) (takes (state_seen seen) l.happens)).puts ≤ 210
    go true = omega arith
    go false = taken seen.last sound l.happens

-- the theorem: over any history 210 bytes hold whatever is given back
pub room_enough : (ls : List LentEvent) (l : LentEvent) → length (says (behind fresh_state ls) l).puts ≤ 210
room_enough ls l = subst (λ (s : State). length (says s l).puts ≤ 210) (sym (state_seen_lem ls)) (few_seen (watched ls) l (sound_seen ls))
