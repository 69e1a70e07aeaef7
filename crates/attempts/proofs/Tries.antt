-- Tries are frames handed out; a command ends once, and five failed tries end it.
use mathlib.Core.Path.{◌≡◌, refl, sym, ap, ◌∙◌, subst}
use mathlib.Core.Bool.{Bool, true, false, cond, ◌&&◌, false≢true}
use mathlib.Core.List.{List, [], ◌∷◌, ◌++◌}
use mathlib.Core.Logic.{◌⊎◌, ⊎_elim, inl, inr}
use Prim.Native.Nat.{ℕ, ◌+◌, ◌≤◌, ◌<◌}
use native.Mathlib.Nat.{add-zero}
use native.Mathlib.Omega.{arith}
use lib.Dec.{ltb, leb}
use lib.ListN.{length, replicate}
use borrow.Author.Tests.{ltb-true, ltb-false, lt-ltb, le-ltb, le-leb}
use Rattle.wire.specs.Bytes.{may_stand, every}
use Rattle.wire.specs.Frame.{Message, command_of, frame, sendable}
use Rattle.wire.specs.Replies.{room}
use Rattle.wire.specs.declared.Way.TheVariants.{ToDevice}
use Rattle.wire.specs.declared.Role.TheVariants.{Name as SeqOrCmd, Data}
use Rattle.wire.proofs.Building.{sendable_command}
use Rattle.till.specs.Turns.{Ear, fresh_ear, Pending, idle, waits, State, fresh_state, Happening, command, byte, timeout, Turn, stays, sent, Meaning, failed, goes_on, answers, byte_means, fails_try, on_meaning, on_command, takes, hears}
use Rattle.attempts.specs.History.{LentEvent, says, behind, seq_of, Open, none, one, Seen, nothing_seen, on_word, noted, watch, watched, Mark, ended, marks_of, marks, alternate, ends, failure, failure_of, failures}
use Rattle.attempts.specs.Promises.{Tried, GivenUp}
use Rattle.till.specs.declared.Word.TheVariants.{Idle, Unfinished, TooShort, NotSent}
use Rattle.attempts.proofs.Answers.{none_idle}
use Rattle.till.proofs.Turning.{fails_by}
use Rattle.attempts.proofs.Seeing.{ear_seen, state_seen, Sound, state_seen_lem, sound_seen}

-- at every moment the frames handed out for the command that waits are its own, one to five
pub frames_same : (ls : List LentEvent) (m : Message) (frames : List (List ℕ)) (since : List ℕ) → (watched ls).last ≡ one m frames since → Tried m frames
frames_same ls m frames since e = subst Sound e (sound_seen ls)

given_failed : (k : ℕ) (m : Message) (frames : List (List ℕ)) (since : List ℕ) (n : ℕ) → Tried m frames
    → (fails_try (seq_of k) m.seq m.code (frame ToDevice m) (length frames)).word ≡ Unfinished n → GivenUp (record { commands = k; last = one m frames since }) n
given_failed k m frames since n tried = go (ltb (length frames) 5) refl
  where
    go : (s : Bool) → ltb (length frames) 5 ≡ s → (fails_by (seq_of k) m.seq m.code (frame ToDevice m) (length frames) s).word ≡ Unfinished n
        → GivenUp (record { commands = k; last = one m frames since }) n
    go true e w = let z : ◌≡◌ {A = ℕ} 0 1 = cc in absurd (omega arith)
    go false e w =
        let same : length frames ≡ n = cc in
        let five : length frames ≡ 5 = omega (arith, tried.few, ltb-false (length frames) 5 e) in
        record {
          waiting = m;
          frames = frames;
          since = since;
          waits = refl;
          count = sym same;
          five = sym same ∙ five;
          same = tried.same ∙ ap (λ j. replicate j (frame ToDevice m)) five;
        }

given_byte : (k : ℕ) (m : Message) (frames : List (List ℕ)) (since : List ℕ) (n : ℕ) → Tried m frames → (x : Meaning)
    → (on_meaning (seq_of k) m.seq m.code (frame ToDevice m) (length frames) x).word ≡ Unfinished n → GivenUp (record { commands = k; last = one m frames since }) n
given_byte k m frames since n tried failed w = given_failed k m frames since n tried w
given_byte k m frames since n tried (goes_on ear) w = let z : ◌≡◌ {A = ℕ} 0 1 = cc in absurd (omega arith)
given_byte k m frames since n tried (answers a) w = let z : ◌≡◌ {A = ℕ} 0 1 = cc in absurd (omega arith)

no_sent : (k code : ℕ) (content : List ℕ) (n : ℕ) → (on_command (record { next = seq_of k; pending = idle }) idle code content).word ≡ Unfinished n → ⊥
no_sent k code content n = go (sendable ToDevice (command_of (seq_of k) code content))
  where
    go : (s : Bool) → (cond s (sent (seq_of k) (command_of (seq_of k) code content)) (stays NotSent (record { next = seq_of k; pending = idle }))).word ≡ Unfinished n → ⊥
    go true e = let z : ◌≡◌ {A = ℕ} 0 1 = cc in omega arith
    go false e = let z : ◌≡◌ {A = ℕ} 0 1 = cc in omega arith

given_seen : (seen : Seen) (l : LentEvent) (n : ℕ) → Sound seen.last → (says (state_seen seen) l).word ≡ Unfinished n → GivenUp seen n
given_seen seen l n sound = go (ltb l.size (room ToDevice))
  where
    taken : (o : Open) → Sound o → (h : Happening) → (takes (state_seen (record { commands = seen.commands; last = o })) h).word ≡ Unfinished n
        → GivenUp (record { commands = seen.commands; last = o }) n
    taken none s (command code content) w = absurd (no_sent seen.commands code content n w)
    taken none s (byte b) w = let z : ◌≡◌ {A = ℕ} 0 1 = cc in absurd (omega arith)
    taken none s timeout w = let z : ◌≡◌ {A = ℕ} 0 1 = cc in absurd (omega arith)
    taken (one m frames since) s (command code content) w = let z : ◌≡◌ {A = ℕ} 0 1 = cc in absurd (omega arith)
    taken (one m frames since) s (byte b) w = given_byte seen.commands m frames since n s (byte_means m.seq m.code (ear_seen since) b) w
    taken (one m frames since) s timeout w = given_failed seen.commands m frames since n s w

    go : (s : Bool) → (cond s (stays TooShort (state_seen seen)) (takes (state_seen seen) l.happens)).word ≡ Unfinished n → GivenUp seen n
    go true w = let z : ◌≡◌ {A = ℕ} 0 1 = cc in absurd (omega arith)
    go false w = taken seen.last sound l.happens w

-- the theorem: Unfinished gives back how many times the command's frame was handed out, and that is five
pub unfinished_is_five : (ls : List LentEvent) (l : LentEvent) (n : ℕ) → (says (behind fresh_state ls) l).word ≡ Unfinished n → GivenUp (watched ls) n
unfinished_is_five ls l n =
    subst (λ (s : State). (says s l).word ≡ Unfinished n → GivenUp (watched ls) n) (sym (state_seen_lem ls)) (given_seen (watched ls) l n (sound_seen ls))

-- one event and the marks: a command is taken only where none waits, and ended only where one does
abbrev waiting_in : Pending → Bool
waiting_in idle = false
waiting_in (waits seq code bytes tries ear) = true

abbrev Fits : Pending → Happening → Turn → Type 0
Fits p h t = (ms : List Mark) → alternate (waiting_in p) (marks_of h t.word ++ ms) ≡ alternate (waiting_in t.state.pending) ms

fits_failed : (next seq code : ℕ) (bytes : List ℕ) (tries : ℕ) (ear : Ear) (h : Happening)
    → Fits (waits seq code bytes tries ear) h (fails_try next seq code bytes tries)
fits_failed next seq code bytes tries ear h = go (ltb tries 5)
  where
    go : (s : Bool) → Fits (waits seq code bytes tries ear) h (fails_by next seq code bytes tries s)
    go true ms = refl
    go false ms = refl

fits_byte : (next seq code : ℕ) (bytes : List ℕ) (tries : ℕ) (ear : Ear) (b : ℕ) (x : Meaning)
    → Fits (waits seq code bytes tries ear) (byte b) (on_meaning next seq code bytes tries x)
fits_byte next seq code bytes tries ear b failed ms = fits_failed next seq code bytes tries ear (byte b) ms
fits_byte next seq code bytes tries ear b (goes_on q) ms = refl
fits_byte next seq code bytes tries ear b (answers a) ms = refl

fits_sent : (next code : ℕ) (content : List ℕ) → Fits idle (command code content) (on_command (record { next = next; pending = idle }) idle code content)
fits_sent next code content = go (sendable ToDevice (command_of next code content))
  where
    go : (s : Bool) → Fits idle (command code content) (cond s (sent next (command_of next code content)) (stays NotSent (record { next = next; pending = idle })))
    go true ms = refl
    go false ms = refl

fits_takes : (next : ℕ) (p : Pending) (h : Happening) → Fits p h (takes (record { next = next; pending = p }) h)
fits_takes next idle (command code content) ms = fits_sent next code content ms
fits_takes next idle (byte b) ms = refl
fits_takes next idle timeout ms = refl
fits_takes next (waits seq code bytes tries ear) (command other content) ms = refl
fits_takes next (waits seq code bytes tries ear) (byte b) ms = fits_byte next seq code bytes tries ear b (byte_means seq code ear b) ms
fits_takes next (waits seq code bytes tries ear) timeout ms = fits_failed next seq code bytes tries ear timeout ms

fits_turn : (s : State) (l : LentEvent) → Fits s.pending l.happens (says s l)
fits_turn s l = go (ltb l.size (room ToDevice))
  where
    go : (short : Bool) → Fits s.pending l.happens (cond short (stays TooShort s) (takes s l.happens))
    go true ms = refl
    go false ms = fits_takes s.next s.pending l.happens ms

alternate_from : (ls : List LentEvent) (s : State) → alternate (waiting_in s.pending) (marks s ls) ≡ true
alternate_from [] s = refl
alternate_from (l ∷ ls) s = fits_turn s l (marks (says s l).state ls) ∙ alternate_from ls (says s l).state

-- the theorem: every command taken ends once, by Answered or Unfinished, before the next is taken; the last may still wait
pub each_ends_once : (ls : List LentEvent) → alternate false (marks fresh_state ls) ≡ true
each_ends_once ls = alternate_from ls fresh_state

-- between, no other command is taken: 8, and everything stays
pub none_between : (s : State) (seq sent_code : ℕ) (bytes : List ℕ) (tries : ℕ) (ear : Ear) → s.pending ≡ waits seq sent_code bytes tries ear
    → (size code : ℕ) (content : List ℕ) → 210 ≤ size → hears size s (command code content) ≡ stays NotSent s
none_between s seq sent_code bytes tries ear e size code content big =
    ap (λ short. cond short (stays TooShort s) (takes s (command code content))) (le-ltb size 210 big) ∙ ap (λ p. on_command s p code content) e

-- one event to a command that waits: it ends, or it waits on with one try more for each failed one
record Waits-on (next seq code : ℕ) (bytes : List ℕ) (tries failed-now : ℕ) (h : Happening) (t : Turn) : Type 0 where
  ear : Ear
  state : t.state ≡ record { next = next; pending = waits seq code bytes (tries + failed-now) ear }
  few : tries + failed-now ≤ 5
  quiet : marks_of h t.word ≡ []

abbrev Ends-or : (next seq code : ℕ) → List ℕ → ℕ → ℕ → Happening → Turn → Type 0
Ends-or next seq code bytes tries f h t = (marks_of h t.word ≡ ended ∷ []) ⊎ Waits-on next seq code bytes tries f h t

module _ (next seq code : ℕ) (bytes : List ℕ) (tries : ℕ) (few : tries ≤ 5) where
  abbrev same_tries : Ear → State
  same_tries ear = record { next = next; pending = waits seq code bytes tries ear }

  none-failed : (ear : Ear) → same_tries ear ≡ record { next = next; pending = waits seq code bytes (tries + 0) ear }
  none-failed ear = ap (λ j. record { next = next; pending = waits seq code bytes j ear }) (sym (add-zero tries))

  ends-failed : (h : Happening) → Ends-or next seq code bytes tries 1 h (fails_try next seq code bytes tries)
  ends-failed h = go (ltb tries 5) refl
    where
      go : (s : Bool) → ltb tries 5 ≡ s → Ends-or next seq code bytes tries 1 h (fails_by next seq code bytes tries s)
      go true e = inr (record { ear = fresh_ear; state = refl; few = omega (arith, ltb-true tries 5 e); quiet = refl })
      go false e = inl refl

  ends-byte : (b : ℕ) (x : Meaning) → Ends-or next seq code bytes tries (failure x) (byte b) (on_meaning next seq code bytes tries x)
  ends-byte b failed = ends-failed (byte b)
  ends-byte b (goes_on ear) = inr (record { ear = ear; state = none-failed ear; few = omega arith; quiet = refl })
  ends-byte b (answers a) = inl refl

  ends-takes : (ear : Ear) (h : Happening) → Ends-or next seq code bytes tries (failure_of (waits seq code bytes tries ear) h) h (takes (same_tries ear) h)
  ends-takes ear (command other content) = inr (record { ear = ear; state = none-failed ear; few = omega arith; quiet = refl })
  ends-takes ear (byte b) = ends-byte b (byte_means seq code ear b)
  ends-takes ear timeout = ends-failed timeout

  ends-turn : (ear : Ear) (l : LentEvent)
      → Ends-or next seq code bytes tries (cond (ltb l.size (room ToDevice)) 0 (failure_of (waits seq code bytes tries ear) l.happens)) l.happens (says (same_tries ear) l)
  ends-turn ear l = go (ltb l.size (room ToDevice))
    where
      go : (short : Bool) → Ends-or next seq code bytes tries (cond short 0 (failure_of (waits seq code bytes tries ear) l.happens)) l.happens
          (cond short (stays TooShort (same_tries ear)) (takes (same_tries ear) l.happens))
      go true = inr (record { ear = ear; state = none-failed ear; few = omega arith; quiet = refl })
      go false = ends-takes ear l.happens

-- and any list of events: it ends, or it waits on
pub record Waits-through (s : State) (ls : List LentEvent) (next seq code : ℕ) (bytes : List ℕ) (tries : ℕ) : Type 0 where
  pub ear : Ear
  pub state : behind s ls ≡ record { next = next; pending = waits seq code bytes (tries + failures s ls) ear }
  pub few : tries + failures s ls ≤ 5

pub waits_through : (ls : List LentEvent) (next seq code : ℕ) (bytes : List ℕ) (tries : ℕ) (ear : Ear) → tries ≤ 5
    → ends (marks (record { next = next; pending = waits seq code bytes tries ear }) ls) ≡ false
    → Waits-through (record { next = next; pending = waits seq code bytes tries ear }) ls next seq code bytes tries
waits_through [] next seq code bytes tries ear few e =
    record { ear = ear; state = none-failed next seq code bytes tries few ear; few = omega arith }
waits_through (l ∷ ls) next seq code bytes tries ear few e =
    ⊎_elim
    (λ over. absurd (false≢true (sym e ∙ ap (λ z. ends (z ++ marks (says s l).state ls)) over)))
    (λ on.
    let f : ℕ = cond (ltb l.size (room ToDevice)) 0 (failure_of (waits seq code bytes tries ear) l.happens) in
    let rest : Waits-through (says s l).state ls next seq code bytes (tries + f) =
    subst (λ (z : State). ends (marks z ls) ≡ false → Waits-through z ls next seq code bytes (tries + f)) (sym on.state)
    (waits_through ls next seq code bytes (tries + f) on.ear on.few)
    (sym (ap (λ z. ends (z ++ marks (says s l).state ls)) on.quiet) ∙ e) in
    let sum : tries + f + failures (says s l).state ls ≡ tries + (f + failures (says s l).state ls) = omega arith in
    record {
      ear = rest.ear;
      state = rest.state ∙ ap (λ j. record { next = next; pending = waits seq code bytes j rest.ear }) sum;
      few = omega (arith, rest.few);
    })
    (ends-turn next seq code bytes tries few ear l)
  where
    s : State
    s = record { next = next; pending = waits seq code bytes tries ear }

-- the theorem: a command whose frame was handed out once has ended once five tries have failed
pub five_failed_tries_end : (ls : List LentEvent) (s : State) (seq code : ℕ) (bytes : List ℕ) (ear : Ear) → s.pending ≡ waits seq code bytes 1 ear
    → 5 ≤ failures s ls → ends (marks s ls) ≡ true
five_failed_tries_end ls s seq code bytes ear e =
    subst (λ (p : Pending). 5 ≤ failures (record { next = s.next; pending = p }) ls → ends (marks (record { next = s.next; pending = p }) ls) ≡ true) (sym e)
    (go (ends (marks (record { next = s.next; pending = waits seq code bytes 1 ear }) ls)) refl)
  where
    go : (over : Bool) → ends (marks (record { next = s.next; pending = waits seq code bytes 1 ear }) ls) ≡ over
        → 5 ≤ failures (record { next = s.next; pending = waits seq code bytes 1 ear }) ls → over ≡ true
    go true h five = refl
    go false h five = absurd (omega (arith, (waits_through ls s.next seq code bytes 1 ear (omega arith) h).few))

-- where none waits, a command is taken exactly when its CMD and data may be sent: the SEQ always may
seq_may : (k : ℕ) → may_stand SeqOrCmd (seq_of k) ≡ true
seq_may k = ap (λ s. s && leb (seq_of k) 0xFF) (le-leb 0x20 (seq_of k) (omega arith)) ∙ le-leb (seq_of k) 0xFF (omega arith)

can_send : (k code : ℕ) (content : List ℕ)
    → sendable ToDevice (command_of (seq_of k) code content) ≡ (may_stand SeqOrCmd code && leb (length content) 200 && every (may_stand Data) content)
can_send k code content =
    sendable_command (seq_of k) code content
    ∙ ap (λ s. s && may_stand SeqOrCmd code && leb (length content) 200 && every (may_stand Data) content) (seq_may k)

pub taken_exactly : (ls : List LentEvent) (size code : ℕ) (content : List ℕ) → 210 ≤ size → (watched ls).last ≡ none
    → hears size (behind fresh_state ls) (command code content)
    ≡ cond (may_stand SeqOrCmd code && leb (length content) 200 && every (may_stand Data) content)
    (sent (seq_of (watched ls).commands) (command_of (seq_of (watched ls).commands) code content)) (stays NotSent (behind fresh_state ls))
taken_exactly ls size code content big e =
    subst (λ (s : State). hears size s (command code content) ≡ cond fits (sent (seq_of k) (command_of (seq_of k) code content)) (stays NotSent s)) (sym (state_seen_lem ls))
    (ap (λ short. cond short (stays TooShort (state_seen (watched ls))) (takes (state_seen (watched ls)) (command code content))) (le-ltb size 210 big)
    ∙ subst (λ (o : Open). takes (state_seen (record { commands = k; last = o })) (command code content)
    ≡ cond fits (sent (seq_of k) (command_of (seq_of k) code content)) (stays NotSent (state_seen (record { commands = k; last = o })))) (sym e)
    (ap (λ s. cond s (sent (seq_of k) (command_of (seq_of k) code content)) (stays NotSent (state_seen (record { commands = k; last = none })))) (can_send k code content)))
  where
    k : ℕ
    k = (watched ls).commands

    fits : Bool
    fits = may_stand SeqOrCmd code && leb (length content) 200 && every (may_stand Data) content

-- what is seen with one event more
watch_snoc : (ls : List LentEvent) (seen : Seen) (s : State) (l : LentEvent) → watch seen s (ls ++ l ∷ []) ≡ noted (watch seen s ls) l.happens (says (behind s ls) l)
watch_snoc [] seen s l = refl
watch_snoc (x ∷ ls) seen s l = watch_snoc ls (noted seen x.happens (says s x)) (says s x).state l

-- behind Unfinished no command waits
pub unfinished_over : (ls : List LentEvent) (l : LentEvent) (n : ℕ) → (says (behind fresh_state ls) l).word ≡ Unfinished n → (watched (ls ++ l ∷ [])).last ≡ none
unfinished_over ls l n e =
    ap (λ (z : Seen). z.last) (watch_snoc ls nothing_seen fresh_state l)
    ∙ ap (λ w. (on_word (watched ls) l.happens w (says (behind fresh_state ls) l).puts).last) e

-- so an answer that comes after the fifth failed try is heard by nobody
pub too_late : (ls : List LentEvent) (l : LentEvent) (n : ℕ) → (says (behind fresh_state ls) l).word ≡ Unfinished n → (size b : ℕ) → 210 ≤ size
    → says (behind fresh_state (ls ++ l ∷ [])) (record { size = size; happens = byte b }) ≡ stays Idle (behind fresh_state (ls ++ l ∷ []))
too_late ls l n e size b big =
    none_idle (ls ++ l ∷ []) size (byte b) (unfinished_over ls l n e) big (λ code content q. let z : ◌≡◌ {A = ℕ} 0 1 = cc in omega arith)

-- 7 comes before all else, and changes nothing
pub short_first : (s : State) (size : ℕ) (h : Happening) → size < 210 → hears size s h ≡ stays TooShort s
short_first s size h e = ap (λ short. cond short (stays TooShort s) (takes s h)) (lt-ltb size 210 e)
