-- Answered exactly when a whole answer with the SEQ and CMD waiting came since the last frame was handed out.
use Rattle.std.proofs.lemmas.Bool.{and_parts}
use mathlib.Core.Path.{◌≡◌, refl, sym, ap, ◌∙◌, subst}
use mathlib.Core.Bool.{Bool, true, false, cond, ◌&&◌}
use mathlib.Core.List.{List, [], ◌∷◌, ◌++◌, append_assoc}
use Prim.Native.Nat.{ℕ, ◌+◌, ◌≤◌}
use native.Mathlib.Omega.{arith}
use lib.Dec.{ltb, eqb}
use lib.ListN.{length, replicate}
use borrow.Author.Tests.{ltb-false, le-ltb, eqb-true, eq-eqb}
use Rattle.wire.specs.Frame.{Message, command_of, frame, inner, sendable}
use Rattle.wire.specs.Replies.{room}
use Rattle.wire.specs.declared.Way.TheVariants.{ToDevice, ToTill}
use Rattle.reader.specs.Reading.{Place, outside, Event, nothing, broken_frame, heard, read, Run, run, starts_anew}
use Rattle.reader.proofs.Walking.{run_append}
use Rattle.reader.proofs.RoundTrip.{read_what_was_built}
use Rattle.reader.proofs.History.{built_is_all_that_is_read}
use Rattle.till.specs.Turns.{Ear, ear_after, idle, State, fresh_state, Happening, command, byte, timeout, Turn, stays, gives, Meaning, failed, goes_on, answers, read_as, nak_outside, byte_means, fails_try, on_meaning, on_command, takes, sent}
use Rattle.attempts.specs.History.{LentEvent, says, behind, seq_of, Open, none, one, Seen, watched}
use Rattle.attempts.specs.Promises.{Came}
use Rattle.till.specs.declared.Word.TheVariants.{Idle, Answered, TooShort, NotSent}
use Rattle.till.proofs.Hearing.{heard_from}
use Rattle.till.proofs.Turning.{fails_by}
use Rattle.attempts.proofs.Seeing.{ear_seen, state_seen, state_seen_lem}

-- a byte that answers was heard as a whole answer that matches
pub record Matches (seq code : ℕ) (ear : Ear) (b : ℕ) (a : Message) : Type 0 where
  pub hears : (read ToTill ear.place b).event ≡ heard a
  pub seq_is : a.seq ≡ seq
  pub code_is : a.code ≡ code

pub answers_heard : (seq code : ℕ) (ear : Ear) (b : ℕ) (a : Message) → byte_means seq code ear b ≡ answers a → Matches seq code ear b a
answers_heard seq code ear b a = go (nak_outside ear.place b) (read ToTill ear.place b).event refl
  where
    go : (n : Bool) (e : Event) → (read ToTill ear.place b).event ≡ e → cond n failed (read_as seq code b (ear_after ear b) e) ≡ answers a → Matches seq code ear b a
    go true e r h = let z : ◌≡◌ {A = ℕ} 0 1 = cc in absurd (omega arith)
    go false nothing r h = let z : ◌≡◌ {A = ℕ} 0 1 = cc in absurd (omega arith)
    go false broken_frame r h = by (eqb b 0x01) h
      where
        by : (s : Bool) → cond s (goes_on (ear_after ear b)) failed ≡ answers a → Matches seq code ear b a
        by true h = let z : ◌≡◌ {A = ℕ} 0 1 = cc in absurd (omega arith)
        by false h = let z : ◌≡◌ {A = ℕ} 0 1 = cc in absurd (omega arith)
    go false (heard m) r h = by (eqb m.seq seq && eqb m.code code) refl h
      where
        by : (s : Bool) → eqb m.seq seq && eqb m.code code ≡ s → cond s (answers m) failed ≡ answers a → Matches seq code ear b a
        by true t h =
            let same : m ≡ a = cc in
            let tests = and_parts (eqb m.seq seq) (eqb m.code code) t in
            record {
              hears = r ∙ ap heard same;
              seq_is = ap (λ (z : Message). z.seq) (sym same) ∙ eqb-true m.seq seq tests.0;
              code_is = ap (λ (z : Message). z.code) (sym same) ∙ eqb-true m.code code tests.1;
            }
        by false t h = let z : ◌≡◌ {A = ℕ} 0 1 = cc in absurd (omega arith)

-- and the other way round
pub heard_answers : (seq code : ℕ) (ear : Ear) (b : ℕ) (a : Message) → Matches seq code ear b a → byte_means seq code ear b ≡ answers a
heard_answers seq code ear b a h =
    let f = heard_from ToTill ear.place b a h.hears in
    let no-nak : nak_outside ear.place b ≡ false = ap (λ z. nak_outside z b) f.was in
    ap (λ n. cond n failed (read_as seq code b (ear_after ear b) (read ToTill ear.place b).event)) no-nak
    ∙ ap (read_as seq code b (ear_after ear b)) h.hears
    ∙ ap (λ s. cond (s && eqb a.code code) (answers a) failed) (eq-eqb a.seq seq h.seq_is)
    ∙ ap (λ s. cond s (answers a) failed) (eq-eqb a.code code h.code_is)

-- the last of a list
abbrev last_of : {A : Type 0} → A → List A → A
last_of d [] = d
last_of d (x ∷ xs) = last_of x xs

last_snoc : {A : Type 0} (d : A) (xs : List A) (x : A) → last_of d (xs ++ x ∷ []) ≡ x
last_snoc d [] x = refl
last_snoc d (y ∷ xs) x = last_snoc y xs x

-- bytes that end with an answer's frame bring that answer with their last
pub brings : (since : List ℕ) (b : ℕ) (before : List ℕ) (a : Message) → sendable ToTill a ≡ true → since ++ b ∷ [] ≡ before ++ frame ToTill a
    → (read ToTill (run ToTill outside since).place b).event ≡ heard a
brings since b before a can e =
    let p : Place = (run ToTill outside before).place in
    let left = ap (λ (r : Run). r.events) (run_append ToTill outside since (b ∷ [])) in
    let right = ap (λ (r : Run). r.events) (run_append ToTill outside before (frame ToTill a)) in
    let built = ap (λ (r : Run). r.events) (read_what_was_built ToTill a can p) in
    let quiet : List Event = starts_anew p ∷ replicate (length (inner ToTill a) + 8) nothing in
    sym (last_snoc nothing (run ToTill outside since).events (read ToTill (run ToTill outside since).place b).event)
    ∙ ap (last_of nothing) (sym left ∙ ap (λ z. (run ToTill outside z).events) e ∙ right ∙ ap (λ z. (run ToTill outside before).events ++ z) built ∙ sym (append_assoc (run ToTill outside before).events quiet (heard a ∷ [])))
    ∙ last_snoc nothing ((run ToTill outside before).events ++ quiet) (heard a)

-- one event, seen from outside
abbrev ToTill-came : Seen → LentEvent → Turn → ℕ → Type 0
ToTill-came seen l t n = (c : Came seen l) × ((t.puts ≡ c.answer.content ++ c.answer.status) × (n ≡ length t.puts))

no_failed : (next seq code : ℕ) (bytes : List ℕ) (tries n : ℕ) → (fails_try next seq code bytes tries).word ≡ Answered n → ⊥
no_failed next seq code bytes tries n = go (ltb tries 5)
  where
    go : (s : Bool) → (fails_by next seq code bytes tries s).word ≡ Answered n → ⊥
    go true e = let z : ◌≡◌ {A = ℕ} 0 1 = cc in omega arith
    go false e = let z : ◌≡◌ {A = ℕ} 0 1 = cc in omega arith

no_sent : (k code : ℕ) (content : List ℕ) (n : ℕ) → (on_command (record { next = seq_of k; pending = idle }) idle code content).word ≡ Answered n → ⊥
no_sent k code content n = go (sendable ToDevice (command_of (seq_of k) code content))
  where
    go : (s : Bool) → (cond s (sent (seq_of k) (command_of (seq_of k) code content)) (stays NotSent (record { next = seq_of k; pending = idle }))).word ≡ Answered n → ⊥
    go true e = let z : ◌≡◌ {A = ℕ} 0 1 = cc in omega arith
    go false e = let z : ◌≡◌ {A = ℕ} 0 1 = cc in omega arith

-- a byte to a command that waits
byte_came : (k : ℕ) (m : Message) (frames : List (List ℕ)) (since : List ℕ) (size b n : ℕ) → 210 ≤ size → (x : Meaning)
    → byte_means m.seq m.code (ear_seen since) b ≡ x
    → (on_meaning (seq_of k) m.seq m.code (frame ToDevice m) (length frames) x).word ≡ Answered n
    → ToTill-came (record { commands = k; last = one m frames since }) (record { size = size; happens = byte b })
    (on_meaning (seq_of k) m.seq m.code (frame ToDevice m) (length frames) x) n
byte_came k m frames since size b n big failed e w = absurd (no_failed (seq_of k) m.seq m.code (frame ToDevice m) (length frames) n w)
byte_came k m frames since size b n big (goes_on ear) e w = let z : ◌≡◌ {A = ℕ} 0 1 = cc in absurd (omega arith)
byte_came k m frames since size b n big (answers a) e w =
    let h = answers_heard m.seq m.code (ear_seen since) b a e in
    let built = built_is_all_that_is_read ToTill since b a h.hears in
    let same : n ≡ length (a.content ++ a.status) = cc in (
      record {
        waiting = m;
        frames = frames;
        since = since;
        waits = refl;
        room = big;
        last = b;
        heard = refl;
        answer = a;
        can = built.0;
        seq = h.seq_is;
        code = h.code_is;
        before = built.1.0;
        whole = built.1.1;
      },
      (refl, same),
    )

came_seen : (seen : Seen) (l : LentEvent) (n : ℕ) → (says (state_seen seen) l).word ≡ Answered n → ToTill-came seen l (says (state_seen seen) l) n
came_seen seen l n = go (ltb l.size (room ToDevice)) refl
  where
    taken : (o : Open) (h : Happening) → 210 ≤ l.size → (takes (state_seen (record { commands = seen.commands; last = o })) h).word ≡ Answered n
        → ToTill-came (record { commands = seen.commands; last = o }) (record { size = l.size; happens = h }) (takes (state_seen (record { commands = seen.commands; last = o })) h) n
    taken none (command code content) big w = absurd (no_sent seen.commands code content n w)
    taken none (byte b) big w = let z : ◌≡◌ {A = ℕ} 0 1 = cc in absurd (omega arith)
    taken none timeout big w = let z : ◌≡◌ {A = ℕ} 0 1 = cc in absurd (omega arith)
    taken (one m frames since) (command code content) big w = let z : ◌≡◌ {A = ℕ} 0 1 = cc in absurd (omega arith)
    taken (one m frames since) (byte b) big w = byte_came seen.commands m frames since l.size b n big (byte_means m.seq m.code (ear_seen since) b) refl w
    taken (one m frames since) timeout big w = absurd (no_failed (seq_of seen.commands) m.seq m.code (frame ToDevice m) (length frames) n w)

    go : (s : Bool) → ltb l.size (room ToDevice) ≡ s → (cond s (stays TooShort (state_seen seen)) (takes (state_seen seen) l.happens)).word ≡ Answered n
        → ToTill-came seen l (cond s (stays TooShort (state_seen seen)) (takes (state_seen seen) l.happens)) n
    go true e w = let z : ◌≡◌ {A = ℕ} 0 1 = cc in absurd (omega arith)
    go false e w = taken seen.last l.happens (ltb-false l.size 210 e) w

-- the theorem, one way: what is Answered came
pub answered_came : (ls : List LentEvent) (l : LentEvent) (n : ℕ) → (says (behind fresh_state ls) l).word ≡ Answered n
    → (c : Came (watched ls) l) × (((says (behind fresh_state ls) l).puts ≡ c.answer.content ++ c.answer.status) × (n ≡ length (says (behind fresh_state ls) l).puts))
answered_came ls l n =
    subst (λ (s : State). (says s l).word ≡ Answered n → ToTill-came (watched ls) l (says s l) n) (sym (state_seen_lem ls)) (came_seen (watched ls) l n)

answered_seen : (seen : Seen) (l : LentEvent) (c : Came seen l)
    → says (state_seen seen) l ≡ gives Answered (c.answer.content ++ c.answer.status) (record { next = seq_of seen.commands; pending = idle })
answered_seen seen l c =
    let ear : Ear = ear_seen c.since in
    let means : byte_means c.waiting.seq c.waiting.code ear c.last ≡ answers c.answer =
    heard_answers c.waiting.seq c.waiting.code ear c.last c.answer
    (record { hears = brings c.since c.last c.before c.answer c.can c.whole; seq_is = c.seq; code_is = c.code }) in
    ap (λ s. cond s (stays TooShort (state_seen seen)) (takes (state_seen seen) l.happens)) (le-ltb l.size 210 c.room)
    ∙ ap (takes (state_seen seen)) c.heard
    ∙ ap (λ o. takes (state_seen (record { commands = seen.commands; last = o })) (byte c.last)) c.waits
    ∙ ap (on_meaning (seq_of seen.commands) c.waiting.seq c.waiting.code (frame ToDevice c.waiting) (length c.frames)) means

-- and the other: what came is Answered, with the answer's data and status, and no command waits any more
pub came_answered : (ls : List LentEvent) (l : LentEvent) (c : Came (watched ls) l)
    → says (behind fresh_state ls) l ≡ gives Answered (c.answer.content ++ c.answer.status) (record { next = (behind fresh_state ls).next; pending = idle })
came_answered ls l c =
    subst (λ (s : State). says s l ≡ gives Answered (c.answer.content ++ c.answer.status) (record { next = s.next; pending = idle })) (sym (state_seen_lem ls)) (answered_seen (watched ls) l c)

-- with no command waiting, a byte or a timeout is never Answered: it says Idle, or 7
pub none_idle : (ls : List LentEvent) (size : ℕ) (h : Happening) → (watched ls).last ≡ none → 210 ≤ size → ((code : ℕ) (content : List ℕ) → h ≡ command code content → ⊥)
    → says (behind fresh_state ls) (record { size = size; happens = h }) ≡ stays Idle (behind fresh_state ls)
none_idle ls size h e big no-command =
    subst (λ (s : State). says s (record { size = size; happens = h }) ≡ stays Idle s) (sym (state_seen_lem ls))
    (ap (λ s. cond s (stays TooShort (state_seen (watched ls))) (takes (state_seen (watched ls)) h)) (le-ltb size 210 big)
    ∙ subst (λ (o : Open). takes (state_seen (record { commands = (watched ls).commands; last = o })) h ≡ stays Idle (state_seen (record { commands = (watched ls).commands; last = o }))) (sym e) (go h no-command))
  where
    go : (h : Happening) → ((code : ℕ) (content : List ℕ) → h ≡ command code content → ⊥)
        → takes (state_seen (record { commands = (watched ls).commands; last = none })) h ≡ stays Idle (state_seen (record { commands = (watched ls).commands; last = none }))
    go (command code content) other = absurd (other code content refl)
    go (byte b) other = refl
    go timeout other = refl
