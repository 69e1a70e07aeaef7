-- The fifth failed try: Unfinished 5, no byte, and rest until the next command is taken.
use mathlib.Core.Path.{◌≡◌, refl, sym, ap, ◌∙◌, subst}
use mathlib.Core.Bool.{Bool, true, false, cond}
use mathlib.Core.List.{List, [], ◌∷◌, ◌++◌}
use mathlib.Core.Logic.{◌⊎◌, inl, inr}
use Prim.Native.Nat.{ℕ, ◌+◌}
use native.Mathlib.Omega.{arith}
use lib.Dec.{ltb}
use Rattle.wire.specs.Frame.{command_of, frame, sendable}
use Rattle.wire.specs.Replies.{room}
use Rattle.wire.specs.declared.Way.TheVariants.{ToDevice}
use Rattle.till.specs.Turns.{Ear, fresh_ear, Pending, idle, waits, State, fresh_state, seq_after, Happening, command, byte, timeout, Turn, stays, sent, Meaning, failed, goes_on, answers, byte_means, on_meaning, on_command, takes}
use Rattle.attempts.specs.History.{LentEvent, says, behind, took, marks_of, marks, ends, failure, failure_of, failures}
use Rattle.attempts.specs.Fifth.{FifthFails, rest_word, RestsUntilTaken}
use Rattle.till.specs.declared.Word.TheVariants.{Waiting, Unfinished, TooShort, NotSent}
use Rattle.attempts.proofs.Tries.{waits_through}

behind_append : (xs ys : List LentEvent) (s : State) → behind s (xs ++ ys) ≡ behind (behind s xs) ys
behind_append [] ys s = refl
behind_append (x ∷ xs) ys s = behind_append xs ys (says s x).state

-- a command that says Waiting waits with its first try
abbrev first_try : ℕ → ℕ → List ℕ → State
first_try next code content =
    record { next = seq_after next; pending = waits next code (frame ToDevice (command_of next code content)) 1 fresh_ear }

taken_waits : (next : ℕ) (p : Pending) (size code : ℕ) (content : List ℕ) (count : ℕ)
    → (says (record { next = next; pending = p }) (record { size = size; happens = command code content })).word ≡ Waiting count
    → (says (record { next = next; pending = p }) (record { size = size; happens = command code content })).state ≡ first_try next code content
taken_waits next p size code content count = go (ltb size (room ToDevice)) p
  where
    go : (short : Bool) (q : Pending)
        → (cond short (stays TooShort (record { next = next; pending = q })) (on_command (record { next = next; pending = q }) q code content)).word ≡ Waiting count
        → (cond short (stays TooShort (record { next = next; pending = q })) (on_command (record { next = next; pending = q }) q code content)).state ≡ first_try next code content
    go true q e = let z : ◌≡◌ {A = ℕ} 0 1 = cc in absurd (omega arith)
    go false idle e = by (sendable ToDevice (command_of next code content)) e
      where
        by : (can : Bool) → (cond can (sent next (command_of next code content)) (stays NotSent (record { next = next; pending = idle }))).word ≡ Waiting count
            → (cond can (sent next (command_of next code content)) (stays NotSent (record { next = next; pending = idle }))).state ≡ first_try next code content
        by true e = refl
        by false e = let z : ◌≡◌ {A = ℕ} 0 1 = cc in absurd (omega arith)
    go false (waits seq sent_code bytes tries ear) e = let z : ◌≡◌ {A = ℕ} 0 1 = cc in absurd (omega arith)

-- one more failed try of a command tried five times
abbrev given_up : ℕ → Turn
given_up next = stays (Unfinished 5) (record { next = next; pending = idle })

fails_fifth : (next seq code : ℕ) (bytes : List ℕ) (ear : Ear) (l : LentEvent)
    → failures (record { next = next; pending = waits seq code bytes 5 ear }) (l ∷ []) ≡ 1 → says (record { next = next; pending = waits seq code bytes 5 ear }) l ≡ given_up next
fails_fifth next seq code bytes ear l = go (ltb l.size (room ToDevice)) l.happens
  where
    at : State
    at = record { next = next; pending = waits seq code bytes 5 ear }

    meant : (x : Meaning) → failure x + 0 ≡ 1 → on_meaning next seq code bytes 5 x ≡ given_up next
    meant failed e = refl
    meant (goes_on q) e = absurd (omega arith)
    meant (answers m) e = absurd (omega arith)

    go : (short : Bool) (h : Happening) → cond short 0 (failure_of at.pending h) + 0 ≡ 1 → cond short (stays TooShort at) (takes at h) ≡ given_up next
    go true h e = absurd (omega arith)
    go false (command other content) e = absurd (omega arith)
    go false (byte b) e = meant (byte_means seq code ear b) e
    go false timeout e = refl

-- where none waits, all is at rest until a command is taken
rests : (next : ℕ) (ls : List LentEvent) → RestsUntilTaken (record { next = next; pending = idle }) ls
rests next [] = tt
rests next (l ∷ ls) = go (ltb l.size (room ToDevice)) l.happens (rests next ls)
  where
    free : State
    free = record { next = next; pending = idle }

    go : (short : Bool) (h : Happening) → RestsUntilTaken free ls
        → ((cond short (stays TooShort free) (takes free h) ≡ stays (cond short TooShort (rest_word h)) free) × RestsUntilTaken free ls)
        ⊎ (marks_of h (cond short (stays TooShort free) (takes free h)).word ≡ took ∷ [])
    go true h rest = inl (refl, rest)
    go false (command code content) rest = by (sendable ToDevice (command_of next code content))
      where
        by : (can : Bool) → ((cond can (sent next (command_of next code content)) (stays NotSent free) ≡ stays NotSent free) × RestsUntilTaken free ls)
            ⊎ (marks_of (command code content) (cond can (sent next (command_of next code content)) (stays NotSent free)).word ≡ took ∷ [])
        by true = inr refl
        by false = inl (refl, rest)
    go false (byte b) rest = inl (refl, rest)
    go false timeout rest = inl (refl, rest)

abbrev Ends : State → LentEvent → Type 0
Ends s l = (says s l ≡ given_up s.next) × ((after : List LentEvent) → RestsUntilTaken (says s l).state after)

ends_fifth : (next code : ℕ) (content : List ℕ) (during : List LentEvent) (l : LentEvent) (s : State) → s ≡ first_try next code content
    → ends (marks s during) ≡ false → failures s during ≡ 4 → failures (behind s during) (l ∷ []) ≡ 1 → Ends (behind s during) l
ends_fifth next code content during l s e =
    subst (λ (z : State). ends (marks z during) ≡ false → failures z during ≡ 4 → failures (behind z during) (l ∷ []) ≡ 1 → Ends (behind z during) l) (sym e)
    (λ on four more.
    let bytes = frame ToDevice (command_of next code content) in
    let w = waits_through during (seq_after next) next code bytes 1 fresh_ear (omega arith) on in
    let at = w.state ∙ ap (λ j. record { next = seq_after next; pending = waits next code bytes (1 + j) w.ear }) four in
    let up = fails_fifth (seq_after next) next code bytes w.ear l (sym (ap (λ (z : State). failures z (l ∷ [])) at) ∙ more) in
    subst (λ (z : State). Ends z l) (sym at) (up, (λ after. subst (λ (t : Turn). RestsUntilTaken t.state after) (sym up) (rests (seq_after next) after))))

-- the theorem: with the fifth failed try Unfinished 5 is said, no byte is put, the command is given up; and afterwards every byte and every timeout says Idle
-- and changes nothing, until the next command is taken
pub the_fifth_failed_try : (before : List LentEvent) (taken : LentEvent) (during : List LentEvent) (fifth : LentEvent) → FifthFails before taken during fifth
    → let s = behind fresh_state (before ++ taken ∷ during) in
    (says s fifth ≡ stays (Unfinished 5) (record { next = s.next; pending = idle })) × ((after : List LentEvent) → RestsUntilTaken (says s fifth).state after)
the_fifth_failed_try before taken during fifth h =
    let s = behind fresh_state before in
    let one : behind fresh_state (before ++ taken ∷ []) ≡ (says s taken).state = behind_append before (taken ∷ []) fresh_state in
    let all : behind fresh_state (before ++ taken ∷ during) ≡ behind (says s taken).state during = behind_append before (taken ∷ during) fresh_state in
    let first : (says s taken).state ≡ first_try s.next h.code h.content =
    subst (λ (x : Happening). (says s (record { size = taken.size; happens = x })).word ≡ Waiting h.count
    → (says s (record { size = taken.size; happens = x })).state ≡ first_try s.next h.code h.content) (sym h.is_command)
    (taken_waits s.next s.pending taken.size h.code h.content h.count) h.is_taken in
    subst (λ (z : State). Ends z fifth) (sym all)
    (ends_fifth s.next h.code h.content during fifth (says s taken).state first
    (sym (ap (λ (z : State). ends (marks z during)) one) ∙ h.not_ended)
    (sym (ap (λ (z : State). failures z during) one) ∙ h.four_failed)
    (sym (ap (λ (z : State). failures z (fifth ∷ [])) all) ∙ h.one_more_fails))
