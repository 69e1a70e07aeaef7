-- The frames that a fresh till end hands out are tries of the commands it took, one after the other.
use mathlib.Core.Path.{◌≡◌, refl, sym, ap, ◌∙◌, subst}
use mathlib.Core.Bool.{Bool, true, false, cond}
use mathlib.Core.List.{List, [], ◌∷◌, ◌++◌, append_assoc, append-nil}
use Prim.Native.Nat.{ℕ, ◌+◌}
use native.Mathlib.Omega.{arith}
use lib.Dec.{ltb}
use Rattle.wire.specs.Frame.{command_of, sendable}
use Rattle.wire.specs.Replies.{room}
use Rattle.wire.specs.declared.Way.TheVariants.{ToDevice}
use Rattle.till.specs.Turns.{State, fresh_state, Happening, command, byte, timeout, sent, stays, takes}
use Rattle.attempts.specs.History.{LentEvent, says, seq_of, Open, none, one, Seen, nothing_seen, on_word, noted}
use Rattle.attempts.specs.Promises.{Tried}
use Rattle.attempts.specs.Handed.{Handed, HandsOut, no_frame, first_frame, frame_again, hands_out, handed_at, until_next, handed_again_in, with_command, handed_from, handed_in, AllInPlace, frame_in, frames_in, frames_of}
use Rattle.till.specs.declared.Word.{Word}
use Rattle.till.specs.declared.Word.TheVariants.{Idle, Waiting, SendAgain, Answered, Unfinished, TooShort, NotSent}
use Rattle.attempts.proofs.Seeing.{state_seen, Sound, turn_good}

-- neighbours differ by their SEQ alone
pub seqs_differ : (place : ℕ) → seq_of place ≡ seq_of (place + 1) → ⊥
seqs_differ place e = omega arith

-- all frames are among those of the commands taken
all_there : (ls : List LentEvent) (s : State) (before : ℕ) → frames_in s ls ≡ handed_again_in s ls ++ frames_of (handed_from before s ls)
all_there [] s before = refl
all_there (l ∷ ls) s before = go (handed_at s l) (all_there ls (says s l).state)
  where
    next : State
    next = (says s l).state

    go : (x : HandsOut) → ((count : ℕ) → frames_in next ls ≡ handed_again_in next ls ++ frames_of (handed_from count next ls))
        → frame_in x ++ frames_in next ls
        ≡ until_next x (handed_again_in next ls) ++ frames_of (with_command x before (handed_again_in next ls) (λ count. handed_from count next ls))
    go no_frame rest = rest before
    go (first_frame code content bytes) rest = ap (λ z. bytes ∷ z) (rest (before + 1))
    go (frame_again bytes) rest = ap (λ z. bytes ∷ z) (rest before)

-- where none waits, no frame goes out again
none_again : (k : ℕ) (l : LentEvent) (n : ℕ) → (says (state_seen (record { commands = k; last = none })) l).word ≡ SendAgain n → ⊥
none_again k l n = go (ltb l.size (room ToDevice)) l.happens
  where
    free : State
    free = state_seen (record { commands = k; last = none })

    go : (short : Bool) (h : Happening) → (cond short (stays TooShort free) (takes free h)).word ≡ SendAgain n → ⊥
    go true h e = let z : ◌≡◌ {A = ℕ} 0 1 = cc in omega arith
    go false (command code content) e = by (sendable ToDevice (command_of (seq_of k) code content)) e
      where
        by : (can : Bool) → (cond can (sent (seq_of k) (command_of (seq_of k) code content)) (stays NotSent free)).word ≡ SendAgain n → ⊥
        by true e = let z : ◌≡◌ {A = ℕ} 0 1 = cc in omega arith
        by false e = let z : ◌≡◌ {A = ℕ} 0 1 = cc in omega arith
    go false (byte b) e = let z : ◌≡◌ {A = ℕ} 0 1 = cc in omega arith
    go false timeout e = let z : ◌≡◌ {A = ℕ} 0 1 = cc in omega arith

-- the frames of the command that waits, with those handed out again for it; where none waits there are none
abbrev WithAgain : Open → List (List ℕ) → Type 0
WithAgain none again = again ≡ []
WithAgain (one m frames since) again = Tried m (frames ++ again)

abbrev Goes : Seen → State → List LentEvent → Type 0
Goes seen s ls = WithAgain seen.last (handed_again_in s ls) × AllInPlace seen.commands (handed_from seen.commands s ls)

-- no command ends or begins: the same command goes on
same_on : (o : Open) (again : List (List ℕ)) → WithAgain none again → Sound o → WithAgain o again
same_on none again e s = e
same_on (one m frames since) again e s = subst (λ z. Tried m (frames ++ z)) (sym e) (subst (Tried m) (sym (append-nil frames)) s)

module _ (k : ℕ) (again : List (List ℕ)) (rest : ℕ → List Handed) where
  abbrev On : Seen → Type 0
  On seen = WithAgain seen.last again × AllInPlace seen.commands (rest seen.commands)

  abbrev Here : Open → HandsOut → Type 0
  Here o x = WithAgain o (until_next x again) × AllInPlace k (with_command x k again rest)

  onto : (o : Open) → Sound o → (h : Happening) (w : Word) (puts : List ℕ) → (o ≡ none → (n : ℕ) → w ≡ SendAgain n → ⊥)
      → On (on_word (record { commands = k; last = o }) h w puts) → Here o (hands_out h w puts)
  onto o s h Idle puts never on = on
  onto none s (command code content) (Waiting count) puts never on = (refl, (record { seq = refl; tried = on.0 }, on.1))
  onto (one m frames since) s (command code content) (Waiting count) puts never on =
      (subst (Tried m) (sym (append-nil frames)) s, (record { seq = refl; tried = on.0 }, on.1))
  onto none s (byte b) (Waiting count) puts never on = on
  onto (one m frames since) s (byte b) (Waiting count) puts never on = on
  onto o s timeout (Waiting count) puts never on = on
  onto none s h (SendAgain count) puts never on = absurd (never refl count refl)
  onto (one m frames since) s h (SendAgain count) puts never on = (subst (Tried m) (append_assoc frames (puts ∷ []) again) on.0, on.1)
  onto o s h (Answered count) puts never on = (same_on o again on.0 s, on.1)
  onto o s h (Unfinished tries) puts never on = (same_on o again on.0 s, on.1)
  onto o s h TooShort puts never on = on
  onto o s h NotSent puts never on = on

goes : (ls : List LentEvent) (seen : Seen) → Sound seen.last → Goes seen (state_seen seen) ls
goes [] seen sound = go seen.last sound
  where
    go : (o : Open) → Sound o → WithAgain o [] × AllInPlace seen.commands []
    go none s = (refl, tt)
    go (one m frames since) s = (subst (Tried m) (sym (append-nil frames)) s, tt)
goes (l ∷ ls) seen sound =
    let t = says (state_seen seen) l in
    let good = turn_good seen l sound in
    let next : Seen = noted seen l.happens t in
    let on = subst (λ (z : State). Goes next z ls) (sym good.0) (goes ls next good.1) in
    onto seen.commands (handed_again_in t.state ls) (λ count. handed_from count t.state ls) seen.last sound l.happens t.word t.puts
    (λ e n w. none_again seen.commands l n (subst (λ o. (says (state_seen (record { commands = seen.commands; last = o })) l).word ≡ SendAgain n) e w)) on

-- the theorem: whatever happens at a fresh till end, each command it took can be sent and has the SEQ of its place, and its frames are its own, one to
-- five
pub frames_are_tries : (ls : List LentEvent) → AllInPlace 0 (handed_in ls)
frames_are_tries ls = (goes ls nothing_seen tt).1

-- and there is no other frame
pub every_frame : (ls : List LentEvent) → frames_in fresh_state ls ≡ frames_of (handed_in ls)
every_frame ls = all_there ls fresh_state 0 ∙ ap (λ z. z ++ frames_of (handed_in ls)) (goes ls nothing_seen tt).0
