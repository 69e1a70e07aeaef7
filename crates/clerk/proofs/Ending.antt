-- That a try ends, and what stops a script behind a command.
use Prim.Native.Nat.{ℕ, zero, suc, ◌-◌, ◌≤◌}
use mathlib.Core.Path.{◌≡◌, refl, sym, ap, ◌∙◌}
use mathlib.Core.Bool.{Bool, true, false, cond, ◌||◌, false≢true}
use mathlib.Core.List.{List, [], ◌∷◌}
use native.Mathlib.Omega.{arith}
use lib.Dec.{eqb, ltb}
use lib.ListN.{length}
use borrow.Author.Tests.{eqb-false}
use Rattle.exchange.specs.Exchange.{Heard, waits, on_timeout, in_time, heard_some, heard_back}
use Rattle.till.specs.Turns.{Turn, timeout, stays, takes, on_timeout as timeout_of}
use Rattle.till.specs.Fields.{pending_of, state_of}
use Rattle.till.specs.Words.{number_of}
use Rattle.till.specs.declared.Till.{Till}
use Rattle.std.proofs.Common.{Option, Some, None}
use Rattle.till.specs.declared.Attempt.{Attempt}
use Rattle.till.specs.declared.Word.{Word}
use Rattle.till.specs.declared.Word.TheVariants.{Idle, Waiting, SendAgain, Answered, Unfinished, TooShort, NotSent}
use Rattle.clerk.specs.declared.Clerk.{Clerk}
use Rattle.clerk.specs.declared.Phase.{Phase}
use Rattle.clerk.specs.declared.Phase.TheVariants.{Plays, Hears, Stopped}
use Rattle.clerk.specs.declared.Stop.TheVariants as stop
use Rattle.clerk.specs.Clerk.{most_reads, next_of, is_hearing, halted, written_by, read_by, heard_by, stops, told_of}
use Rattle.clerk.specs.Reads.{listened}

abbrev is_playing : Phase → Bool
is_playing Plays = true
is_playing _ = false

-- behind a timeout the till end does not wait
word_of : (b : Bool) (x y : Turn) → waits x.word ≡ false → waits y.word ≡ false → waits (cond b x y).word ≡ false
word_of true x y p q = p
word_of false x y p q = q

timeout_speaks : (frame : List ℕ) (till : Till) (answer buffer : List ℕ) → waits (on_timeout frame till answer buffer).said.word ≡ false
unfolding on_timeout
timeout_speaks frame till answer buffer =
    word_of (ltb (length buffer) 210) (stays TooShort (state_of till frame answer)) (takes (state_of till frame answer) timeout) refl (by till.slot)
  where
    by : (slot : Option Attempt) → waits (timeout_of (state_of till frame answer) (pending_of slot frame answer)).word ≡ false
    by None = refl
    by (Some a) = word_of (ltb a.tries 5) _ _ refl refl

back_speaks : (frame : List ℕ) (h : Heard) → waits (in_time frame h).said.word ≡ false
back_speaks frame h = go (waits h.said.word) refl
  where
    go : (b : Bool) → waits h.said.word ≡ b → waits (cond b (on_timeout frame h.said.till h.answer h.buffer) h).said.word ≡ false
    go true e = timeout_speaks frame h.said.till h.answer h.buffer
    go false e = e

moves_on : (word : Word) → waits word ≡ false → is_hearing (next_of Hears word) ≡ false
moves_on Idle q = refl
moves_on (Waiting count) q = absurd (false≢true (sym q))
moves_on (SendAgain count) q = refl
moves_on (Answered count) q = refl
moves_on (Unfinished tries) q = refl
moves_on TooShort q = refl
moves_on NotSent q = refl

some : (n : ℕ) → (n ≡ 0 → ⊥) → 1 ≤ n
some zero f = absurd (f refl)
some (suc n) f = omega arith

-- nothing is read where nothing is to be read
rests : (frame : List ℕ) (c : Clerk) (answer buffer : List ℕ) (parts : List (List ℕ)) → is_hearing c.phase ≡ false → listened frame c answer buffer parts ≡ c
rests frame c answer buffer [] f = refl
rests frame c answer buffer (part ∷ parts) f =
    let h : Heard = read_by c frame answer buffer part in
    ap (λ b. cond b (listened frame (heard_by c h.said) h.answer h.buffer parts) c) f

module _ (frame : List ℕ) (c : Clerk) (answer buffer part : List ℕ) (parts : List (List ℕ)) where
  abbrev heard : Heard
  heard = read_by c frame answer buffer part

  last-ends : eqb (c.reads - 1) 0 ≡ true → is_hearing (heard_by c heard.said).phase ≡ false
  last-ends t =
      let back : Heard = heard_back frame c.till answer buffer part in
      let is-back : heard ≡ back =
      ap (λ b. cond (b || eqb (length part) 0) back (heard_some frame c.till answer buffer part)) t in
      moves_on heard.said.word (ap (λ (x : Heard). waits x.said.word) is-back ∙ back_speaks frame (heard_some frame c.till answer buffer part))

  further : (b : Bool) → eqb (c.reads - 1) 0 ≡ b → c.reads ≤ suc (length parts)
      → (c.reads - 1 ≤ length parts → 1 ≤ length parts → is_hearing (listened frame (heard_by c heard.said) heard.answer heard.buffer parts).phase ≡ false)
      → is_hearing (listened frame (heard_by c heard.said) heard.answer heard.buffer parts).phase ≡ false
  further true t few rest =
      ap (λ (x : Clerk). is_hearing x.phase) (rests frame (heard_by c heard.said) heard.answer heard.buffer parts (last-ends t)) ∙ last-ends t
  further false t few rest =
      let more : 1 ≤ c.reads - 1 = some (c.reads - 1) (eqb-false (c.reads - 1) 0 t) in
      rest (omega arith) (omega arith)

  goes : (b : Bool) → is_hearing c.phase ≡ b
      → is_hearing (listened frame (heard_by c heard.said) heard.answer heard.buffer parts).phase ≡ false
      → is_hearing (cond b (listened frame (heard_by c heard.said) heard.answer heard.buffer parts) c).phase ≡ false
  goes true t rest = rest
  goes false t rest = t

reads_end : (frame : List ℕ) (c : Clerk) (answer buffer : List ℕ) (parts : List (List ℕ)) → c.reads ≤ length parts → 1 ≤ length parts
    → is_hearing (listened frame c answer buffer parts).phase ≡ false
reads_end frame c answer buffer [] few some = absurd (omega arith)
reads_end frame c answer buffer (part ∷ parts) few some =
    let h : Heard = read_by c frame answer buffer part in
    goes frame c answer buffer part parts (is_hearing c.phase) refl
    (further frame c answer buffer part parts (eqb (c.reads - 1) 0) refl few (reads_end frame (heard_by c h.said) h.answer h.buffer parts))

-- LINE 5.1: whatever a thousand reads bring, behind them no byte more is read for a try
pub a_try_ends : (frame : List ℕ) (c : Clerk) (answer buffer : List ℕ) (parts : List (List ℕ)) → length parts ≡ most_reads
    → (listened frame (written_by c) answer buffer parts).phase ≡ Hears → ⊥
a_try_ends frame c answer buffer parts e h =
    false≢true (sym (reads_end frame (written_by c) answer buffer parts (omega arith) (omega arith)) ∙ ap is_hearing h)

-- SCRIPTS 8: only UNFINISHED (9) stops a script behind a command, and only where it is not told -k
pub only_unfinished_stops : (keep : Bool) (c : Clerk) → (told_of keep c).phase ≡ Stopped → (keep ≡ false) × (number_of c.word ≡ 9)
only_unfinished_stops keep c = go keep c.word
  where
    plays_on : {A : Type 0} → Plays ≡ Stopped → A
    plays_on e = absurd (false≢true (sym (ap is_playing e)))

    go : (k : Bool) (word : Word) → (cond (stops k word) (halted c stop.Unfinished) (record c { phase = Plays })).phase ≡ Stopped → (k ≡ false) × (number_of word ≡ 9)
    go k Idle e = plays_on e
    go k (Waiting count) e = plays_on e
    go k (SendAgain count) e = plays_on e
    go k (Answered count) e = plays_on e
    go true (Unfinished tries) e = plays_on e
    go false (Unfinished tries) e = (refl, refl)
    go k TooShort e = plays_on e
    go k NotSent e = plays_on e
