-- A line that is silent: the fifth try of a command ends it.
use Prim.Native.Nat.{ℕ, ◌+◌, ◌≤◌, ◌<◌}
use mathlib.Core.Path.{◌≡◌, refl, sym, ap, ◌∙◌}
use mathlib.Core.Bool.{Bool, true, false, cond, false≢true}
use mathlib.Core.List.{List, []}
use native.Mathlib.Omega.{arith}
use lib.Dec.{ltb}
use lib.ListN.{length, take}
use lib.Seq.{length-sets}
use borrow.Author.Tests.{le-ltb, lt-ltb, ltb-true, ltb-false}
use Rattle.wire.specs.Frame.{Message, command_of, sendable}
use Rattle.wire.specs.declared.Way.TheVariants.{ToDevice}
use Rattle.exchange.specs.Exchange.{Heard, heard_on, on_timeout, heard_some}
use Rattle.till.specs.Turns.{Turn, fresh_ear, idle, command, timeout, stays, sent}
use Rattle.till.specs.Fields.{ear_of, state_of, said_of, turn_of}
use Rattle.till.proofs.Outer.{too_short, timeout_held, command_held, command_free}
use Rattle.till.proofs.Turning.{fails_by}
use Rattle.till.specs.declared.Attempt.{Attempt}
use Rattle.std.proofs.Common.{Option, Some, None}
use Rattle.till.specs.declared.Word.TheVariants.{Unfinished, TooShort, NotSent}
use Rattle.clerk.specs.declared.Clerk.{Clerk}
use Rattle.clerk.specs.declared.Phase.{Phase}
use Rattle.clerk.specs.declared.Phase.TheVariants.{Sends, Hears, Tells}
use Rattle.clerk.specs.Clerk.{next_of, begun}
use Rattle.clerk.specs.Reads.{silence, unheard, unheard_times}

-- a command was handed out so often, and there is room for its frame
record Trying (c : Clerk) (buffer : List ℕ) (tries : ℕ) : Type 0 where
  attempt : Attempt
  is_held : c.till.slot ≡ Some attempt
  count : attempt.tries ≡ tries
  room : 210 ≤ length buffer

-- a read that gives nothing is a timeout
is_timeout : (frame : List ℕ) (c : Clerk) (answer buffer : List ℕ)
    → silence frame c answer buffer ≡ heard_on c.till (turn_of c.till frame answer buffer timeout) answer buffer
unfolding on_timeout heard_some
is_timeout frame c answer buffer = refl

module _ (frame : List ℕ) (c : Clerk) (answer buffer : List ℕ) (tries : ℕ) (t : Trying c buffer tries) where
  abbrev fails : Bool → Turn
  fails early =
      fails_by c.till.next t.attempt.seq t.attempt.code (take t.attempt.count frame) t.attempt.tries early

  failed-as : (early : Bool) → ltb t.attempt.tries 5 ≡ early → silence frame c answer buffer ≡ heard_on c.till (fails early) answer buffer
  failed-as early e =
      is_timeout frame c answer buffer
      ∙ ap (λ x. heard_on c.till x answer buffer) (timeout_held c.till frame answer buffer t.room t.attempt t.is_held ∙ ap fails e)

  again : tries < 5 → Trying (unheard frame c answer buffer) (silence frame c answer buffer).buffer (tries + 1)
  again few =
      let e = failed-as true (lt-ltb t.attempt.tries 5 (omega (arith, t.count))) in
      record {
        attempt =
            record { seq = t.attempt.seq; code = t.attempt.code; tries = t.attempt.tries + 1; count = length (take t.attempt.count frame); ear = ear_of fresh_ear };
        is_held = ap (λ (h : Heard). h.said.till.slot) e;
        count = ap (λ n. n + 1) t.count;
        room = omega (arith, t.room, ap (λ (h : Heard). length h.buffer) e, length-sets buffer 0 (fails true).puts);
      }

  given-up : 5 ≤ tries → ((unheard frame c answer buffer).word ≡ Unfinished tries) × ((unheard frame c answer buffer).phase ≡ Tells)
  given-up many =
      let e = failed-as false (le-ltb t.attempt.tries 5 (omega (arith, t.count))) in
      let word : (unheard frame c answer buffer).word ≡ Unfinished tries = ap (λ (h : Heard). h.said.word) e ∙ ap Unfinished t.count in
      (word, ap (next_of Hears) word)

-- told UNFINISHED with five tries
abbrev Ends : Clerk → Type 0
Ends c = (c.word ≡ Unfinished 5) × (c.phase ≡ Tells)

five_tries : (frame : List ℕ) (c : Clerk) (answer buffer : List ℕ) → Trying c buffer 1 → Ends (unheard_times 5 frame c answer buffer)
five_tries frame c answer buffer t = go (silence frame c answer buffer) (unheard frame c answer buffer) (again frame c answer buffer 1 t (omega arith))
  where
    third : (h : Heard) (d : Clerk) → Trying d h.buffer 3 → Ends (unheard_times 3 frame d h.answer h.buffer)
    third h d t =
        let h4 : Heard = silence frame d h.answer h.buffer in
        let d4 : Clerk = unheard frame d h.answer h.buffer in
        let t4 = again frame d h.answer h.buffer 3 t (omega arith) in
        let t5 = again frame d4 h4.answer h4.buffer 4 t4 (omega arith) in
        given-up frame (unheard frame d4 h4.answer h4.buffer) (silence frame d4 h4.answer h4.buffer).answer (silence frame d4 h4.answer h4.buffer).buffer 5 t5 (omega arith)

    go : (h : Heard) (d : Clerk) → Trying d h.buffer 2 → Ends (unheard_times 4 frame d h.answer h.buffer)
    go h d t =
        third (silence frame d h.answer h.buffer) (unheard frame d h.answer h.buffer) (again frame d h.answer h.buffer 2 t (omega arith))

abbrev is_sending : Phase → Bool
is_sending Sends = true
is_sending _ = false

told_at_once : {A : Type 0} → Tells ≡ Sends → A
told_at_once e = absurd (false≢true (ap is_sending e))

-- a command whose frame is to be written is at its first try
module _ (c : Clerk) (code : ℕ) (content frame buffer : List ℕ) where
  abbrev turn : Turn
  turn = turn_of c.till frame [] buffer (command code content)

  goes-as : (x : Turn) → turn ≡ x → (begun c code content frame buffer).clerk.phase ≡ Sends → next_of Sends x.word ≡ Sends
  goes-as x e p = ap (λ (z : Turn). next_of Sends z.word) (sym e) ∙ p

  abbrev m : Message
  m = command_of c.till.next code content

  begins : 210 ≤ length buffer → turn ≡ sent c.till.next m → Trying (begun c code content frame buffer).clerk (begun c code content frame buffer).buffer 1
  begins room e =
      record {
        attempt = _;
        is_held = ap (λ (x : Turn). (said_of c.till x).till.slot) e;
        count = refl;
        room = omega (arith, room, length-sets buffer 0 turn.puts);
      }

  first-try : (begun c code content frame buffer).clerk.phase ≡ Sends → Trying (begun c code content frame buffer).clerk (begun c code content frame buffer).buffer 1
  first-try p = by (ltb (length buffer) 210) refl
    where
      free : 210 ≤ length buffer → c.till.slot ≡ None → (s : Bool) → sendable ToDevice m ≡ s
          → Trying (begun c code content frame buffer).clerk (begun c code content frame buffer).buffer 1
      free room e true s =
          begins room (command_free c.till frame [] buffer room code content e ∙ ap (λ b. cond b (sent c.till.next m) (stays NotSent (record { next = c.till.next; pending = idle }))) s)
      free room e false s =
          let not = command_free c.till frame [] buffer room code content e
          ∙ ap (λ b. cond b (sent c.till.next m) (stays NotSent (record { next = c.till.next; pending = idle }))) s in
          told_at_once (goes-as (stays NotSent (record { next = c.till.next; pending = idle })) not p)

      held : 210 ≤ length buffer → (slot : Option Attempt) → c.till.slot ≡ slot → Trying (begun c code content frame buffer).clerk (begun c code content frame buffer).buffer 1
      held room None e = free room e (sendable ToDevice m) refl
      held room (Some a) e =
          told_at_once (goes-as (stays NotSent (state_of c.till frame [])) (command_held c.till frame [] buffer room code content a e) p)

      by : (b : Bool) → ltb (length buffer) 210 ≡ b → Trying (begun c code content frame buffer).clerk (begun c code content frame buffer).buffer 1
      by true e =
          told_at_once (goes-as (stays TooShort (state_of c.till frame [])) (too_short c.till frame [] buffer (command code content) (ltb-true (length buffer) 210 e)) p)
      by false e = held (ltb-false (length buffer) 210 e) c.till.slot refl

-- LINE 5.1, PROTOCOL 7.6: a command whose frame is written five times, with nothing read behind any of them, is told UNFINISHED with five tries
pub silence_ends : (c : Clerk) (code : ℕ) (content frame buffer : List ℕ) → (begun c code content frame buffer).clerk.phase ≡ Sends → (sent answer : List ℕ)
    → ((unheard_times 5 sent (begun c code content frame buffer).clerk answer (begun c code content frame buffer).buffer).word ≡ Unfinished 5)
    × ((unheard_times 5 sent (begun c code content frame buffer).clerk answer (begun c code content frame buffer).buffer).phase ≡ Tells)
silence_ends c code content frame buffer p sent answer =
    five_tries sent (begun c code content frame buffer).clerk answer (begun c code content frame buffer).buffer (first-try c code content frame buffer p)
