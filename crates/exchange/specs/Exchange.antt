-- PROTOCOL 7.1, 7.5: the till end hears what comes back on a try, byte by byte.
use Rattle.std.specs.Prelude.{ℕ, Bool, true, false, cond, List, [], ◌∷◌}
use Rattle.std.proofs.lemmas.List.Edits.{sets}
use Rattle.till.specs.Turns.{Turn, byte, timeout}
use Rattle.till.specs.Fields.{held_in, said_of, turn_of}
use Rattle.till.specs.declared.Till.{Till}
use Rattle.till.specs.declared.Said.{Said}
use Rattle.till.specs.declared.Word.{Word}
use Rattle.till.specs.declared.Word.TheVariants.{Idle, Waiting, SendAgain, Answered, Unfinished, TooShort, NotSent}

-- PROTOCOL 7.1: what the till end says, with the answer's array and the lent buffer afterwards
pub record Heard : Type 0 where
  pub said : Said
  pub answer : List ℕ
  pub buffer : List ℕ

-- PROTOCOL 7.5: whether it waits still
abbrev pub waits : Word → Bool
waits Idle = false
waits (Waiting count) = true
waits (SendAgain count) = false
waits (Answered count) = false
waits (Unfinished tries) = false
waits TooShort = false
waits NotSent = false

-- PROTOCOL 7.5: a byte, and a timeout, which leaves the answer's array
abbrev pub heard_on : Till → Turn → (answer buffer : List ℕ) → Heard
heard_on till turn answer buffer =
    record { said = said_of till turn; answer = answer; buffer = sets buffer 0 turn.puts }

unfoldable pub on_byte : (frame : List ℕ) → Till → (answer buffer : List ℕ) → ℕ → Heard
on_byte frame till answer buffer b =
    let turn = turn_of till frame answer buffer (byte b) in
    heard_on till turn (held_in answer turn.state.pending) buffer

unfoldable pub on_timeout : (frame : List ℕ) → Till → (answer buffer : List ℕ) → Heard
on_timeout frame till answer buffer = heard_on till (turn_of till frame answer buffer timeout) answer buffer

-- PROTOCOL 7.5: bytes up to the first of which it says another word than Waiting; those behind that one are not heard. A till end that has heard none waits
unfoldable pub heard_some : (frame : List ℕ) → Till → (answer buffer : List ℕ) → List ℕ → Heard
heard_some frame till answer buffer [] = record { said = record { till = till; word = Waiting 0 }; answer = answer; buffer = buffer }
heard_some frame till answer buffer (b ∷ bs) =
    let h = on_byte frame till answer buffer b in
    cond (waits h.said.word) (heard_some frame h.said.till h.answer h.buffer bs) h

-- PROTOCOL 7.5: all that comes back on a try: where it waits still behind the last byte, no more come in time
abbrev pub in_time : (frame : List ℕ) → Heard → Heard
in_time frame h = cond (waits h.said.word) (on_timeout frame h.said.till h.answer h.buffer) h

abbrev pub heard_back : (frame : List ℕ) → Till → (answer buffer : List ℕ) → List ℕ → Heard
heard_back frame till answer buffer bytes = in_time frame (heard_some frame till answer buffer bytes)
