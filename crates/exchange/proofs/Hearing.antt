-- What came back is heard byte by byte: the rest, heard from here, is the whole.
use mathlib.Core.Path.{◌≡◌, refl, sym, ap, ◌∙◌}
use mathlib.Core.Bool.{true, false, cond}
use mathlib.Core.List.{List, ◌∷◌}
use Prim.Native.Nat.{ℕ, ◌+◌, ◌≤◌, ◌<◌}
use native.Mathlib.Numerals.{add-one}
use lib.ListN.{length, get_or, drop, drop_of_length-le}
use lib.Seq.{sets, drop-cons}
use Rattle.till.specs.Turns.{Turn, byte, timeout}
use Rattle.till.specs.Fields.{held_in, said_of, turn_of}
use Rattle.till.specs.declared.Till.{Till}
use Rattle.till.specs.declared.Said.{Said}
use Rattle.till.specs.declared.Word.TheVariants.{Waiting}
use Rattle.exchange.specs.Exchange.{Heard, waits, heard_on, on_byte, on_timeout, in_time, heard_some}

-- what one event leaves, put together of its parts
event_heard : (till : Till) (turn : Turn) (buffer kept : List ℕ) (said : Said) (answer after : List ℕ)
    → said ≡ said_of till turn → answer ≡ kept → after ≡ sets buffer 0 turn.puts
    → record { said = said; answer = answer; buffer = after } ≡ heard_on till turn kept buffer
event_heard till turn buffer kept said answer after s a b = rw (s, a, b)

module _ (frame : List ℕ) (till : Till) (answer buffer : List ℕ) where
  pub byte_heard : (b : ℕ) (said : Said) (held after : List ℕ)
      → said ≡ said_of till (turn_of till frame answer buffer (byte b))
      → held ≡ held_in answer (turn_of till frame answer buffer (byte b)).state.pending
      → after ≡ sets buffer 0 (turn_of till frame answer buffer (byte b)).puts
      → record { said = said; answer = held; buffer = after } ≡ on_byte frame till answer buffer b
  unfolding on_byte
  byte_heard b said held after s a e =
      let turn = turn_of till frame answer buffer (byte b) in
      event_heard till turn buffer (held_in answer turn.state.pending) said held after s a e

  pub timeout_heard : (said : Said) (after : List ℕ)
      → said ≡ said_of till (turn_of till frame answer buffer timeout)
      → after ≡ sets buffer 0 (turn_of till frame answer buffer timeout).puts
      → record { said = said; answer = answer; buffer = after } ≡ on_timeout frame till answer buffer
  unfolding on_timeout
  timeout_heard said after s e = event_heard till (turn_of till frame answer buffer timeout) buffer answer said answer after s refl e

  module _ (bytes : List ℕ) (i : ℕ) where
    pub heard_all : length bytes ≤ i
        → heard_some frame till answer buffer (drop i bytes) ≡ record { said = record { till = till; word = Waiting 0 }; answer = answer; buffer = buffer }
    unfolding heard_some
    heard_all h = ap (heard_some frame till answer buffer) (drop_of_length-le bytes h)

    module _ (inside : i < length bytes) (h : Heard) (e : h ≡ on_byte frame till answer buffer (get_or bytes i 0)) where
      next : drop i bytes ≡ get_or bytes i 0 ∷ drop (i + 1) bytes
      next = rw add-one (drop-cons bytes i 0 inside)

      heard-byte : heard_some frame till answer buffer (drop i bytes)
          ≡ cond (waits h.said.word) (heard_some frame h.said.till h.answer h.buffer (drop (i + 1) bytes)) h
      unfolding heard_some
      heard-byte =
          ap (heard_some frame till answer buffer) next
          ∙ ap (λ x. cond (waits x.said.word) (heard_some frame x.said.till x.answer x.buffer (drop (i + 1) bytes)) x) (sym e)

      pub heard_more : waits h.said.word ≡ true
          → heard_some frame till answer buffer (drop i bytes) ≡ heard_some frame h.said.till h.answer h.buffer (drop (i + 1) bytes)
      heard_more t =
          heard-byte ∙ ap (λ b. cond b (heard_some frame h.said.till h.answer h.buffer (drop (i + 1) bytes)) h) t

      pub heard_word : waits h.said.word ≡ false → heard_some frame till answer buffer (drop i bytes) ≡ h
      heard_word t =
          heard-byte ∙ ap (λ b. cond b (heard_some frame h.said.till h.answer h.buffer (drop (i + 1) bytes)) h) t

-- the word that came in time, or else the timeout
module _ (frame : List ℕ) (whole h : Heard) (e : h ≡ whole) where
  pub came_in_time : waits h.said.word ≡ false → h ≡ in_time frame whole
  came_in_time t = sym (ap (λ b. cond b (on_timeout frame h.said.till h.answer h.buffer) h) t) ∙ ap (in_time frame) e

  pub none_in_time : waits h.said.word ≡ true → on_timeout frame h.said.till h.answer h.buffer ≡ in_time frame whole
  none_in_time t = sym (ap (λ b. cond b (on_timeout frame h.said.till h.answer h.buffer) h) t) ∙ ap (in_time frame) e
