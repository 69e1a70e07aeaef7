-- Laws of the second half of a call, a branch of the code each.
use mathlib.Core.Path.{◌≡◌, sym, ap, ◌∙◌}
use mathlib.Core.Bool.{Bool, true, false, cond, ◌&&◌}
use mathlib.Core.List.{List, [], ◌∷◌}
use Prim.Native.Nat.{ℕ, ◌-◌}
use native.Mathlib.Omega.{arith}
use lib.Dec.{leb}
use lib.ListN.{length, take, drop}
use lib.Seq.{sets}
use Rattle.sheet.specs.Sheet.{match_at}
use Rattle.sheet.specs.declared.Line.{Line}
use Rattle.std.specs.Prelude.{Option}
use Rattle.line.specs.Turns.{last_answer}
use Rattle.line.specs.Calls.{before_of}
use Rattle.line.specs.declared.Call.{Call}
use Rattle.line.specs.declared.Call.TheVariants.{Quiet, Nak, Again, Order}
use Rattle.carrying.specs.Work.{worked}
use Rattle.carrying.specs.declared.Work.{Work}
use Rattle.giving.specs.Ending.{SecondHalf, staying_with, ended_with, hands_back, carried_behind, ending_as, ending}
use Rattle.machine.specs.declared.Begun.{Begun}
use Rattle.giving.specs.declared.Ended.{Ended}

-- what is given
module _ (b : Begun) (at : ℕ) (found : Line) (last buffer : List ℕ) where
  abbrev second : Bool → SecondHalf
  second long = cond long (ending_as b.call b at found last buffer) (ended_with b 7 at found last buffer [])

  pub not_ended : (e : Ended) → e ≡ staying_with b 7 0 at found → b.enough && leb 217 (length buffer) ≡ false
      → record { ended = e; last = last; buffer = buffer } ≡ ending b at found last buffer
  not_ended e ee f = ap (λ z. record { ended = z; last = last; buffer = buffer }) ee ∙ sym (ap second f)

  pub ended_so : b.enough && leb 217 (length buffer) ≡ true → (s : SecondHalf) → s ≡ ending_as b.call b at found last buffer → s ≡ ending b at found last buffer
  ended_so f s es = es ∙ sym (ap second f)

  -- what a call asks for
  asked : (c : Call) → b.call ≡ c → ending_as c b at found last buffer ≡ ending_as b.call b at found last buffer
  asked c e = sym (ap (λ z. ending_as z b at found last buffer) e)

  abbrev stays : Ended → List ℕ → SecondHalf
  stays e bytes = record { ended = e; last = last; buffer = bytes }

  pub end_quiet : (e : Ended) → e ≡ staying_with b 0 0 at found → b.call ≡ Quiet → stays e buffer ≡ ending_as b.call b at found last buffer
  end_quiet e ee c = ap (λ z. stays z buffer) ee ∙ asked Quiet c

  pub end_nak : (e : Ended) (buffer' : List ℕ) → e ≡ staying_with b 5 1 at found → buffer' ≡ sets buffer 0 (0x15 ∷ []) → b.call ≡ Nak
      → stays e buffer' ≡ ending_as b.call b at found last buffer
  end_nak e buffer' ee eb c = ap (λ z. stays z buffer') ee ∙ ap (stays (staying_with b 5 1 at found)) eb ∙ asked Nak c

  pub end_again : (e : Ended) (n : ℕ) (buffer' : List ℕ) → e ≡ staying_with b 6 n at found → n ≡ length (last_answer (before_of b.device.line.previous last))
      → buffer' ≡ sets buffer 0 (last_answer (before_of b.device.line.previous last)) → b.call ≡ Again → stays e buffer' ≡ ending_as b.call b at found last buffer
  end_again e n buffer' ee en eb c =
      ap (λ z. stays z buffer') (ee ∙ ap (λ z. staying_with b 6 z at found) en)
      ∙ ap (stays (staying_with b 6 (length (last_answer (before_of b.device.line.previous last))) at found)) eb
      ∙ asked Again c

  pub end_order : (s c n : ℕ) (made : SecondHalf)
      → made ≡ carried_behind b s c at found last (worked b.device.books (match_at at b.lines found) s c b.passes b.parsed buffer) → b.call ≡ Order s c n
      → made ≡ ending_as b.call b at found last buffer
  end_order s c n made em e = em ∙ asked (Order s c n) e

  -- an order carried out and kept
  pub order_is : (seq code : ℕ) (m : Option ℕ) (w : Work) (last' buffer' : List ℕ) (e : Ended) → m ≡ match_at at b.lines found
      → record { work = w; buffer = buffer' } ≡ worked b.device.books m seq code b.passes b.parsed buffer
      → last' ≡ sets last 0 (take (w.count - 0) (drop 0 buffer')) → e ≡ hands_back b seq code w at found
      → record { ended = e; last = last'; buffer = buffer' } ≡ carried_behind b seq code at found last (worked b.device.books (match_at at b.lines found) seq code b.passes b.parsed buffer)
  order_is seq code m w last' buffer' e em ew el ee =
      let off : w.count - 0 ≡ w.count = omega arith in
      ap (λ z. record { ended = z; last = last'; buffer = buffer' }) ee
      ∙ ap (λ z. record { ended = hands_back b seq code w at found; last = z; buffer = buffer' }) (el ∙ ap (λ k. sets last 0 (take k buffer')) off)
      ∙ ap (carried_behind b seq code at found last) (ew ∙ ap (λ z. worked b.device.books z seq code b.passes b.parsed buffer) em)
