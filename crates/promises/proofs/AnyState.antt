-- Demand 1 from any state: the reply is by the table, or the state is one that no history of fresh ends comes to, and then `Beyond` says it.
use mathlib.Core.Path.{◌≡◌, refl, sym, ap, subst}
use mathlib.Core.Bool.{Bool, true, false, cond}
use mathlib.Core.List.{List}
use mathlib.Core.Logic.{◌⊎◌, inl, inr}
use Prim.Native.Nat.{ℕ, ◌≤◌, ◌<◌}
use native.Mathlib.Omega.{arith}
use lib.Dec.{ltb, leb}
use lib.ListN.{length}
use borrow.Author.Tests.{ltb-true, ltb-false, leb-true, leb-false, le-ltb}
use Rattle.store.specs.Store.{Store}
use Rattle.line.specs.Turns as line
use Rattle.till.specs.Turns as till
use Rattle.till.specs.declared.Word.TheVariants.{TooShort}
use Rattle.till.proofs.Turning.{fails_by}
use Rattle.promises.specs.AtTill.{is_failed, fails, row_0_byte, row_0_answered, row_8}
use Rattle.promises.specs.AtTill as at-till-end
use Rattle.promises.specs.Demand1.{Bench, Comes, at_device, at_till, switching, from_till, Outcome, ByTheTable, at_till_lem, at_switching}
use Rattle.promises.specs.Ends.{of_till, outcome_of, Beyond, more_tries}
use Rattle.promises.proofs.TillRows.{taking}
use Rattle.promises.proofs.Demand1.{by_the_device}

abbrev Says : Bench → Comes → Outcome → Type 0
Says s c r = ByTheTable s c r ⊎ Beyond s c r

-- more than five tries
module _ (d : line.State Store) (buffer : List ℕ) (room : 210 ≤ length buffer) where
  abbrev bench : ℕ → till.Pending → Bench
  bench next p = record { device = d; till = record { next = next; pending = p } }

  module _ (next seq code : ℕ) (bytes : List ℕ) (tries : ℕ) (ear : till.Ear) (many : 5 < tries) where
    abbrev held : Bench
    held = bench next (till.waits seq code bytes tries ear)

    failing : (h : till.Happening) → fails seq code ear h ≡ true → Says held (at_till buffer h) (from_till (of_till buffer (till.fails_try next seq code bytes tries)))
    failing h f =
        subst (λ z. Says held (at_till buffer h) (from_till (of_till buffer (fails_by next seq code bytes tries z)))) (sym (le-ltb tries 5 (omega (arith, many))))
        (inr (more_tries seq code bytes tries ear room refl f many))

    on-byte : (b : ℕ) (x : till.Meaning) → till.byte_means seq code ear b ≡ x
        → Says held (at_till buffer (till.byte b)) (from_till (of_till buffer (till.on_meaning next seq code bytes tries x)))
    on-byte b till.failed e = failing (till.byte b) (ap is_failed e)
    on-byte b (till.goes_on q) e = inl (at_till_lem (row_0_byte b seq code bytes tries ear q room refl e))
    on-byte b (till.answers m) e = inl (at_till_lem (row_0_answered b seq code bytes tries ear m room refl e))

    beyond-five : (h : till.Happening) → Says held (at_till buffer h) (from_till (of_till buffer (till.takes held.till h)))
    beyond-five (till.command other content) = inl (at_till_lem (row_8 other content room refl))
    beyond-five (till.byte b) = on-byte b (till.byte_means seq code ear b) refl
    beyond-five till.timeout = failing till.timeout refl

  taken : (next : ℕ) (p : till.Pending) (h : till.Happening) → Says (bench next p) (at_till buffer h) (from_till (of_till buffer (till.takes (bench next p).till h)))
  taken next till.idle h = inl (at_till_lem (taking buffer room next till.idle (omega arith) h))
  taken next (till.waits seq code bytes tries ear) h = go (leb tries 5) refl
    where
      go : (few : Bool) → leb tries 5 ≡ few
          → Says (bench next (till.waits seq code bytes tries ear)) (at_till buffer h)
          (from_till (of_till buffer (till.takes (bench next (till.waits seq code bytes tries ear)).till h)))
      go true e = inl (at_till_lem (taking buffer room next (till.waits seq code bytes tries ear) (leb-true tries 5 e) h))
      go false e = beyond-five next seq code bytes tries ear (leb-false tries 5 e) h

-- the theorem
pub in_any_state : (s : Bench) (c : Comes) → ByTheTable s c (outcome_of s c) ⊎ Beyond s c (outcome_of s c)
in_any_state s (at_device lent byte) = inl (by_the_device s lent byte)
in_any_state s switching = inl at_switching
in_any_state s (at_till buffer h) = go (ltb (length buffer) 210) refl
  where
    go : (short : Bool) → ltb (length buffer) 210 ≡ short → Says s (at_till buffer h) (from_till (of_till buffer (cond short (till.stays TooShort s.till) (till.takes s.till h))))
    go true e = inl (at_till_lem (at-till-end.row_7 (ltb-true (length buffer) 210 e)))
    go false e = taken s.device buffer (ltb-false (length buffer) 210 e) s.till.next s.till.pending h
