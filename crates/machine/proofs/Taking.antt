-- A call takes no byte that is not there, and at least one where all that is lent is long enough.
use mathlib.Core.Path.{◌≡◌, refl, sym, ap, subst}
use mathlib.Core.Bool.{Bool, true, false, cond}
use mathlib.Core.List.{List, [], ◌∷◌}
use Prim.Native.Nat.{ℕ, suc, ◌≤◌, ◌<◌}
use native.Mathlib.Omega.{arith}
use lib.ListN.{length}
use Rattle.line.specs.Turns.{turn}
use Rattle.line.specs.Calls.{is_quiet, called_of}
use Rattle.line.specs.declared.Call.{Call}
use Rattle.line.specs.declared.Call.TheVariants.{Quiet}
use Rattle.carrying.specs.Carrying.{carry}
use Rattle.machine.specs.Device.{Lent, enough, Machine, After, state_of, taken, not_taken}
use Rattle.machine.specs.Hearing.{PartHeard, one_more, hearing, after_part}

few_taken : (bytes : List ℕ) (m : Machine) (lent : Lent) → (hearing m lent bytes).taken ≤ length bytes
few_taken [] m lent = omega arith
few_taken (x ∷ xs) m lent = go (is_quiet call) (few_taken xs a.machine a.lent)
  where
    a : After
    a = taken m lent (turn carry (state_of m) x)

    call : Call
    call = (called_of m.device.line m.frame x).call

    go : (q : Bool) → (hearing a.machine a.lent xs).taken ≤ length xs
        → (cond q (one_more (hearing a.machine a.lent xs)) (record { after = a; call = call; taken = 1 })).taken ≤ suc (length xs)
    go true h = omega (arith, h)
    go false h = omega arith

some_taken : (bytes : List ℕ) (m : Machine) (lent : Lent) → 0 < length bytes → 0 < (hearing m lent bytes).taken
some_taken [] m lent h = absurd (omega (arith, h))
some_taken (x ∷ xs) m lent h = go (is_quiet call)
  where
    a : After
    a = taken m lent (turn carry (state_of m) x)

    call : Call
    call = (called_of m.device.line m.frame x).call

    go : (q : Bool) → 0 < (cond q (one_more (hearing a.machine a.lent xs)) (record { after = a; call = call; taken = 1 })).taken
    go true = omega arith
    go false = omega arith

module _ (m : Machine) (lent : Lent) (bytes : List ℕ) where
  abbrev either : Bool → PartHeard
  either long = cond long (hearing m lent bytes) (record { after = not_taken m lent; call = Quiet; taken = 0 })

  pub part_within : (after_part m lent bytes).taken ≤ length bytes
  part_within = go (enough lent)
    where
      go : (long : Bool) → (either long).taken ≤ length bytes
      go true = few_taken bytes m lent
      go false = omega arith

  pub part_some : enough lent ≡ true → 0 < length bytes → 0 < (after_part m lent bytes).taken
  part_some e h = subst (λ z. 0 < (either z).taken) (sym e) (some_taken bytes m lent h)
