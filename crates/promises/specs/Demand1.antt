-- Demand 1: whatever comes to either end, at any moment of any history, gets exactly one reply, and that by the table of PROTOCOL 2.1: `AtDevice` and
-- `AtTill` say its rows. Both ends stay within their memory: every function of the code is proved to reach no byte outside what is lent to it.
use Rattle.std.specs.Prelude.{ℕ, List, [], ◌∷◌}
use Rattle.sheet.specs.declared.Line.{Line}
use Rattle.store.specs.Store.{Store, fresh_store}
use Rattle.machine.specs.Device.{Lent}
use Rattle.line.specs.Turns as line
use Rattle.till.specs.Turns as till
use Rattle.promises.specs.AtDevice.{FromDevice, ByDevice, anew}
use Rattle.promises.specs.AtTill.{FromTill, ByTill}

-- PROTOCOL 1.1: both ends; 8.4, 8.5: fresh ones
pub record Bench : Type 0 where
  pub device : line.State Store
  pub till : till.State

-- whatever the sheet holds
abbrev pub fresh_bench : List Line → Bench
fresh_bench sheet = record { device = line.switched_on (fresh_store sheet); till = till.fresh_state }

-- PROTOCOL 2.4: what comes, with what is lent for it: any length, any contents; or the device is switched on anew (8.9)
pub data Comes : Type 0 where
  at_device : (lent : Lent) (byte : ℕ) → Comes
  at_till : (buffer : List ℕ) (h : till.Happening) → Comes
  switching : Comes

-- PROTOCOL 2.1: what either end replies; switched on anew the device gives back nothing (8.9), and this is how it stands then
pub data Outcome : Type 0 where
  from_device : FromDevice → Outcome
  from_till : FromTill → Outcome
  switched : line.State Store → Outcome

-- what comes to the one end changes nothing at the other
abbrev pub bench_after : Bench → Outcome → Bench
bench_after s (from_device r) = record { device = r.device; till = s.till }
bench_after s (from_till r) = record { device = s.device; till = r.till }
bench_after s (switched d) = record { device = d; till = s.till }

-- PROTOCOL 2.1: a reply by the table
pub data ByTheTable (s : Bench) : Comes → Outcome → Type 0 where
  at_device_lem : {lent : Lent} {byte : ℕ} {r : FromDevice} → ByDevice s.device lent byte r → ByTheTable s (at_device lent byte) (from_device r)
  at_till_lem : {buffer : List ℕ} {h : till.Happening} {r : FromTill} → ByTill s.till buffer h r → ByTheTable s (at_till buffer h) (from_till r)
  at_switching : ByTheTable s switching (switched (anew s.device))

-- the replies of a history: each by the table, at both ends as the reply before left them
pub data AllByTheTable : Bench → List Comes → List Outcome → Type 0 where
  no_more : {s : Bench} → AllByTheTable s [] []
  then : {s : Bench} {c : Comes} {r : Outcome} {cs : List Comes} {rs : List Outcome} → ByTheTable s c r → AllByTheTable (bench_after s r) cs rs
      → AllByTheTable s (c ∷ cs) (r ∷ rs)
