use Prim.Native.Nat.{◌-◌}
use mathlib.Core.Path.{◌≡◌}
use Rattle.words.specs.Rows.{row_at}
use Rattle.words.proofs.rows.row_of.Given as goal

-- the row is still to come, behind those that were passed
abbrev pub invariant-loop : goal.invariant-loop
invariant-loop l = row_at (l.k - l.counter) l.rest ≡ row_at l.k l.fn.table
