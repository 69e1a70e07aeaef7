use mathlib.Core.Path.{◌≡◌}
use Rattle.sheet.specs.Sheet.{newest}
use Rattle.matching.proofs.place_kept.Given as goal

-- The newest line among those not looked at yet is the newest of all.
abbrev pub invariant-loop-i : goal.invariant-loop-i
invariant-loop-i l = newest l.sheet l.wanted l.n l.i ≡ newest l.sheet l.wanted l.n l.n
