use Prim.Native.Nat.{◌+◌, ◌-◌}
use mathlib.Core.Path.{◌≡◌}
use Rattle.sentences.specs.Figures.{width_of}
use Rattle.sentences.proofs.width.Given as goal

-- the digits that were counted, with those that are left, are all
abbrev pub invariant-loop-count : goal.invariant-loop-count
invariant-loop-count l = l.count + width_of (20 - l.count) l.left ≡ 1 + width_of 19 l.n
