-- Which row of the table a sentence is. No promise to a caller rests on it.
use Rattle.std.specs.Prelude.{ℕ, Bool, cond}

abbrev pub way_row : (answer one : Bool) → ℕ
way_row answer one = cond answer (cond one 4 5) (cond one 2 3)
