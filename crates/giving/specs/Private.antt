-- What the private functions ask of each other. No promise to a caller rests on it.
use Rattle.std.specs.Prelude.{ℕ, ◌≤◌, ◌≡◌, List, length}

-- the last answer and the buffer, at the lengths they are lent
pub record AtLength (last buffer : List ℕ) : Type 0 where
  pub lasts : length last ≡ 217
  pub room : 217 ≤ length buffer
