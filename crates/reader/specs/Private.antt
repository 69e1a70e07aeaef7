-- What the private functions of reading ask of each other. No promise to a caller rests on it.
use Rattle.std.specs.Prelude.{ℕ, ◌+◌, ◌≤◌, ◌<◌, ◌≡◌, List, length, get_or}
use Rattle.wire.specs.Places.{data_count, behind_data}
use Rattle.wire.specs.declared.Way.{Way}
use Rattle.reader.specs.declared.Heard.{Heard}
use Rattle.reader.specs.declared.Heard.TheVariants.{Nothing, Broken, Whole}

-- `count` bytes have come since 01h, LEN among them, which announces n data bytes
pub record Behind (way : Way) (n count : ℕ) (array : List ℕ) : Type 0 where
  pub some : 0 < count
  pub announced : n ≡ data_count way (get_or array 0 0)
  pub small : n + length (behind_data way) ≤ 219
  pub size : length array ≡ 256

-- what one byte adds to the two counts of a run
abbrev pub broken_of : Heard → ℕ
broken_of Nothing = 0
broken_of Broken = 1
broken_of (Whole seq code n) = 0

abbrev pub whole_of : Heard → ℕ
whole_of Nothing = 0
whole_of Broken = 0
whole_of (Whole seq code n) = 1
