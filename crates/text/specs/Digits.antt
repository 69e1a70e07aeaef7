-- PROTOCOL 4.9 and 4.1: a number as a field of digits, written and read.
use Rattle.std.specs.Prelude.{ℕ, zero, suc, ◌+◌, ◌-◌, ◌*◌, ◌/◌, ◌%◌, List, [], ◌∷◌, ◌++◌}

-- PROTOCOL 4.9: a number as `width` decimal digits, filled up with zeros; the last digit is what is left over by ten
unfoldable pub digits : ℕ → ℕ → List ℕ
digits zero n = []
digits (suc width) n = digits width (n / 10) ++ (48 + n % 10) ∷ []

-- PROTOCOL 4.1: the number that a field of digits says, read from the left
unfoldable pub number : ℕ → List ℕ → ℕ
number before [] = before
number before (d ∷ ds) = number (before * 10 + (d - 48)) ds
