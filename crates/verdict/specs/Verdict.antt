-- PROTOCOL 3.1, 3.2: the reply number that the first two status bytes of an answer tell.
use Rattle.std.specs.Prelude.{ℕ, ◌/◌, ◌%◌, Bool, cond, eqb}

-- whether the bit of this value is set
abbrev pub has_bit : (value b : ℕ) → Bool
has_bit value b = eqb (b / value % 2) 1

-- PROTOCOL 3.1: bit 0.0 syntax (1), 0.1 unknown (2), 1.0 overflow (4), 1.1 without it not permitted (3); none of them: done (0)
abbrev pub verdict_in : (first second : ℕ) → ℕ
verdict_in first second =
    cond (has_bit 1 first) 1
    (cond (has_bit 2 first) 2
    (cond (has_bit 1 second) 4
    (cond (has_bit 2 second) 3 0)))
