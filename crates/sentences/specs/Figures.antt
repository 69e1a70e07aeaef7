-- Numbers as they are told.
use Rattle.std.specs.Prelude.{ℕ, zero, suc, ◌+◌, ◌/◌, ◌%◌, cond, List, [], ◌∷◌, ◌++◌, ltb}
use Rattle.text.specs.Digits.{digits}

-- how many decimal digits a number has, where it has no more than `more` and one
unfoldable pub width_of : (more : ℕ) → ℕ → ℕ
width_of zero n = 1
width_of (suc more) n = cond (ltb n 10) 1 (suc (width_of more (n / 10)))

-- a number of at most twenty digits, as every number of 64 bits is
abbrev pub decimal : ℕ → List ℕ
decimal n = digits (width_of 19 n) n

-- a sum of stotinki in leva
abbrev pub leva : ℕ → List ℕ
leva n = decimal (n / 100) ++ 0x2E ∷ digits 2 n

-- a byte as two hexadecimal digits; of a larger number its last two
abbrev pub hex_digit : ℕ → ℕ
hex_digit n = cond (ltb n 10) (48 + n) (87 + n)

abbrev pub hex_two : ℕ → List ℕ
hex_two n = hex_digit (n / 16 % 16) ∷ hex_digit (n % 16) ∷ []
