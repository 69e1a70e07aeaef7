-- SCRIPTS 4: the data of a command, as it is written in a line.
use Rattle.std.specs.Prelude.{ℕ, ◌+◌, ◌*◌, ◌%◌, Bool, true, false, cond, List, [], ◌∷◌, ◌++◌, eqb, Option, Some, None}
use Rattle.writing.specs.Words.{digit_of}
use Rattle.writing.specs.declared.Stand.{Stand}
use Rattle.writing.specs.declared.Stand.TheVariants.{Plain, Escape, High, Low, Spoilt}
use Rattle.writing.specs.declared.Step.{Step}
use Rattle.writing.specs.declared.Step.TheVariants.{Says, GoesTo}

-- SCRIPTS 4: a byte stands for itself, but for `\`
abbrev pub plain_step : ℕ → Step
plain_step b = cond (eqb b 0x5C) (GoesTo Escape) (Says b)

-- SCRIPTS 4: behind `\`: t is Tab, n line feed, `\` itself; behind x come two hexadecimal digits
abbrev pub escape_step : ℕ → Step
escape_step b =
    cond (eqb b 0x74) (Says 0x09)
    (cond (eqb b 0x6E) (Says 0x0A)
    (cond (eqb b 0x5C) (Says 0x5C)
    (cond (eqb b 0x78) (GoesTo High) (GoesTo Spoilt))))

abbrev pub high_step : (digit : Option ℕ) → Step
high_step (Some high) = GoesTo (Low high)
high_step None = GoesTo Spoilt

abbrev pub low_step : (high : ℕ) → (digit : Option ℕ) → Step
low_step high (Some low) = Says (high % 16 * 16 + low)
low_step high None = GoesTo Spoilt

-- SCRIPTS 4: what a byte says, by where reading stands: a byte of the data, or none yet
abbrev pub step_of : Stand → ℕ → Step
step_of Plain b = plain_step b
step_of Escape b = escape_step b
step_of High b = high_step (digit_of b)
step_of (Low high) b = low_step high (digit_of b)
step_of Spoilt b = GoesTo Spoilt

abbrev pub said_by : Step → List ℕ
said_by (Says b) = b ∷ []
said_by (GoesTo stand) = []

abbrev pub stand_after : Step → Stand
stand_after (Says b) = Plain
stand_after (GoesTo stand) = stand

-- SCRIPTS 4: the data that bytes say, and where reading stands behind them
unfoldable pub said_in : Stand → List ℕ → List ℕ
said_in stand [] = []
said_in stand (b ∷ bs) = said_by (step_of stand b) ++ said_in (stand_after (step_of stand b)) bs

unfoldable pub end_of : Stand → List ℕ → Stand
end_of stand [] = stand
end_of stand (b ∷ bs) = end_of (stand_after (step_of stand b)) bs

-- SCRIPTS 4: only there may data end
abbrev pub is_plain : Stand → Bool
is_plain Plain = true
is_plain Escape = false
is_plain High = false
is_plain (Low high) = false
is_plain Spoilt = false
