-- Sentences with holes.
use Rattle.std.specs.Prelude.{ℕ, cond, ◌||◌, List, [], ◌∷◌, ◌++◌, eqb, get_or, drop}
use Rattle.text.specs.Parts.{within}
use Rattle.sentences.specs.Figures.{decimal, leva, hex_two}

-- SCRIPTS 4: a byte of data as a script writes it: itself, where it is a plain letter and no `\`; else `\x` and two hexadecimal digits
abbrev pub shown : ℕ → List ℕ
shown b = cond (within 0x20 0x5B b || within 0x5D 0x7E b) (b ∷ []) (0x5C ∷ 0x78 ∷ hex_two b)

unfoldable pub escaped : List ℕ → List ℕ
escaped [] = []
escaped (b ∷ bs) = shown b ++ escaped bs

-- what a byte of a sentence stands for, with the word and the next number: `#` the number in decimal, `$` in leva, `%` as two hexadecimal digits,
-- `~` the word, `^` the word as a script writes data, `|` a line feed; any other byte itself
abbrev pub piece : (b : ℕ) → (word : List ℕ) → (n : ℕ) → List ℕ
piece b word n =
    cond (eqb b 0x23) (decimal n)
    (cond (eqb b 0x24) (leva n)
    (cond (eqb b 0x25) (hex_two n)
    (cond (eqb b 0x7E) word
    (cond (eqb b 0x5E) (escaped word)
    (cond (eqb b 0x7C) (0x0A ∷ [])
    (b ∷ []))))))

-- how many numbers it takes
abbrev pub takes : ℕ → ℕ
takes b = cond (eqb b 0x23 || (eqb b 0x24 || eqb b 0x25)) 1 0

-- a sentence with its holes filled: each hole for a number takes the next one; where there are no more, zero
unfoldable pub filled : (sentence word figures : List ℕ) → List ℕ
filled [] word figures = []
filled (b ∷ bs) word figures = piece b word (get_or figures 0 0) ++ filled bs word (drop (takes b) figures)
