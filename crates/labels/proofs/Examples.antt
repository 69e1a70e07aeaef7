-- PROTOCOL 4.7: texts, worked out by the definitions.
use Rattle.std.specs.Prelude.{Some, None}
use mathlib.Core.Path.{◌≡◌, refl}
use mathlib.Core.Bool.{true, false}
use mathlib.Core.List.{[], ◌∷◌}
use lib.ListN.{replicate}
use Rattle.labels.specs.Texts.{is_text, rest_of, first_line, second_line}

-- "up to 42 bytes, each byte 20h up"
longest : is_text (replicate 42 0x20) ≡ true
longest = refl

too_long_lem : is_text (replicate 43 0x20) ≡ false
too_long_lem = refl

-- `A LF B Tab C`, and a second LF
rest : rest_of (0x41 ∷ 0x0A ∷ 0x42 ∷ 0x09 ∷ 0x43 ∷ []) ≡ Some 4
rest = refl

first : first_line (0x41 ∷ 0x0A ∷ 0x42 ∷ 0x09 ∷ 0x43 ∷ []) ≡ 0x41 ∷ []
first = refl

second : second_line (0x41 ∷ 0x0A ∷ 0x42 ∷ 0x09 ∷ 0x43 ∷ []) ≡ 0x42 ∷ []
second = refl

two_feeds : rest_of (0x41 ∷ 0x0A ∷ 0x42 ∷ 0x0A ∷ 0x09 ∷ []) ≡ None
two_feeds = refl
