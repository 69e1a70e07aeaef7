-- SCRIPTS 2: the words of a line; 4: hexadecimal digits.
use Rattle.std.specs.Prelude.{ℕ, ◌-◌, Bool, cond, List, Option, Some, None}
use Rattle.std.specs.Str.{bytes_eq}
use Prim.Native.String as string
use Rattle.text.specs.Parts.{up_to, past, within}
use Rattle.letters.specs.Letters.{bytes}

abbrev pub same : List ℕ → List ℕ → Bool
same = bytes_eq

-- SCRIPTS 2: whether it is this word
abbrev pub is : string.String → List ℕ → Bool
is text s = same s (bytes text)

-- SCRIPTS 2: the first word, up to the first space; and what stands behind that space
abbrev pub word : List ℕ → List ℕ
word s = up_to 0x20 s

abbrev pub behind : List ℕ → List ℕ
behind s = past 0x20 s

-- SCRIPTS 4: the value of a hexadecimal digit in either case, 0 to 15; none of any other byte
abbrev pub digit_of : ℕ → Option ℕ
digit_of b =
    cond (within 0x30 0x39 b) (Some (b - 0x30))
    (cond (within 0x41 0x46 b) (Some (b - 0x37))
    (cond (within 0x61 0x66 b) (Some (b - 0x57)) None))
