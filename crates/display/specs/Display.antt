-- PROTOCOL 5.17: the text that 100 sends to the customer display.
use Rattle.std.specs.Prelude.{ℕ, ◌+◌, ◌-◌, Bool, true, false, not, cond, ◌&&◌, List, [], ◌∷◌, leb, ltb, eqb, length, take, Option, Some, None}
use Rattle.std.proofs.lemmas.List.Edits.{sets}
use Rattle.text.specs.Parts.{within}

-- PROTOCOL 5.17: the plain text that data stands for: 10h and a byte are the control character 40h below that byte, every other byte is itself. `marked` says
-- that 10h stood before
abbrev pub plain_from : (marked : Bool) → List ℕ → List ℕ
plain_from marked [] = []
plain_from false (b ∷ s) = cond (eqb b 0x10) (plain_from true s) (b ∷ plain_from false s)
plain_from true (b ∷ s) = (b - 0x40) ∷ plain_from false s

abbrev pub plain_of : List ℕ → List ℕ
plain_of s = plain_from false s

-- PROTOCOL 5.17: 40h to 5Fh stands behind each 10h
abbrev pub marks_suit : (marked : Bool) → List ℕ → Bool
marks_suit marked [] = not marked
marks_suit false (b ∷ s) = marks_suit (eqb b 0x10) s
marks_suit true (b ∷ s) = within 0x40 0x5F b && marks_suit false s

-- PROTOCOL 5.17: what can be shown: at most 40 plain bytes
abbrev pub can_show : List ℕ → Bool
can_show s = marks_suit false s && leb (length (plain_of s)) 40

-- PROTOCOL 5.17: the texts that a command shows: 100's plain text, where it can be shown; every other command shows none
abbrev pub shown_by : (code : ℕ) → List ℕ → List (List ℕ)
shown_by code s = cond (eqb code 100 && can_show s) (plain_of s ∷ []) []

-- PROTOCOL 2.5: what the display is told of them, and its lent buffer then: no text, or a text at its front, of so many bytes; the bytes behind it stay
abbrev pub display_of : List (List ℕ) → Option ℕ
display_of [] = None
display_of (t ∷ ts) = Some (length t)

abbrev pub displayed : List ℕ → List (List ℕ) → List ℕ
displayed buffer [] = buffer
displayed buffer (t ∷ ts) = sets buffer 0 t

-- the same read back: no text, or one, which can have no bytes
abbrev pub texts_in : Option ℕ → List ℕ → List (List ℕ)
texts_in None buffer = []
texts_in (Some n) buffer = take n buffer ∷ []

-- PROTOCOL 5.17: the way back, from a plain text to data that stands for it: a control character is sent as 10h and itself plus 40h
abbrev pub data_of : List ℕ → List ℕ
data_of [] = []
data_of (b ∷ t) = cond (ltb b 0x20) (0x10 ∷ (b + 0x40) ∷ data_of t) (b ∷ data_of t)
