-- PROTOCOL 4.7: the texts before the Tab of 49 and 53, and the text of 42.
use Rattle.std.specs.Prelude.{ℕ, ◌+◌, Bool, cond, ◌&&◌, List, [], leb, length, Option, Some, None}
use Rattle.text.specs.Parts.{every, first_at, has, up_to, past}

-- PROTOCOL 4.7: at most so many bytes, none below 20h
abbrev pub text_within : (most : ℕ) → List ℕ → Bool
text_within most s = leb (length s) most && every (leb 0x20) s

-- PROTOCOL 4.7: a text has 42 at most; 42's data is one text (5.10)
abbrev pub is_text : List ℕ → Bool
is_text = text_within 42

-- PROTOCOL 5.19: the name of an operator has 24 at most
abbrev pub is_name : List ℕ → Bool
is_name = text_within 24

-- PROTOCOL 5.1: the Tab behind the texts, the line feed between them
abbrev pub tab : ℕ
tab = 0x09

abbrev pub line_feed : ℕ
line_feed = 0x0A

-- PROTOCOL 4.7: L1 and L2 of what stands before the Tab. A second line feed would stand in L2, where no byte is below 20h.
abbrev pub are_texts : List ℕ → Bool
are_texts s = is_text (up_to line_feed s) && is_text (past line_feed s)

-- PROTOCOL 4.7: texts and a Tab, with any bytes behind it
abbrev pub begins_with_texts : List ℕ → Bool
begins_with_texts s = has tab s && are_texts (up_to tab s)

-- PROTOCOL 4.7, 5.1: the number, and the value: where the rest begins; 1 for data of another form
abbrev pub found_number : Option ℕ → ℕ
found_number (Some start) = 0
found_number None = 1

abbrev pub found_start : Option ℕ → ℕ
found_start (Some start) = start
found_start None = 0

-- PROTOCOL 4.7: the rest begins behind the first Tab
abbrev pub rest_of : List ℕ → Option ℕ
rest_of s = cond (begins_with_texts s) (Some (first_at tab s + 1)) None

-- PROTOCOL 4.7: texts as they are handed on, parts of the data: 42's, L1 and L2, each of no bytes where it is left out or the data is not of
-- the form
abbrev pub only_line : List ℕ → List ℕ
only_line s = cond (is_text s) s []

abbrev pub first_line : List ℕ → List ℕ
first_line s = cond (begins_with_texts s) (up_to line_feed (up_to tab s)) []

abbrev pub second_line : List ℕ → List ℕ
second_line s = cond (begins_with_texts s) (past line_feed (up_to tab s)) []
