-- EXPLAIN 2: a line is a label and a value; in a page it is a row of a table.
use Rattle.std.specs.Prelude.{ℕ, Bool, Option, Some, None, cond, List, [], ◌∷◌, ◌++◌, eqb, length}
use Rattle.letters.specs.Letters.{bytes}
use Rattle.sentences.specs.Filled.{filled}
use Rattle.items.specs.declared.Label.{Label}
use Rattle.items.specs.declared.Item.{Item}
use Rattle.captions.specs.Captions.{label_word}
use Rattle.pages.specs.Pages.{each, hex_of, shown_as, value_text, opened, closed}

-- EXPLAIN 2: its label, what is told behind it, and its end
abbrev pub line_text : (html : Bool) → (label told : List ℕ) → List ℕ
line_text html label told = opened html label ++ (told ++ closed html)

-- EXPLAIN 2: a value with its label; no line where there is none
abbrev pub item_text : (html : Bool) → Option Item → List ℕ
item_text html None = []
item_text html (Some item) = line_text html (label_word item.label) (bytes " " ++ value_text (Some item.value))

abbrev pub four_text : (html : Bool) → List (Option Item) → List ℕ
four_text html [] = []
four_text html (line ∷ lines) = item_text html line ++ four_text html lines

-- EXPLAIN 2: bytes are hexadecimal: some, more of them, and the last
abbrev pub bytes_text : (html : Bool) → Label → (first some last : List ℕ) → List ℕ
bytes_text html label first some last = line_text html (label_word label) (each hex_of first ++ each hex_of some ++ each hex_of last)

-- EXPLAIN 2: bytes as a text, also one of no bytes
abbrev pub letters_text : (html : Bool) → (label letters : List ℕ) → List ℕ
letters_text html label letters = line_text html label (bytes " " ++ shown_as html letters)

-- the same, and no line where there are none
abbrev pub some_text : (html : Bool) → Label → (letters : List ℕ) → List ℕ
some_text html label letters = cond (eqb (length letters) 0) [] (letters_text html (label_word label) letters)

-- EXPLAIN 2: a sentence with a word and numbers
abbrev pub said_text : (html : Bool) → Label → (sentence word figures : List ℕ) → List ℕ
said_text html label sentence word figures = line_text html (label_word label) (filled sentence word figures)
