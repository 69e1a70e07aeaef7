-- The lines of a telling, as a text or as one page (EXPLAIN 2).
use Rattle.std.specs.Prelude.{ℕ, ◌/◌, Bool, Option, Some, None, cond, List, [], ◌∷◌, ◌++◌, eqb}
use Rattle.letters.specs.Letters.{bytes}
use Rattle.text.specs.Digits.{digits}
use Rattle.sentences.specs.Figures.{decimal, leva, hex_two}
use Rattle.sentences.specs.Filled.{shown, escaped}
use Rattle.captions.specs.Captions.{saying_word, kind_word}
use Rattle.items.specs.declared.Kind.{Kind}
use Rattle.items.specs.declared.Value.{Value}
use Rattle.items.specs.declared.Value.TheVariants.{Number, Sum, Thousandths, Digits, Letter, Byte, Bytes, InData, Said}

-- what each byte is shown as, one behind the other
abbrev pub each : (ℕ → List ℕ) → List ℕ → List ℕ
each shows [] = []
each shows (b ∷ bs) = shows b ++ each shows bs

-- a byte in hexadecimal, a space before it
abbrev pub hex_of : ℕ → List ℕ
hex_of b = 0x20 ∷ hex_two b

-- SCRIPTS 4: a byte as a script writes data; in a page (HTML) &, < and > by their names
abbrev pub page_letter : ℕ → List ℕ
page_letter b =
    cond (eqb b 0x26) (bytes "&amp;")
    (cond (eqb b 0x3C) (bytes "&lt;")
    (cond (eqb b 0x3E) (bytes "&gt;")
    (shown b)))

abbrev pub shown_as : (html : Bool) → List ℕ → List ℕ
shown_as html bs = cond html (each page_letter bs) (escaped bs)

-- a line begins with its label, and ends; in a page it is a row of a table
abbrev pub opened : (html : Bool) → List ℕ → List ℕ
opened html label = cond html (bytes "<tr><th>") (bytes "  ") ++ label ++ cond html (bytes "</th><td>") (bytes ":")

abbrev pub closed : (html : Bool) → List ℕ
closed html = cond html (bytes "</td></tr>" ++ 10 ∷ []) (10 ∷ [])

-- PROTOCOL 4.3: thousandths; and bytes from one to another
abbrev pub thousandths : ℕ → List ℕ
thousandths n = decimal (n / 1000) ++ bytes "." ++ digits 3 n

abbrev pub bytes_from : ℕ → ℕ → List ℕ
bytes_from least most = hex_two least ++ bytes " to " ++ hex_two most

-- a value
abbrev pub value_text : Option Value → List ℕ
value_text None = []
value_text (Some (Number n)) = decimal n
value_text (Some (Sum n)) = leva n
value_text (Some (Thousandths n)) = thousandths n
value_text (Some (Digits width number)) = digits width number
value_text (Some (Letter b)) = b ∷ []
value_text (Some (Byte b)) = hex_two b
value_text (Some (Bytes least most)) = bytes_from least most
value_text (Some InData) = bytes "09, 0a, 10, 20 to ff"
value_text (Some (Said saying)) = saying_word saying

-- the heading of a frame: its offset, its name where it has one, and what became of it; in a page with a section and its table
abbrev pub sectioned : (html : Bool) → Kind → List ℕ
sectioned html kind = cond html (bytes "<section class='" ++ kind_word kind ++ bytes "'><h2>") []

abbrev pub named_by : List ℕ → List ℕ
named_by [] = []
named_by (b ∷ bs) = b ∷ bs ++ bytes ": "

abbrev pub titled : Kind → (offset : ℕ) → (name : List ℕ) → List ℕ
titled kind offset name = bytes "byte " ++ decimal offset ++ bytes ": " ++ named_by name ++ kind_word kind

abbrev pub headed : (html : Bool) → Kind → (offset : ℕ) → (name : List ℕ) → List ℕ
headed html kind offset name = sectioned html kind ++ titled kind offset name ++ cond html (bytes "</h2><table>" ++ 10 ∷ []) (10 ∷ [])

-- and its end
abbrev pub ended : (html : Bool) → List ℕ
ended html = cond html (bytes "</table></section>" ++ 10 ∷ []) (10 ∷ [])
