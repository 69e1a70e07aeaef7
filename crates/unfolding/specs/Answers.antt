-- EXPLAIN 2: an answer, its fields by name, and the status bits that are set and not always so.
use Rattle.std.specs.Prelude.{ℕ, zero, suc, ◌+◌, ◌-◌, ◌/◌, ◌%◌, Bool, cond, List, [], ◌∷◌, ◌++◌, eqb, ltb, length, take, drop}
use Rattle.letters.specs.Letters.{bytes}
use Rattle.text.specs.Parts.{up_to, past}
use Rattle.writing.specs.Words.{is}
use Rattle.words.specs.Names.{status_word}
use Rattle.words.specs.Fields.{field_word, paid_word}
use Rattle.items.specs.declared.Label.TheVariants.{Answer, Status}
use Rattle.entries.specs.Entries.{bytes_text, letters_text, said_text}

-- EXPLAIN 2: its bytes
abbrev pub given_text : (html : Bool) → List ℕ → List ℕ
given_text html given = bytes_text html Answer [] given []

-- PROTOCOL 4.9: fields from the i-th on, so many at most: each goes up to its comma, and the next one begins behind it
unfoldable pub fields_text : (more : ℕ) → (html : Bool) → (code i : ℕ) → List ℕ → List ℕ
fields_text zero html code i rest = []
fields_text (suc more) html code i [] = []
fields_text (suc more) html code i (b ∷ bs) =
    letters_text html (field_word code i) (up_to 0x2C (b ∷ bs)) ++ fields_text more html code (i + 1) (past 0x2C (b ∷ bs))

-- PROTOCOL 5.6: of 53 a letter, and behind it a sum
abbrev pub paid_text : (html : Bool) → List ℕ → List ℕ
paid_text html [] = []
paid_text html (mark ∷ sum) = letters_text html (paid_word mark) sum

-- PROTOCOL 5.1: the data by the command's code; of 74 it is the status once more
abbrev pub content_text : (html : Bool) → (code : ℕ) → List ℕ → List ℕ
content_text html code content =
    cond (eqb code 74) [] (cond (eqb code 53) (paid_text html content) (fields_text (length content) html code 0 content))

-- PROTOCOL 3.1: what a set bit says: nothing where it is always set
abbrev pub named_text : (html : Bool) → (place bit : ℕ) → List ℕ → List ℕ
named_text html place bit word = cond (is "always" word) [] (said_text html Status (bytes " bit #.#: ~") word (place ∷ bit ∷ []))

abbrev pub flag_text : (html : Bool) → (place bit : ℕ) → List ℕ
flag_text html place bit = named_text html place bit (status_word place bit)

-- PROTOCOL 3.1: so many bits of a status byte, from one on, the lowest first
unfoldable pub bits_text : (html : Bool) → (more bit place above : ℕ) → List ℕ
bits_text html zero bit place above = []
bits_text html (suc more) bit place above =
    cond (eqb (above % 2) 1) (flag_text html place bit) [] ++ bits_text html more (bit + 1) place (above / 2)

-- PROTOCOL 3.1: status bytes from a place on; bit 7 of each is always set
unfoldable pub flags_text : (html : Bool) → (place : ℕ) → List ℕ → List ℕ
flags_text html place [] = []
flags_text html place (b ∷ bs) = bits_text html 7 0 place b ++ flags_text html (place + 1) bs

abbrev pub status_text : (html : Bool) → List ℕ → List ℕ
status_text html six = bytes_text html Status [] six [] ++ flags_text html 0 six

-- PROTOCOL 1.2: 01h, LEN, SEQ and CMD, the data up to `end`, 04h, six status bytes, 05h, four digits of BCC, 03h
abbrev pub answer_at : (html : Bool) → (code end : ℕ) → List ℕ → List ℕ
answer_at html code end given =
    given_text html given ++ content_text html code (take (end - 4) (drop 4 given)) ++ status_text html (take 6 (drop (end + 1) given))

abbrev pub answer_text : (html : Bool) → (code : ℕ) → List ℕ → List ℕ
answer_text html code given = cond (ltb (length given) 17) [] (answer_at html code (length given - 13) given)
