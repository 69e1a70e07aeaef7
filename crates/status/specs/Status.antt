-- PROTOCOL chapter 3: the six status bytes. 3.1: bit 7 is 1 in all of them; a bit that is not named is 0.
use Rattle.std.specs.Prelude.{ℕ, ◌+◌, Bool, cond, ◌||◌, List, [], ◌∷◌, leb, eqb}
use Rattle.books.specs.Rates.{capacity_of}
use Rattle.books.specs.declared.Books.{Books}
use Rattle.books.specs.declared.Opened.{Opened}
use Rattle.books.specs.Books.{fiscal_open, text_open}

-- PROTOCOL 3.1: a bit by its value, where it is set
abbrev pub bit : ℕ → Bool → ℕ
bit value set = cond set value 0

-- PROTOCOL 3.1: syntax (1) sets bit 0.0, unknown (2) bit 0.1, not permitted (3) bit 1.1, overflow (4) bits 1.0 and 1.1
abbrev pub tells_syntax : ℕ → Bool
tells_syntax number = eqb number 1

abbrev pub tells_unknown : ℕ → Bool
tells_unknown number = eqb number 2

abbrev pub tells_overflow : ℕ → Bool
tells_overflow number = eqb number 4

abbrev pub tells_refused : ℕ → Bool
tells_refused number = eqb number 3 || eqb number 4

-- PROTOCOL 3.1, 3.2: bit 0.5 where one of these is set; bytes 0 and 1 speak of this command alone
abbrev pub any_verdict : ℕ → Bool
any_verdict number = tells_syntax number || tells_unknown number || tells_overflow number || tells_refused number

abbrev pub verdict0 : ℕ → ℕ
verdict0 number = 0x80 + bit 0x01 (tells_syntax number) + bit 0x02 (tells_unknown number) + bit 0x20 (any_verdict number)

abbrev pub verdict1 : ℕ → ℕ
verdict1 number = 0x80 + bit 0x01 (tells_overflow number) + bit 0x02 (tells_refused number)

-- PROTOCOL 3.3: byte 2, bit 2.3 with a fiscal receipt open, bit 2.5 with a non-fiscal one
abbrev pub receipts : Opened → ℕ
receipts o = 0x80 + bit 0x08 (fiscal_open o) + bit 0x20 (text_open o)

-- PROTOCOL 3.3, 8.6: at most so many closings are free in the memory. Byte 4, bit 4.3 with at most 50 closings free, 4.4 and 4.5 with none; bits 4.1 and 4.2 always. DECISIONS 19: 4.3 stays then
abbrev pub few_free : Books → ℕ → Bool
few_free b free = leb (capacity_of b) (b.memory.closings + free)

abbrev pub memories : Books → ℕ
memories b = 0x86 + bit 0x08 (few_free b 50) + bit 0x10 (few_free b 0) + bit 0x20 (few_free b 0)

-- PROTOCOL 3.1: the six bytes; bits 5.1, 5.3 and 5.4 are always 1
abbrev pub status_of : ℕ → Books → List ℕ
status_of number b =
    verdict0 number ∷ verdict1 number ∷ receipts b.opened ∷ 0x80 ∷ memories b ∷ 0x9A ∷ []
