-- PROTOCOL 5.4: the lines of the open fiscal receipt, newest first, told from the entries; and which of them a line taken off takes back.
use Rattle.std.specs.Prelude.{ℕ, ◌≡◌, Bool, true, cond, ◌&&◌, List, [], ◌∷◌, eqb, length, get_or, Option, Some}
use Rattle.kinds.specs.declared.Sale.{Sale}
use Rattle.sheet.specs.Sheet.{blank, price_in, quantity_in, amount_in, group_in, line_of, no_match}
use Rattle.sheet.specs.Notes.{taken_back}
use Rattle.sheet.specs.declared.Line.{Line}
use Rattle.receipt.specs.Receipts.{amount_of}

-- PROTOCOL 5.4: a line that stands, of the price, quantity and group of a 49
abbrev pub is_like : Line → Sale → Bool
is_like l s = l.stands && eqb l.price s.price && eqb l.quantity s.quantity && eqb l.group s.group

-- PROTOCOL 5.4: the newest such line, with its finished amount
abbrev pub newest_like : Sale → List Line → Option ℕ
newest_like s [] = no_match
newest_like s (l ∷ ls) = cond (is_like l s) (Some l.amount) (newest_like s ls)

-- PROTOCOL 5.4: that line is taken back, and all others stay
abbrev pub without_newest : Sale → List Line → List Line
without_newest s [] = []
without_newest s (l ∷ ls) = cond (is_like l s) (taken_back l ∷ ls) (l ∷ without_newest s ls)

-- PROTOCOL 5.4: the line that a 49 takes back, and what it adds or takes off
abbrev pub match_told : List Line → Sale → Option ℕ
match_told ls s = cond s.minus (newest_like s ls) no_match

abbrev pub amount_told : List Line → Sale → ℕ
amount_told ls s = amount_of s (match_told ls s)

-- PROTOCOL 5.4: one line more
abbrev pub sold_after : List Line → Sale → List Line
sold_after ls s = line_of s (amount_told ls s) ∷ cond s.minus (without_newest s ls) ls

-- PROTOCOL 8.8: what a record is read as
abbrev pub read_as : Line → Line
read_as l = record { price = price_in l; quantity = quantity_in l; amount = amount_in l; group = group_in l; stands = l.stands }

-- PROTOCOL 8.8: a sheet has these lines, the oldest first
abbrev pub Holds : List Line → List Line → Type 0
Holds sheet [] = Unit {0}
Holds sheet (l ∷ ls) = (read_as (get_or sheet (length ls) blank) ≡ l) × Holds sheet ls
