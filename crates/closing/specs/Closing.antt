-- SCRIPTS 7: what is told at the end of a script.
use Rattle.std.specs.Prelude.{ℕ, List, [], ◌∷◌, ◌++◌, get_or}
use Rattle.books.specs.declared.Books.{Books}
use Rattle.books.specs.declared.Opened.{Opened}
use Rattle.books.specs.declared.Opened.TheVariants as opened
use Rattle.tally.specs.declared.Tally.{Tally}
use Rattle.sentences.specs.Filled.{filled}
use Rattle.phrases.specs.Sentences.{figures, none_open, text_open, fiscal_open, ended}

-- which receipt is open; the numbers are told of a fiscal one
abbrev pub open_of : Opened → List ℕ
open_of opened.Nothing = none_open
open_of opened.Fiscal = fiscal_open
open_of opened.Text = text_open

-- PROTOCOL 8.4: the figures of the books: drawer, day, registers, counters and memory
abbrev pub figures_of : Books → List ℕ
figures_of b =
    b.drawer.cash ∷ b.drawer.put ∷ b.drawer.taken
    ∷ get_or b.day 0 0 ∷ get_or b.day 1 0 ∷ get_or b.day 2 0 ∷ get_or b.day 3 0 ∷ get_or b.day 4 0 ∷ get_or b.day 5 0 ∷ get_or b.day 6 0 ∷ get_or b.day 7 0
    ∷ get_or b.registers 0 0 ∷ get_or b.registers 1 0 ∷ get_or b.registers 2 0 ∷ get_or b.registers 3 0
    ∷ b.counters.all ∷ b.counters.fiscal ∷ b.memory.closings ∷ b.memory.total
    ∷ []

abbrev pub books_text : Books → List ℕ
books_text b = filled figures [] (figures_of b) ++ filled (open_of b.opened) [] (b.receipt.lines ∷ b.receipt.total ∷ b.receipt.paid ∷ [])

abbrev pub total_text : Tally → List ℕ
total_text t = filled ended [] (t.answered ∷ t.unfinished ∷ t.unsent ∷ t.carried ∷ [])
