-- PROTOCOL 5.4: what a command looks for in the sheet.
use Rattle.std.specs.Prelude.{ℕ, min, cond}
use Rattle.kinds.specs.declared.Sale.{Sale}
use Rattle.sheet.specs.Sheet.{line_of}
use Rattle.sheet.specs.Searches.{no_search}
use Rattle.sheet.specs.declared.Search.{Search}
use Rattle.books.specs.declared.Books.{Books}
use Rattle.rules.specs.Views.{of_sale}
use Rattle.rules.specs.declared.views.View.{View}

-- PROTOCOL 5.4: as many lines as the receipt has
abbrev pub searched : Books → ℕ
searched b = min b.receipt.lines 512

-- only a line taken off looks for one
abbrev pub search_for : Books → View → Search
search_for b = of_sale no_search (λ s. cond s.minus (record { lines = searched b; wanted = line_of s 0 }) no_search)
