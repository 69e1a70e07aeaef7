-- Which row of the table a sentence is. No promise to a caller rests on it.
use Rattle.std.specs.Prelude.{ℕ}
use Rattle.books.specs.declared.Opened.{Opened}
use Rattle.books.specs.declared.Opened.TheVariants.{Nothing, Fiscal, Text}

abbrev pub open_row : Opened → ℕ
open_row Nothing = 28
open_row Fiscal = 30
open_row Text = 29
