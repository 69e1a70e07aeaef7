-- The row that was chosen for the open receipt has the text of the definition.
use Prim.Native.Nat.{ℕ}
use mathlib.Core.Path.{◌≡◌, refl, ap, ◌∙◌}
use mathlib.Core.List.{List, []}
use lib.ListN.{get_or}
use Rattle.books.specs.declared.Opened.{Opened}
use Rattle.books.specs.declared.Opened.TheVariants.{Nothing, Fiscal, Text}
use Rattle.sentences.specs.Filled.{filled}
use Rattle.phrases.specs.Sentences.{sentences}
use Rattle.closing.specs.Closing.{open_of}
use Rattle.closing.specs.Private.{open_row}

row_of : (o : Opened) → get_or sentences (open_row o) [] ≡ open_of o
row_of Nothing = refl
row_of Fiscal = refl
row_of Text = refl

pub open_as : (o : Opened) (k : ℕ) (figures : List ℕ) → k ≡ open_row o → filled (get_or sentences k []) [] figures ≡ filled (open_of o) [] figures
open_as o k figures e = ap (λ s. filled s [] figures) (ap (λ n. get_or sentences n []) e ∙ row_of o)
