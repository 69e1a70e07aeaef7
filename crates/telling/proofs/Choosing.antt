-- Which sentence is told: the row that was chosen has the text of the definition.
use Prim.Native.Nat.{ℕ, ◌≤◌}
use mathlib.Core.Path.{◌≡◌, refl, ◌∙◌}
use mathlib.Core.Bool.{Bool, true, false, cond}
use mathlib.Core.List.{List, []}
use lib.ListN.{get_or, take, length}
use Rattle.words.specs.Words.{words_of}
use Rattle.words.specs.declared.rows.Words.{Words}
use Rattle.words.proofs.Short.{in_front}
use Rattle.sentences.specs.Filled.{filled}
use Rattle.phrases.specs.Sentences.{sentences, heading_long, heading_brief}
use Rattle.telling.specs.Telling.{way_of}
use Rattle.telling.specs.Private.{way_row}
use Rattle.phrases.proofs.Wording.{same_fill, row_of}

heading_row : (brief : Bool) → get_or sentences (cond brief 1 0) [] ≡ cond brief heading_brief heading_long
heading_row true = refl
heading_row false = refl

pub heading_as : (brief : Bool) (k : ℕ) (w : Words) (l : List ℕ) → k ≡ cond brief 1 0 → w ≡ words_of l → length l ≤ 64
    → filled (get_or sentences k []) (take w.count w.bytes) [] ≡ filled (cond brief heading_brief heading_long) l []
heading_as brief k w l e f h = same_fill (row_of k (cond brief 1 0) e ∙ heading_row brief) (in_front w l f h) refl

way_row_lem : (answer one : Bool) → get_or sentences (way_row answer one) [] ≡ way_of answer one
way_row_lem true true = refl
way_row_lem true false = refl
way_row_lem false true = refl
way_row_lem false false = refl

pub way_as : (answer one : Bool) (k : ℕ) (figures : List ℕ) → k ≡ way_row answer one → filled (get_or sentences k []) [] figures ≡ filled (way_of answer one) [] figures
way_as answer one k figures e = same_fill (row_of k (way_row answer one) e ∙ way_row_lem answer one) refl refl
