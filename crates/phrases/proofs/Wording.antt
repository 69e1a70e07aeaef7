-- A sentence by its row, and with a word of the tables.
use Prim.Native.Nat.{ℕ, ◌≤◌}
use mathlib.Core.Path.{◌≡◌, refl, ap}
use mathlib.Core.List.{List, []}
use lib.ListN.{get_or, take, length}
use Rattle.words.specs.Words.{words_of}
use Rattle.words.specs.declared.rows.Words.{Words}
use Rattle.words.proofs.Short.{in_front}
use Rattle.sentences.specs.Filled.{filled}
use Rattle.phrases.specs.Sentences.{sentences}

pub same_fill : {s t v w f g : List ℕ} → s ≡ t → v ≡ w → f ≡ g → filled s v f ≡ filled t w g
same_fill e h i = cc

pub row_of : (k n : ℕ) → k ≡ n → get_or sentences k [] ≡ get_or sentences n []
row_of k n e = ap (λ x. get_or sentences x []) e

-- with a word of the tables
pub worded_as : (k : ℕ) (w : Words) (l figures : List ℕ) → w ≡ words_of l → length l ≤ 64
    → filled (get_or sentences k []) (take w.count w.bytes) figures ≡ filled (get_or sentences k []) l figures
worded_as k w l figures e h = same_fill refl (in_front w l e h) refl
