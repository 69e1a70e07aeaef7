-- Which sentence is told: the row that was chosen has the text of the definition.
use Prim.Native.Nat.{ℕ}
use mathlib.Core.Path.{◌≡◌, refl, sym, ap, ◌∙◌}
use mathlib.Core.Bool.{Bool, true, false, cond}
use mathlib.Core.List.{List, []}
use lib.ListN.{get_or, take}
use Rattle.till.specs.declared.Word.{Word}
use Rattle.till.specs.declared.Word.TheVariants.{Idle, Waiting, SendAgain, Answered, Unfinished, TooShort, NotSent}
use Rattle.words.specs.Words.{words_of}
use Rattle.words.specs.Names.{status_word}
use Rattle.words.specs.declared.rows.Words.{Words}
use Rattle.words.proofs.Short.{in_front, status_short}
use Rattle.sentences.specs.Filled.{filled}
use Rattle.phrases.specs.Sentences.{sentences}
use Rattle.phrases.proofs.Wording.{same_fill, row_of}
use Rattle.saying.specs.Answers.{named_text, flag_text, say_of, says_text}
use Rattle.saying.specs.Private.{say_row}

say_row_lem : (brief : Bool) (w : Word) → get_or sentences (say_row brief w) [] ≡ say_of brief w
say_row_lem true Idle = refl
say_row_lem true (Waiting n) = refl
say_row_lem true (SendAgain n) = refl
say_row_lem true (Answered n) = refl
say_row_lem true (Unfinished n) = refl
say_row_lem true TooShort = refl
say_row_lem true NotSent = refl
say_row_lem false Idle = refl
say_row_lem false (Waiting n) = refl
say_row_lem false (SendAgain n) = refl
say_row_lem false (Answered n) = refl
say_row_lem false (Unfinished n) = refl
say_row_lem false TooShort = refl
say_row_lem false NotSent = refl

say_as : (brief : Bool) (w : Word) (k : ℕ) → k ≡ say_row brief w → filled (get_or sentences k []) [] [] ≡ filled (say_of brief w) [] []
say_as brief w k e = same_fill (row_of k (say_row brief w) e ∙ say_row_lem brief w) refl refl

-- a bit that is set, by its word
pub flag_as : (set : Bool) (place bit : ℕ) (w : Words) → w ≡ words_of (status_word place bit) → (word : List ℕ) → word ≡ take w.count w.bytes → set ≡ true
    → named_text word ≡ cond set (flag_text place bit) []
flag_as set place bit w e word f on =
    ap named_text (f ∙ in_front w (status_word place bit) e (status_short place bit)) ∙ ap (λ b. cond b (flag_text place bit) []) (sym on)

-- any word but an answer
pub says_other : (brief : Bool) (w : Word) (got : List ℕ) (k : ℕ) → k ≡ say_row brief w → ((n : ℕ) → w ≡ Answered n → ⊥)
    → filled (get_or sentences k []) [] [] ≡ says_text brief w got
says_other brief Idle got k e f = say_as brief Idle k e
says_other brief (Waiting n) got k e f = say_as brief (Waiting n) k e
says_other brief (SendAgain n) got k e f = say_as brief (SendAgain n) k e
says_other brief (Answered n) got k e f = absurd (f n refl)
says_other brief (Unfinished n) got k e f = say_as brief (Unfinished n) k e
says_other brief TooShort got k e f = say_as brief TooShort k e
says_other brief NotSent got k e f = say_as brief NotSent k e
