-- The loops over the bits of a status byte, and over the status bytes; an answer by its parts.
use Prim.Native.Nat.{ℕ, suc, ◌+◌, ◌-◌, ◌/◌, ◌%◌, ◌≤◌, ◌<◌}
use mathlib.Core.Path.{◌≡◌, sym, ap, ◌∙◌}
use mathlib.Core.Bool.{Bool, true, cond}
use mathlib.Core.List.{List, [], ◌++◌}
use native.Mathlib.Numerals.{add-one}
use native.Mathlib.Omega.{arith}
use lib.Dec.{eqb}
use lib.ListN.{length, take, drop, get_or, drop_of_length-le}
use lib.Seq.{drop-cons}
use borrow.Author.Tests.{le-ltb}
use Rattle.words.specs.Words.{words_of}
use Rattle.words.specs.Names.{status_word}
use Rattle.words.specs.declared.rows.Words.{Words}
use Rattle.words.proofs.Short.{in_front, status_short}
use Rattle.unfolding.specs.Answers.{given_text, content_text, named_text, flag_text, bits_text, flags_text, status_text, answer_at, answer_text}

module _ (html : Bool) where
  pub bits_next : (bit place above : ℕ) → bit < 7
      → bits_text html (7 - bit) bit place above ≡ cond (eqb (above % 2) 1) (flag_text html place bit) [] ++ bits_text html (7 - (bit + 1)) (bit + 1) place (above / 2)
  unfolding bits_text
  bits_next bit place above h =
      let more : 7 - bit ≡ suc (6 - bit) = omega arith in
      let left : 7 - (bit + 1) ≡ 6 - bit = omega arith in
      rw (more, left)

  pub bits_done : (bit place above : ℕ) → 7 ≤ bit → bits_text html (7 - bit) bit place above ≡ []
  unfolding bits_text
  bits_done bit place above h = let none : 7 - bit ≡ 0 = omega arith in rw none

  pub flags_next : (six : List ℕ) (i : ℕ) → i < length six
      → flags_text html i (drop i six) ≡ bits_text html 7 0 i (get_or six i 0) ++ flags_text html (i + 1) (drop (i + 1) six)
  unfolding flags_text
  flags_next six i h =
      rw (drop-cons six i 0) (ap (λ k. bits_text html 7 0 i (get_or six i 0) ++ flags_text html (i + 1) (drop k six)) (sym (add-one i)))

  pub flags_done : (six : List ℕ) (i : ℕ) → length six ≤ i → flags_text html i (drop i six) ≡ []
  unfolding flags_text
  flags_done six i h = rw (drop_of_length-le six h)

  -- a bit that is set, by its word
  pub flag_as : (set : Bool) (place bit : ℕ) (w : Words) → w ≡ words_of (status_word place bit) → (word : List ℕ) → word ≡ take w.count w.bytes → set ≡ true
      → named_text html place bit word ≡ cond set (flag_text html place bit) []
  flag_as set place bit w e word f on =
      ap (named_text html place bit) (f ∙ in_front w (status_word place bit) e (status_short place bit))
      ∙ ap (λ b. cond b (flag_text html place bit) []) (sym on)

-- an answer of seventeen bytes or more
pub answer_as_lem : (html : Bool) (code : ℕ) (given : List ℕ) → 17 ≤ length given
    → let end = length given - 13 in
    given_text html given ++ content_text html code (take (end - 4) (drop 4 given)) ++ status_text html (take (end + 7 - (end + 1)) (drop (end + 1) given))
    ≡ answer_text html code given
answer_as_lem html code given h =
    let end = length given - 13 in
    let six : end + 7 - (end + 1) ≡ 6 = omega arith in
    ap (λ n. given_text html given ++ content_text html code (take (end - 4) (drop 4 given)) ++ status_text html (take n (drop (end + 1) given))) six
    ∙ ap (λ b. cond b [] (answer_at html code end given)) (sym (le-ltb (length given) 17 h))
