-- The fields of an answer, one by one.
use Prim.Native.Nat.{ℕ, zero, suc, ◌+◌, ◌-◌, ◌≤◌, ◌<◌}
use mathlib.Core.Path.{◌≡◌, refl, sym, ap, ◌∙◌}
use mathlib.Core.Bool.{Bool}
use mathlib.Core.List.{List, [], ◌∷◌, ◌++◌}
use native.Mathlib.Omega.{arith}
use lib.ListN.{length, drop, length-drop, drop_of_length-le}
use lib.Seq.{drop-drop}
use Rattle.text.specs.Parts.{first_at, up_to, past}
use Rattle.text.proofs.Cutting.{place_within, cut_length}
use Rattle.words.specs.Fields.{field_word}
use Rattle.entries.specs.Entries.{letters_text}
use Rattle.unfolding.specs.Answers.{fields_text}

-- how long a field is at most
field_length : (rest field : List ℕ) → field ≡ up_to 0x2C rest → length field ≡ first_at 0x2C rest
field_length rest field e = ap length e ∙ sym (cut_length 0x2C rest (first_at 0x2C rest) refl)

pub field_within : (l : List ℕ) (from : ℕ) (field : List ℕ) → field ≡ up_to 0x2C (drop from l) → from ≤ length l → from + length field ≤ length l
field_within l from field e h =
    omega (arith, field_length (drop from l) field e, place_within 0x2C (drop from l), length-drop from l)

module _ (html : Bool) (code : ℕ) where
  fields-step : (more i : ℕ) (rest : List ℕ) → 0 < length rest
      → fields_text (suc more) html code i rest ≡ letters_text html (field_word code i) (up_to 0x2C rest) ++ fields_text more html code (i + 1) (past 0x2C rest)
  unfolding fields_text
  fields-step more i [] h = absurd (omega arith)
  fields-step more i (b ∷ bs) h = refl

  pub fields_next : (l : List ℕ) (i from : ℕ) (field : List ℕ) → i ≤ from → from < length l → field ≡ up_to 0x2C (drop from l)
      → fields_text (length l - i) html code i (drop from l)
      ≡ letters_text html (field_word code i) field ++ fields_text (length l - (i + 1)) html code (i + 1) (drop (from + (length field + 1)) l)
  fields_next l i from field h g e =
      let more : length l - i ≡ suc (length l - (i + 1)) = omega arith in
      let some : 0 < length (drop from l) = omega (arith, length-drop from l) in
      let rest : past 0x2C (drop from l) ≡ drop (from + (length field + 1)) l =
      ap (λ k. drop (k + 1) (drop from l)) (sym (field_length (drop from l) field e)) ∙ drop-drop (length field + 1) from l
      in
      ap (λ k. fields_text k html code i (drop from l)) more
      ∙ fields-step (length l - (i + 1)) i (drop from l) some
      ∙ ap (λ f. letters_text html (field_word code i) f ++ fields_text (length l - (i + 1)) html code (i + 1) (past 0x2C (drop from l))) (sym e)
      ∙ ap (λ r. letters_text html (field_word code i) field ++ fields_text (length l - (i + 1)) html code (i + 1) r) rest

  none : (more i : ℕ) → fields_text more html code i [] ≡ []
  unfolding fields_text
  none zero i = refl
  none (suc more) i = refl

  pub fields_done : (more i : ℕ) (l : List ℕ) (from : ℕ) → length l ≤ from → fields_text more html code i (drop from l) ≡ []
  fields_done more i l from h = ap (fields_text more html code i) (drop_of_length-le l h) ∙ none more i
