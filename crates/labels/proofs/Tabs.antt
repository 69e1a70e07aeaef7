-- Laws of the texts before a Tab.
use Rattle.std.proofs.lemmas.Bool.{and_parts}
use Rattle.std.specs.Prelude.{Option, Some, None}
use mathlib.Core.Path.{◌≡◌, refl, sym, ap, ◌∙◌}
use mathlib.Core.Bool.{Bool, true, false, cond, ◌&&◌}
use mathlib.Core.List.{List, []}
use Prim.Native.Nat.{ℕ, ◌+◌, ◌-◌, ◌≤◌, ◌<◌}
use native.Mathlib.Omega.{arith}
use lib.Dec.{leb, ltb}
use lib.ListN.{length, take, drop, drop_of_length-le}
use lib.Seq.{length-take-le, take-take}
use borrow.Author.Tests.{le-leb, lt-leb, lt-ltb, le-ltb, ltb-true}
use Rattle.text.specs.Parts.{every, first_at, has, up_to}
use Rattle.labels.specs.Texts.{text_within, tab, line_feed, is_text, are_texts, begins_with_texts, rest_of, only_line, first_line, second_line}
use Rattle.text.proofs.Cutting.{place_within, drop-take}

pub text_long : (most : ℕ) (s : List ℕ) → most < length s → false ≡ text_within most s
text_long most s h = rw (lt-leb (length s) most h)

pub text_short : (most : ℕ) (s : List ℕ) → length s ≤ most → text_within most s ≡ every (leb 0x20) s
text_short most s h = rw (le-leb (length s) most h)

pub only_is : (s : List ℕ) → is_text s ≡ true → s ≡ only_line s
only_is s e = sym (ap (λ t. cond t s []) e)

pub only_none : (s : List ℕ) → is_text s ≡ false → [] ≡ only_line s
only_none s e = sym (ap (λ t. cond t s []) e)

-- what stands before the Tab, cut at any place
abbrev texts_at : List ℕ → ℕ → Bool
texts_at s at = is_text (take at s) && is_text (drop (at + 1) s)

module _ (s : List ℕ) (at : ℕ) (found : at ≡ first_at line_feed s) where
  pub first_not : is_text (take at s) ≡ false → false ≡ are_texts s
  first_not e =
      let same : false ≡ texts_at s at = rw e in
      same ∙ ap (texts_at s) found

  pub one_text : is_text (take at s) ≡ true → at ≡ length s → true ≡ are_texts s
  one_text e all =
      let none : drop (at + 1) s ≡ [] = drop_of_length-le s {i = at + 1} (omega arith) in
      let same : true ≡ texts_at s at = rw (e, none) in
      same ∙ ap (texts_at s) found

  pub two_texts : is_text (take at s) ≡ true → is_text (drop (at + 1) s) ≡ are_texts s
  two_texts e =
      let same : is_text (drop (at + 1) s) ≡ texts_at s at = rw e in
      same ∙ ap (texts_at s) found

-- the whole data, cut at any place
abbrev rest_at : List ℕ → ℕ → Option ℕ
rest_at s at = cond (ltb at (length s) && are_texts (take at s)) (Some (at + 1)) None

module _ (s : List ℕ) (at : ℕ) (found : at ≡ first_at tab s) where
  pub no_tab : at ≡ length s → None ≡ rest_of s
  no_tab all =
      let same : None ≡ rest_at s at = rw (le-ltb at (length s) (omega arith)) in
      same ∙ ap (rest_at s) found

  module _ (more : at < length s) where
    pub no_texts : are_texts (take at s) ≡ false → None ≡ rest_of s
    no_texts e =
        let same : None ≡ rest_at s at = rw (lt-ltb at (length s) more, e) in
        same ∙ ap (rest_at s) found

    pub rest_at_lem : are_texts (take at s) ≡ true → Some (at + 1) ≡ rest_of s
    rest_at_lem e =
        let same : Some (at + 1) ≡ rest_at s at = rw (lt-ltb at (length s) more, e) in
        same ∙ ap (rest_at s) found

-- what the place of the rest tells
module _ (s : List ℕ) where
  pub not_begun_lem : rest_of s ≡ None → begins_with_texts s ≡ false
  not_begun_lem = go (begins_with_texts s) refl
    where
      go : (b : Bool) → begins_with_texts s ≡ b → cond b (Some (first_at tab s + 1)) None ≡ None → begins_with_texts s ≡ false
      go true e h = let z : ◌≡◌ {A = ℕ} 0 1 = cc in absurd (omega arith)
      go false e h = e

  pub first_none : rest_of s ≡ None → [] ≡ first_line s
  first_none h = rw (not_begun_lem h)

  pub second_none : rest_of s ≡ None → [] ≡ second_line s
  second_none h = rw (not_begun_lem h)

  pub begun : (next : ℕ) → rest_of s ≡ Some next → (begins_with_texts s ≡ true) × (next ≡ first_at tab s + 1)
  begun next = go (begins_with_texts s) refl
    where
      go : (b : Bool) → begins_with_texts s ≡ b → cond b (Some (first_at tab s + 1)) None ≡ Some next → (begins_with_texts s ≡ true) × (next ≡ first_at tab s + 1)
      go true e h = (e, cc)
      go false e h = let z : ◌≡◌ {A = ℕ} 0 1 = cc in absurd (omega arith)

module _ (s : List ℕ) (next : ℕ) (rest : rest_of s ≡ Some next) where
  tab-at : next ≡ first_at tab s + 1
  tab-at = (begun s next rest).1

  pub rest_starts : 1 ≤ next
  rest_starts = omega (arith, tab-at)

  pub rest_within : next ≤ length s
  rest_within =
      let inside : first_at tab s < length s = ltb-true (first_at tab s) (length s) (and_parts (has tab s) (are_texts (up_to tab s)) (begun s next rest).0).0 in
      omega (arith, tab-at)

  pub tab_length : next - 1 ≡ length (take (next - 1) s)
  tab_length = sym (length-take-le (next - 1) s (omega (arith, rest_within)))

  tab-cut : take (next - 1) s ≡ up_to tab s
  tab-cut = let same : next - 1 ≡ first_at tab s = omega (arith, tab-at) in ap (λ k. take k s) same

  -- a line feed before the Tab
  module _ (at : ℕ) (found : at ≡ first_at line_feed (take (next - 1) s)) where
    pub feed_within : at ≤ next - 1
    feed_within = omega (arith, place_within line_feed (take (next - 1) s), tab_length)

    pub first_length : at ≡ length (take at s)
    first_length = sym (length-take-le at s (omega (arith, feed_within, rest_within)))

    pub first_is : take at s ≡ first_line s
    first_is =
        rw ((begun s next rest).0, ← tab-cut, ← found) (sym (take-take at (next - 1) s feed_within))

    pub second_empty : at ≡ next - 1 → [] ≡ second_line s
    second_empty e =
        rw ((begun s next rest).0, ← tab-cut, ← found)
        (sym (drop_of_length-le (take (next - 1) s) {i = at + 1} (omega (arith, tab_length))))

    pub second_is : take (next - 1 - (at + 1)) (drop (at + 1) s) ≡ second_line s
    second_is =
        rw ((begun s next rest).0, ← tab-cut, ← found) (sym (drop-take (at + 1) (next - 1) s))
