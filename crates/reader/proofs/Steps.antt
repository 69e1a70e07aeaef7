-- Laws of one step of reading.
use mathlib.Core.Path.{◌≡◌, refl, sym, ap, ◌∙◌}
use mathlib.Core.Bool.{Bool, true, false, cond, ◌&&◌}
use mathlib.Core.List.{List, [], ◌∷◌, ◌++◌}
use Prim.Native.Nat.{ℕ, zero, suc, ◌+◌, ◌-◌, ◌%◌, ◌≤◌, ◌<◌}
use native.Mathlib.Omega.{arith}
use lib.Dec.{ltb, eqb}
use lib.ListN.{length, get_or, take, drop, set, length-append, length-drop, get_or-append}
use lib.Seq.{get_or-append-add, length-take-le, get_or-take}
use borrow.Author.Tests.{le-leb, lt-ltb, le-ltb, eq-eqb, ne_eqb, eqb-true, eqb-false}
use Rattle.text.proofs.Laws.{sets-append, sets_same}
use Rattle.wire.proofs.Suits.{length_front}
use Rattle.wire.specs.Places.{front, ending, none, shortest, longest}
use Rattle.reader.specs.Reading.{Place, outside, inside, Read, nothing, broken_frame, heard, suits, at_last, grown, message, read, read_other, starts_anew}
use Rattle.reader.specs.Fields.{heard_of, kept_in, taken_of, place_of}
use Rattle.reader.specs.Private.{Behind}
use Rattle.wire.specs.declared.Way.{Way}
use Rattle.reader.specs.declared.Reader.{Reader}
use Rattle.reader.specs.declared.Taken.{Taken}
use Rattle.reader.specs.declared.Heard.TheVariants.{Nothing, Whole}

-- what a place inside a frame becomes, by the three answers
module _ (k : Way) (sum : ℕ) (bytes : List ℕ) (b : ℕ) where
  pub reads_broken : suits k sum bytes b ≡ false → read_other k (inside sum bytes) b ≡ record { place = outside; event = broken_frame }
  reads_broken e = rw e

  pub reads_more : suits k sum bytes b ≡ true → at_last k bytes ≡ false
      → read_other k (inside sum bytes) b ≡ record { place = inside (grown k sum bytes b) (bytes ++ b ∷ []); event = nothing }
  reads_more e l = rw (e, l)

  pub reads_whole : suits k sum bytes b ≡ true → at_last k bytes ≡ true
      → read_other k (inside sum bytes) b ≡ record { place = outside; event = heard (message k bytes) }
  reads_whole e l = rw (e, l)

-- a step's result and array, from what the step reads
pub reads : (array after : List ℕ) (r : Taken) (x y : Read) → x ≡ y → r ≡ taken_of y → after ≡ kept_in array y.place
    → (r ≡ taken_of x) × (after ≡ kept_in array x.place)
reads array after r x y e p q = (p ∙ ap taken_of (sym e), q ∙ ap (λ z. kept_in array z.place) (sym e))

-- the byte directly behind 01h
module _ (k : Way) (b : ℕ) where
  pub len_more : shortest k ≤ b → b ≤ longest k → read_other k (inside 0 []) b ≡ record { place = inside b (b ∷ []); event = nothing }
  len_more h g = reads_more k 0 [] b (rw (le-leb (shortest k) b h, le-leb b (longest k) g)) refl

-- the bytes behind LEN
abbrev rest : ℕ → List ℕ → List ℕ
rest count array = take (count - 1) (drop 1 array)

first_of : (count : ℕ) (array : List ℕ) → 0 < count → length array ≡ 256 → take count array ≡ get_or array 0 0 ∷ rest count array
first_of zero array h s = absurd (omega arith)
first_of (suc i) [] h s = absurd (omega arith)
first_of (suc i) (x ∷ array) h s =
    let back : suc i - 1 ≡ i = omega arith in
    rw back

module _ (k : Way) (n count : ℕ) (array : List ℕ) (in_frame : Behind k n count array) (fits : count < 256) (sum b : ℕ) where
  abbrev bytes : List ℕ
  bytes = take count array

  is-first : bytes ≡ get_or array 0 0 ∷ rest count array
  is-first = first_of count array in_frame.some in_frame.size

  behind : length (rest count array) ≡ count - 1
  behind =
      let big : count - 1 ≤ length (drop 1 array) = omega (arith, length-drop 1 array, in_frame.size, in_frame.some) in
      length-take-le (count - 1) (drop 1 array) big

  suits-at : suits k sum bytes b ≡ get_or (front k n ++ ending sum) (count - 1) none b
  suits-at = rw (is-first, behind, ← in_frame.announced)

  last-at : at_last k bytes ≡ eqb (count - 1) (length (front k n) + 4)
  last-at = rw (is-first, behind, ← in_frame.announced)

  grown-at : grown k sum bytes b ≡ cond (ltb (count - 1) (length (front k n))) ((sum + b) % 65536) sum
  grown-at = rw (is-first, behind, ← in_frame.announced)

  length-bytes : length bytes ≡ count
  length-bytes = length-take-le count array (omega (arith, in_frame.size))

  kept_more : (g : ℕ) → set array count b ≡ kept_in array (inside g (bytes ++ b ∷ []))
  kept_more g =
      let at : 0 + length bytes ≡ count = omega (arith, length-bytes) in
      rw (sets-append array 0 bytes, at, sets_same 0 count array)

  reader-more : (g : ℕ) → record { reader = record { inside = true; count = count + 1; sum = g }; heard = Nothing } ≡ taken_of (record { place = inside g (bytes ++ b ∷ []); event = nothing })
  reader-more g = rw (length-append bytes (b ∷ []), length-bytes)

  -- the fields and the array with one byte more
  pub more : (g : ℕ) (x : Read) → x ≡ record { place = inside g (bytes ++ b ∷ []); event = nothing }
      → (record { reader = record { inside = true; count = count + 1; sum = g }; heard = Nothing } ≡ taken_of x) × (set array count b ≡ kept_in array x.place)
  more g x e = reads array (set array count b) _ x _ e (reader-more g) (kept_more g)

  -- a byte up to 05h
  module _ (up_to_lem : count ≤ length (front k n)) where
    suits-front : suits k sum bytes b ≡ get_or (front k n) (count - 1) none b
    suits-front = suits-at ∙ ap (λ (t : ℕ → Bool). t b) (get_or-append (front k n) (ending sum) none (count - 1) (omega (arith, in_frame.some)))

    pub front_more : get_or (front k n) (count - 1) none b ≡ true
        → read_other k (inside sum bytes) b ≡ record { place = inside ((sum + b) % 65536) (bytes ++ b ∷ []); event = nothing }
    front_more e =
        let inner : count - 1 < length (front k n) = omega (arith, in_frame.some) in
        reads_more k sum bytes b (suits-front ∙ e) (last-at ∙ ne_eqb (count - 1) (length (front k n) + 4) (λ q. omega arith))
        ∙ rw (grown-at, lt-ltb (count - 1) (length (front k n)) inner)

  -- a byte behind 05h
  module _ (past : length (front k n) < count) where
    suits-ending : suits k sum bytes b ≡ get_or (ending sum) (count - 1 - length (front k n)) none b
    suits-ending =
        let at : length (front k n) + (count - 1 - length (front k n)) ≡ count - 1 = omega arith in
        suits-at ∙ ap (λ (t : ℕ → Bool). t b) (
        ap (λ j. get_or (front k n ++ ending sum) j none) (sym at)
        ∙ get_or-append-add (front k n) (ending sum) (count - 1 - length (front k n)) none)

    pub ending_more : get_or (ending sum) (count - 1 - length (front k n)) none b ≡ true → (count - 1 - length (front k n) ≡ 4 → ⊥)
        → read_other k (inside sum bytes) b ≡ record { place = inside sum (bytes ++ b ∷ []); event = nothing }
    ending_more e l =
        reads_more k sum bytes b (suits-ending ∙ e) (last-at ∙ ne_eqb (count - 1) (length (front k n) + 4) (λ q. l (omega arith)))
        ∙ rw (grown-at, le-ltb (count - 1) (length (front k n)) (omega arith))

    pub ending_whole : get_or (ending sum) (count - 1 - length (front k n)) none b ≡ true → count - 1 - length (front k n) ≡ 4
        → read_other k (inside sum bytes) b ≡ record { place = outside; event = heard (message k bytes) }
    ending_whole e l = reads_whole k sum bytes b (suits-ending ∙ e) (last-at ∙ eq-eqb (count - 1) (length (front k n) + 4) (omega arith))

    -- a whole frame's SEQ, CMD and number of data bytes, as they stand in the array
    pub heard_whole : count - 1 - length (front k n) ≡ 4 → heard_of (heard (message k bytes)) ≡ Whole (get_or array 1 0) (get_or array 2 0) n
    heard_whole l =
        let size = length_front k n in
        let content : length (take n (drop 3 bytes)) ≡ n = length-take-le n (drop 3 bytes) (omega (arith, length-drop 3 bytes, length-bytes)) in
        rw (get_or-take count array 0 0 (omega arith), ← in_frame.announced, content, get_or-take count array 1 0 (omega arith), get_or-take count array 2 0 (omega arith))

-- one byte, by its first test
pub read_start : (k : Way) (p : Place) (b : ℕ) → b ≡ 0x01 → read k p b ≡ record { place = inside 0 []; event = starts_anew p }
read_start k p b e = rw e

pub read_other_lem : (k : Way) (p : Place) (b : ℕ) → (b ≡ 0x01 → ⊥) → read k p b ≡ read_other k p b
read_other_lem k p b e = rw (ne_eqb b 0x01 e)

-- 01h, as the fields tell it
pub starts : (r : Reader) (array : List ℕ) → length array ≡ 256 → starts_anew (place_of r array) ≡ cond (r.inside && ltb 0 r.count) broken_frame nothing
starts r array s = go r.inside r.count
  where
    go : (within : Bool) (count : ℕ) → starts_anew (cond within (inside r.sum (take count array)) outside) ≡ cond (within && ltb 0 count) broken_frame nothing
    go false count = refl
    go true zero = refl
    go true (suc count) = rw (first_of (suc count) array (omega arith) s, lt-ltb 0 (suc count) (omega arith))

pub place_out : (r : Reader) (array : List ℕ) → r.inside ≡ false → place_of r array ≡ outside
place_out r array e = rw e

-- the five ways of a byte, wherever reading stands
pub data Ways (k : Way) (p : Place) (b : ℕ) : Type 0 where
  starts_anew_lem : b ≡ 0x01 → read k p b ≡ record { place = inside 0 []; event = starts_anew p } → Ways k p b
  is_skipped : p ≡ outside → read k p b ≡ record { place = outside; event = nothing } → Ways k p b
  breaks : read k p b ≡ record { place = outside; event = broken_frame } → Ways k p b
  goes_on_lem : (sum : ℕ) (bytes : List ℕ) → p ≡ inside sum bytes → suits k sum bytes b ≡ true → at_last k bytes ≡ false
      → read k p b ≡ record { place = inside (grown k sum bytes b) (bytes ++ b ∷ []); event = nothing } → Ways k p b
  ends : (sum : ℕ) (bytes : List ℕ) → p ≡ inside sum bytes → suits k sum bytes b ≡ true → at_last k bytes ≡ true
      → read k p b ≡ record { place = outside; event = heard (message k bytes) } → Ways k p b

pub ways : (k : Way) (p : Place) (b : ℕ) → Ways k p b
ways k p b = go (eqb b 0x01) refl p
  where
    go : (start : Bool) → eqb b 0x01 ≡ start → (q : Place) → Ways k q b
    go true e q = starts_anew_lem (eqb-true b 0x01 e) (read_start k q b (eqb-true b 0x01 e))
    go false e outside = is_skipped refl (read_other_lem k outside b (eqb-false b 0x01 e))
    go false e (inside sum bytes) = fit (suits k sum bytes b) refl (at_last k bytes) refl
      where
        other : read k (inside sum bytes) b ≡ read_other k (inside sum bytes) b
        other = read_other_lem k (inside sum bytes) b (eqb-false b 0x01 e)

        fit : (s : Bool) → suits k sum bytes b ≡ s → (l : Bool) → at_last k bytes ≡ l → Ways k (inside sum bytes) b
        fit false es l el = breaks (other ∙ reads_broken k sum bytes b es)
        fit true es false el = goes_on_lem sum bytes refl es el (other ∙ reads_more k sum bytes b es el)
        fit true es true el = ends sum bytes refl es el (other ∙ reads_whole k sum bytes b es el)
