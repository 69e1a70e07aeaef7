-- Laws of a whole run of bytes.
use mathlib.Core.Path.{◌≡◌, refl, sym, ap, ◌∙◌, subst}
use mathlib.Core.Bool.{Bool, true, false, cond}
use mathlib.Core.List.{List, [], ◌∷◌}
use Prim.Native.Nat.{ℕ, suc, ◌+◌, ◌*◌, ◌≤◌, ◌<◌}
use native.Mathlib.Nat.{add_assoc, zero-add}
use native.Mathlib.Numerals.{add-one}
use native.Mathlib.Omega.{arith}
use lib.ListN.{length, get_or, take, drop, replicate, length-append, length-replicate, length-take}
use lib.Seq.{sets-eq, length-sets, take_at, drop-cons}
use Rattle.reader.specs.Private.{broken_of, whole_of}
use Rattle.reader.specs.Reading.{Place, outside, inside, Read, Event, nothing, broken_frame, heard, read, Run, run}
use Rattle.reader.specs.Fields.{place_of, reader_of, kept_in, heard_number, heard_values, heard_of, taken_of, told_of, count, broken_in, whole_in}
use Rattle.wire.specs.declared.Way.{Way}
use Rattle.reader.proofs.Steps.{Ways, starts_anew_lem, is_skipped, breaks, goes_on_lem, ends, ways}
use Rattle.reader.specs.declared.Heard.{Heard}
use Rattle.reader.specs.declared.Heard.TheVariants.{Nothing, Broken, Whole}
use Rattle.reader.specs.declared.Reader.{Reader}
use Rattle.reader.specs.declared.Taken.{Taken}
use Rattle.reader.specs.declared.Told.{Told}

-- the bytes since 01h
abbrev pub bytes_of : Place → List ℕ
bytes_of outside = []
bytes_of (inside sum bytes) = bytes

-- fields and array say the place that they were made of
pub place_back : (array : List ℕ) (p : Place) → length (bytes_of p) ≤ length array → place_of (reader_of p) (kept_in array p) ≡ p
place_back array outside h = refl
place_back array (inside sum bytes) h =
    ap (inside sum) (ap (take (length bytes)) (sets-eq bytes array 0 (omega arith)) ∙ take_at bytes (drop (0 + length bytes) array) (length bytes) refl)

-- a step brings one byte at most
pub read_room : (k : Way) (p : Place) (b : ℕ) → length (bytes_of (read k p b).place) ≤ length (bytes_of p) + 1
read_room k p b = go (ways k p b)
  where
    Room : Read → Type 0
    Room r = length (bytes_of r.place) ≤ length (bytes_of p) + 1

    go : Ways k p b → Room (read k p b)
    go (starts_anew_lem is e) = subst Room (sym e) (omega arith)
    go (is_skipped is e) = subst Room (sym e) (omega arith)
    go (breaks e) = subst Room (sym e) (omega arith)
    go (goes_on_lem sum bytes is fits more e) = subst Room (sym e) (omega (arith, length-append bytes (b ∷ []), ap (λ q. length (bytes_of q)) is))
    go (ends sum bytes is fits last e) = subst Room (sym e) (omega arith)

-- what one byte adds to the counts
broken_heard : (e : Event) → broken_of (heard_of e) ≡ broken_in e
broken_heard nothing = refl
broken_heard broken_frame = refl
broken_heard (heard m) = refl

whole_heard : (e : Event) → whole_of (heard_of e) ≡ whole_in e
whole_heard nothing = refl
whole_heard broken_frame = refl
whole_heard (heard m) = refl

-- 5 for a broken frame and 0 for any other byte; three values for a whole frame and none for any other byte
pub heard_says : (e : Event) → (heard_number (heard_of e) ≡ 5 * broken_in e) × (length (heard_values (heard_of e)) ≡ 3 * whole_in e)
heard_says nothing = (refl, refl)
heard_says broken_frame = (refl, refl)
heard_says (heard m) = (refl, refl)

pub few_broken : (h : Heard) → broken_of h ≤ 1
few_broken Nothing = omega arith
few_broken Broken = omega arith
few_broken (Whole seq code n) = omega arith

pub few_whole : (h : Heard) → whole_of h ≤ 1
few_whole Nothing = omega arith
few_whole Broken = omega arith
few_whole (Whole seq code n) = omega arith

-- what a run brings to counts that stand already
abbrev pub onto : Run → ℕ → ℕ → Told
onto r b w = record { reader = reader_of r.place; broken = b + count broken_in r.events; whole = w + count whole_in r.events }

-- what is known at the loop's head
pub record Head (kind : Way) (bytes array : List ℕ) (reader : Reader) (b w i : ℕ) : Type 0 where
  pub within : i ≤ length bytes
  pub size : length array ≡ 256
  pub small : reader.count < 256
  pub fields : reader ≡ reader_of (place_of reader array)
  pub broken_few : b ≤ i
  pub whole_few : w ≤ i
  pub told : told_of (run kind outside bytes) ≡ onto (run kind (place_of reader array) (drop i bytes)) b w

pub head_start : (kind : Way) (bytes : List ℕ) (reader : Reader) → reader ≡ reader_of outside → Head kind bytes (replicate 256 0) reader 0 0 0
head_start kind bytes reader e =
    subst (λ r. Head kind bytes (replicate 256 0) r 0 0 0) (sym e)
    (record {
      within = omega arith;
      size = length-replicate {A = ℕ} 256 0;
      small = omega arith;
      fields = refl;
      broken_few = omega arith;
      whole_few = omega arith;
      told = simp zero-add;
    })

pub place_room : (r : Reader) (array : List ℕ) → length (bytes_of (place_of r array)) ≤ r.count
place_room r array = go r.inside
  where
    go : (within : Bool) → length (bytes_of (cond within (inside r.sum (take r.count array)) outside)) ≤ r.count
    go true = omega (arith, length-take r.count array)
    go false = omega arith

pub kept_length : (array : List ℕ) (p : Place) → length (kept_in array p) ≡ length array
kept_length array outside = refl
kept_length array (inside sum bytes) = length-sets array 0 bytes

onto_cons : (r : Run) (e : Event) (b w : ℕ)
    → onto (record { place = r.place; events = e ∷ r.events }) b w ≡ onto r (b + broken_of (heard_of e)) (w + whole_of (heard_of e))
onto_cons r e b w = rw (broken_heard e, whole_heard e, add_assoc b (broken_in e), add_assoc w (whole_in e))

-- a turn, first with the fields and the array as the step makes them
module _ (kind : Way) (bytes array : List ℕ) (reader : Reader) (b w i : ℕ) (h : Head kind bytes array reader b w i) (more : i < length bytes) where
  abbrev step : Read
  step = read kind (place_of reader array) (get_or bytes i 0)

  back : place_of (reader_of step.place) (kept_in array step.place) ≡ step.place
  back =
      place_back array step.place
      (omega (arith, read_room kind (place_of reader array) (get_or bytes i 0), place_room reader array, h.size, h.small))

  told-turn : told_of (run kind outside bytes)
      ≡ onto (run kind (place_of (reader_of step.place) (kept_in array step.place)) (drop (i + 1) bytes)) (b + broken_of (heard_of step.event)) (w + whole_of (heard_of step.event))
  told-turn =
      h.told
      ∙ ap (λ z. onto (run kind (place_of reader array) z) b w) (drop-cons bytes i 0 more)
      ∙ onto_cons (run kind step.place (drop (suc i) bytes)) step.event b w
      ∙ ap (λ z. onto (run kind z (drop (suc i) bytes)) (b + broken_of (heard_of step.event)) (w + whole_of (heard_of step.event))) (sym back)
      ∙ rw add-one

  made-turn : (reader_of step.place).count < 256
      → Head kind bytes (kept_in array step.place) (reader_of step.place) (b + broken_of (heard_of step.event)) (w + whole_of (heard_of step.event)) (i + 1)
  made-turn fits =
      record {
        within = omega arith;
        size = kept_length array step.place ∙ h.size;
        small = fits;
        fields = ap reader_of (sym back);
        broken_few = omega (arith, h.broken_few, few_broken (heard_of step.event));
        whole_few = omega (arith, h.whole_few, few_whole (heard_of step.event));
        told = told-turn;
      }

  pub head_turn : (array' : List ℕ) (taken : Taken) → taken ≡ taken_of step → array' ≡ kept_in array step.place → taken.reader.count < 256
      → (b' w' : ℕ) → b' ≡ b + broken_of taken.heard → w' ≡ w + whole_of taken.heard → Head kind bytes array' taken.reader b' w' (i + 1)
  head_turn array' taken et ea fits b' w' eb ew =
      rw (eb, ew, et, ea) (made-turn (subst (λ (t : Taken). t.reader.count < 256) et fits))
