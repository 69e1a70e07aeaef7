-- Bytes that pass their tests are taken in silence.
use mathlib.Core.Path.{◌≡◌, refl, sym, ap, ◌∙◌}
use mathlib.Core.Bool.{Bool, true}
use mathlib.Core.List.{List, [], ◌∷◌, ◌++◌, append_assoc, append-nil}
use Prim.Native.Nat.{ℕ, suc, ◌+◌, ◌%◌, ◌≤◌, ◌<◌}
use native.Mathlib.Omega.{arith}
use lib.ListN.{length, get_or, replicate, length-append, get_or-append}
use lib.Seq.{get_or-append_seam}
use borrow.Author.Tests.{ne_eqb, lt-ltb, le-ltb}
use Rattle.wire.specs.Frame.{total}
use Rattle.wire.specs.Places.{none, front, ending, data_count}
use Rattle.wire.specs.declared.Way.{Way}
use Rattle.reader.specs.Reading.{Place, inside, nothing, Read, read, Run, run, grown}
use Rattle.reader.proofs.Steps.{read_other_lem, reads_more}
use Rattle.reader.proofs.Passing.{Pass, done, more, not_01}

-- the sum with more bytes behind it
abbrev pub sum_on : ℕ → List ℕ → ℕ
sum_on sum [] = sum
sum_on sum (b ∷ bs) = sum_on ((sum + b) % 65536) bs

pub sum_total : (sum : ℕ) (bs : List ℕ) → sum < 65536 → sum_on sum bs ≡ (sum + total bs) % 65536
sum_total sum [] h = omega arith
sum_total sum (b ∷ bs) h = sum_total ((sum + b) % 65536) bs (omega arith) ∙ omega arith

pub sum_snoc : (sum : ℕ) (bs : List ℕ) (b : ℕ) → sum_on sum (bs ++ b ∷ []) ≡ (sum_on sum bs + b) % 65536
sum_snoc sum [] b = refl
sum_snoc sum (x ∷ bs) b = sum_snoc ((sum + x) % 65536) bs b

-- a run, one byte taken off its front
pub run_first : (k : Way) (p : Place) (b : ℕ) (bs : List ℕ) (r : Read) → read k p b ≡ r
    → run k p (b ∷ bs) ≡ record { place = (run k r.place bs).place; events = r.event ∷ (run k r.place bs).events }
run_first k p b bs r e = rw e

-- a run in two parts
pub run_append : (k : Way) (p : Place) (xs ys : List ℕ)
    → run k p (xs ++ ys) ≡ record { place = (run k (run k p xs).place ys).place; events = (run k p xs).events ++ (run k (run k p xs).place ys).events }
run_append k p [] ys = refl
run_append k p (x ∷ xs) ys = ap (λ (r : Run). record { place = r.place; events = (read k p x).event ∷ r.events }) (run_append k (read k p x).place xs ys)

-- nothing n times, and then p
abbrev pub quiet : Place → ℕ → Run
quiet p n = record { place = p; events = replicate n nothing }

-- silence, and then what the rest brings
pub quiet_then : (k : Way) (p q : Place) (xs ys : List ℕ) (n : ℕ) (r : Run) → run k p xs ≡ quiet q n → run k q ys ≡ r
    → run k p (xs ++ ys) ≡ record { place = r.place; events = replicate n nothing ++ r.events }
quiet_then k p q xs ys n r e f =
    run_append k p xs ys
    ∙ ap (λ (z : Run). record { place = (run k z.place ys).place; events = z.events ++ (run k z.place ys).events }) e
    ∙ ap (λ (z : Run). record { place = z.place; events = replicate n nothing ++ z.events }) f

longer : (us : List (ℕ → Bool)) (pre : List ℕ) (t : ℕ → Bool) (x : ℕ) → length us ≡ length pre → length (us ++ t ∷ []) ≡ length (pre ++ x ∷ [])
longer us pre t x l = omega (arith, length-append us (t ∷ []), length-append pre (x ∷ []))

module _ (k : Way) (len : ℕ) where
  abbrev places : List (ℕ → Bool)
  places = front k (data_count k len)

  -- one byte that passes, and is not the last
  step : (sum : ℕ) (pre : List ℕ) (x : ℕ) → get_or (places ++ ending sum) (length pre) none x ≡ true → (length pre ≡ length places + 4 → ⊥)
      → read k (inside sum (len ∷ pre)) x ≡ record { place = inside (grown k sum (len ∷ pre) x) (len ∷ (pre ++ x ∷ [])); event = nothing }
  step sum pre x e last =
      read_other_lem k (inside sum (len ∷ pre)) x (not_01 k (data_count k len) sum (length pre) x e)
      ∙ reads_more k sum (len ∷ pre) x e (ne_eqb (length pre) (length places + 4) last)

  -- it and the rest
  turn : (sum next after : ℕ) (pre : List ℕ) (x : ℕ) (xs : List ℕ)
      → read k (inside sum (len ∷ pre)) x ≡ record { place = inside next (len ∷ (pre ++ x ∷ [])); event = nothing }
      → run k (inside next (len ∷ (pre ++ x ∷ []))) xs ≡ quiet (inside after (len ∷ ((pre ++ x ∷ []) ++ xs))) (length xs)
      → run k (inside sum (len ∷ pre)) (x ∷ xs) ≡ quiet (inside after (len ∷ (pre ++ x ∷ xs))) (suc (length xs))
  turn sum next after pre x xs e rest =
      run_first k (inside sum (len ∷ pre)) x xs _ e
      ∙ ap (λ (r : Run). record { place = r.place; events = nothing ∷ r.events }) rest
      ∙ ap (λ z. quiet (inside after (len ∷ z)) (suc (length xs))) (append_assoc pre (x ∷ []) xs)

  -- up to 05h the sum grows
  pub walk_front : {ts : List (ℕ → Bool)} {xs : List ℕ} → Pass ts xs → (us : List (ℕ → Bool)) (pre : List ℕ) (sum : ℕ) → places ≡ us ++ ts → length us ≡ length pre
      → run k (inside sum (len ∷ pre)) xs ≡ quiet (inside (sum_on sum xs) (len ∷ (pre ++ xs))) (length xs)
  walk_front done us pre sum e l = rw append-nil
  walk_front (more {t} {ts} {x} {xs} h p) us pre sum e l =
      let early : length pre < length places = omega (arith, ap length e, length-append us (t ∷ ts), l) in
      let passes : get_or (places ++ ending sum) (length pre) none x ≡ true =
      ap (λ (f : ℕ → Bool). f x) (get_or-append places (ending sum) none (length pre) early ∙ ap (λ z. get_or z (length pre) none) e ∙ ap (λ j. get_or (us ++ t ∷ ts) j none) (sym l) ∙ get_or-append_seam us t ts none) ∙ h in
      turn sum ((sum + x) % 65536) (sum_on sum (x ∷ xs)) pre x xs
      (step sum pre x passes (λ q. omega arith) ∙ rw (lt-ltb (length pre) (length places) early))
      (walk_front p (us ++ t ∷ []) (pre ++ x ∷ []) ((sum + x) % 65536) (e ∙ sym (append_assoc us (t ∷ []) ts)) (longer us pre t x l))

  -- behind 05h it stands
  pub walk_ending : {ts : List (ℕ → Bool)} {xs : List ℕ} → Pass ts xs → (us : List (ℕ → Bool)) (pre : List ℕ) (sum : ℕ) → places ++ ending sum ≡ us ++ ts → length us ≡ length pre
      → length places ≤ length pre → length pre + length xs ≤ length places + 4
      → run k (inside sum (len ∷ pre)) xs ≡ quiet (inside sum (len ∷ (pre ++ xs))) (length xs)
  walk_ending done us pre sum e l f g = rw append-nil
  walk_ending (more {t} {ts} {x} {xs} h p) us pre sum e l f g =
      let passes : get_or (places ++ ending sum) (length pre) none x ≡ true =
      ap (λ (f : ℕ → Bool). f x) (ap (λ z. get_or z (length pre) none) e ∙ ap (λ j. get_or (us ++ t ∷ ts) j none) (sym l) ∙ get_or-append_seam us t ts none) ∙ h in
      turn sum sum sum pre x xs
      (step sum pre x passes (λ q. omega arith) ∙ rw (le-ltb (length pre) (length places) f))
      (walk_ending p (us ++ t ∷ []) (pre ++ x ∷ []) sum (e ∙ sym (append_assoc us (t ∷ []) ts)) (longer us pre t x l)
      (omega (arith, length-append pre (x ∷ []))) (omega (arith, length-append pre (x ∷ []))))
