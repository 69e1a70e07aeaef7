-- Laws of putting bytes into a buffer, and of digit fields.
use mathlib.Core.Path.{◌≡◌, refl, sym, ap, ◌∙◌}
use mathlib.Core.List.{List, [], ◌∷◌, ◌++◌, append-nil}
use Prim.Native.Nat.{ℕ, zero, suc, ◌+◌, ◌-◌, ◌*◌, ◌/◌, ◌%◌, ◌^◌, ◌≤◌, ◌<◌, min}
use native.Mathlib.Nat.{add-zero, mod-one, pow-suc, one-le-pow}
use native.Mathlib.Omega.{arith}
use lib.ListN.{length, take, drop, set, length-append, length-drop, drop_of_length-le, take-append-drop}
use lib.Arith.{mod-mul}
use lib.Seq.{sets, set_out, set_comm, take_all, drop-set-lt, sets-eq, length-sets}
use Rattle.text.specs.Digits.{digits, number}

module _ {A : Type 0} where
  -- a list of no element
  pub empty : (l : List A) → length l ≡ 0 → l ≡ []
  empty [] e = refl
  empty (x ∷ l) e = absurd (omega arith)

  -- one run after another is the longer run
  pub sets-append : (l : List A) (i : ℕ) (xs ys : List A) → sets l i (xs ++ ys) ≡ sets (sets l i xs) (i + length xs) ys
  sets-append l i [] ys = rw add-zero
  sets-append l i (x ∷ xs) ys = sets-append (set l i x) (suc i) xs ys ∙ ap (λ k. sets (sets (set l i x) (suc i) xs) k ys) (omega arith)

  -- past the end nothing is put
  pub sets-out : (l : List A) (i : ℕ) (vs : List A) → length l ≤ i → sets l i vs ≡ l
  sets-out l i [] h = refl
  sets-out l i (v ∷ vs) h = rw (set_out l i v) (sets-out l (suc i) vs (omega arith))

  -- a run put into what stands behind the first byte
  sets_behind : (x : A) (l : List A) (i : ℕ) (vs : List A) → sets (x ∷ l) (suc i) vs ≡ x ∷ sets l i vs
  sets_behind x l i [] = refl
  sets_behind x l i (v ∷ vs) = sets_behind x (set l i v) (suc i) vs

  -- a run put into the part from i on is put into the whole
  pub sets-part : (i : ℕ) (l vs : List A) → take i l ++ sets (drop i l) 0 vs ≡ sets l i vs
  sets-part zero l vs = refl
  sets-part (suc i) [] vs = sets-out [] 0 vs (omega arith) ∙ sym (sets-out [] (suc i) vs (omega arith))
  sets-part (suc i) (x ∷ l) vs = ap (λ k. x ∷ k) (sets-part i l vs) ∙ sym (sets_behind x l i vs)

  -- what stands there already changes nothing
  sets-front : (n : ℕ) (l : List A) → sets l 0 (take n l) ≡ l
  sets-front zero l = refl
  sets-front (suc n) [] = refl
  sets-front (suc n) (x ∷ l) = sets_behind x l 0 (take n l) ∙ ap (λ k. x ∷ k) (sets-front n l)

  pub sets_same : (i n : ℕ) (l : List A) → sets l i (take n (drop i l)) ≡ l
  sets_same i n l = sym (sets-part i l (take n (drop i l))) ∙ rw (sets-front n (drop i l)) (take-append-drop i l)

  -- the part to the end, as it comes back from the function it was lent to
  pub part_back : (i : ℕ) (l part vs : List A) → part ≡ sets (take (length l - i) (drop i l)) 0 vs
      → take i l ++ (part ++ drop (length l - i) (drop i l)) ≡ sets l i vs
  part_back i l part vs e =
      let all : length (drop i l) ≤ length l - i = omega (arith, length-drop i l) in
      rw (e, take_all (length l - i) (drop i l) all, drop_of_length-le (drop i l) all, append-nil) (sets-part i l vs)

  -- behind a run all stays
  pub drop-sets : (n i : ℕ) (l vs : List A) → i + length vs ≤ n → drop n (sets l i vs) ≡ drop n l
  drop-sets n i l [] h = refl
  drop-sets n i l (v ∷ vs) h = drop-sets n (suc i) (set l i v) vs (omega arith) ∙ drop-set-lt n l i v (omega arith)

  -- a run from the front on covers what was put within it
  pub sets_over : (i : ℕ) (l vs ws : List A) → i + length vs ≤ length ws → length ws ≤ length l → sets (sets l i vs) 0 ws ≡ sets l 0 ws
  sets_over i l vs ws h g =
      sets-eq ws (sets l i vs) 0 (omega (arith, length-sets l i vs))
      ∙ ap (λ d. ws ++ d) (drop-sets (0 + length ws) i l vs (omega arith))
      ∙ sym (sets-eq ws l 0 (omega arith))

  -- a byte behind a run may be put first
  pub set_sets : (l : List A) (i j : ℕ) (vs : List A) (b : A) → i + length vs ≤ j → set (sets l i vs) j b ≡ sets (set l j b) i vs
  set_sets l i j [] b h = refl
  set_sets l i j (v ∷ vs) b h = set_sets (set l i v) (suc i) j vs b (omega arith) ∙ ap (λ k. sets k (suc i) vs) (set_comm l i j v b (omega arith))

  -- as much of a run as has room, from the front on
  pub sets_least : (l vs : List A) (n : ℕ) → n ≡ min (length l) (length vs) → take n vs ++ drop n l ≡ sets l 0 vs
  sets_least l [] n e = let none : n ≡ 0 = omega arith in rw none
  sets_least [] (v ∷ vs) n e =
      let none : n ≡ 0 = omega arith in
      rw none (sym (sets-out [] 0 (v ∷ vs) (omega arith)))
  sets_least (x ∷ l) (v ∷ vs) zero e = absurd (omega arith)
  sets_least (x ∷ l) (v ∷ vs) (suc n) e = ap (λ k. v ∷ k) (sets_least l vs n (omega arith)) ∙ sym (sets_behind v l 0 vs)

-- a field has exactly its width
pub length_digits : (width n : ℕ) → length (digits width n) ≡ width
unfolding digits
length_digits zero n = refl
length_digits (suc w) n = length-append (digits w (n / 10)) ((48 + n % 10) ∷ []) ∙ rw (length_digits w (n / 10)) (omega arith)

-- a turn of the digit writer: the last digit is put, and the digits before it are still to be put
pub digits_turn : (l : List ℕ) (i n : ℕ) → 0 < i → sets l 0 (digits i n) ≡ sets (set l (i - 1) (48 + n % 10)) 0 (digits (i - 1) (n / 10))
unfolding digits
digits_turn l zero n h = absurd (omega arith)
digits_turn l (suc i) n h =
    let back : suc i - 1 ≡ i = omega arith in
    let behind : 0 + length (digits i (n / 10)) ≡ i = omega (arith, length_digits i (n / 10)) in
    rw (back, sets-append l 0 (digits i (n / 10)), behind) (set_sets l 0 i (digits i (n / 10)) (48 + n % 10) (omega arith))

number_append : (before : ℕ) (xs ys : List ℕ) → number before (xs ++ ys) ≡ number (number before xs) ys
unfolding number
number_append before [] ys = refl
number_append before (x ∷ xs) ys = number_append (before * 10 + (x - 48)) xs ys

-- a field read back is the number, as far as its width holds it
pub number_digits : (width n : ℕ) → number 0 (digits width n) ≡ n % 10 ^ width
unfolding digits number
number_digits zero n = sym (mod-one n)
number_digits (suc w) n =
    let digit : 48 + n % 10 - 48 ≡ n % 10 = omega arith in
    let split : n % (10 ^ w * 10) ≡ n / 10 % 10 ^ w * 10 + n % 10 = mod-mul n (one-le-pow w 10 (omega arith)) (omega arith) in
    rw (number_append 0 (digits w (n / 10)), digit, number_digits w (n / 10), pow-suc 10 w, split)
