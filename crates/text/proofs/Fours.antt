-- The digit writer: four digits a division.
use mathlib.Core.Path.{◌≡◌, refl, sym, ap, ◌∙◌}
use mathlib.Core.List.{List, [], ◌∷◌, ◌++◌, append_assoc, append-nil}
use Prim.Native.Nat.{ℕ, zero, suc, ◌+◌, ◌-◌, ◌*◌, ◌/◌, ◌%◌, ◌^◌, ◌≤◌, ◌<◌, min}
use native.Mathlib.Nat.{add-zero, zero-add, add-suc, div-one, pow-zero, pow-suc, one-le-pow, mul_comm, div-div-eq-div-mul}
use native.Mathlib.Omega.{arith}
use lib.Arith.{mod-mul}
use lib.ListN.{length, set, take, drop, length-drop}
use Rattle.std.proofs.Common.{w32}
use Rattle.std.specs.Int.{to_le_bytes}
use lib.Seq.{sets}
use Rattle.text.specs.Digits.{digits}
use Rattle.text.proofs.Laws.{sets-append, sets-part, set_sets, sets_least, length_digits}

-- a run behind another may be put first
sets-sets : {A : Type 0} (l : List A) (i j : ℕ) (xs ys : List A) → i + length xs ≤ j → sets (sets l i xs) j ys ≡ sets (sets l j ys) i xs
sets-sets l i j xs [] h = refl
sets-sets l i j xs (y ∷ ys) h = rw (set_sets l i j xs y h) (sets-sets (set l j y) i (suc j) xs ys (omega arith))

-- the last k digits stand behind those of what is left without them
digits_cut : (k w n : ℕ) → digits (w + k) n ≡ digits w (n / 10 ^ k) ++ digits k n
unfolding digits
digits_cut zero w n = rw (add-zero, pow-zero 10, div-one, append-nil)
digits_cut (suc k) w n =
    let left : n / 10 / 10 ^ k ≡ n / (10 ^ k * 10) = div-div-eq-div-mul n 10 (10 ^ k) ∙ ap (λ m. n / m) (mul_comm 10 (10 ^ k)) in
    rw (add-suc, digits_cut k w (n / 10), pow-suc 10 k, left) (append_assoc (digits w (n / (10 ^ k * 10))) (digits k (n / 10)) ((48 + n % 10) ∷ []))

-- and are those of the number's rest
digits_rest : (k n : ℕ) → digits k (n % 10 ^ k) ≡ digits k n
unfolding digits
digits_rest zero n = refl
digits_rest (suc k) n =
    let split : n % (10 ^ k * 10) ≡ n / 10 % 10 ^ k * 10 + n % 10 = mod-mul n (one-le-pow k 10 (omega arith)) (omega arith) in
    let before : n % (10 ^ k * 10) / 10 ≡ n / 10 % 10 ^ k = omega (arith, split) in
    let last : n % (10 ^ k * 10) % 10 ≡ n % 10 = omega (arith, split) in
    rw (pow-suc 10 k, before, last, digits_rest k (n / 10))

-- a turn: the last four digits are put, and the digits before them are still to be put
pub four_turn : (l : List ℕ) (i w n : ℕ) → i + 4 ≡ w → sets (sets l i (digits 4 (n % 10000))) 0 (digits i (n / 10000)) ≡ sets l 0 (digits w n)
four_turn l i w n whole =
    let first = digits i (n / 10000) in
    let size : length first ≡ i = length_digits i (n / 10000) in
    let cut : digits w n ≡ first ++ digits 4 n = ap (λ k. digits k n) (sym whole) ∙ digits_cut 4 i n in
    sym (sets-sets l 0 i first (digits 4 (n % 10000)) (omega (arith, size)))
    ∙ ap (λ d. sets (sets l 0 first) i d) (digits_rest 4 n)
    ∙ ap (λ k. sets (sets l 0 first) k (digits 4 n)) (sym (zero-add (length first) ∙ size))
    ∙ sym (ap (λ d. sets l 0 d) cut ∙ sets-append l 0 first (digits 4 n))

-- below 100 a tenth is 103 / 1024
tenth : (p : ℕ) → p < 100 → p * 103 / 1024 ≡ p / 10
tenth p h = omega arith

-- below 10,000 a hundredth is 5243 / 524288
hundredth : (p : ℕ) → p < 10000 → p * 5243 / 524288 ≡ p / 100
hundredth p h = omega arith

-- both halves of a number below 10,000 side by side
halves : (p : ℕ) → p < 10000 → p * 65536 - p * 5243 / 524288 * 6553599 ≡ p / 100 + p % 100 * 65536
halves p h = rw (hundredth p h) (omega arith)

-- the tens of both
tens_of_both : (a b : ℕ) → a < 100 → b < 100
    → (a + b * 65536) * 103 % 65536 / 1024 + (a + b * 65536) * 103 / 67108864 * 65536 ≡ a / 10 + b / 10 * 65536
tens_of_both a b h g =
    let low : (a + b * 65536) * 103 % 65536 ≡ a * 103 = omega arith in
    let high : (a + b * 65536) * 103 / 67108864 ≡ b * 103 / 1024 = omega arith in
    rw (low, high, tenth a h, tenth b g)

-- tens and ones of both, a byte each, 48 added
four_bytes : (a b : ℕ) → a < 100 → b < 100
    → 808464432 + (a + b * 65536) * 256 - (a / 10 + b / 10 * 65536) * 2559
    ≡ 48 + a / 10 + (48 + a % 10) * 256 + (48 + b / 10) * 65536 + (48 + b % 10) * 16777216
four_bytes a b h g = omega arith

-- what `put_four` works out
abbrev pub pairs_of : ℕ → ℕ
pairs_of p = p * 65536 - p * 5243 / 524288 * 6553599

abbrev pub tens_of : ℕ → ℕ
tens_of p = pairs_of p * 103 % 65536 / 1024 + pairs_of p * 103 / 67108864 * 65536

abbrev pub all_of : ℕ → ℕ
all_of p = 808464432 + pairs_of p * 256 - tens_of p * 2559

pub pairs_is : (p : ℕ) → p < 10000 → pairs_of p ≡ p / 100 + p % 100 * 65536
pairs_is p h = halves p h

pub tens_is : (p : ℕ) → p < 10000 → tens_of p ≡ p / 100 / 10 + p % 100 / 10 * 65536
tens_is p h = rw (halves p h) (tens_of_both (p / 100) (p % 100) (omega arith) (omega arith))

all_is : (p : ℕ) → p < 10000
    → all_of p ≡ 48 + p / 100 / 10 + (48 + p / 100 % 10) * 256 + (48 + p % 100 / 10) * 65536 + (48 + p % 100 % 10) * 16777216
all_is p h = rw (tens_is p h, pairs_is p h) (four_bytes (p / 100) (p % 100) (omega arith) (omega arith))

-- the four bytes of a number
module _ (a b c d : ℕ) (ha : a < 256) (hb : b < 256) (hc : c < 256) where
  abbrev four : ℕ
  four = a + b * 256 + c * 65536 + d * 16777216

  byte-0 : four % 256 ≡ a
  byte-0 = omega arith

  byte-1 : four / 256 % 256 ≡ b
  byte-1 = omega arith

  byte-2 : four / 65536 % 256 ≡ c
  byte-2 = omega arith

  byte-3 : d < 256 → four / 16777216 % 256 ≡ d
  byte-3 hd = omega arith

-- they are the digits
pub all_bytes : (p : ℕ) → p < 10000 → to_le_bytes w32 (all_of p) ≡ digits 4 p
unfolding digits
all_bytes p h =
    let a = 48 + p / 100 / 10 in
    let b = 48 + p / 100 % 10 in
    let c = 48 + p % 100 / 10 in
    let d = 48 + p % 100 % 10 in
    let ha : a < 256 = omega arith in
    let hb : b < 256 = omega arith in
    let hc : c < 256 = omega arith in
    let hd : d < 256 = omega arith in
    let hundred : p / 10 / 10 ≡ p / 100 = div-div-eq-div-mul p 10 10 in
    let thousands : p / 100 / 10 ≡ p / 100 / 10 % 10 = omega arith in
    let tens : p % 100 / 10 ≡ p / 10 % 10 = omega arith in
    let ones : p % 100 % 10 ≡ p % 10 = omega arith in
    rw (all_is p h, byte-0 a b c d ha hb hc, byte-1 a b c d ha hb hc, byte-2 a b c d ha hb hc, byte-3 a b c d ha hb hc hd, hundred, tens, ones)
    (ap (λ t. (48 + t) ∷ b ∷ (48 + p / 10 % 10) ∷ (48 + p % 10) ∷ []) thousands)

-- four bytes put in their place
pub four_put : (l : List ℕ) (at p : ℕ) (four : List ℕ) → p < 10000 → at + 3 < length l → four ≡ to_le_bytes w32 (all_of p)
    → take at l ++ (four ++ drop (at + 4 - at) (drop at l)) ≡ sets l at (digits 4 p)
four_put l at p four h room e =
    let four_long : at + 4 - at ≡ 4 = omega arith in
    let fits : 4 ≡ min (length (drop at l)) 4 = omega (arith, length-drop at l) in
    rw (e, four_long, ← all_bytes p h) (ap (λ d. take at l ++ d) (sets_least (drop at l) (to_le_bytes w32 (all_of p)) 4 fits) ∙ sets-part at l (to_le_bytes w32 (all_of p)))

-- what is taken off is there
pub pairs_fit : (p : ℕ) → p < 10000 → p * 5243 / 524288 * 6553599 ≤ p * 65536
pairs_fit p h = rw (hundredth p h) (omega arith)
