-- Laws of the tests, as the code asks them.
use Rattle.std.proofs.lemmas.Bool.{and_parts}
use mathlib.Core.Path.{◌≡◌, refl, sym, ap, ◌∙◌}
use mathlib.Core.Bool.{Bool, true, false, ◌&&◌}
use mathlib.Core.List.{List, [], ◌∷◌, ◌++◌, append_assoc}
use Prim.Native.Nat.{ℕ, zero, suc, ◌+◌, ◌-◌, ◌≤◌, ◌<◌}
use native.Mathlib.Numerals.{add-one}
use native.Mathlib.Omega.{arith}
use lib.Dec.{leb, eqb}
use lib.ListN.{length, get_or, drop, replicate, length-append, length-replicate, get_or-replicate, get_or-append, get_or-eq_default, drop_of_length-le}
use lib.Seq.{get_or-append-add, drop-cons}
use borrow.Author.Tests.{le-leb, ne_eqb}
use Rattle.wire.specs.Bytes.{within, may_stand, may_stand_in_data, every}
use Rattle.wire.specs.Frame.{bcc}
use Rattle.wire.specs.Places.{behind_data, front, ending, is, none}
use Rattle.wire.specs.declared.Way.{Way}
use Rattle.wire.specs.declared.Way.TheVariants.{ToDevice, ToTill}
use Rattle.wire.specs.declared.Role.TheVariants.{Data}

pub &&-true : (a : Bool) → a && true ≡ a
&&-true true = refl
&&-true false = refl

pub &&-false : (a : Bool) → a && false ≡ false
&&-false true = refl
&&-false false = refl

-- a byte is never above FFh, so the upper bound costs the code nothing
pub within_byte : (lowest b : ℕ) → b < 256 → leb lowest b ≡ within lowest 0xFF b
within_byte lowest b h = rw (le-leb b 0xFF (omega arith)) (sym (&&-true (leb lowest b)))

pub data_byte : (b : ℕ) → b < 256 → (b ≡ 0x09 → ⊥) → (b ≡ 0x0A → ⊥) → (b ≡ 0x10 → ⊥) → leb 0x20 b ≡ may_stand_in_data b
data_byte b h p q r = rw (ne_eqb b 0x09 p, ne_eqb b 0x0A q, ne_eqb b 0x10 r) (within_byte 0x20 b h)

-- every byte of a part, from the front on
module _ (test : ℕ → Bool) (xs : List ℕ) (i : ℕ) where
  pub every_turn : i < length xs → test (get_or xs i 0) ≡ true → every test (drop i xs) ≡ every test (drop (i + 1) xs)
  every_turn h e = rw (add-one, drop-cons xs i 0, e)

  pub every_stop : i < length xs → test (get_or xs i 0) ≡ false → every test (drop i xs) ≡ false
  every_stop h e = rw (drop-cons xs i 0, e)

  pub every_done : length xs ≤ i → every test (drop i xs) ≡ true
  every_done h = rw (drop_of_length-le xs h)

pub behind_small : (k : Way) → length (behind_data k) ≤ 7
behind_small ToDevice = omega arith
behind_small ToTill = omega arith

-- behind the last test nothing suits
pub out : (tests : List (ℕ → Bool)) (at b : ℕ) → length tests ≤ at → get_or tests at none b ≡ false
out tests at b h = ap (λ t. t b) (get_or-eq_default tests none h)

-- the places from SEQ to 05h
pub length_front : (k : Way) (n : ℕ) → length (front k n) ≡ 3 + n + length (behind_data k)
length_front k n =
    let a : length (replicate n (may_stand Data) ++ behind_data k ++ is 0x05 ∷ []) ≡ n + length (behind_data k) + 1 =
    simp (length-append, length-replicate) in
    omega arith

pub front_data : (k : Way) (n at b : ℕ) → 2 ≤ at → at - 2 < n → may_stand Data b ≡ get_or (front k n) at none b
front_data k n zero b g h = absurd (omega arith)
front_data k n (suc zero) b g h = absurd (omega arith)
front_data k n (suc (suc i)) b g h =
    let in_data : i < n = omega arith in
    rw (append_assoc (replicate n (may_stand Data)))
    (sym (ap (λ (t : ℕ → Bool). t b) (
    get_or-append (replicate n (may_stand Data)) (behind_data k ++ is 0x05 ∷ []) none i (omega (arith, length-replicate n (may_stand Data)))
    ∙ get_or-replicate n i (may_stand Data) none in_data)))

pub front_behind : (k : Way) (n at b : ℕ) → 2 ≤ at → n ≤ at - 2
    → get_or (behind_data k ++ is 0x05 ∷ []) (at - 2 - n) none b ≡ get_or (front k n) at none b
front_behind k n zero b g h = absurd (omega arith)
front_behind k n (suc zero) b g h = absurd (omega arith)
front_behind k n (suc (suc i)) b g h =
    let past : length (replicate n (may_stand Data)) + (suc (suc i) - 2 - n) ≡ i = omega (arith, length-replicate n (may_stand Data)) in
    rw append_assoc
    (sym (ap (λ (t : ℕ → Bool). t b) (
    ap (λ j. get_or (replicate n (may_stand Data) ++ (behind_data k ++ is 0x05 ∷ [])) j none) (sym past)
    ∙ get_or-append-add (replicate n (may_stand Data)) (behind_data k ++ is 0x05 ∷ []) (suc (suc i) - 2 - n) none)))

-- the places behind 05h
pub ending_quad : (sum at b : ℕ) → at < 4 → eqb b (get_or (bcc sum) at 0) ≡ get_or (ending sum) at none b
ending_quad sum zero b h = refl
ending_quad sum (suc zero) b h = refl
ending_quad sum (suc (suc zero)) b h = refl
ending_quad sum (suc (suc (suc zero))) b h = refl
ending_quad sum (suc (suc (suc (suc at)))) b h = absurd (omega arith)
