-- PROTOCOL 1.7: what is expected is what suits. Inside a frame a byte is among those expected where, and only where, the frame goes on with it.
use mathlib.Core.Path.{◌≡◌, refl}
use mathlib.Core.Bool.{false}
use mathlib.Core.List.{List, [], ◌∷◌, ◌++◌}
use Prim.Native.Nat.{ℕ, zero, suc, ◌/◌, ◌<◌}
use native.Mathlib.Decide.{dec_lt}
use native.Mathlib.Omega.{arith}
use lib.Dec.{eqb}
use lib.ListN.{length, get_or, replicate}
use borrow.Author.Tests.{le-leb, lt-leb, ne_eqb, eq-eqb}
use Rattle.wire.specs.Bytes.{within, may_stand}
use Rattle.wire.specs.Frame.{hexadecimal}
use Rattle.wire.specs.Places.{front, ending, none, is, data_count}
use Rattle.wire.specs.declared.Way.TheVariants.{ToDevice}
use Rattle.wire.specs.declared.Role.TheVariants.{Data}
use Rattle.reader.specs.Reading.{inside, suits}
use Rattle.expecting.specs.declared.Part.TheVariants.{Data as InData, Five}
use Rattle.expecting.specs.Expecting.{fits, only, between, behind_all, front_parts, ending_parts, expected_at}

-- from a byte to the same byte there is that byte alone
one : (x b : ℕ) → within x x b ≡ eqb b x
one x b = go (dec_lt x b) (dec_lt b x)
  where
    go : Dec (x < b) → Dec (b < x) → within x x b ≡ eqb b x
    go (yes h) l = rw (le-leb x b (omega arith), lt-leb b x (omega arith), ne_eqb b x (λ e. omega arith))
    go (no h) (yes l) = rw (lt-leb x b l, ne_eqb b x (λ e. omega arith))
    go (no h) (no l) = rw (le-leb x b (omega arith), le-leb b x (omega arith), eq-eqb b x (omega arith))

never : (b : ℕ) → within 1 0 b ≡ false
never zero = refl
never (suc b) = rw (lt-leb (suc b) 0 (omega arith), le-leb 1 (suc b) (omega arith))

module _ (sum b : ℕ) where
  last : (at : ℕ) → fits (get_or (only Five 0x05 ∷ ending_parts sum) at behind_all) b ≡ get_or (is 0x05 ∷ ending sum) at none b
  last zero = one 0x05 b
  last (suc zero) = one (hexadecimal (sum / 4096)) b
  last (suc (suc zero)) = one (hexadecimal (sum / 256)) b
  last (suc (suc (suc zero))) = one (hexadecimal (sum / 16)) b
  last (suc (suc (suc (suc zero)))) = one (hexadecimal sum) b
  last (suc (suc (suc (suc (suc zero))))) = one 0x03 b
  last (suc (suc (suc (suc (suc (suc at)))))) = never b

  behind : (n at : ℕ)
      → fits (get_or ((replicate n (between InData 0x20 0xFF) ++ only Five 0x05 ∷ []) ++ ending_parts sum) at behind_all) b
      ≡ get_or (((replicate n (may_stand Data) ++ []) ++ is 0x05 ∷ []) ++ ending sum) at none b
  behind zero at = last at
  behind (suc n) zero = refl
  behind (suc n) (suc at) = behind n at

  by_place : (n at : ℕ)
      → fits (get_or (front_parts n ++ ending_parts sum) at behind_all) b ≡ get_or (front ToDevice n ++ ending sum) at none b
  by_place n zero = refl
  by_place n (suc zero) = refl
  by_place n (suc (suc at)) = behind n at

pub expected_suits : (sum : ℕ) (bytes : List ℕ) (b : ℕ) → fits (expected_at (inside sum bytes)) b ≡ suits ToDevice sum bytes b
expected_suits sum [] b = refl
expected_suits sum (len ∷ bytes) b = by_place sum b (data_count ToDevice len) (length bytes)
