-- A law of the places, as the code asks it.
use mathlib.Core.Path.{◌≡◌, sym, ap, ◌∙◌}
use mathlib.Core.Bool.{true, cond}
use mathlib.Core.List.{List, [], ◌∷◌, ◌++◌}
use Prim.Native.Nat.{ℕ, ◌-◌, min}
use native.Mathlib.Omega.{arith}
use lib.ListN.{length, get_or, take, length-take}
use lib.Seq.{get_or-take}
use Rattle.wire.specs.Places.{data_count}
use Rattle.wire.specs.declared.Way.TheVariants.{ToDevice}
use Rattle.reader.specs.Reading.{outside, inside}
use Rattle.reader.specs.Fields.{place_of}
use Rattle.reader.specs.declared.Reader.{Reader}
use Rattle.expecting.specs.Expecting.{behind_all, front_parts, ending_parts, expected_at}

-- where reading stands, behind LEN
module _ (r : Reader) (array : List ℕ) (i : r.inside ≡ true) (came : ℕ) (e : came ≡ min r.count (length array)) where
  abbrev bytes : List ℕ
  bytes = take r.count array

  stands : expected_at (inside r.sum bytes) ≡ expected_at (place_of r array)
  stands = sym (ap (λ b. expected_at (cond b (inside r.sum bytes) outside)) i)

  came-all : length bytes ≡ came
  came-all = length-take r.count array ∙ sym e

  some : (l : List ℕ) (m len : ℕ) → length l ≡ m → (m ≡ 0 → ⊥) → get_or l 0 0 ≡ len
      → get_or (front_parts (data_count ToDevice len) ++ ending_parts r.sum) (m - 1) behind_all ≡ expected_at (inside r.sum l)
  some [] m len f n h = absurd (n (sym f))
  some (b ∷ l) m len f n h =
      let same : m - 1 ≡ length l = omega (arith, f) in
      rw (same, ← h)

  pub at_behind : (came ≡ 0 → ⊥) → get_or (front_parts (data_count ToDevice (get_or array 0 0)) ++ ending_parts r.sum) (came - 1) behind_all ≡ expected_at (place_of r array)
  at_behind n = some bytes came (get_or array 0 0) came-all n (get_or-take r.count array 0 0 (omega (arith, came-all, length-take r.count array))) ∙ stands
