-- However reading goes on, the bytes since 01h are few: a frame's LEN is in its range, and behind its last byte nothing suits.
use Rattle.std.proofs.lemmas.Bool.{and_parts}
use mathlib.Core.Path.{◌≡◌, sym, subst}
use mathlib.Core.Bool.{true, false}
use mathlib.Core.List.{List, [], ◌∷◌, ◌++◌}
use Prim.Native.Nat.{ℕ, ◌+◌, ◌≤◌, ◌<◌}
use native.Mathlib.Decide.{dec_lt}
use native.Mathlib.Omega.{arith}
use lib.Dec.{leb}
use lib.ListN.{length, length-append}
use borrow.Author.Tests.{leb-true, eqb-false}
use Rattle.wire.specs.Places.{front, behind_data, data_count, shortest, longest}
use Rattle.wire.specs.declared.Way.{Way}
use Rattle.wire.specs.declared.Way.TheVariants.{ToDevice, ToTill}
use Rattle.wire.proofs.Suits.{length_front}
use Rattle.reader.specs.Reading.{Place, outside, inside, Read, suits, at_last, grown, read}
use Rattle.reader.proofs.Steps.{Ways, starts_anew_lem, is_skipped, breaks, goes_on_lem, ends, ways}
use Rattle.reader.proofs.Running.{bytes_of}

-- a frame that is being read: LEN in its range, and fewer bytes behind it than it announces
abbrev pub Underway : Way → Place → Type 0
Underway k outside = Unit {0}
Underway k (inside sum []) = Unit {0}
Underway k (inside sum (len ∷ rest)) = (len ≤ longest k) × (length rest ≤ length (front k (data_count k len)) + 4)

few_behind : (k : Way) → length (behind_data k) ≤ 7
few_behind ToDevice = omega arith
few_behind ToTill = omega arith

pub underway_few : (k : Way) (p : Place) → Underway k p → length (bytes_of p) < 256
underway_few k outside h = omega arith
underway_few k (inside sum []) h = omega arith
underway_few k (inside sum (len ∷ rest)) h = omega (arith, h.0, h.1, length_front k (data_count k len), few_behind k)

module _ (k : Way) (b : ℕ) where
  one_more_lem : (sum : ℕ) (bytes : List ℕ) → Underway k (inside sum bytes) → suits k sum bytes b ≡ true → at_last k bytes ≡ false
      → Underway k (inside (grown k sum bytes b) (bytes ++ b ∷ []))
  one_more_lem sum [] h es el = (leb-true b (longest k) (and_parts (leb (shortest k) b) (leb b (longest k)) es).1, omega arith)
  one_more_lem sum (len ∷ rest) h es el =
      (h.0, go (dec_lt (length rest) (length (front k (data_count k len)) + 4)))
    where
      go : Dec (length rest < length (front k (data_count k len)) + 4) → length (rest ++ b ∷ []) ≤ length (front k (data_count k len)) + 4
      go (yes less) = omega (arith, less, length-append rest (b ∷ []))
      go (no n) = absurd (eqb-false (length rest) (length (front k (data_count k len)) + 4) el (omega (arith, h.1, n)))

pub underway_read : (k : Way) (p : Place) (b : ℕ) → Underway k p → Underway k (read k p b).place
underway_read k p b h = go (ways k p b)
  where
    Next : Read → Type 0
    Next r = Underway k r.place

    go : Ways k p b → Next (read k p b)
    go (starts_anew_lem is e) = subst Next (sym e) tt
    go (is_skipped is e) = subst Next (sym e) tt
    go (breaks e) = subst Next (sym e) tt
    go (goes_on_lem sum bytes is fits more e) = subst Next (sym e) (one_more_lem k b sum bytes (subst (Underway k) is h) fits more)
    go (ends sum bytes is fits last e) = subst Next (sym e) tt
