-- One text put behind another.
use Prim.Native.Nat.{ℕ, ◌+◌, ◌≤◌, min}
use mathlib.Core.Path.{◌≡◌, refl, sym, ap, ◌∙◌}
use mathlib.Core.List.{List, [], ◌++◌}
use native.Mathlib.Decide.{dec_le}
use native.Mathlib.Omega.{arith}
use lib.ListN.{length, length-append}
use lib.Seq.{sets, length-sets}
use Rattle.text.proofs.Laws.{sets-append, sets-out}
use Rattle.sentences.specs.Put.{Put}

pub put_length : {l t m : List ℕ} {at p : ℕ} → Put l at t m p → length m ≡ length l
put_length {l} {t} {m} {at} h = ap length h.bytes ∙ length-sets l at t

-- a place past the end is the end
at_end : (l t : List ℕ) (at : ℕ) → sets l (min at (length l)) t ≡ sets l at t
at_end l t at = go (dec_le at (length l))
  where
    go : Dec (at ≤ length l) → sets l (min at (length l)) t ≡ sets l at t
    go (yes h) = let same : min at (length l) ≡ at = omega arith in ap (λ k. sets l k t) same
    go (no h) = sets-out l (min at (length l)) t (omega arith) ∙ sym (sets-out l at t (omega arith))

pub put_from_end : {l t m : List ℕ} {at p : ℕ} → Put l (min at (length l)) t m p → Put l at t m p
put_from_end {l} {t} {m} {at} {p} h = record {
  bytes = h.bytes ∙ at_end l t at;
  behind = let e : p ≡ min (min at (length l) + length t) (length l) = h.behind in omega arith;
}

pub put_none : {l : List ℕ} {p : ℕ} → p ≤ length l → Put l p [] l p
put_none h = record { bytes = refl; behind = omega arith }

pub put_then : {l a m b n : List ℕ} {at p q : ℕ} → Put l at a m p → Put m p b n q → Put l at (a ++ b) n q
put_then {l} {a} {m} {b} {n} {at} {p} {q} f g = record {
  bytes =
      g.bytes
      ∙ ap (λ k. sets m k b) place
      ∙ at_end m b (at + length a)
      ∙ ap (λ k. sets k (at + length a) b) f.bytes
      ∙ sym (sets-append l at a b);
  behind = omega (arith, f.behind, g.behind, put_length f, length-append a b);
}
  where
    place : p ≡ min (at + length a) (length m)
    place = f.behind ∙ ap (min (at + length a)) (sym (put_length f))

-- the same text under another name
pub put_as : {l t u m : List ℕ} {at p : ℕ} → Put l at t m p → t ≡ u → Put l at u m p
put_as h e = rw e at h
