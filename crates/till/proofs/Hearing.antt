-- Laws of one byte read, by what it brings.
use mathlib.Core.Path.{◌≡◌, refl, sym, ap, ◌∙◌}
use mathlib.Core.Bool.{Bool, true, false, cond}
use mathlib.Core.List.{List, [], ◌∷◌}
use Prim.Native.Nat.{ℕ}
use native.Mathlib.Omega.{arith}
use lib.Dec.{eqb}
use Rattle.wire.specs.Frame.{Message}
use Rattle.wire.specs.declared.Way.{Way}
use Rattle.reader.proofs.History.{no_start}
use Rattle.reader.specs.Reading.{Place, outside, inside, Read, nothing, broken_frame, heard, suits, at_last, read, read_other, starts_anew, message}
use Rattle.reader.proofs.Steps.{reads_broken, reads_more, reads_whole}

-- a byte that breaks a frame, and is not 01h, leaves it
pub broken_outside : (k : Way) (p : Place) (b : ℕ) → eqb b 0x01 ≡ false → (read k p b).event ≡ broken_frame → (read k p b).place ≡ outside
broken_outside k p b other = rw other (go p)
  where
    go : (q : Place) → (read_other k q b).event ≡ broken_frame → (read_other k q b).place ≡ outside
    go outside e = refl
    go (inside sum bytes) e = by (suits k sum bytes b) refl (at_last k bytes) refl
      where
        by : (s : Bool) → suits k sum bytes b ≡ s → (l : Bool) → at_last k bytes ≡ l → (read_other k (inside sum bytes) b).place ≡ outside
        by false es l el = ap (λ (r : Read). r.place) (reads_broken k sum bytes b es)
        by true es true el = ap (λ (r : Read). r.place) (reads_whole k sum bytes b es el)
        by true es false el =
            let same : nothing ≡ broken_frame = sym (ap (λ (r : Read). r.event) (reads_more k sum bytes b es el)) ∙ e in
            let z : ◌≡◌ {A = ℕ} 0 1 = cc in
            absurd (omega arith)

-- where a whole message comes from
pub record From (k : Way) (p : Place) (b : ℕ) (m : Message) : Type 0 where
  pub sum : ℕ
  pub bytes : List ℕ
  pub was : p ≡ inside sum bytes
  pub says : m ≡ message k bytes
  pub last : at_last k bytes ≡ true
  pub left : (read k p b).place ≡ outside

pub heard_from : (k : Way) (p : Place) (b : ℕ) (m : Message) → (read k p b).event ≡ heard m → From k p b m
heard_from k p b m = first (eqb b 0x01) refl
  where
    other : (q : Place) → read k q b ≡ read_other k q b → (read_other k q b).event ≡ heard m → From k q b m
    other outside r e = absurd (no_start outside m e)
    other (inside sum bytes) r e = by (suits k sum bytes b) refl (at_last k bytes) refl
      where
        by : (s : Bool) → suits k sum bytes b ≡ s → (l : Bool) → at_last k bytes ≡ l → From k (inside sum bytes) b m
        by false es l el = absurd (no_start (inside 0 (0 ∷ [])) m (sym (ap (λ (r : Read). r.event) (reads_broken k sum bytes b es)) ∙ e))
        by true es false el = absurd (no_start outside m (sym (ap (λ (r : Read). r.event) (reads_more k sum bytes b es el)) ∙ e))
        by true es true el =
            let same : heard (message k bytes) ≡ heard m = sym (ap (λ (r : Read). r.event) (reads_whole k sum bytes b es el)) ∙ e in
            record {
              sum = sum;
              bytes = bytes;
              was = refl;
              says = cc;
              last = el;
              left = ap (λ (r : Read). r.place) (r ∙ reads_whole k sum bytes b es el);
            }

    first : (start : Bool) → eqb b 0x01 ≡ start → (read k p b).event ≡ heard m → From k p b m
    first true es e = absurd (no_start p m (sym (ap (λ s. (cond s (record { place = inside 0 []; event = starts_anew p }) (read_other k p b)).event) es) ∙ e))
    first false es e =
        let r : read k p b ≡ read_other k p b = ap (λ s. cond s (record { place = inside 0 []; event = starts_anew p }) (read_other k p b)) es in
        other p r (sym (ap (λ (z : Read). z.event) r) ∙ e)
