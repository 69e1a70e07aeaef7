-- A line that is gathered byte by byte.
use Prim.Native.Nat.{ℕ, ◌+◌, ◌≤◌, ◌<◌, min}
use mathlib.Core.Path.{◌≡◌, refl, sym, ap, ◌∙◌}
use mathlib.Core.Bool.{Bool, true, false, cond}
use mathlib.Core.List.{List, ◌++◌}
use native.Mathlib.Omega.{arith}
use lib.ListN.{length, length-append}
use lib.Seq.{sets}
use Rattle.text.specs.Parts.{first_at, has, up_to}
use Rattle.text.proofs.Laws.{sets-append}
use Rattle.text.proofs.Cutting.{place_within, cut_length}
use Rattle.lines.specs.declared.Gathered.{Gathered}
use Rattle.lines.specs.Lines.{most, gathered}

abbrev by : ℕ → ℕ → Bool → Gathered
by more end found = cond found (record { count = more; taken = end + 1; whole = true }) (record { count = more; taken = end; whole = false })

-- what was gathered so far, in so many reads of a byte each
pub record Held (first line : List ℕ) (count reads : ℕ) : Type 0 where
  pub bytes : List ℕ
  pub few : length bytes ≤ reads
  pub size : count ≡ length bytes
  pub stands : line ≡ sets first 0 bytes

count_of : (count : ℕ) (part : List ℕ) → (gathered count part).count ≡ min (count + first_at 10 part) most
count_of count part = go (has 10 part)
  where
    go : (b : Bool) → (by (min (count + first_at 10 part) most) (first_at 10 part) b).count ≡ min (count + first_at 10 part) most
    go true = refl
    go false = refl

-- a part of one byte more
pub held_more : (first line after : List ℕ) (count reads : ℕ) (part : List ℕ) (g : Gathered) → Held first line count reads → reads < 1201 → length part ≤ 1
    → g ≡ gathered count part → after ≡ sets line count (up_to 10 part) → Held first after g.count (reads + 1)
held_more first line after count reads part g h l p e s =
    let within : first_at 10 part ≤ length part = place_within 10 part in
    let long : first_at 10 part ≡ length (up_to 10 part) = cut_length 10 part (first_at 10 part) refl in
    let next : 0 + length h.bytes ≡ count = omega (arith, h.size) in
    record {
      bytes = h.bytes ++ up_to 10 part;
      few = omega (arith, length-append h.bytes (up_to 10 part), h.few, long, within);
      size = ap (λ x. x.count) e ∙ count_of count part ∙ omega (arith, h.size, h.few, l, length-append h.bytes (up_to 10 part), long, within);
      stands = s ∙ ap (λ l. sets l count (up_to 10 part)) h.stands ∙ ap (λ k. sets (sets first 0 h.bytes) k (up_to 10 part)) (sym next) ∙ sym (sets-append first 0 h.bytes (up_to 10 part));
    }
