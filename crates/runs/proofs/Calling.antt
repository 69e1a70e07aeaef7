-- Calls until all is heard: each takes the run nearer to its end, and so they are as many as `heard_through` makes.
use Rattle.std.proofs.lemmas.Bool.{and_parts}
use mathlib.Core.Path.{◌≡◌, refl, sym, ap, ◌∙◌, subst}
use mathlib.Core.Bool.{Bool, true, false, cond, ◌&&◌}
use mathlib.Core.List.{List}
use Prim.Native.Nat.{ℕ, zero, suc, ◌+◌, ◌-◌, ◌≤◌, ◌<◌}
use native.Mathlib.Omega.{arith}
use lib.Dec.{leb, ltb}
use lib.ListN.{length, drop}
use borrow.Author.Tests.{leb-true, ltb-true}
use Rattle.sheet.specs.declared.Line.{Line}
use Rattle.machine.specs.Hearing.{PartHeard, part_of, after_part}
use Rattle.machine.specs.declared.Hearing.{Hearing}
use Rattle.tape.specs.Noting.{NotedDown, place_after, noted_down}
use Rattle.runs.specs.Running.{Running, machine_in, lent_in, behind_call, one_call, calls_left, running, heard_through}

module _ (bytes : List ℕ) where
  abbrev total : ℕ
  total = length bytes

  abbrev left_by : Bool → ℕ → ℕ
  left_by more place = cond more (suc (total - place)) 0

  -- a call that leaves more to be heard has taken some
  nearer : (place taken : ℕ) → left_by (ltb 0 taken && ltb (place_after place taken total) total) (place_after place taken total) < suc (total - place)
  nearer place taken = go (ltb 0 taken && ltb (place_after place taken total) total) refl
    where
      by : (fits : Bool) → leb taken (total - place) ≡ fits → 0 < taken → cond fits (place + taken) total < total → suc (total - cond fits (place + taken) total) < suc (total - place)
      by true e some h = omega (arith, leb-true taken (total - place) e, some)
      by false e some h = absurd (omega (arith, h))

      go : (more : Bool) → ltb 0 taken && ltb (place_after place taken total) total ≡ more → left_by more (place_after place taken total) < suc (total - place)
      go false e = omega arith
      go true e =
          let two = and_parts (ltb 0 taken) (ltb (place_after place taken total) total) e in
          by (leb taken (total - place)) refl (ltb-true 0 taken two.0) (ltb-true (place_after place taken total) total two.1)

  pub fewer_left : (s : Running) → s.run.more ≡ true → calls_left bytes (one_call bytes s) < calls_left bytes s
  fewer_left s e =
      let p : PartHeard = after_part (machine_in s) (lent_in s) (drop s.run.place bytes) in
      let here : calls_left bytes s ≡ suc (total - s.run.place) = ap (λ z. left_by z s.run.place) e in
      omega (arith, nearer s.run.place p.taken, here)

  stops : (n : ℕ) (s : Running) → s.run.more ≡ false → running n bytes s ≡ s
  unfolding running
  stops zero s e = refl
  stops (suc n) s e = ap (λ z. cond z (running n bytes (one_call bytes s)) s) e

  goes_on_lem : (n : ℕ) (s : Running) → s.run.more ≡ true → running (suc n) bytes s ≡ running n bytes (one_call bytes s)
  unfolding running
  goes_on_lem n s e = ap (λ z. cond z (running n bytes (one_call bytes s)) s) e

  -- calls that are not needed are not made
  same_end : (n k : ℕ) (s : Running) → calls_left bytes s ≤ n → calls_left bytes s ≤ k → running n bytes s ≡ running k bytes s
  same_end zero k s h i = go s.run.more refl
    where
      go : (more : Bool) → s.run.more ≡ more → running zero bytes s ≡ running k bytes s
      go false e = stops zero s e ∙ sym (stops k s e)
      go true e = absurd (omega (arith, h, fewer_left s e))
  same_end (suc n) zero s h i = go s.run.more refl
    where
      go : (more : Bool) → s.run.more ≡ more → running (suc n) bytes s ≡ running zero bytes s
      go false e = stops (suc n) s e ∙ sym (stops zero s e)
      go true e = absurd (omega (arith, i, fewer_left s e))
  same_end (suc n) (suc k) s h i = go (same_end n k (one_call bytes s)) s.run.more refl
    where
      go : (calls_left bytes (one_call bytes s) ≤ n → calls_left bytes (one_call bytes s) ≤ k → running n bytes (one_call bytes s) ≡ running k bytes (one_call bytes s))
          → (more : Bool) → s.run.more ≡ more → running (suc n) bytes s ≡ running (suc k) bytes s
      go below false e = stops (suc n) s e ∙ sym (stops (suc k) s e)
      go below true e = goes_on_lem n s e ∙ below (omega (arith, h, fewer_left s e)) (omega (arith, i, fewer_left s e)) ∙ sym (goes_on_lem k s e)

  -- a turn of the loop, and its end
  pub run_turn : (s : Running) → s.run.more ≡ true → heard_through bytes s ≡ heard_through bytes (one_call bytes s)
  run_turn s e =
      let here : calls_left bytes s ≡ suc (total - s.run.place) = ap (λ z. left_by z s.run.place) e in
      ap (λ n. running n bytes s) here ∙ goes_on_lem (total - s.run.place) s e
      ∙ same_end (total - s.run.place) (calls_left bytes (one_call bytes s)) (one_call bytes s) (omega (arith, fewer_left s e, here)) (omega arith)

  pub run_done : (s : Running) → s.run.more ≡ false → heard_through bytes s ≡ s
  run_done s e = stops (calls_left bytes s) s e

  -- what a call hands back, noted down, is one call more
  pub call_is : (s : Running) (h : Hearing) (frame last buffer display : List ℕ) (sheet : List Line) (n : NotedDown)
      → part_of h frame last buffer display sheet (length s.sheet) ≡ after_part (machine_in s) (lent_in s) (drop s.run.place bytes)
      → n ≡ noted_down s.run h frame buffer (length bytes) s.out s.orders
      → record { run = n.run; frame = frame; last = last; buffer = buffer; display = display; sheet = sheet; out = n.out; orders = n.orders } ≡ one_call bytes s
  call_is s h frame last buffer display sheet n e en =
      ap (λ (z : NotedDown). record { run = z.run; frame = frame; last = last; buffer = buffer; display = display; sheet = sheet; out = z.out; orders = z.orders }) en
      ∙ ap (behind_call s (length bytes)) e

  -- so the loop keeps where all calls end, comes nearer, and stops there
  pub still : (first s next : Running) → s.run.more ≡ true → next ≡ one_call bytes s → heard_through bytes first ≡ heard_through bytes s → heard_through bytes first ≡ heard_through bytes next
  still first s next more e inv = inv ∙ run_turn s more ∙ ap (heard_through bytes) (sym e)

  pub fewer : (s next : Running) → s.run.more ≡ true → next ≡ one_call bytes s → calls_left bytes next < calls_left bytes s
  fewer s next more e = subst (λ (z : Running). calls_left bytes z < calls_left bytes s) (sym e) (fewer_left s more)

  pub all_heard_lem : (first s : Running) → s.run.more ≡ false → heard_through bytes first ≡ heard_through bytes s → s ≡ heard_through bytes first
  all_heard_lem first s over inv = sym (inv ∙ run_done s over)
