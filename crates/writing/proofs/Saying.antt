-- Data read byte by byte: what i bytes said stands in the buffer, and what the rest says from here makes the whole.
use mathlib.Core.Path.{◌≡◌, refl, sym, ap, ◌∙◌}
use mathlib.Core.List.{List, ◌++◌}
use Prim.Native.Nat.{ℕ, ◌+◌, ◌≤◌, ◌<◌}
use native.Mathlib.Numerals.{add-one}
use native.Mathlib.Omega.{arith}
use lib.ListN.{length, get_or, drop, length-append, drop_of_length-le}
use lib.Seq.{sets, drop-cons}
use Rattle.text.proofs.Laws.{sets-append}
use Rattle.writing.specs.Content.{step_of, said_by, stand_after, said_in, end_of}
use Rattle.writing.specs.declared.Stand.{Stand}
use Rattle.writing.specs.declared.Stand.TheVariants.{Plain}
use Rattle.writing.specs.declared.Step.{Step}
use Rattle.writing.specs.declared.Step.TheVariants.{Says, GoesTo}

pub record Head (s first buf : List ℕ) (stand : Stand) (n i : ℕ) : Type 0 where
  pub within : i ≤ length s
  pub few : n ≤ i
  pub ends : end_of stand (drop i s) ≡ end_of Plain s
  pub counts : n + length (said_in stand (drop i s)) ≡ length (said_in Plain s)
  pub holds : sets buf n (said_in stand (drop i s)) ≡ sets first 0 (said_in Plain s)

pub head_start : (s buf : List ℕ) → Head s buf buf Plain 0 0
head_start s buf = record { within = omega arith; few = omega arith; ends = refl; counts = omega arith; holds = refl }

one_at_most : (step : Step) → length (said_by step) ≤ 1
one_at_most (Says b) = omega arith
one_at_most (GoesTo stand) = omega arith

module _ (s : List ℕ) (stand : Stand) (i : ℕ) (inside : i < length s) where
  said-turn : said_in stand (drop i s) ≡ said_by (step_of stand (get_or s i 0)) ++ said_in (stand_after (step_of stand (get_or s i 0))) (drop (i + 1) s)
  unfolding said_in
  said-turn = rw (add-one, drop-cons s i 0)

  end-turn : end_of stand (drop i s) ≡ end_of (stand_after (step_of stand (get_or s i 0))) (drop (i + 1) s)
  unfolding end_of
  end-turn = rw (add-one, drop-cons s i 0)

  pub head_turn : (first buf : List ℕ) (n : ℕ) → Head s first buf stand n i → (step : Step) → step ≡ step_of stand (get_or s i 0)
      → (m : ℕ) → m ≡ n + length (said_by step) → (after : List ℕ) → after ≡ sets buf n (said_by step)
      → (next : Stand) → next ≡ stand_after step → Head s first after next m (i + 1)
  head_turn first buf n h step e m counted after put next stands =
      let bytes = said_by step in
      let rest = said_in next (drop (i + 1) s) in
      let whole : said_in stand (drop i s) ≡ bytes ++ rest = rw (stands, e) said-turn in
      record {
        within = omega arith;
        few = omega (arith, one_at_most step, h.few);
        ends = rw (stands, e) (sym end-turn ∙ h.ends);
        counts = omega (arith, counted, ap length whole, length-append bytes rest, h.counts);
        holds = rw (put, counted) (sym (sets-append buf n bytes rest) ∙ ap (sets buf n) (sym whole) ∙ h.holds);
      }

module _ (s first buf : List ℕ) (stand : Stand) (n i : ℕ) (h : Head s first buf stand n i) (done : length s ≤ i) where
  pub ends_there : stand ≡ end_of Plain s
  unfolding end_of
  ends_there = rw (drop_of_length-le s done) at h.ends

  pub all_counted : n ≡ length (said_in Plain s)
  unfolding said_in
  all_counted = let none : n + 0 ≡ length (said_in Plain s) = rw (drop_of_length-le s done) at h.counts in omega arith

  pub all_put : buf ≡ sets first 0 (said_in Plain s)
  unfolding said_in
  all_put = rw (drop_of_length-le s done) at h.holds
