-- The device is locked exactly when three wrong passwords came with no right one between.
use mathlib.Core.Path.{◌≡◌, refl, sym, ap, ◌∙◌}
use mathlib.Core.Bool.{Bool, true, false, cond, false≢true}
use mathlib.Core.List.{List, [], ◌∷◌}
use Prim.Native.Nat.{ℕ, zero, suc, ◌+◌, ◌≤◌}
use native.Mathlib.Omega.{arith}
use lib.Dec.{leb}
use borrow.Author.Tests.{le-leb}
use Rattle.kinds.specs.Fields.{Parsed}
use Rattle.std.specs.Prelude.{Ok, Err}
use Rattle.guard.specs.Guard.{is_locked, is_right, trial_of, verdict_of, judged_by, count_after}
use Rattle.trials.specs.Tries.{Came, Tried, none, right, wrong, tried_by, tried_in, guard_behind, tries_from, BeginsWrong, no_more, passed_by, one_more_lem, ThreeWrong, from_here, later}
use Rattle.guard.specs.declared.Guard.{Guard}
use Rattle.guard.specs.declared.Trial.{Trial}
use Rattle.guard.specs.declared.Trial.TheVariants as trial
use Rattle.trials.proofs.Changing.{same_either}
use Rattle.guard.specs.declared.Verdict.TheVariants.{Right, Wrong, Locked}

-- the count alone
abbrev counting : ℕ → Tried → ℕ
counting n none = n
counting n right = 0
counting n wrong = n + 1

abbrev counted : ℕ → Tried → ℕ
counted n t = cond (leb 3 n) n (counting n t)

abbrev count_behind : ℕ → List Tried → ℕ
count_behind n [] = n
count_behind n (t ∷ ts) = count_behind (counted n t) ts

-- the guard counts just so
by_verdict : (g : Guard) (locked r : Bool) → count_after g (cond locked Locked (cond r Right Wrong)) ≡ cond locked g.wrong (counting g.wrong (cond r right wrong))
by_verdict g true r = refl
by_verdict g false true = refl
by_verdict g false false = refl

by_trial : (g : Guard) (t : Trial) → count_after g (verdict_of g t) ≡ counted g.wrong (tried_by g t)
by_trial g trial.Nothing = sym (same_either (is_locked g) g.wrong)
by_trial g (trial.Open op p) = by_verdict g (is_locked g) (is_right g op p)
by_trial g (trial.Change op old new) = by_verdict g (is_locked g) (is_right g op old)
by_trial g (trial.Name op p) = by_verdict g (is_locked g) (is_right g op p)

counts : (g : Guard) (p : Parsed) (content : List ℕ) → (judged_by g p content).guard.wrong ≡ counted g.wrong (tried_in g p)
counts g (Ok c) content = by_trial g (trial_of c)
counts g (Err why) content = sym (same_either (is_locked g) g.wrong)

all_counted : (g : Guard) (cs : List Came) → (guard_behind g cs).wrong ≡ count_behind g.wrong (tries_from g cs)
all_counted g [] = refl
all_counted g (c ∷ cs) =
    let next = (judged_by g c.parsed c.content).guard in
    all_counted next cs ∙ ap (λ n. count_behind n (tries_from next cs)) (counts g c.parsed c.content)

-- while locked the count stands still
stands_still : (n : ℕ) (ts : List Tried) → leb 3 n ≡ true → count_behind n ts ≡ n
stands_still n [] e = refl
stands_still n (t ∷ ts) e =
    ap (λ k. count_behind k ts) (ap (λ b. cond b n (counting n t)) e) ∙ stands_still n ts e

-- three wrong ones lock it
begun_locks : (k n : ℕ) (ts : List Tried) → BeginsWrong k ts → 3 ≤ n + k → leb 3 (count_behind n ts) ≡ true
begun_locks k n ts no_more h = let e = le-leb 3 n (omega (arith, h)) in ap (leb 3) (stands_still n ts e) ∙ e
begun_locks k n (none ∷ ts) (passed_by w) h =
    ap (λ m. leb 3 (count_behind m ts)) (same_either (leb 3 n) n) ∙ begun_locks k n ts w h
begun_locks (suc k) n (wrong ∷ ts) (one_more_lem w) h = go (leb 3 n) refl (begun_locks k (n + 1) ts w (omega (arith, h)))
  where
    go : (b : Bool) → leb 3 n ≡ b → leb 3 (count_behind (n + 1) ts) ≡ true → leb 3 (count_behind (cond b n (n + 1)) ts) ≡ true
    go true e rest = ap (leb 3) (stands_still n ts e) ∙ e
    go false e rest = rest

three_lock : (n : ℕ) (ts : List Tried) → ThreeWrong ts → leb 3 (count_behind n ts) ≡ true
three_lock n ts (from_here w) = begun_locks 3 n ts w (omega arith)
three_lock n (t ∷ ts) (later w) = three_lock (counted n t) ts w

-- and nothing else does
pub data Lacks (n : ℕ) (ts : List Tried) : Type 0 where
  begins : BeginsWrong n ts → Lacks n ts
  has_three : ThreeWrong ts → Lacks n ts

skips : {n : ℕ} {ts : List Tried} → Lacks n ts → Lacks n (none ∷ ts)
skips (begins w) = begins (passed_by w)
skips (has_three w) = has_three (later w)

counts_one : {n : ℕ} {ts : List Tried} → Lacks n ts → Lacks (suc n) (wrong ∷ ts)
counts_one (begins w) = begins (one_more_lem w)
counts_one (has_three w) = has_three (later w)

starts_anew_lem : {n : ℕ} {ts : List Tried} → Lacks 3 ts → Lacks n (right ∷ ts)
starts_anew_lem (begins w) = has_three (later (from_here w))
starts_anew_lem (has_three w) = has_three (later w)

abbrev Told : List Tried → Type 0
Told ts = (n lacks : ℕ) → n + lacks ≡ 3 → leb 3 (count_behind n ts) ≡ true → Lacks lacks ts

none_left : Told []
none_left n zero e h = begins no_more
none_left zero (suc k) e h = absurd (false≢true h)
none_left (suc zero) (suc k) e h = absurd (false≢true h)
none_left (suc (suc zero)) (suc k) e h = absurd (false≢true h)
none_left (suc (suc (suc n))) (suc k) e h = absurd (omega (arith, e))

one_told : (t : Tried) (ts : List Tried) → Told ts → Told (t ∷ ts)
one_told t ts rest n zero e h = begins no_more
one_told t ts rest (suc (suc (suc n))) (suc k) e h = absurd (omega (arith, e))
one_told none ts rest zero (suc k) e h = skips (rest 0 (suc k) e h)
one_told none ts rest (suc zero) (suc k) e h = skips (rest 1 (suc k) e h)
one_told none ts rest (suc (suc zero)) (suc k) e h = skips (rest 2 (suc k) e h)
one_told right ts rest zero (suc k) e h = starts_anew_lem (rest 0 3 refl h)
one_told right ts rest (suc zero) (suc k) e h = starts_anew_lem (rest 0 3 refl h)
one_told right ts rest (suc (suc zero)) (suc k) e h = starts_anew_lem (rest 0 3 refl h)
one_told wrong ts rest zero (suc k) e h = counts_one (rest 1 k (omega (arith, e)) h)
one_told wrong ts rest (suc zero) (suc k) e h = counts_one (rest 2 k (omega (arith, e)) h)
one_told wrong ts rest (suc (suc zero)) (suc k) e h = counts_one (rest 3 k (omega (arith, e)) h)

only_three : (ts : List Tried) → Told ts
only_three [] = none_left
only_three (t ∷ ts) = one_told t ts (only_three ts)

from_none : {ts : List Tried} → Lacks 3 ts → ThreeWrong ts
from_none (begins w) = from_here w
from_none (has_three w) = w

-- "Three wrong passwords, in 48, 101 or 102, with no right one between, lock the device": from a guard that has counted none
pub locked_by_three_wrong : (g : Guard) (cs : List Came) → g.wrong ≡ 0 → ThreeWrong (tries_from g cs) → is_locked (guard_behind g cs) ≡ true
locked_by_three_wrong g cs e w = ap (leb 3) (all_counted g cs) ∙ three_lock g.wrong (tries_from g cs) w

pub locked_only_by_three_wrong : (g : Guard) (cs : List Came) → g.wrong ≡ 0 → is_locked (guard_behind g cs) ≡ true → ThreeWrong (tries_from g cs)
locked_only_by_three_wrong g cs e h =
    from_none (only_three (tries_from g cs) 0 3 refl (ap (λ n. leb 3 (count_behind n (tries_from g cs))) (sym e) ∙ sym (ap (leb 3) (all_counted g cs)) ∙ h))
