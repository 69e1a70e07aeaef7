-- What the guard says, as the code's branches ask it.
use Rattle.std.proofs.lemmas.Bool.{and_parts}
use mathlib.Core.Path.{◌≡◌, refl, sym, ap, ◌∙◌}
use mathlib.Core.Bool.{Bool, true, false, cond, false≢true}
use mathlib.Core.List.{List, [], ◌∷◌}
use Prim.Native.Nat.{ℕ, zero, suc, ◌+◌, ◌-◌, ◌*◌, ◌≤◌, ◌<◌, min}
use native.Mathlib.Omega.{arith}
use lib.Dec.{leb}
use lib.ListN.{length, take, set, length-take}
use lib.Seq.{sets}
use borrow.Author.Tests.{leb-true, leb-false}
use Rattle.kinds.specs.Operators.{is_op}
use Rattle.kinds.specs.declared.Command.{Command}
use Rattle.kinds.specs.declared.Command.TheVariants.{OpenText, CloseText, PrintText, Open, Sell, Subtotal, Pay, Close, Cancel, Sums, Closing, Drawer, Status, Rates, ShowText, ChangePassword, ChangeName}
use Rattle.kinds.specs.declared.Password.{Password}
use Rattle.guard.specs.Guard.{is_locked, is_right, verdict_of, changed_by, with_count, with_name, judged_of, trial_of}
use Rattle.guard.specs.declared.Guard.{Guard}
use Rattle.guard.specs.declared.Judged.{Judged}
use Rattle.guard.specs.declared.Trial.{Trial}
use Rattle.guard.specs.declared.Trial.TheVariants as trial
use Rattle.guard.specs.declared.Verdict.{Verdict}
use Rattle.guard.specs.declared.Verdict.TheVariants.{Free, Right, Wrong, Locked}

-- an operator's number
pub op_from : (op : ℕ) → is_op op ≡ true → 1 ≤ op
op_from op is = leb-true 1 op (and_parts (leb 1 op) (leb op 8) is).0

pub op_to : (op : ℕ) → is_op op ≡ true → op ≤ 8
op_to op is = leb-true op 8 (and_parts (leb 1 op) (leb op 8) is).1

-- fourteen of the seventeen kinds try no password
pub nothing_tried : (c : Command) → ((op : ℕ) (p : Password) (till : ℕ) → c ≡ Open op p till → ⊥) → ((op : ℕ) (old new : Password) → c ≡ ChangePassword op old new → ⊥)
    → ((op : ℕ) (p : Password) → c ≡ ChangeName op p → ⊥) → trial.Nothing ≡ trial_of c
nothing_tried (Open op p till) no_48 no_101 no_102 = absurd (no_48 op p till refl)
nothing_tried (ChangePassword op old new) no_48 no_101 no_102 = absurd (no_101 op old new refl)
nothing_tried (ChangeName op p) no_48 no_101 no_102 = absurd (no_102 op p refl)
nothing_tried OpenText no_48 no_101 no_102 = refl
nothing_tried CloseText no_48 no_101 no_102 = refl
nothing_tried PrintText no_48 no_101 no_102 = refl
nothing_tried (Sell s) no_48 no_101 no_102 = refl
nothing_tried (Subtotal print show adjust) no_48 no_101 no_102 = refl
nothing_tried (Pay p) no_48 no_101 no_102 = refl
nothing_tried Close no_48 no_101 no_102 = refl
nothing_tried Cancel no_48 no_101 no_102 = refl
nothing_tried (Sums taxes) no_48 no_101 no_102 = refl
nothing_tried (Closing clears) no_48 no_101 no_102 = refl
nothing_tried (Drawer s) no_48 no_101 no_102 = refl
nothing_tried Status no_48 no_101 no_102 = refl
nothing_tried Rates no_48 no_101 no_102 = refl
nothing_tried ShowText no_48 no_101 no_102 = refl

abbrev is_free : Verdict → Bool
is_free Free = true
is_free Right = false
is_free Wrong = false
is_free Locked = false

abbrev is_wrong : Verdict → Bool
is_wrong Free = false
is_wrong Right = false
is_wrong Wrong = true
is_wrong Locked = false

not_free : (locked right : Bool) → is_free (cond locked Locked (cond right Right Wrong)) ≡ true → ⊥
not_free true right e = false≢true e
not_free false true e = false≢true e
not_free false false e = false≢true e

-- a command that tries no password changes nothing in the guard
pub free_changes_nothing : (g : Guard) (t : Trial) (content : List ℕ) → verdict_of g t ≡ Free → changed_by g t content ≡ g
free_changes_nothing g trial.Nothing content e = refl
free_changes_nothing g (trial.Open op p) content e = refl
free_changes_nothing g (trial.Change op old new) content e = absurd (not_free (is_locked g) (is_right g op old) (ap is_free e))
free_changes_nothing g (trial.Name op p) content e = absurd (not_free (is_locked g) (is_right g op p) (ap is_free e))

-- a password is wrong only where the device is not locked
wrong_open : (locked right : Bool) → is_wrong (cond locked Locked (cond right Right Wrong)) ≡ true → locked ≡ false
wrong_open true right e = absurd (false≢true e)
wrong_open false right e = refl

pub wrong_few : (g : Guard) (t : Trial) → verdict_of g t ≡ Wrong → g.wrong < 3
wrong_few g trial.Nothing e = absurd (false≢true (ap is_wrong e))
wrong_few g (trial.Open op p) e = leb-false 3 g.wrong (wrong_open (is_locked g) (is_right g op p) (ap is_wrong e))
wrong_few g (trial.Change op old new) e = leb-false 3 g.wrong (wrong_open (is_locked g) (is_right g op old) (ap is_wrong e))
wrong_few g (trial.Name op p) e = leb-false 3 g.wrong (wrong_open (is_locked g) (is_right g op p) (ap is_wrong e))

-- what is judged by each verdict
module _ (g : Guard) (t : Trial) (content : List ℕ) where
  pub judged_free : verdict_of g t ≡ Free → ◌≡◌ {A = Judged} (record { guard = g; passes = true }) (judged_of g t content)
  judged_free e = rw (e, free_changes_nothing g t content e)

  pub judged_right : verdict_of g t ≡ Right → ◌≡◌ {A = Judged} (record { guard = with_count (changed_by g t content) 0; passes = true }) (judged_of g t content)
  judged_right e = rw e

  pub judged_wrong : verdict_of g t ≡ Wrong → ◌≡◌ {A = Judged} (record { guard = with_count g (g.wrong + 1); passes = false }) (judged_of g t content)
  judged_wrong e = rw e

  pub judged_locked : verdict_of g t ≡ Locked → ◌≡◌ {A = Judged} (record { guard = g; passes = false }) (judged_of g t content)
  judged_locked e = rw e

-- a name is put at its place, cut at 24 bytes
take_own : (n : ℕ) (l : List ℕ) → take (length (take n l)) l ≡ take n l
take_own zero l = refl
take_own (suc n) [] = refl
take_own (suc n) (x ∷ l) = ap (λ z. x ∷ z) (take_own n l)

pub named : (g : Guard) (op : ℕ) (name : List ℕ) (n : ℕ) (names : List ℕ) → is_op op ≡ true → n ≡ min 24 (length name) → names ≡ sets g.names (24 * (op - 1)) (take (n - 0) name)
    → ◌≡◌ {A = Guard} (record { passwords = g.passwords; sizes = set g.sizes (op - 1) n; names = names; wrong = g.wrong }) (with_name g op name)
named g op name n names is e f =
    let size = e ∙ sym (length-take 24 name) in
    let all : n - 0 ≡ n = omega arith in
    let cut = ap (λ k. take k name) (all ∙ size) ∙ take_own 24 name in
    rw (f, cut, size, is)
