-- A password changes by a 101 of its operator alone, and only with the password that stood.
use mathlib.Core.Path.{◌≡◌, refl, ap, ◌∙◌}
use mathlib.Core.Bool.{Bool, true, false, cond, not, ◌&&◌}
use mathlib.Core.List.{List}
use Prim.Native.Nat.{ℕ, ◌-◌, ◌*◌}
use native.Mathlib.Omega.{arith}
use lib.Dec.{eqb}
use lib.ListN.{length, take, length-set}
use lib.Seq.{length-sets, get_or-set_same, get_or-set_other}
use borrow.Author.Tests.{eqb-true, eqb-false}
use Rattle.kinds.specs.Operators.{is_op, name_in}
use Rattle.kinds.specs.Fields.{Parsed}
use Rattle.std.specs.Prelude.{Ok, Err}
use Rattle.kinds.specs.declared.Password.{Password}
use Rattle.guard.proofs.Verdicts.{op_from, op_to}
use Rattle.guard.specs.Guard.{fresh_guard, password_of, is_locked, is_right, with_count, calmed, with_password, with_name, trial_of, tried, verdict_of, passes, changed_by, count_after, judged_of, judged_by}
use Rattle.guard.specs.declared.Guard.{Guard}
use Rattle.guard.specs.declared.Trial.{Trial}
use Rattle.guard.specs.declared.Trial.TheVariants as trial
use Rattle.guard.specs.declared.Verdict.TheVariants.{Right, Wrong, Locked}
use Rattle.trials.specs.Changes.{Wide, password_by, password_after}

-- two operators stand at two places
pub apart : (of op : ℕ) → is_op of ≡ true → is_op op ≡ true → eqb of op ≡ false → op - 1 ≡ of - 1 → ⊥
apart of op is-of is-op e same =
    eqb-false of op e (omega (arith, op_from of is-of, op_from op is-op, same))

-- the lengths stay
pub fresh_wide : Wide fresh_guard
fresh_wide = record { passwords = refl; sizes = refl; names = refl }

pub count_wide : (g : Guard) → Wide g → (n : ℕ) → Wide (with_count g n)
count_wide g w n = record { passwords = w.passwords; sizes = w.sizes; names = w.names }

pub calmed_wide : (g : Guard) → Wide g → Wide (calmed g)
calmed_wide g w = count_wide g w 0

either_wide : (b : Bool) {g h : Guard} → Wide h → Wide g → Wide (cond b h g)
either_wide true u w = u
either_wide false u w = w

password_wide : (g : Guard) → Wide g → (op : ℕ) (new : Password) → Wide (with_password g op new)
password_wide g w op new =
    either_wide (is_op op)
    (record { passwords = length-set g.passwords (op - 1) new ∙ w.passwords; sizes = w.sizes; names = w.names })
    w

name_wide : (g : Guard) → Wide g → (op : ℕ) (name : List ℕ) → Wide (with_name g op name)
name_wide g w op name =
    either_wide (is_op op)
    (record { passwords = w.passwords; sizes = length-set g.sizes (op - 1) (length (take 24 name)) ∙ w.sizes; names = length-sets g.names (24 * (op - 1)) (take 24 name) ∙ w.names })
    w

changed_wide : (g : Guard) → Wide g → (t : Trial) (content : List ℕ) → Wide (changed_by g t content)
changed_wide g w (trial.Change op old new) content = password_wide g w op new
changed_wide g w (trial.Name op password) content = name_wide g w op (name_in content)
changed_wide g w (trial.Open op password) content = w
changed_wide g w trial.Nothing content = w

pub judged_wide : (g : Guard) → Wide g → (p : Parsed) (content : List ℕ) → Wide (judged_by g p content).guard
judged_wide g w (Ok c) content =
    let t = trial_of c in
    let v = verdict_of g t in
    count_wide (cond (passes v) (changed_by g t content) g) (either_wide (passes v) (changed_wide g w t content) w) (count_after g v)
judged_wide g w (Err why) content = w

-- the verdict, as it is asked for in the statement
pub passes_as : (locked right : Bool) → passes (cond locked Locked (cond right Right Wrong)) ≡ not locked && right
passes_as true right = refl
passes_as false true = refl
passes_as false false = refl

-- a password that is put stands there, and no other one is touched
put_own : (g : Guard) → Wide g → (op : ℕ) → is_op op ≡ true → (new : Password) → password_of (with_password g op new) op ≡ new
put_own g w op is new =
    let low = op_from op is in
    let high = op_to op is in
    rw (is, get_or-set_same g.passwords (op - 1) new _ (omega (arith, w.passwords, low, high)))

put_other : (g : Guard) (of op : ℕ) → is_op op ≡ true → eqb of op ≡ false → (new : Password) → password_of (with_password g of new) op ≡ password_of g op
put_other g of op is e new = go (is_op of) refl
  where
    go : (b : Bool) → is_op of ≡ b → password_of (with_password g of new) op ≡ password_of g op
    go true is-of =
        let h = apart of op is-of is e in
        rw (is-of, get_or-set_other g.passwords (of - 1) (op - 1) new _ h)
    go false none = rw none

put_password : (g : Guard) → Wide g → (of op : ℕ) → is_op op ≡ true → (new : Password) → password_of (with_password g of new) op ≡ cond (eqb of op) new (password_of g op)
put_password g w of op is new = go (eqb of op) refl
  where
    go : (b : Bool) → eqb of op ≡ b → password_of (with_password g of new) op ≡ cond b new (password_of g op)
    go true e = ap (λ k. password_of (with_password g k new) op) (eqb-true of op e) ∙ put_own g w op is new
    go false e = put_other g of op is e new

-- nor does a name touch one
name_keeps : (g : Guard) (of op : ℕ) (name : List ℕ) → password_of (with_name g of name) op ≡ password_of g op
name_keeps g of op name = go (is_op of) refl
  where
    go : (b : Bool) → is_op of ≡ b → password_of (with_name g of name) op ≡ password_of g op
    go true is = rw is
    go false is = rw is

-- what one test more decides
pub when_both : {A : Type 0} (b e : Bool) (x y z : A) → z ≡ cond e x y → cond b z y ≡ cond (e && b) x y
when_both true true x y z h = h
when_both true false x y z h = h
when_both false true x y z h = refl
when_both false false x y z h = refl

password_of_either : (b : Bool) (g h : Guard) (op n : ℕ) → password_of (with_count (cond b h g) n) op ≡ cond b (password_of h op) (password_of g op)
password_of_either true g h op n = refl
password_of_either false g h op n = refl

pub same_either : {A : Type 0} (b : Bool) (x : A) → cond b x x ≡ x
same_either true x = refl
same_either false x = refl

by_trial : (g : Guard) → Wide g → (op : ℕ) → is_op op ≡ true → (t : Trial) (content : List ℕ) → password_of (judged_of g t content).guard op ≡ password_by g op t
by_trial g w op is (trial.Change of old new) content =
    let locked = is_locked g in
    let right = is_right g of old in
    let v = tried g of old in
    password_of_either (passes v) g (with_password g of new) op (count_after g v)
    ∙ ap (λ b. cond b (password_of (with_password g of new) op) (password_of g op)) (passes_as locked right)
    ∙ when_both (not locked && right) (eqb of op) new (password_of g op) (password_of (with_password g of new) op) (put_password g w of op is new)
by_trial g w op is (trial.Name of password) content =
    let v = tried g of password in
    password_of_either (passes v) g (with_name g of (name_in content)) op (count_after g v)
    ∙ ap (λ q. cond (passes v) q (password_of g op)) (name_keeps g of op (name_in content))
    ∙ same_either (passes v) (password_of g op)
by_trial g w op is trial.Nothing content = refl
by_trial g w op is (trial.Open of password) content =
    let v = tried g of password in
    password_of_either (passes v) g g op (count_after g v) ∙ same_either (passes v) (password_of g op)

-- PROTOCOL 5.18: a password is what it was, but behind a 101 of its operator with the old one
pub a_password_changes_only_by_101 : (g : Guard) → Wide g → (op : ℕ) → is_op op ≡ true → (p : Parsed) (content : List ℕ) → password_of (judged_by g p content).guard op ≡ password_after g op p
a_password_changes_only_by_101 g w op is (Ok c) content = by_trial g w op is (trial_of c) content
a_password_changes_only_by_101 g w op is (Err why) content = refl

-- PROTOCOL 5.20: a password that does not pass leaves no more than the count
pub only_the_count : (g : Guard) (t : Trial) (content : List ℕ) → passes (verdict_of g t) ≡ false → (judged_of g t content).guard ≡ with_count g (count_after g (verdict_of g t))
only_the_count g t content e = rw e

-- and a command that tries none leaves not even that
pub no_password_no_count : (g : Guard) (content : List ℕ) → (judged_of g trial.Nothing content).guard ≡ g
no_password_no_count g content = refl
