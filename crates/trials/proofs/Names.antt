-- A name changes by a 102 of its operator alone, and only with the password that stands.
use Rattle.std.proofs.lemmas.Bool.{and_parts}
use mathlib.Core.Path.{◌≡◌, refl, ap, ◌∙◌}
use mathlib.Core.Bool.{Bool, true, false, cond, not, ◌&&◌, false≢true}
use mathlib.Core.List.{List, [], ◌∷◌, ◌++◌, append_assoc}
use Prim.Native.Nat.{ℕ, zero, suc, ◌+◌, ◌-◌, ◌*◌, ◌≤◌}
use native.Mathlib.Decide.{dec_le}
use native.Mathlib.Omega.{arith}
use lib.Dec.{leb, eqb}
use lib.ListN.{length, get_or, set, take, drop, replicate, length-take}
use lib.Seq.{sets, sets-eq, get_or-set_same, get_or-set_other, take_all, take-set-le, drop-set-add, take-append_seam, drop_at, length-take-le}
use borrow.Author.Tests.{leb-true, eqb-true}
use Rattle.text.proofs.Laws.{drop-sets}
use Rattle.text.specs.Parts.{every, has, up_to, past}
use Rattle.figures.specs.Numbers.{field_of, field_number, field_value}
use Rattle.labels.specs.Texts.{is_name}
use Rattle.kinds.specs.Fields.{ends_or, comma, Parsed}
use Rattle.kinds.specs.Operators.{is_op, secret_of, password_as, name_with, with_third, operators_of, name_in}
use Rattle.kinds.specs.declared.Command.TheVariants.{ChangeName}
use Rattle.std.specs.Prelude.{Ok, Err}
use Rattle.kinds.specs.declared.Unread.TheVariants.{Syntax, Unknown}
use Rattle.kinds.specs.declared.Password.{Password}
use Rattle.kinds.specs.declared.operators.Third.TheVariants as third
use Rattle.guard.proofs.Verdicts.{op_from, op_to}
use Rattle.guard.specs.Guard.{fresh_guard, name_of, is_locked, is_right, with_count, calmed, with_password, with_name, trial_of, tried, verdict_of, passes, changed_by, count_after, judged_of, judged_by}
use Rattle.guard.specs.declared.Guard.{Guard}
use Rattle.guard.specs.declared.Trial.{Trial}
use Rattle.guard.specs.declared.Trial.TheVariants as trial
use Rattle.trials.specs.Changes.{Wide, Short, name_by, name_after}
use Rattle.trials.proofs.Changing.{apart, passes_as, when_both, same_either}

none_set : (n i : ℕ) → get_or (replicate n 0) i 0 ≤ 24
none_set zero i = omega arith
none_set (suc n) zero = omega arith
none_set (suc n) (suc i) = none_set n i

pub fresh_short : Short fresh_guard
fresh_short = record { sizes = none_set 8 }

pub count_short : (g : Guard) → Short g → (n : ℕ) → Short (with_count g n)
count_short g s n = record { sizes = s.sizes }

pub calmed_short : (g : Guard) → Short g → Short (calmed g)
calmed_short g s = count_short g s 0

either_short : (b : Bool) {g h : Guard} → Short h → Short g → Short (cond b h g)
either_short true u s = u
either_short false u s = s

one_set : (l : List ℕ) (i v : ℕ) → v ≤ 24 → ((k : ℕ) → get_or l k 0 ≤ 24) → (j : ℕ) → get_or (set l i v) j 0 ≤ 24
one_set [] i v h all j = all j
one_set (x ∷ l) zero v h all zero = h
one_set (x ∷ l) zero v h all (suc j) = all (suc j)
one_set (x ∷ l) (suc i) v h all zero = all zero
one_set (x ∷ l) (suc i) v h all (suc j) = one_set l i v h (λ k. all (suc k)) j

cut : (name : List ℕ) → length (take 24 name) ≤ 24
cut name = omega (arith, length-take 24 name)

changed_short : (g : Guard) → Short g → (t : Trial) (content : List ℕ) → Short (changed_by g t content)
changed_short g s (trial.Change op old new) content = either_short (is_op op) (record { sizes = s.sizes }) s
changed_short g s (trial.Name op password) content =
    let name = name_in content in
    either_short (is_op op) (record { sizes = one_set g.sizes (op - 1) (length (take 24 name)) (cut name) s.sizes }) s
changed_short g s (trial.Open op password) content = s
changed_short g s trial.Nothing content = s

pub judged_short : (g : Guard) → Short g → (p : Parsed) (content : List ℕ) → Short (judged_by g p content).guard
judged_short g s (Ok c) content =
    let t = trial_of c in
    let v = verdict_of g t in
    count_short (cond (passes v) (changed_by g t content) g) (either_short (passes v) (changed_short g s t content) s) (count_after g v)
judged_short g s (Err why) content = s

-- a run that begins behind a part leaves the part
part_set : (n j : ℕ) (l : List ℕ) (i v : ℕ) → j + n ≤ i → take n (drop j (set l i v)) ≡ take n (drop j l)
part_set n j l i v h =
    let at : i ≡ j + (i - j) = omega (arith, h) in
    ap (λ k. take n (drop j (set l k v))) at
    ∙ ap (take n) (drop-set-add j l (i - j) v)
    ∙ take-set-le n (drop j l) (i - j) v (omega (arith, h))

part_before : (vs : List ℕ) (n j : ℕ) (l : List ℕ) (i : ℕ) → j + n ≤ i → take n (drop j (sets l i vs)) ≡ take n (drop j l)
part_before [] n j l i h = refl
part_before (v ∷ vs) n j l i h = part_before vs n j (set l i v) (suc i) (omega (arith, h)) ∙ part_set n j l i v h

-- a run stands where it was put
part_own : (vs l : List ℕ) (i : ℕ) → i + length vs ≤ length l → take (length vs) (drop i (sets l i vs)) ≡ vs
part_own vs l i h =
    let rest = drop (i + length vs) l in
    ap (λ k. take (length vs) (drop i k)) (sets-eq vs l i h ∙ append_assoc (take i l) vs rest)
    ∙ ap (take (length vs)) (drop_at (take i l) (vs ++ rest) i (length-take-le i l (omega (arith, h))))
    ∙ take-append_seam vs rest

-- a name that is put stands there, and no other one is touched
put_own : (g : Guard) → Wide g → (op : ℕ) → is_op op ≡ true → (name : List ℕ) → name_of (with_name g op name) op ≡ take 24 name
put_own g w op is name =
    let low = op_from op is in
    let high = op_to op is in
    rw (is, get_or-set_same g.sizes (op - 1) (length (take 24 name)) 0 (omega (arith, w.sizes, low, high)))
    (part_own (take 24 name) g.names (24 * (op - 1)) (omega (arith, cut name, w.names, low, high)))

other_place : (g : Guard) → Short g → (of op : ℕ) → is_op of ≡ true → is_op op ≡ true → eqb of op ≡ false → (name : List ℕ)
    → take (get_or g.sizes (op - 1) 0) (drop (24 * (op - 1)) (sets g.names (24 * (of - 1)) (take 24 name))) ≡ name_of g op
other_place g s of op is-of is e name = go (dec_le of op)
  where
    go : Dec (of ≤ op) → take (get_or g.sizes (op - 1) 0) (drop (24 * (op - 1)) (sets g.names (24 * (of - 1)) (take 24 name))) ≡ name_of g op
    go (yes le) =
        let ne = apart of op is-of is e in
        ap (take (get_or g.sizes (op - 1) 0)) (drop-sets (24 * (op - 1)) (24 * (of - 1)) g.names (take 24 name) (omega (arith, cut name, le, ne, op_from of is-of)))
    go (no more) =
        part_before (take 24 name) (get_or g.sizes (op - 1) 0) (24 * (op - 1)) g.names (24 * (of - 1)) (omega (arith, s.sizes (op - 1), more, op_from op is))

put_other : (g : Guard) → Short g → (of op : ℕ) → is_op op ≡ true → eqb of op ≡ false → (name : List ℕ) → name_of (with_name g of name) op ≡ name_of g op
put_other g s of op is e name = go (is_op of) refl
  where
    go : (b : Bool) → is_op of ≡ b → name_of (with_name g of name) op ≡ name_of g op
    go true is-of =
        rw (is-of, get_or-set_other g.sizes (of - 1) (op - 1) (length (take 24 name)) 0 (apart of op is-of is e)) (other_place g s of op is-of is e name)
    go false none = rw none

put_name : (g : Guard) → Wide g → Short g → (of op : ℕ) → is_op op ≡ true → (name : List ℕ) → name_of (with_name g of name) op ≡ cond (eqb of op) (take 24 name) (name_of g op)
put_name g w s of op is name = go (eqb of op) refl
  where
    go : (b : Bool) → eqb of op ≡ b → name_of (with_name g of name) op ≡ cond b (take 24 name) (name_of g op)
    go true e = ap (λ k. name_of (with_name g k name) op) (eqb-true of op e) ∙ put_own g w op is name
    go false e = put_other g s of op is e name

-- nor does a password touch one
password_keeps : (g : Guard) (of op : ℕ) (new : Password) → name_of (with_password g of new) op ≡ name_of g op
password_keeps g of op new = go (is_op of) refl
  where
    go : (b : Bool) → is_op of ≡ b → name_of (with_password g of new) op ≡ name_of g op
    go true is = rw is
    go false is = rw is

name_of_either : (b : Bool) (g h : Guard) (op n : ℕ) → name_of (with_count (cond b h g) n) op ≡ cond b (name_of h op) (name_of g op)
name_of_either true g h op n = refl
name_of_either false g h op n = refl

by_trial : (g : Guard) → Wide g → Short g → (op : ℕ) → is_op op ≡ true → (t : Trial) (content : List ℕ) → name_of (judged_of g t content).guard op ≡ name_by g op t content
by_trial g w s op is (trial.Name of password) content =
    let locked = is_locked g in
    let right = is_right g of password in
    let v = tried g of password in
    let name = name_in content in
    let put = with_name g of name in
    name_of_either (passes v) g put op (count_after g v)
    ∙ ap (λ b. cond b (name_of put op) (name_of g op)) (passes_as locked right)
    ∙ when_both (not locked && right) (eqb of op) (take 24 name) (name_of g op) (name_of put op) (put_name g w s of op is name)
by_trial g w s op is (trial.Change of old new) content =
    let v = tried g of old in
    name_of_either (passes v) g (with_password g of new) op (count_after g v)
    ∙ ap (λ q. cond (passes v) q (name_of g op)) (password_keeps g of op new)
    ∙ same_either (passes v) (name_of g op)
by_trial g w s op is trial.Nothing content = refl
by_trial g w s op is (trial.Open of password) content =
    let v = tried g of password in
    name_of_either (passes v) g g op (count_after g v) ∙ same_either (passes v) (name_of g op)

-- PROTOCOL 5.19: a name is what it was, but behind a 102 of its operator with the password
pub a_name_changes_only_by_102 : (g : Guard) → Wide g → Short g → (op : ℕ) → is_op op ≡ true → (p : Parsed) (content : List ℕ) → name_of (judged_by g p content).guard op ≡ name_after g op p content
a_name_changes_only_by_102 g w s op is (Ok c) content = by_trial g w s op is (trial_of c) content
a_name_changes_only_by_102 g w s op is (Err why) content = refl

-- what was read, was of the form
abbrev is_read : Parsed → Bool
is_read (Ok c) = true
is_read (Err why) = false

read_so : (b : Bool) (x : Parsed) → is_read (cond b x (Err Syntax)) ≡ true → (b ≡ true) × (is_read x ≡ true)
read_so true x e = (refl, e)
read_so false x e = absurd (false≢true e)

went_on : (b d : Bool) (x : Parsed) → is_read (cond b x (cond d (Err Syntax) (Err Unknown))) ≡ true → is_read x ≡ true
went_on true d x e = e
went_on false true x e = absurd (false≢true e)
went_on false false x e = absurd (false≢true e)

name_so : (op pwd name : List ℕ) → is_read (with_third third.Name op pwd name) ≡ true → is_name name ≡ true
name_so op pwd name e =
    let o = field_value (field_of 1 op) in
    let p = password_as pwd (field_value (secret_of pwd)) in
    let last = cond (is_op o) (name_with o p name) (Err Syntax) in
    let inner = ends_or (field_number (secret_of pwd)) last in
    let e1 = went_on (eqb (field_number (field_of 1 op)) 0) (eqb (field_number (field_of 1 op)) 1) inner e in
    let e2 = went_on (eqb (field_number (secret_of pwd)) 0) (eqb (field_number (secret_of pwd)) 1) last e1 in
    (read_so (is_name name) (Ok (ChangeName o p)) (read_so (is_op o) (name_with o p name) e2).1).0

-- PROTOCOL 5.19: so nothing of a name that was read is cut
pub a_name_read_fits : (content : List ℕ) (op : ℕ) (p : Password) → operators_of third.Name content ≡ Ok (ChangeName op p) → take 24 (name_in content) ≡ name_in content
a_name_read_fits content op p e =
    let rest = past comma content in
    let name = name_in content in
    let form = with_third third.Name (up_to comma content) (up_to comma rest) name in
    let read = (read_so (has comma content && has comma rest) form (ap is_read e)).1 in
    let fits = name_so (up_to comma content) (up_to comma rest) name read in
    take_all 24 name (leb-true (length name) 24 (and_parts (leb (length name) 24) (every (leb 0x20) name) fits).0)
