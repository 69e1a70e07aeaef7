-- A line taken back, among the lines of a receipt by their places: one that stood stands no more, all others stay, and its amount is off its group.
use Rattle.std.proofs.lemmas.Bool.{and_parts}
use mathlib.Core.Path.{◌≡◌, refl, sym, ap, ◌∙◌, subst}
use mathlib.Core.Bool.{Bool, true, false, cond, ◌&&◌, false≢true}
use mathlib.Core.List.{List, [], ◌∷◌}
use mathlib.Core.Logic.{◌⊎◌, inl, inr}
use Prim.Native.Nat.{ℕ, ◌+◌, ◌<◌}
use native.Mathlib.Omega.{arith}
use lib.Dec.{eqb}
use lib.ListN.{length}
use borrow.Author.Tests.{eqb-true, eqb-false, eq-eqb, ne_eqb}
use Rattle.kinds.specs.declared.Sale.{Sale}
use Rattle.sheet.specs.Notes.{taken_back}
use Rattle.sheet.specs.declared.Line.{Line}
use Rattle.std.specs.Prelude.{Option, Some, is_some, unwrap_or}
use Rattle.history.specs.Sold.{is_like, newest_like, without_newest}
use Rattle.history.specs.TakingBack.{line_at, standing, worth_of}
use Rattle.history.proofs.Sheets.{as_many}

-- the newest line, and one before it
pub at_newest : (l : Line) (ls : List Line) (i : ℕ) → i ≡ length ls → line_at i (l ∷ ls) ≡ l
at_newest l ls i e = ap (λ t. cond t l (line_at i ls)) (eq-eqb i (length ls) e)

pub at_older : (l : Line) (ls : List Line) (i : ℕ) → (i ≡ length ls → ⊥) → line_at i (l ∷ ls) ≡ line_at i ls
at_older l ls i z = ap (λ t. cond t l (line_at i ls)) (ne_eqb i (length ls) z)

-- a line like a sale
pub record Like (l : Line) (x : Sale) : Type 0 where
  pub stood : l.stands ≡ true
  pub price : l.price ≡ x.price
  pub quantity : l.quantity ≡ x.quantity
  pub group : l.group ≡ x.group

pub like_parts : (l : Line) (x : Sale) → is_like l x ≡ true → Like l x
like_parts l x e =
    let p = eqb l.price x.price in
    let q = eqb l.quantity x.quantity in
    let g = eqb l.group x.group in
    let e3 = and_parts (l.stands && p && q) g e in
    let e2 = and_parts (l.stands && p) q e3.0 in
    let e1 = and_parts l.stands p e2.0 in
    record {
      stood = e1.0;
      price = eqb-true l.price x.price e1.1;
      quantity = eqb-true l.quantity x.quantity e2.1;
      group = eqb-true l.group x.group e3.1;
    }

-- the line found, by its place; `after` are the lines once it is taken back
pub record FoundIn (x : Sale) (ls : List Line) (m : Option ℕ) (after : List Line) : Type 0 where
  pub place : ℕ
  pub among : place < length ls
  pub like : is_like (line_at place ls) x ≡ true
  pub last : (i : ℕ) → place < i → i < length ls → is_like (line_at i ls) x ≡ false
  pub amount : unwrap_or m 0 ≡ (line_at place ls).amount
  pub marked : line_at place after ≡ taken_back (line_at place ls)
  pub others : (i : ℕ) → i < length ls → (i ≡ place → ⊥) → line_at i after ≡ line_at i ls

module _ (x : Sale) (l : Line) (ls : List Line) where
  abbrev here : Option ℕ
  here = Some l.amount

  found-newest : is_like l x ≡ true → FoundIn x (l ∷ ls) here (taken_back l ∷ ls)
  found-newest e =
      let n = length ls in
      let is = at_newest l ls n refl in
      record {
        place = n;
        among = omega arith;
        like = ap (λ z. is_like z x) is ∙ e;
        last = λ i a b. absurd (omega arith);
        amount = sym (ap (λ (z : Line). z.amount) is);
        marked = at_newest (taken_back l) ls n refl ∙ sym (ap taken_back is);
        others = λ i a z. at_older (taken_back l) ls i z ∙ sym (at_older l ls i z);
      }

  found-older : is_like l x ≡ false → {m : Option ℕ} {after : List Line} → length after ≡ length ls → FoundIn x ls m after → FoundIn x (l ∷ ls) m (l ∷ after)
  found-older e {m} {after} same f =
      let p = f.place in
      let is = at_older l ls p (λ z. omega (arith, f.among)) in
      record {
        place = p;
        among = omega (arith, f.among);
        like = ap (λ z. is_like z x) is ∙ f.like;
        last = λ i a b. last_of i a b (eqb i (length ls)) refl;
        amount = f.amount ∙ sym (ap (λ (z : Line). z.amount) is);
        marked = at_older l after p (λ z. omega (arith, f.among)) ∙ f.marked ∙ sym (ap taken_back is);
        others = λ i a z. ap (λ n. cond (eqb i n) l (line_at i after)) same ∙ other-of i a z (eqb i (length ls)) refl;
      }
    where
      last_of : (i : ℕ) → f.place < i → i < length (l ∷ ls) → (t : Bool) → eqb i (length ls) ≡ t → is_like (cond t l (line_at i ls)) x ≡ false
      last_of i a b true k = e
      last_of i a b false k = f.last i a (omega (arith, eqb-false i (length ls) k))

      other-of : (i : ℕ) → i < length (l ∷ ls) → (i ≡ f.place → ⊥) → (t : Bool) → eqb i (length ls) ≡ t → cond t l (line_at i after) ≡ cond t l (line_at i ls)
      other-of i a z true k = refl
      other-of i a z false k = f.others i (omega (arith, eqb-false i (length ls) k)) z

pub found_in : (x : Sale) (ls : List Line) → is_some (newest_like x ls) ≡ true → FoundIn x ls (newest_like x ls) (without_newest x ls)
found_in x [] e = absurd (false≢true e)
found_in x (l ∷ ls) e = go (found_in x ls) (is_like l x) refl e
  where
    go : (is_some (newest_like x ls) ≡ true → FoundIn x ls (newest_like x ls) (without_newest x ls)) → (t : Bool) → is_like l x ≡ t
        → is_some (cond {A = Option ℕ} t (here x l ls) (newest_like x ls)) ≡ true
        → FoundIn x (l ∷ ls) (cond t (here x l ls) (newest_like x ls)) (cond t (taken_back l ∷ ls) (l ∷ without_newest x ls))
    go older true k e = found-newest x l ls k
    go older false k e = found-older x l ls k (as_many x ls) (older e)

-- whatever is taken back, each line is as it was, or it stood and does not stand any more
abbrev pub SameOrBack : (new old : Line) → Type 0
SameOrBack new old = (new ≡ old) ⊎ ((old.stands ≡ true) × (new.stands ≡ false))

pub same_or_back : (x : Sale) (ls : List Line) (i : ℕ) → SameOrBack (line_at i (without_newest x ls)) (line_at i ls)
same_or_back x [] i = inl refl
same_or_back x (l ∷ ls) i = go (same_or_back x ls i) (is_like l x) refl
  where
    newest-back : is_like l x ≡ true → (t : Bool) → SameOrBack (cond t (taken_back l) (line_at i ls)) (cond t l (line_at i ls))
    newest-back k true = inr ((like_parts l x k).stood, refl)
    newest-back k false = inl refl

    newest-same : SameOrBack (line_at i (without_newest x ls)) (line_at i ls) → (t : Bool) → SameOrBack (cond t l (line_at i (without_newest x ls))) (cond t l (line_at i ls))
    newest-same older true = inl refl
    newest-same older false = older

    go : SameOrBack (line_at i (without_newest x ls)) (line_at i ls) → (t : Bool) → is_like l x ≡ t
        → SameOrBack (line_at i (cond t (taken_back l ∷ ls) (l ∷ without_newest x ls))) (line_at i (l ∷ ls))
    go older true k = newest-back k (eqb i (length ls))
    go older false k =
        subst (λ n. SameOrBack (cond (eqb i n) l (line_at i (without_newest x ls))) (line_at i (l ∷ ls))) (sym (as_many x ls)) (newest-same older (eqb i (length ls)))

-- one line fewer stands
pub one_fewer : (x : Sale) (ls : List Line) → is_some (newest_like x ls) ≡ true → standing (without_newest x ls) + 1 ≡ standing ls
one_fewer x [] e = absurd (false≢true e)
one_fewer x (l ∷ ls) e = go (one_fewer x ls) (is_like l x) refl e
  where
    go : (is_some (newest_like x ls) ≡ true → standing (without_newest x ls) + 1 ≡ standing ls) → (t : Bool) → is_like l x ≡ t
        → is_some (cond {A = Option ℕ} t (here x l ls) (newest_like x ls)) ≡ true → standing (cond t (taken_back l ∷ ls) (l ∷ without_newest x ls)) + 1 ≡ standing (l ∷ ls)
    go older true k e = rw (like_parts l x k).stood (omega arith)
    go older false k e = omega (arith, older e)

-- the group's lines come to less by the amount of the line found; where none is found that is nothing
pub worth_less : (x : Sale) (g : ℕ) (ls : List Line) → worth_of g (without_newest x ls) + cond (eqb x.group g) (unwrap_or (newest_like x ls) 0) 0 ≡ worth_of g ls
worth_less x g [] = nothing (eqb x.group g)
  where
    nothing : (t : Bool) → 0 + cond t 0 0 ≡ 0
    nothing true = refl
    nothing false = refl
worth_less x g (l ∷ ls) = go (worth_less x g ls) (is_like l x) refl
  where
    go : worth_of g (without_newest x ls) + cond (eqb x.group g) (unwrap_or (newest_like x ls) 0) 0 ≡ worth_of g ls → (t : Bool) → is_like l x ≡ t
        → worth_of g (cond t (taken_back l ∷ ls) (l ∷ without_newest x ls)) + cond (eqb x.group g) (unwrap_or (cond {A = Option ℕ} t (here x l ls) (newest_like x ls)) 0) 0 ≡ worth_of g (l ∷ ls)
    go older true k =
        let is = like_parts l x k in
        rw (is.stood, is.group) (omega arith)
    go older false k = omega (arith, older)
