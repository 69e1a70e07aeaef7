-- Lists of bytes: one byte that stands nowhere, and two lists that differ in exactly one place.
use Rattle.std.proofs.lemmas.Bool.{and_parts}
use mathlib.Core.Path.{◌≡◌, refl, sym, ap, ◌∙◌, subst}
use mathlib.Core.Bool.{Bool, true, false, false≢true}
use mathlib.Core.Logic.{◌⊎◌, ⊎_elim, inl, inr}
use mathlib.Core.List.{List, [], ◌∷◌, ◌++◌, nil≢cons, cons≢nil, head-eq_of_cons-eq, tail-eq_of_cons-eq}
use Prim.Native.Nat.{ℕ, zero, suc, ◌+◌, ◌<◌}
use native.Mathlib.Omega.{arith}
use lib.ListN.{length, get_or, set, replicate}
use Rattle.wire.specs.Bytes.{every}
use Rattle.wire.specs.Frame.{total}

-- v stands nowhere in the list
abbrev pub Free : ℕ → List ℕ → Type 0
Free v [] = Unit {0}
Free v (x ∷ xs) = (x ≡ v → ⊥) × Free v xs

pub free_join : (v : ℕ) (xs ys : List ℕ) → Free v xs → Free v ys → Free v (xs ++ ys)
free_join v [] ys f g = g
free_join v (x ∷ xs) ys f g = (f.0, free_join v xs ys f.1 g)

pub free_left : (v : ℕ) (xs ys : List ℕ) → Free v (xs ++ ys) → Free v xs
free_left v [] ys f = tt
free_left v (x ∷ xs) ys f = (f.0, free_left v xs ys f.1)

pub free_right : (v : ℕ) (xs ys : List ℕ) → Free v (xs ++ ys) → Free v ys
free_right v [] ys f = f
free_right v (x ∷ xs) ys f = free_right v xs ys f.1

-- what passes a test that v doesn't
pub free_test : (v : ℕ) (t : ℕ → Bool) → t v ≡ false → (x : ℕ) → t x ≡ true → x ≡ v → ⊥
free_test v t n x e q = false≢true (sym n ∙ ap t (sym q) ∙ e)

pub free_every : (v : ℕ) (t : ℕ → Bool) → t v ≡ false → (xs : List ℕ) → every t xs ≡ true → Free v xs
free_every v t n [] e = tt
free_every v t n (x ∷ xs) e =
    (free_test v t n x (and_parts (t x) (every t xs) e).0, free_every v t n xs (and_parts (t x) (every t xs) e).1)

-- the last place of v, if it stands nowhere before the last place
pub only_last : (v : ℕ) (xs : List ℕ) → Free v xs → (u w : List ℕ) → xs ++ v ∷ [] ≡ u ++ v ∷ w → w ≡ []
only_last v [] f [] w e = sym (tail-eq_of_cons-eq e)
only_last v [] f (y ∷ []) w e = absurd (nil≢cons (tail-eq_of_cons-eq e))
only_last v [] f (y ∷ z ∷ u) w e = absurd (nil≢cons (tail-eq_of_cons-eq e))
only_last v (x ∷ xs) f [] w e = absurd (f.0 (head-eq_of_cons-eq e))
only_last v (x ∷ xs) f (y ∷ u) w e = only_last v xs f.1 u w (tail-eq_of_cons-eq e)

-- the first place of v, if it stands nowhere behind
pub only_first : (v : ℕ) (xs u w : List ℕ) → Free v xs → v ∷ xs ≡ u ++ v ∷ w → xs ≡ w
only_first v xs [] w f e = tail-eq_of_cons-eq e
only_first v xs (y ∷ u) w f e =
    absurd ((free_right v u (v ∷ w) (subst (Free v) (tail-eq_of_cons-eq e) f)).0 refl)

-- two equal lists, cut at the same place
pub cut_same : (xs ys us vs : List ℕ) → length xs ≡ length us → xs ++ ys ≡ us ++ vs → (xs ≡ us) × (ys ≡ vs)
cut_same [] ys [] vs l e = (refl, e)
cut_same [] ys (u ∷ us) vs l e = absurd (omega arith)
cut_same (x ∷ xs) ys [] vs l e = absurd (omega arith)
cut_same (x ∷ xs) ys (u ∷ us) vs l e =
    let rest = cut_same xs ys us vs (omega arith) (tail-eq_of_cons-eq e) in
    let head : x ≡ u = head-eq_of_cons-eq e in
    let tail : xs ≡ us = rest.0 in
    (cc, rest.1)

pub total_join : (xs ys : List ℕ) → total (xs ++ ys) ≡ total xs + total ys
total_join [] ys = omega arith
total_join (x ∷ xs) ys = omega (arith, total_join xs ys)

-- two lists that differ in exactly one place
pub data OneOff : List ℕ → List ℕ → Type 0 where
  here : {x y : ℕ} {zs : List ℕ} → (x ≡ y → ⊥) → OneOff (x ∷ zs) (y ∷ zs)
  later : {z : ℕ} {xs ys : List ℕ} → OneOff xs ys → OneOff (z ∷ xs) (z ∷ ys)

pub off_set : (xs : List ℕ) (i b : ℕ) → i < length xs → (b ≡ get_or xs i 0 → ⊥) → OneOff xs (set xs i b)
off_set [] i b h n = absurd (omega arith)
off_set (x ∷ xs) zero b h n = here (λ e. n (sym e))
off_set (x ∷ xs) (suc i) b h n = later (off_set xs i b (omega arith) n)

pub off_back : {xs ys : List ℕ} → OneOff xs ys → OneOff ys xs
off_back (here n) = here (λ e. n (sym e))
off_back (later d) = later (off_back d)

pub off_length : {xs ys : List ℕ} → OneOff xs ys → length xs ≡ length ys
off_length (here n) = refl
off_length (later d) = ap suc (off_length d)

pub off_total : {xs ys : List ℕ} → OneOff xs ys → total xs ≡ total ys → ⊥
off_total (here {x} {y} {zs} n) e = n (omega arith)
off_total (later {z} {xs} {ys} d) e = off_total d (omega arith)

pub off_same : {xs ys : List ℕ} → OneOff xs ys → xs ≡ ys → ⊥
off_same d e = off_total d (ap total e)

-- the place stands in the first part, or in the second
pub record InFirst (a b g : List ℕ) : Type 0 where
  pub other : List ℕ
  pub is : g ≡ other ++ b
  pub off : OneOff a other

pub record InSecond (a b g : List ℕ) : Type 0 where
  pub other : List ℕ
  pub is : g ≡ a ++ other
  pub off : OneOff b other

first_later : (x : ℕ) (a b g : List ℕ) → InFirst a b g ⊎ InSecond a b g → InFirst (x ∷ a) b (x ∷ g) ⊎ InSecond (x ∷ a) b (x ∷ g)
first_later x a b g =
    ⊎_elim
    (λ c. inl (record { other = x ∷ c.other; is = ap (λ z. x ∷ z) c.is; off = later c.off }))
    (λ c. inr (record { other = c.other; is = ap (λ z. x ∷ z) c.is; off = c.off }))

pub off_parts : (a b : List ℕ) {f g : List ℕ} → OneOff f g → f ≡ a ++ b → InFirst a b g ⊎ InSecond a b g
off_parts [] b {f} {g} d e = inr (record { other = g; is = refl; off = subst (λ z. OneOff z g) e d })
off_parts (x ∷ a) b (here {x = u} {y} {zs} n) e =
    let head : u ≡ x = head-eq_of_cons-eq e in
    inl (record { other = y ∷ a; is = ap (λ z. y ∷ z) (tail-eq_of_cons-eq e); off = here (λ q. n (head ∙ q)) })
off_parts (x ∷ a) b (later {z} {xs} {ys} d) e =
    subst (λ w. InFirst (x ∷ a) b (w ∷ ys) ⊎ InSecond (x ∷ a) b (w ∷ ys)) (sym (head-eq_of_cons-eq e))
    (first_later x a b ys (off_parts a b d (tail-eq_of_cons-eq e)))

pub off_some : {f g : List ℕ} → OneOff f g → 0 < length f
off_some (here n) = omega arith
off_some (later d) = omega arith

-- two cuts of one list: the second no earlier than the first, or earlier
pub record NoEarlier (a b c d : List ℕ) : Type 0 where
  pub extra : List ℕ
  pub is : c ≡ a ++ extra
  pub rest : b ≡ extra ++ d

pub record Earlier (a b c d : List ℕ) : Type 0 where
  pub extra : List ℕ
  pub is : a ≡ c ++ extra
  pub rest : d ≡ extra ++ b

pub overlap : (a b c d : List ℕ) → a ++ b ≡ c ++ d → NoEarlier a b c d ⊎ Earlier a b c d
overlap [] b c d e = inl (record { extra = c; is = refl; rest = e })
overlap (x ∷ a) b [] d e = inr (record { extra = x ∷ a; is = refl; rest = sym e })
overlap (x ∷ a) b (y ∷ c) d e =
    let head : x ≡ y = head-eq_of_cons-eq e in
    ⊎_elim
    (λ r. inl (record { extra = r.extra; is = ap (λ z. y ∷ z) r.is ∙ ap (λ z. z ∷ a ++ r.extra) (sym head); rest = r.rest }))
    (λ r. inr (record { extra = r.extra; is = ap (λ z. x ∷ z) r.is ∙ ap (λ z. z ∷ c ++ r.extra) head; rest = r.rest }))
    (overlap a b c d (tail-eq_of_cons-eq e))

-- the last of some
pub last_of : (x : ℕ) (xs : List ℕ) → (init : List ℕ) × (last : ℕ) × (x ∷ xs ≡ init ++ last ∷ [])
last_of x [] = ([], x, refl)
last_of x (y ∷ xs) = let r = last_of y xs in (x ∷ r.0, r.1, ap (λ z. x ∷ z) r.2)

-- two lists with a last element
pub snoc_same : {A : Type 0} (xs ys : List A) (a b : A) → xs ++ a ∷ [] ≡ ys ++ b ∷ [] → (xs ≡ ys) × (a ≡ b)
snoc_same [] [] a b e = (refl, head-eq_of_cons-eq e)
snoc_same [] (y ∷ []) a b e = absurd (nil≢cons (tail-eq_of_cons-eq e))
snoc_same [] (y ∷ z ∷ ys) a b e = absurd (nil≢cons (tail-eq_of_cons-eq e))
snoc_same (x ∷ []) [] a b e = absurd (cons≢nil (tail-eq_of_cons-eq e))
snoc_same (x ∷ z ∷ xs) [] a b e = absurd (cons≢nil (tail-eq_of_cons-eq e))
snoc_same (x ∷ xs) (y ∷ ys) a b e =
    let rest = snoc_same xs ys a b (tail-eq_of_cons-eq e) in
    let head : x ≡ y = head-eq_of_cons-eq e in
    let tail : xs ≡ ys = rest.0 in
    (cc, rest.1)

-- the first part of a run of one element
pub prefix_same : {A : Type 0} (xs ys : List A) (a : A) (n : ℕ) → xs ++ ys ≡ replicate n a → (j : ℕ) × (xs ≡ replicate j a)
prefix_same [] ys a n e = (0, refl)
prefix_same (x ∷ xs) ys a zero e = absurd (cons≢nil e)
prefix_same (x ∷ xs) ys a (suc n) e =
    let rest = prefix_same xs ys a n (tail-eq_of_cons-eq e) in
    let head : x ≡ a = head-eq_of_cons-eq e in
    let tail : xs ≡ replicate rest.0 a = rest.1 in
    (suc rest.0, cc)
