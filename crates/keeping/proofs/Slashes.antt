-- The last b of a list, by its place.
use Rattle.std.proofs.Common.{◌≡◌, ◌≢◌, ℕ, zero, suc, ◌+◌, ◌<◌, ◌≤◌, Bool, true, false, cond, List, [], ◌∷◌, length, get_or, refl, ◌∙◌, arith}
use borrow.Author.Tests.{eq-eqb, ne_eqb, lt-ltb}
use lib.Dec.{eqb, ltb}
use Rattle.keeping.specs.Keeping.{behind_last}

-- one byte more in front, by what was found behind it
with_one : (b x : ℕ) (xs : List ℕ) (n : ℕ) (later found : Bool) → behind_last b xs ≡ n → ltb 0 n ≡ later → eqb x b ≡ found
    → behind_last b (x ∷ xs) ≡ cond later (suc n) (cond found 1 0)
with_one b x xs n later found e el ef = rw (e, el, ef) refl

pub none_there : (b : ℕ) (s : List ℕ) → ((k : ℕ) → 0 ≤ k → k < length s → get_or s k 0 ≢ b) → behind_last b s ≡ 0
none_there b [] h = refl
none_there b (x ∷ xs) h =
    with_one b x xs 0 false false (none_there b xs (λ k from below. h (suc k) (omega arith) (omega arith))) refl
    (ne_eqb x b (h 0 (omega arith) (omega arith)))

pub last_at : (b : ℕ) (s : List ℕ) (i : ℕ) → i < length s → get_or s i 0 ≡ b → ((k : ℕ) → i + 1 ≤ k → k < length s → get_or s k 0 ≢ b) → behind_last b s ≡ i + 1
last_at b [] i below here after = absurd (omega arith)
last_at b (x ∷ xs) zero below here after =
    with_one b x xs 0 false true (none_there b xs (λ k from under. after (suc k) (omega arith) (omega arith))) refl (eq-eqb x b here)
last_at b (x ∷ xs) (suc i) below here after =
    with_one b x xs (i + 1) true (eqb x b) (last_at b xs i (omega arith) here (λ k from under. after (suc k) (omega arith) (omega arith)))
    (lt-ltb 0 (i + 1) (omega arith)) refl ∙ omega arith
