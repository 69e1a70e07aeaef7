-- A list of bytes that passes a list of tests, one to a byte.
use Rattle.std.proofs.lemmas.Bool.{and_parts}
use mathlib.Core.Path.{◌≡◌, refl, sym, ◌∙◌}
use mathlib.Core.Bool.{Bool, true, false, false≢true}
use mathlib.Core.List.{List, [], ◌∷◌, ◌++◌}
use Prim.Native.Nat.{ℕ, zero, suc, ◌/◌, ◌≤◌}
use native.Mathlib.Omega.{arith}
use lib.ListN.{length, get_or, replicate}
use borrow.Author.Tests.{ne_eqb}
use Rattle.wire.specs.Bytes.{may_stand, every}
use Rattle.wire.specs.Places.{is, none, behind_data, front, ending}
use Rattle.wire.specs.Frame.{hexadecimal}
use Rattle.wire.specs.declared.Way.{Way}
use Rattle.wire.specs.declared.Way.TheVariants.{ToDevice, ToTill}
use Rattle.wire.specs.declared.Role.TheVariants.{Name, Data, Status}

-- the bytes pass the first tests
pub data Pass : List (ℕ → Bool) → List ℕ → Type 0 where
  done : {ts : List (ℕ → Bool)} → Pass ts []
  more : {t : ℕ → Bool} {ts : List (ℕ → Bool)} {x : ℕ} {xs : List ℕ} → t x ≡ true → Pass ts xs → Pass (t ∷ ts) (x ∷ xs)

pub pass_short : {ts : List (ℕ → Bool)} {xs : List ℕ} → Pass ts xs → length xs ≤ length ts
pass_short done = omega arith
pass_short (more e p) = omega (arith, pass_short p)

-- one byte more
pub pass_snoc : {ts : List (ℕ → Bool)} {xs : List ℕ} → Pass ts xs → (b : ℕ) → get_or ts (length xs) none b ≡ true → Pass ts (xs ++ b ∷ [])
pass_snoc {ts} done b e = go ts e
  where
    go : (us : List (ℕ → Bool)) → get_or us 0 none b ≡ true → Pass us (b ∷ [])
    go [] h = absurd (false≢true h)
    go (u ∷ us) h = more h done
pass_snoc (more h p) b e = more h (pass_snoc p b e)

-- tests one after another
pub pass_join : {ts us : List (ℕ → Bool)} {xs ys : List ℕ} → Pass ts xs → length xs ≡ length ts → Pass us ys → Pass (ts ++ us) (xs ++ ys)
pass_join {ts} done l q = go ts l q
  where
    go : {us : List (ℕ → Bool)} {ys : List ℕ} (vs : List (ℕ → Bool)) → 0 ≡ length vs → Pass us ys → Pass (vs ++ us) ys
    go [] h r = r
    go (v ∷ vs) h r = absurd (omega arith)
pass_join (more e p) l q = more e (pass_join p (omega arith) q)

-- a run of one test
pub pass_every : (t : ℕ → Bool) (xs : List ℕ) → every t xs ≡ true → Pass (replicate (length xs) t) xs
pass_every t [] e = done
pass_every t (x ∷ xs) e = more (and_parts (t x) (every t xs) e).0 (pass_every t xs (and_parts (t x) (every t xs) e).1)

-- no place takes 01h
pub data Rejects : List (ℕ → Bool) → Type 0 where
  none_left : Rejects []
  and : {t : ℕ → Bool} {ts : List (ℕ → Bool)} → t 0x01 ≡ false → Rejects ts → Rejects (t ∷ ts)

rejects_at : {ts : List (ℕ → Bool)} → Rejects ts → (i : ℕ) → get_or ts i none 0x01 ≡ false
rejects_at none_left i = refl
rejects_at (and e r) zero = e
rejects_at (and e r) (suc i) = rejects_at r i

rejects_join : {ts us : List (ℕ → Bool)} → Rejects ts → Rejects us → Rejects (ts ++ us)
rejects_join none_left q = q
rejects_join (and e r) q = and e (rejects_join r q)

rejects_run : (n : ℕ) (t : ℕ → Bool) → t 0x01 ≡ false → Rejects (replicate n t)
rejects_run zero t e = none_left
rejects_run (suc n) t e = and e (rejects_run n t e)

rejects_behind : (k : Way) → Rejects (behind_data k)
rejects_behind ToDevice = none_left
rejects_behind ToTill = and refl (rejects_run 6 (may_stand Status) refl)

rejects_hex : (n : ℕ) → is (hexadecimal n) 0x01 ≡ false
rejects_hex n = ne_eqb 0x01 (hexadecimal n) (λ e. omega arith)

rejects_frame : (k : Way) (n sum : ℕ) → Rejects (front k n ++ ending sum)
rejects_frame k n sum =
    let five = rejects_join (rejects_join (rejects_run n (may_stand Data) refl) (rejects_behind k)) (and {t = is 0x05} refl none_left) in
    let quad = and (rejects_hex (sum / 4096)) (and (rejects_hex (sum / 256)) (and (rejects_hex (sum / 16)) (and (rejects_hex sum) (and {t = is 0x03} refl none_left)))) in
    rejects_join (and {t = may_stand Name} refl (and {t = may_stand Name} refl five)) quad

pub not_01 : (k : Way) (n sum i b : ℕ) → get_or (front k n ++ ending sum) i none b ≡ true → b ≡ 0x01 → ⊥
not_01 k n sum i b e q = false≢true (sym (rejects_at (rejects_frame k n sum) i) ∙ rw q at e)
