-- Laws of the forms, as the code's branches ask them.
use mathlib.Core.Path.{◌≡◌, refl, sym, ap, ◌∙◌}
use mathlib.Core.Bool.{true, false}
use mathlib.Core.List.{List, [], ◌∷◌}
use Prim.Native.Nat.{ℕ, zero, suc, ◌+◌, ◌-◌, ◌≤◌, ◌<◌}
use native.Mathlib.Omega.{arith}
use lib.Dec.{ltb}
use lib.ListN.{length, get_or, take, drop, drop_of_length-le}
use borrow.Author.Tests.{lt-ltb, le-ltb}
use Rattle.text.specs.Parts.{first_at, has, up_to, past}
use Rattle.text.proofs.Cutting.{place_within, to_end}
use Rattle.kinds.specs.Plain.{sums_of, closing_of}
use Rattle.kinds.specs.Fields.{parsed_number, ends_or}
use Rattle.kinds.specs.declared.Command.{Command}
use Rattle.std.specs.Prelude.{Ok, Err}
use Rattle.kinds.specs.declared.Unread.TheVariants.{Syntax}

-- what ends a command with a number is told with that number
pub ends_say : (c : Command) (number : ℕ) → number ≤ 2 → parsed_number (ends_or number (Ok c)) ≡ number
ends_say c zero h = refl
ends_say c (suc zero) h = refl
ends_say c (suc (suc zero)) h = refl
ends_say c (suc (suc (suc n))) h = absurd (omega arith)

-- a list of one byte
pub one : (s : List ℕ) → length s ≡ 1 → s ≡ get_or s 0 0 ∷ []
one [] e = absurd (omega arith)
one (x ∷ []) e = refl
one (x ∷ y ∷ s) e = absurd (omega arith)

pub sums_long : (s : List ℕ) → (length s ≡ 0 → ⊥) → (length s ≡ 1 → ⊥) → Err Syntax ≡ sums_of s
sums_long [] e f = absurd (e refl)
sums_long (x ∷ []) e f = absurd (f refl)
sums_long (x ∷ y ∷ s) e f = refl

pub closing_long : (s : List ℕ) → (length s ≡ 1 → ⊥) → Err Syntax ≡ closing_of s
closing_long [] f = refl
closing_long (x ∷ []) f = absurd (f refl)
closing_long (x ∷ y ∷ s) f = refl

-- the first b found, as the code finds it
module _ (b : ℕ) (s : List ℕ) (at : ℕ) (e : at ≡ first_at b s) where
  pub found : at < length s → has b s ≡ true
  found h = ap (λ n. ltb n (length s)) (sym e) ∙ lt-ltb at (length s) h

  pub missed : length s ≤ at → has b s ≡ false
  missed h = ap (λ n. ltb n (length s)) (sym e) ∙ le-ltb at (length s) h

  pub found_ne : (at ≡ length s → ⊥) → has b s ≡ true
  found_ne h = found (omega (arith, place_within b s))

  pub missed_eq : at ≡ length s → has b s ≡ false
  missed_eq h = missed (omega arith)

  pub at_most_lem : at ≤ length s
  at_most_lem = omega (arith, place_within b s)

  -- the part before it and the part behind it, as they are cut
  pub front : take at s ≡ up_to b s
  front = ap (λ n. take n s) e

  pub behind : take (length s - (at + 1)) (drop (at + 1) s) ≡ past b s
  behind = to_end (at + 1) s ∙ ap (λ n. drop (n + 1) s) e

  pub none_behind : at ≡ length s → [] ≡ past b s
  none_behind h = sym (drop_of_length-le s {i = at + 1} (omega arith)) ∙ ap (λ n. drop (n + 1) s) e
