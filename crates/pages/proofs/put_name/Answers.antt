use Rattle.std.proofs.Common.{rules}
use mathlib.Core.Path.{◌≡◌, refl}
use Prim.Native.Nat.{ℕ}
use mathlib.Core.List.{List, [], ◌∷◌, ◌++◌}
use native.Mathlib.Omega.{arith}
use lib.ListN.{length}
use Rattle.letters.specs.Letters.{bytes}
use Rattle.sentences.proofs.Putting.{put_as, put_then}
use Rattle.pages.specs.Pages.{named_by}
use Rattle.pages.proofs.put_name.Goals as goal

without : (name : List ℕ) → length name ≡ 0 → [] ≡ named_by name
without [] e = refl
without (b ∷ bs) e = absurd (omega (arith, e))

with_one : (name : List ℕ) → (length name ≡ 0 → ⊥) → name ++ bytes ": " ≡ named_by name
with_one [] e = absurd (e refl)
with_one (b ∷ bs) e = refl

pub returns-then-is_empty : goal.returns-then-is_empty
returns-then-is_empty c = put_as c.put.ensures (without c.args.name.now (search rules))

pub returns : goal.returns
returns c = put_as (put_then c.put-named.ensures c.put-2.ensures) (with_one c.args.name.now (search rules))
