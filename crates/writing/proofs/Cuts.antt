-- Laws of words.
use mathlib.Core.Path.{◌≡◌, sym, ap, ◌∙◌}
use mathlib.Core.List.{List}
use Prim.Native.Nat.{ℕ, ◌+◌, ◌-◌}
use native.Mathlib.Omega.{arith}
use lib.ListN.{length, take, drop, drop_of_length-le}
use Rattle.text.specs.Parts.{first_at}
use Rattle.text.proofs.Cutting.{to_end}
use Rattle.writing.specs.Words.{behind}

-- what stands behind the first space: nothing, where there is none
module _ (s : List ℕ) (end : ℕ) (found : end ≡ first_at 0x20 s) where
  pub behind_none : end ≡ length s → take (length s - end) (drop end s) ≡ behind s
  behind_none e =
      to_end end s
      ∙ drop_of_length-le s {i = end} (omega arith)
      ∙ sym (drop_of_length-le s {i = first_at 0x20 s + 1} (omega arith))

  pub behind_some : take (length s - (end + 1)) (drop (end + 1) s) ≡ behind s
  behind_some = to_end (end + 1) s ∙ ap (λ n. drop (n + 1) s) found
