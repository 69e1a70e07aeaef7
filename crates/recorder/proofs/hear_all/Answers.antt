use Prim.Native.Nat.{ℕ}
use native.Mathlib.Omega.{arith}
use lib.ListN.{replicate, length-replicate}
use Rattle.recorder.proofs.Through.{all_told}
use Rattle.recorder.proofs.hear_all.Goals as goal

pub returns : goal.returns
returns c =
    all_told c.fresh_kept-kept.result (replicate 256 0) (replicate 217 0) (replicate 217 0) (replicate 40 0) c.args.bytes.now c.args.out.now c.args.orders.now c.hear_part-part.result _ _ _ _ _ _ c.fresh_kept-kept.ensures
    (length-replicate {A = ℕ} 256 0) (length-replicate {A = ℕ} 217 0) (omega (arith, length-replicate {A = ℕ} 217 0)) (omega (arith, length-replicate {A = ℕ} 40 0)) c.hear_part-part.ensures
