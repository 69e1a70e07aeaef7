use mathlib.Core.Path.{◌≡◌, refl, sym, ◌∙◌}
use mathlib.Core.Bool.{Bool, true, false, false≢true}
use Prim.Native.Nat.{ℕ}
use Rattle.std.proofs.Common.{IfSome}
use Rattle.std.specs.Bool.{then_some}
use Rattle.stretches.specs.Private.{Leads}
use Rattle.stretches.proofs.Stretching.{leads_whole}
use Rattle.stretches.proofs.leads.Goals.{then-all_may_stand, else-all_may_stand}
use Rattle.stretches.proofs.leads.Goals as goal

where_true : (P : ℕ → Type 0) (b : Bool) (n : ℕ) → (b ≡ true → P n) → IfSome (then_some b n) P
where_true P true n h = h refl
where_true P false n h = tt

pub returns : goal.returns
returns c =
    let bytes = c.args.bytes.now in
    let front = c.in_ok-n.ensures in
    rw c.then_some.ensures (where_true (λ n. Leads n bytes) c.if-all_may_stand.stands c.in_ok-n.n (λ e.
    elim c.if-all_may_stand.branch [
      | then-all_may_stand w ↦ leads_whole _ _ bytes front.small c.if-bytes-n.false front (sym c.all_may_stand.ensures ∙ w.if-all_may_stand.true) w.sum_of.ensures (w.closes-stands.ensures (sym w.stands-is ∙ e))
      | else-all_may_stand w ↦ absurd (false≢true (sym w.if-all_may_stand.false ∙ sym w.stands-is ∙ e))
    ]))
