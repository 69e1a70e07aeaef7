use mathlib.Core.Path.{◌≡◌, refl, sym, ap, ◌∙◌}
use mathlib.Core.Bool.{Bool, cond}
use Prim.Native.Nat.{ℕ, ◌+◌, ◌-◌, ◌≤◌, ◌<◌}
use native.Mathlib.Omega.{arith}
use borrow.Author.Tests.{le-leb, lt-leb}
use Rattle.tape.specs.Noting.{place_after}
use Rattle.tape.proofs.place_after.Goals as goal

module _ (place taken total : ℕ) where
  abbrev by : Bool → ℕ
  by fits = cond fits (place + taken) total

  fits_in : taken ≤ total - place → (n : ℕ) → n ≡ place + taken → n ≡ place_after place taken total
  fits_in h n e = e ∙ sym (ap by (le-leb taken (total - place) h))

  past : total - place < taken → total ≡ place_after place taken total
  past h = sym (ap by (lt-leb taken (total - place) h))

pub returns-then-taken-eq0 : goal.returns-then-taken-eq0
returns-then-taken-eq0 c =
    fits_in c.args.place c.args.taken c.args.total (omega arith) c.args.place (omega arith)

pub returns-then-total-place : goal.returns-then-total-place
returns-then-total-place c =
    past c.args.place c.args.taken c.args.total (omega arith)

pub returns-then-taken-total : goal.returns-then-taken-total
returns-then-taken-total c =
    fits_in c.args.place c.args.taken c.args.total c.if-taken-total.true _ refl

pub returns : goal.returns
returns c =
    past c.args.place c.args.taken c.args.total c.if-taken-total.false
