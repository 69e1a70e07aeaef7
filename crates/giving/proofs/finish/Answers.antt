use mathlib.Core.Path.{◌≡◌, ap, ◌∙◌}
use mathlib.Core.Bool.{Bool, false, true, not, ◌&&◌}
use Prim.Native.Nat.{ℕ, ◌≤◌, ◌<◌}
use lib.ListN.{length}
use native.Mathlib.Omega.{arith}
use lib.Dec.{leb}
use borrow.Author.Tests.{not-true, not-false, lt-leb, le-leb}
use Rattle.giving.specs.declared.Ended.{Ended}
use Rattle.giving.proofs.Ending.{not_ended, ended_so}
use Rattle.giving.proofs.finish.Goals as goal

none : (x : Bool) (n : ℕ) → not x ≡ true → x && leb 217 n ≡ false
none x n e = ap (λ z. z && leb 217 n) (not-true x e)

short : (x : Bool) (n : ℕ) → not x ≡ false → n < 217 → x && leb 217 n ≡ false
short x n e h = ap (λ z. z && leb 217 n) (not-false x e) ∙ lt-leb 217 n h

long : (x : Bool) (n : ℕ) → not x ≡ false → 217 ≤ n → x && leb 217 n ≡ true
long x n e h = ap (λ z. z && leb 217 n) (not-false x e) ∙ le-leb 217 n h

pub returns-then-not-begun : goal.returns-then-not-begun
returns-then-not-begun c =
    record {
      buf_after = not_ended c.args.begun c.args.at c.args.found c.args.last.now c.args.buf.now c.end_with.result c.end_with.ensures (none c.args.begun.enough (length c.args.buf.now) c.if-not-begun.true);
      count_bound = omega (arith, ap (λ (z : Ended). z.hearing.given.count) c.end_with.ensures);
    }

pub returns-then-buf-lt-ANSWER_ROOM : goal.returns-then-buf-lt-ANSWER_ROOM
returns-then-buf-lt-ANSWER_ROOM c =
    record {
      buf_after = not_ended c.args.begun c.args.at c.args.found c.args.last.now c.args.buf.now c.end_with-then-buf-lt-ANSWER_ROOM.result c.end_with-then-buf-lt-ANSWER_ROOM.ensures (short c.args.begun.enough (length c.args.buf.now) c.if-not-begun.false c.if-buf-lt-ANSWER_ROOM.true);
      count_bound = omega (arith, ap (λ (z : Ended). z.hearing.given.count) c.end_with-then-buf-lt-ANSWER_ROOM.ensures);
    }

pub returns : goal.returns
returns c =
    record {
      buf_after = ended_so c.args.begun c.args.at c.args.found c.args.last.now c.args.buf.now (long c.args.begun.enough (length c.args.buf.now) c.if-not-begun.false c.if-buf-lt-ANSWER_ROOM.false) _ c.give.ensures.buf_after;
      count_bound = c.give.ensures.count_bound;
    }
