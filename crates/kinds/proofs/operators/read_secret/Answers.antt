use lib.ListN.{length}
use native.Mathlib.Omega.{arith}
use borrow.Author.Tests.{le-ltb}
use Rattle.kinds.proofs.operators.read_secret.Goals as goal

pub returns : goal.returns
returns c = rw (le-ltb (length c.args.s.now) 4 (omega arith)) c.digits.ensures
