use native.Mathlib.Omega.{arith}
use Prim.Native.Nat.{◌+◌}
use borrow.Author.Tests.{le-leb, lt-leb}
use Rattle.books.specs.Rates.{capacity_of}
use Rattle.status.proofs.memory_left.Goals as goal

pub returns-then-most-closings : goal.returns-then-most-closings
returns-then-most-closings c =
    let b = c.args.books in
    rw (le-leb (capacity_of b) (b.memory.closings + 50) (omega arith), le-leb (capacity_of b) (b.memory.closings + 0) (omega arith))

pub returns-then-most-closings-le50 : goal.returns-then-most-closings-le50
returns-then-most-closings-le50 c =
    let b = c.args.books in
    rw (le-leb (capacity_of b) (b.memory.closings + 50) (omega arith), lt-leb (capacity_of b) (b.memory.closings + 0) (omega arith))

pub returns : goal.returns
returns c =
    let b = c.args.books in
    rw (lt-leb (capacity_of b) (b.memory.closings + 50) (omega arith), lt-leb (capacity_of b) (b.memory.closings + 0) (omega arith))
