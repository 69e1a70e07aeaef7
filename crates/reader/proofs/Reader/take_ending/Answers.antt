use mathlib.Core.Path.{refl, sym, ◌∙◌}
use native.Mathlib.Omega.{arith}
use Prim.Native.Nat.{◌<◌}
use Rattle.wire.specs.Places.{front}
use lib.ListN.{length}
use Rattle.reader.proofs.Steps.{reads, ending_more, ending_whole, heard_whole, more}
use Rattle.reader.proofs.Reader.take_ending.Goals as goal

pub returns-then-at-eq4 : goal.returns-then-at-eq4
returns-then-at-eq4 c =
    let a = c.args in
    let past : length (front a.way a.n) < a.self.count = omega arith in
    let four = rw c.requires.edge_value at c.if-at-eq4.true in
    let both = reads a.array.now _ _ _ _
    (ending_whole a.way a.n a.self.count a.array.now c.requires.behind (omega arith) a.self.sum a.b past (rw c.requires.edge_value at (sym c.suits_ending.ensures ∙ c.if-not-suits_ending.false)) four)
    (rw (c.fresh.ensures, heard_whole a.way a.n a.self.count a.array.now c.requires.behind (omega arith) a.self.sum a.b past four) refl) refl in record { value = both.0; array_after = both.1 }

pub returns : goal.returns
returns c =
    let a = c.args in
    let both = more a.way a.n a.self.count a.array.now c.requires.behind (omega arith) a.self.sum a.b _ _
    (ending_more a.way a.n a.self.count a.array.now c.requires.behind (omega arith) a.self.sum a.b (omega arith)
    (rw c.requires.edge_value at (sym c.suits_ending.ensures ∙ c.if-not-suits_ending.false))
    (rw c.requires.edge_value at c.if-at-eq4.false)) in record { value = c.goes_on.ensures ∙ both.0; array_after = both.1 }
