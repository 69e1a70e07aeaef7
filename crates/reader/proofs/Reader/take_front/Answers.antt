use mathlib.Core.Path.{sym, ◌∙◌}
use native.Mathlib.Omega.{arith}
use Rattle.reader.proofs.Steps.{front_more, more}
use Rattle.reader.proofs.Reader.take_front.Goals as goal

pub returns : goal.returns
returns c =
    let a = c.args in
    let both = more a.way a.n a.self.count a.array.now c.requires.behind (omega arith) a.self.sum a.b _ _
    (front_more a.way a.n a.self.count a.array.now c.requires.behind (omega arith) a.self.sum a.b c.requires.count_in_bounds
    (sym c.suits_front.ensures ∙ c.if-not-suits_front.false)) in record { value = c.goes_on.ensures ∙ both.0; array_after = both.1 }
