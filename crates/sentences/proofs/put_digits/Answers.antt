use mathlib.Core.Path.{ap}
use lib.ListN.{length}
use Rattle.text.specs.Digits.{digits}
use native.Mathlib.Omega.{arith}
use Rattle.text.proofs.Laws.{length_digits}
use lib.Seq.{length-sets}
use Rattle.sentences.proofs.put_digits.Goals as goal

pub returns : goal.returns
returns c =
    let a = c.args in
    record {
      bytes = c.put_field.ensures;
      behind = omega (arith, ap length c.put_field.ensures, length-sets a.buf.now a.at (digits a.width a.n), length_digits a.width a.n);
    }
