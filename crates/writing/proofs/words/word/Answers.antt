use mathlib.Core.Path.{ap}
use lib.ListN.{take}
use Rattle.text.proofs.Cutting.{cut_length}
use Rattle.writing.proofs.words.word.Goals as goal

pub slice_bounds-result-end : goal.slice_bounds-result-end
slice_bounds-result-end c = cut_length 0x20 c.args.s.now c.find-end.result c.find-end.ensures

pub returns : goal.returns
returns c = ap (λ n. take n c.args.s.now) c.find-end.ensures
