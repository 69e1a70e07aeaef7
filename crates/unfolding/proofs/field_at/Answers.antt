use Rattle.text.proofs.Cutting.{cut_length}
use Rattle.unfolding.proofs.field_at.Goals as goal

pub slice_bounds-result-end : goal.slice_bounds-result-end
slice_bounds-result-end c = cut_length 0x2C _ c.find-n.result c.find-n.ensures
