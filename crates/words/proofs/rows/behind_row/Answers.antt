use native.Mathlib.Omega.{arith}
use Rattle.text.proofs.Cutting.{place_within}
use Rattle.words.proofs.Table.{behind_feed}
use Rattle.words.proofs.rows.behind_row.Goals as goal

pub slice_bounds-part-count : goal.slice_bounds-part-count
slice_bounds-part-count c = omega (arith, place_within 10 c.args.table.now)

pub slice_bounds-part-start : goal.slice_bounds-part-start
slice_bounds-part-start c = omega (arith, place_within 10 c.args.table.now)

pub returns-in-len1-up : goal.returns-in-len1-up
returns-in-len1-up c = behind_feed c.args.table.now c.find-end.result c.find-end.ensures
