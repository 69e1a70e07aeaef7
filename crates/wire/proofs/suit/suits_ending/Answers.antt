use Rattle.wire.proofs.Suits.{ending_quad}
use Rattle.wire.proofs.suit.suits_ending.Goals as goal

pub returns-then-at-lt4 : goal.returns-then-at-lt4
returns-then-at-lt4 c = rw c.bcc_bytes-quad.ensures (ending_quad c.args.sum c.args.at c.args.b c.if-at-lt4.true)
