use mathlib.Core.Path.{◌≡◌}
use lib.ListN.{length, drop}
use Rattle.exchange.specs.Exchange.{heard_some}
use Rattle.exchange.proofs.hear_some.Given as goal

-- What is still to be heard, from where hearing stands, brings what all of it brought from the beginning.
abbrev pub invariant-loop-b : goal.invariant-loop-b
invariant-loop-b l =
    (length l.buf ≡ length l.initial.buf) × (heard_some l.frame l.listening l.answer l.buf (drop l.b-index l.bytes) ≡ heard_some l.frame l.initial.listening l.initial.answer l.initial.buf l.bytes)
