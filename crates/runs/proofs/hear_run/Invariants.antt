-- All calls from where the run stands now end where all calls from its start end; each call leaves fewer.
use Rattle.std.proofs.Common.{◌≡◌}
use Rattle.runs.specs.Running.{Running, calls_left, heard_through}
use Rattle.runs.proofs.hear_run.Given as goal

abbrev pub invariant-loop-run : goal.invariant-loop-run
invariant-loop-run l =
    let first : Running = record { run = l.initial.run; frame = l.initial.frame; last = l.initial.last; buffer = l.initial.buf; display = l.initial.display; sheet = l.initial.sheet; out = l.initial.out; orders = l.initial.orders } in
    heard_through l.bytes first ≡ heard_through l.bytes (record { run = l.run; frame = l.frame; last = l.last; buffer = l.buf; display = l.display; sheet = l.sheet; out = l.out; orders = l.orders })

abbrev pub decreases-loop-run : goal.decreases-loop-run
decreases-loop-run l =
    calls_left l.bytes (record { run = l.run; frame = l.frame; last = l.last; buffer = l.buf; display = l.display; sheet = l.sheet; out = l.out; orders = l.orders })
