-- What can't be opened opens nothing.
use Rattle.std.proofs.Common.{false, pos, rules}
use Rattle.opening.proofs.next_recording.Goals as goal

pub returns-in_err-earlier_at-in-Some : goal.returns-in_err-earlier_at-in-Some
returns-in_err-earlier_at-in-Some g c = record { opens = false; old = pos 0; is = search rules }
