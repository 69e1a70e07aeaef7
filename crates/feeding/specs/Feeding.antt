-- README, *For the apprentice*: an event that was read, for whatever the system answers.
use Rattle.std.specs.Prelude.{ℕ, ◌≤◌, ◌≡◌, List, Some, Result, IfOk, take, length}
use Rattle.events.specs.Events.{event_of}
use Rattle.events.specs.declared.End.{End}
use Rattle.feeding.specs.declared.Unfed.{Unfed}

-- what is handed over as an event is a whole one
abbrev pub Event : End → List ℕ → Result ℕ Unfed → Type 0
Event end bytes fed = IfOk fed (λ n. (event_of end (take n bytes) ≡ Some n) × (n ≤ length bytes))
