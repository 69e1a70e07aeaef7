-- LINE 2 and 3: how far the keeper of a recording is, from part to part.
use Rattle.std.specs.Prelude.{ℕ, ◌+◌, min, Bool, true, false, cond, not, ◌&&◌, ltb}
use Rattle.keeping.specs.declared.Source.{Source}
use Rattle.keeping.specs.declared.Source.TheVariants.{Recording, Input, Line}
use Rattle.keeping.specs.declared.Next.{Next}
use Rattle.keeping.specs.declared.Next.TheVariants.{Silent, Anew, Begin, Answer, Wait, End, Closed, Broken}
use Rattle.keeping.specs.declared.Stage.{Stage}

abbrev pub stage_at : (replays : Bool) → (heard count : ℕ) → (over : Bool) → Stage
stage_at replays heard count over = record { replays = replays; anew = false; heard = heard; count = count; over = over }

-- LINE 2.1: each recording is a switching on, and its bytes are counted from its first
abbrev pub stage_anew : Stage
stage_anew = record { replays = true; anew = true; heard = 0; count = 0; over = false }

abbrev pub first_stage : (replays : Bool) → Stage
first_stage replays = stage_at replays 0 0 false

-- LINE 1.1, 2.1: the recordings first, then the line or standard input
abbrev pub source_of : (replays online : Bool) → Source
source_of replays online = cond replays Recording (cond online Line Input)

-- LINE 2.3: how many bytes were heard with these
abbrev pub grown_by : (heard count : ℕ) → ℕ
grown_by heard count = min (heard + count) 18446744073709551615

-- LINE 2.1, 2.2, 3.2 to 3.4: bytes of the line that are not kept are not heard, and all is over
abbrev pub stage_after : Next → (heard count : ℕ) → (kept : Bool) → Stage
stage_after Silent heard count kept = stage_at true (grown_by heard count) count false
stage_after Anew heard count kept = stage_anew
stage_after Begin heard count kept = stage_at false heard 0 false
stage_after Answer heard count kept = cond kept (stage_at false (grown_by heard count) count false) (stage_at false heard 0 true)
stage_after Wait heard count kept = stage_at false heard 0 false
stage_after End heard count kept = stage_at false heard 0 true
stage_after Closed heard count kept = stage_at false heard 0 true
stage_after Broken heard count kept = stage_at false heard 0 true

-- LINE 2.1: what a replay gives back goes nowhere
abbrev pub goes_out : (replays : Bool) → (given : ℕ) → Bool
goes_out replays given = not replays && ltb 0 given
