-- LINE 2 and 3: a part read and an answer passed on, for whatever the system answers.
use Rattle.std.specs.Prelude.{ℕ, ◌≤◌, ◌≡◌, Bool, true, cond, ◌&&◌, leb}
use Rattle.keeping.specs.Keeping.{taken_for}
use Rattle.keeping.specs.Stages.{source_of, stage_after, goes_out}
use Rattle.keeping.specs.declared.Stage.{Stage}

-- the system says of a read whether it failed, how many bytes it brought, at most as many as there is room, and whether the source is a terminal; of bytes
-- that have to be kept whether they are. How far it is then follows
pub record PartRead (replays online left : Bool) (heard room : ℕ) (r : Stage) : Type 0 where
  pub failed : Bool
  pub terminal : Bool
  pub kept : Bool
  pub count : ℕ
  pub fits : count ≤ room
  pub is : r ≡ stage_after (taken_for (source_of replays online) failed terminal left count) heard count kept

-- it says whether the recording is safe and whether the bytes were written; where nothing is to go out it is not asked
abbrev pub answered_as : (replays : Bool) → (given room : ℕ) → (safe written : Bool) → Bool
answered_as replays given room safe written = cond (goes_out replays given) (leb given room && (safe && written)) true

pub record Answered (replays : Bool) (given room : ℕ) (r : Bool) : Type 0 where
  pub safe : Bool
  pub written : Bool
  pub is : r ≡ answered_as replays given room safe written
