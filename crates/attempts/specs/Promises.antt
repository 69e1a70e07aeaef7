-- What the theorems about any history say.
use Rattle.std.specs.Prelude.{ℕ, ◌≤◌, ◌<◌, ◌≡◌, true, List, [], ◌∷◌, ◌++◌, length, replicate, Option, Some, None}
use Rattle.wire.specs.Frame.{Message, frame, sendable}
use Rattle.wire.specs.declared.Way.TheVariants.{ToDevice, ToTill}
use Rattle.till.specs.Turns.{byte}
use Rattle.attempts.specs.History.{LentEvent, one, Seen}
use Rattle.till.specs.declared.Attempt.{Attempt}

-- PROTOCOL 7.6: the frames handed out for a command: one to five, and all of them its own frame
pub record Tried (m : Message) (frames : List (List ℕ)) : Type 0 where
  pub can : sendable ToDevice m ≡ true
  pub same : frames ≡ replicate (length frames) (frame ToDevice m)
  pub some : 1 ≤ length frames
  pub few : length frames ≤ 5

-- PROTOCOL 7.6: Unfinished: the number given back is that of the frames handed out for the command, and it is five
pub record GivenUp (seen : Seen) (tries : ℕ) : Type 0 where
  pub waiting : Message
  pub frames : List (List ℕ)
  pub since : List ℕ
  pub waits : seen.last ≡ one waiting frames since
  pub count : tries ≡ length frames
  pub five : tries ≡ 5
  pub same : frames ≡ replicate 5 (frame ToDevice waiting)

-- PROTOCOL 7.7: Answered: with this event a whole answer with the SEQ and CMD of the command that waits stands at the end of the bytes heard since its frame
-- was handed out the last time
pub record Came (seen : Seen) (l : LentEvent) : Type 0 where
  pub waiting : Message
  pub frames : List (List ℕ)
  pub since : List ℕ
  pub waits : seen.last ≡ one waiting frames since
  pub room : 210 ≤ l.size
  pub last : ℕ
  pub heard : l.happens ≡ byte last
  pub answer : Message
  pub can : sendable ToTill answer ≡ true
  pub seq : answer.seq ≡ waiting.seq
  pub code : answer.code ≡ waiting.code
  pub before : List ℕ
  pub whole : since ++ last ∷ [] ≡ before ++ frame ToTill answer

-- a command's fields are bytes: their types say so
abbrev pub Bytes : Option Attempt → Type 0
Bytes None = Unit {0}
Bytes (Some a) = (a.count < 256) × (a.ear.reader.count < 256)
