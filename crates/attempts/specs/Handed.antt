-- The frames that the till end hands out: the commands taken, each with every frame handed out for it, gathered from the events and the words said alone.
use Rattle.std.specs.Prelude.{ℕ, ◌+◌, ◌≡◌, List, [], ◌∷◌, ◌++◌}
use Rattle.wire.specs.Frame.{Message, command_of}
use Rattle.till.specs.Turns.{State, fresh_state, Happening, command, byte, timeout}
use Rattle.attempts.specs.History.{LentEvent, says, seq_of}
use Rattle.attempts.specs.Promises.{Tried}
use Rattle.till.specs.declared.Word.{Word}
use Rattle.till.specs.declared.Word.TheVariants.{Idle, Waiting, SendAgain, Answered, Unfinished, TooShort, NotSent}

-- a command taken, and the frames handed out for it
pub record Handed : Type 0 where
  pub command : Message
  pub frames : List (List ℕ)

-- PROTOCOL 7.1: what an event hands out: a command that says Waiting its frame, Send again the same frame, all else no frame
pub data HandsOut : Type 0 where
  no_frame : HandsOut
  first_frame : (code : ℕ) (content : List ℕ) (bytes : List ℕ) → HandsOut
  frame_again : (bytes : List ℕ) → HandsOut

abbrev pub with_waiting : Happening → List ℕ → HandsOut
with_waiting (command code content) puts = first_frame code content puts
with_waiting (byte b) puts = no_frame
with_waiting timeout puts = no_frame

abbrev pub hands_out : Happening → Word → List ℕ → HandsOut
hands_out h Idle puts = no_frame
hands_out h (Waiting count) puts = with_waiting h puts
hands_out h (SendAgain count) puts = frame_again puts
hands_out h (Answered count) puts = no_frame
hands_out h (Unfinished tries) puts = no_frame
hands_out h TooShort puts = no_frame
hands_out h NotSent puts = no_frame

abbrev pub handed_at : State → LentEvent → HandsOut
handed_at s l = hands_out l.happens (says s l).word (says s l).puts

-- the frames handed out until the next command is taken
abbrev pub until_next : HandsOut → List (List ℕ) → List (List ℕ)
until_next no_frame later = later
until_next (first_frame code content bytes) later = []
until_next (frame_again bytes) later = bytes ∷ later

abbrev pub handed_again_in : State → List LentEvent → List (List ℕ)
handed_again_in s [] = []
handed_again_in s (l ∷ ls) = until_next (handed_at s l) (handed_again_in (says s l).state ls)

-- PROTOCOL 7.3: the commands taken; `before` were taken before them, which says the SEQ
abbrev pub with_command : HandsOut → ℕ → (again : List (List ℕ)) (rest : ℕ → List Handed) → List Handed
with_command no_frame before again rest = rest before
with_command (first_frame code content bytes) before again rest =
    record { command = command_of (seq_of before) code content; frames = bytes ∷ again } ∷ rest (before + 1)
with_command (frame_again bytes) before again rest = rest before

abbrev pub handed_from : ℕ → State → List LentEvent → List Handed
handed_from before s [] = []
handed_from before s (l ∷ ls) =
    let next = (says s l).state in
    with_command (handed_at s l) before (handed_again_in next ls) (λ count. handed_from count next ls)

-- of a fresh till end
abbrev pub handed_in : List LentEvent → List Handed
handed_in ls = handed_from 0 fresh_state ls

-- PROTOCOL 7.3, 7.6: each command can be sent, its frames are all its own, one to five, and its SEQ is that of its place
pub record InPlace (place : ℕ) (h : Handed) : Type 0 where
  pub seq : h.command.seq ≡ seq_of place
  pub tried : Tried h.command h.frames

abbrev pub AllInPlace : ℕ → List Handed → Type 0
AllInPlace place [] = Unit {0}
AllInPlace place (h ∷ hs) = InPlace place h × AllInPlace (place + 1) hs

-- every frame handed out, in order
abbrev pub frame_in : HandsOut → List (List ℕ)
frame_in no_frame = []
frame_in (first_frame code content bytes) = bytes ∷ []
frame_in (frame_again bytes) = bytes ∷ []

abbrev pub frames_in : State → List LentEvent → List (List ℕ)
frames_in s [] = []
frames_in s (l ∷ ls) = frame_in (handed_at s l) ++ frames_in (says s l).state ls

abbrev pub frames_of : List Handed → List (List ℕ)
frames_of [] = []
frames_of (h ∷ hs) = h.frames ++ frames_of hs
