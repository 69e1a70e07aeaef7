-- Demand 3 from the till end to the device: what the line makes of the frames that the till end handed out.
use Rattle.std.specs.Prelude.{ℕ, Bool, true, false, ◌&&◌, List, [], ◌∷◌, ◌++◌, map}
use Rattle.wire.specs.Frame.{Message}
use Rattle.tries.specs.Tries.{Arrival, may_arrive, arriving}
use Rattle.delivery.specs.Delivery.{is_whole, Sent, any}
use Rattle.attempts.specs.Handed.{Handed}

-- PROTOCOL 9.1: each frame handed out arrives in one way, and there is one for each
abbrev pub each_arrives : List (List ℕ) → List Arrival → Bool
each_arrives [] [] = true
each_arrives [] (a ∷ ways) = false
each_arrives (f ∷ frames) [] = false
each_arrives (f ∷ frames) (a ∷ ways) = may_arrive f a && each_arrives frames ways

abbrev pub all_arrive : List Handed → List (List Arrival) → Bool
all_arrive [] [] = true
all_arrive [] (ways ∷ rest) = false
all_arrive (h ∷ hs) [] = false
all_arrive (h ∷ hs) (ways ∷ rest) = each_arrives h.frames ways && all_arrive hs rest

-- PROTOCOL 9.6: of each command at least one arrives whole
abbrev pub each_one_whole : List (List Arrival) → Bool
each_one_whole [] = true
each_one_whole (ways ∷ rest) = any is_whole ways && each_one_whole rest

-- PROTOCOL 9.1: the bytes that come to the device
abbrev pub frames_arriving : List (List ℕ) → List Arrival → List ℕ
frames_arriving [] ways = []
frames_arriving (f ∷ frames) [] = []
frames_arriving (f ∷ frames) (a ∷ ways) = arriving f a ++ frames_arriving frames ways

abbrev pub bytes_arriving : List Handed → List (List Arrival) → List ℕ
bytes_arriving [] rest = []
bytes_arriving (h ∷ hs) [] = []
bytes_arriving (h ∷ hs) (ways ∷ rest) = frames_arriving h.frames ways ++ bytes_arriving hs rest

-- the commands that the till end took
abbrev pub taken_commands : List Handed → List Message
taken_commands = map (λ h. h.command)

-- a list of commands, each with its tries, as `delivery` has it
abbrev pub over_the_line : List Handed → List (List Arrival) → List Sent
over_the_line [] rest = []
over_the_line (h ∷ hs) [] = []
over_the_line (h ∷ hs) (ways ∷ rest) = record { command = h.command; tries = ways } ∷ over_the_line hs rest
