-- Request 2026-04: what the statements about passwords, names and the lock speak of: the commands that a device carried out, as they were read.
use Rattle.std.specs.Prelude.{ℕ, Bool, true, false, List, [], ◌∷◌, map}
use Rattle.wire.specs.Frame.{Message}
use Rattle.kinds.specs.declared.Password.{Password}
use Rattle.command.specs.Commands.{parsed_of}
use Rattle.guard.specs.Guard.{password_of, name_of}
use Rattle.guard.specs.declared.Guard.{Guard}
use Rattle.trials.specs.Changes.{password_after, name_after}
use Rattle.trials.specs.Tries.{Came}
use Rattle.promises.specs.Demand2.{Moment, comes, on_anew}

abbrev pub came_of : List Message → List Came
came_of = map (λ m. record { parsed = parsed_of m.code m.content; content = m.content })

-- PROTOCOL 8.9: from one switching on to the next
abbrev pub only_bytes : List Moment → Bool
only_bytes [] = true
only_bytes (comes lent byte ∷ more) = only_bytes more
only_bytes (on_anew ∷ more) = false

-- PROTOCOL 5.18, 5.19: a password and a name behind what a turn carried out, one command at most
abbrev pub password_met : Guard → (op : ℕ) → List Message → Password
password_met g op [] = password_of g op
password_met g op (m ∷ ms) = password_after g op (parsed_of m.code m.content)

abbrev pub name_met : Guard → (op : ℕ) → List Message → List ℕ
name_met g op [] = name_of g op
name_met g op (m ∷ ms) = name_after g op (parsed_of m.code m.content) m.content
