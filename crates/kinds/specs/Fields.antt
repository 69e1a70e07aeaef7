-- PROTOCOL 5.1: what is common to the forms of the commands.
use Rattle.std.specs.Prelude.{ℕ, Bool, cond, eqb, Option, Result, Ok, Err}
use Rattle.figures.specs.Numbers.{field_number, field_value, signed_number, signed_minus, signed_size}
use Rattle.figures.specs.declared.Signed.{Signed}
use Rattle.kinds.specs.declared.Command.{Command}
use Rattle.kinds.specs.declared.Unread.{Unread}
use Rattle.kinds.specs.declared.Unread.TheVariants.{Syntax, Unknown}

-- PROTOCOL 2.1: a command, or what stands in its place
abbrev pub Parsed : Type 0
Parsed = Result Command Unread

-- PROTOCOL 2.1: 0 for a command that was read, whose value is the command; 1 syntax, 2 unknown command
abbrev pub parsed_number : Parsed → ℕ
parsed_number (Ok c) = 0
parsed_number (Err Syntax) = 1
parsed_number (Err Unknown) = 2

-- PROTOCOL 4.8: what 48 is cut at, and 49 before its Percent
abbrev pub comma : ℕ
comma = 0x2C

-- PROTOCOL 4.6: where a part of the data was read with number 0 the command goes on, and any other number ends it
abbrev pub ends_or : ℕ → Parsed → Parsed
ends_or number next = cond (eqb number 0) next (cond (eqb number (parsed_number (Err Syntax))) (Err Syntax) (Err Unknown))

-- PROTOCOL 4.6: a field not of its form makes the command syntax (1); else the command goes on with its value
abbrev pub field_then : Option ℕ → (ℕ → Parsed) → Parsed
field_then read next = ends_or (field_number read) (next (field_value read))

-- PROTOCOL 4.6: the same of a field with a sign
abbrev pub signed_then : Option Signed → (Bool → ℕ → Parsed) → Parsed
signed_then read next = ends_or (signed_number read) (next (signed_minus read) (signed_size read))
