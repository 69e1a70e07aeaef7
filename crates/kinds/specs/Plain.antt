-- PROTOCOL 5.1: the forms of the commands whose data names no sum. Any other data is 1.
use Rattle.std.specs.Prelude.{ℕ, true, false, cond, List, [], ◌∷◌, eqb, length, Ok, Err}
use Rattle.labels.specs.Texts.{is_text}
use Rattle.display.specs.Display.{can_show}
use Rattle.kinds.specs.declared.Command.{Command}
use Rattle.kinds.specs.declared.Command.TheVariants.{PrintText, Sums, Closing, ShowText}
use Rattle.kinds.specs.Fields.{Parsed}
use Rattle.kinds.specs.declared.Unread.TheVariants.{Syntax}

-- PROTOCOL 5.1: 38, 39, 56, 60, 74 and 97 have no data
abbrev pub bare_of : Command → List ℕ → Parsed
bare_of c s = cond (eqb (length s) 0) (Ok c) (Err Syntax)

-- PROTOCOL 5.10: 42's data is one text
abbrev pub text_of : List ℕ → Parsed
text_of s = cond (is_text s) (Ok PrintText) (Err Syntax)

-- PROTOCOL 5.12: 65 asks for the taxes with `1`; for the day sums with `0`, or with no data
abbrev pub sums_of : List ℕ → Parsed
sums_of [] = Ok (Sums false)
sums_of (b ∷ []) = cond (eqb b 0x30) (Ok (Sums false)) (cond (eqb b 0x31) (Ok (Sums true)) (Err Syntax))
sums_of (a ∷ b ∷ s) = Err Syntax

-- PROTOCOL 5.13: 69 closes the day with `0`; with `2` it is a report
abbrev pub closing_of : List ℕ → Parsed
closing_of [] = Err Syntax
closing_of (b ∷ []) = cond (eqb b 0x30) (Ok (Closing true)) (cond (eqb b 0x32) (Ok (Closing false)) (Err Syntax))
closing_of (a ∷ b ∷ s) = Err Syntax

-- PROTOCOL 5.17: 100's data is a text that can be shown
abbrev pub show_of : List ℕ → Parsed
show_of s = cond (can_show s) (Ok ShowText) (Err Syntax)
