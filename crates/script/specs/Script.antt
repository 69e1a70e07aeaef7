-- SCRIPTS 1 to 6: what a line of a script says.
use Rattle.std.specs.Prelude.{ℕ, ◌+◌, ◌*◌, min, Bool, true, false, cond, List, [], eqb, leb, length, get_or, Option, Some, None, Result, Ok, Err}
use Rattle.text.specs.Parts.{within, begins}
use Rattle.figures.specs.Numbers.{digits_of}
use Rattle.faults.specs.declared.Fault.{Fault}
use Rattle.faults.specs.declared.Fault.TheVariants.{Becomes, Lost}
use Rattle.writing.specs.Words.{is, word, behind, digit_of}
use Rattle.writing.specs.Content.{said_in, end_of, is_plain}
use Rattle.writing.specs.declared.Stand.TheVariants.{Plain}
use Rattle.script.specs.declared.Act.{Act}
use Rattle.script.specs.declared.Act.TheVariants.{Nothing, Command, Happens}
use Rattle.script.specs.declared.Mistake.{Mistake}
use Rattle.script.specs.declared.Mistake.TheVariants.{NoCommand, NoEscape, TooLong, NoTry, NoFault, Other}

-- SCRIPTS 6: the number of what is wrong with a line
abbrev pub number_of : Mistake → ℕ
number_of NoCommand = 1
number_of NoEscape = 2
number_of TooLong = 3
number_of NoTry = 4
number_of NoFault = 5
number_of (Other n) = n

-- SCRIPTS 1: a line of no bytes, and a comment
abbrev pub says_nothing : List ℕ → Bool
says_nothing line = cond (eqb (length line) 0) true (begins 0x23 line)

-- SCRIPTS 5: two hexadecimal digits, and the byte that they say
abbrev pub pair_of : (high low : Option ℕ) → Option ℕ
pair_of (Some high) (Some low) = Some (high * 16 + low)
pair_of (Some high) None = None
pair_of None low = None

abbrev pub byte_of : List ℕ → Option ℕ
byte_of s = cond (eqb (length s) 2) (pair_of (digit_of (get_or s 0 0)) (digit_of (get_or s 1 0))) None

-- SCRIPTS 5: `PLACE becomes HH`
abbrev pub becoming : (place : ℕ) → Option ℕ → Option Fault
becoming place (Some byte) = cond (leb 1 place) (Some (Becomes place byte)) None
becoming place None = None

abbrev pub replacing : Option ℕ → List ℕ → Option Fault
replacing None s = None
replacing (Some place) s = becoming place (byte_of s)

abbrev pub becomes_in : List ℕ → Option Fault
becomes_in s = cond (is "becomes" (word (behind s))) (replacing (digits_of 3 (word s)) (behind (behind s))) None

-- SCRIPTS 5: `lost`, or `byte PLACE becomes HH`
abbrev pub named_in : List ℕ → Option Fault
named_in s = cond (is "lost" s) (Some Lost) (cond (is "byte" (word s)) (becomes_in (behind s)) None)

-- SCRIPTS 5: the number of a try, 1 to 5, and what happens to it or to its answer
abbrev pub happens_to : Bool → ℕ → Option Fault → Result Act Mistake
happens_to answer attempt (Some fault) = Ok (Happens answer attempt fault)
happens_to answer attempt None = Err NoFault

abbrev pub numbered : Bool → Option ℕ → List ℕ → Result Act Mistake
numbered answer None s = Err NoTry
numbered answer (Some n) s = cond (within 1 5 n) (happens_to answer n (named_in s)) (Err NoTry)

abbrev pub happens_in : Bool → List ℕ → Result Act Mistake
happens_in answer s = numbered answer (digits_of 1 (word s)) (behind s)

-- SCRIPTS 3: data of at most 255 bytes, for which there is room
abbrev pub command_with : ℕ → List ℕ → (room : ℕ) → Result Act Mistake
command_with code s room =
    cond (is_plain (end_of Plain s))
    (cond (leb (length (said_in Plain s)) (min 255 room)) (Ok (Command code (length (said_in Plain s)))) (Err TooLong))
    (Err NoEscape)

-- SCRIPTS 3: a code, 1 to 255, and its data
abbrev pub coded : Option ℕ → List ℕ → (room : ℕ) → Result Act Mistake
coded None s room = Err NoCommand
coded (Some code) s room = cond (within 1 255 code) (command_with code s room) (Err NoCommand)

-- SCRIPTS 1 to 5: a line, with so much room for its data
abbrev pub act_of : List ℕ → (room : ℕ) → Result Act Mistake
act_of line room =
    cond (says_nothing line) (Ok Nothing)
    (cond (is "try" (word line)) (happens_in false (behind line))
    (cond (is "answer" (word line)) (happens_in true (behind line))
    (coded (digits_of 3 (word line)) (behind line) room)))

-- SCRIPTS 3: the data, where a line is a command
abbrev pub content_of : Result Act Mistake → List ℕ → List ℕ
content_of (Ok Nothing) s = []
content_of (Ok (Command code count)) s = said_in Plain s
content_of (Ok (Happens answer attempt fault)) s = []
content_of (Err mistake) s = []
