-- LINE 1: what the arguments of `printer` ask for.
use Rattle.std.specs.Prelude.{ℕ, ◌+◌, Option, Some, None, unwrap_or, cond, List, [], ◌∷◌, eqb, ltb, length, get_or}
use Rattle.options.specs.declared.Argument.{Argument}
use Rattle.options.specs.declared.Argument.TheVariants.{Sign, Name, Neither}
use Rattle.options.specs.declared.Asked.{Asked}
use Rattle.options.specs.declared.Recordings.{Recordings}

-- LINE 1.2: `-l` is 2Dh and 6Ch; a name begins with any byte but 2Dh, and has one at least
abbrev pub argument_of : List ℕ → Argument
argument_of s =
    cond (eqb (length s) 0) Neither
    (cond (eqb (get_or s 0 0) 45)
    (cond (eqb (length s) 2) (cond (eqb (get_or s 1 0) 108) Sign Neither) Neither)
    Name)

-- where LINE and the first and the last RECORDING stand, where there are any; LINE 1.3: arguments that do not fit ask for nothing
abbrev pub none_asked : Asked
none_asked = record { line = None; recordings = None }

-- LINE 1.1: -l stands first, and LINE behind it; every name behind that is a RECORDING. The program's own name, which has place 0, is none
abbrev pub signed_at : (place : ℕ) → Option Asked
signed_at place = cond (eqb place 1) (Some (record { line = Some 2; recordings = None })) None

abbrev pub first_of : Option Recordings → (place : ℕ) → ℕ
first_of None place = place
first_of (Some named) place = cond (eqb named.first 0) place named.first

abbrev pub named_at : Asked → (place : ℕ) → Asked
named_at asked place =
    cond (eqb place (unwrap_or asked.line 0)) asked
    (record { line = asked.line; recordings = Some (record { first = first_of asked.recordings place; last = place }) })

abbrev pub asked_with : Option Asked → (place : ℕ) → Argument → Option Asked
asked_with None place a = None
asked_with (Some asked) place Sign = signed_at place
asked_with (Some asked) place Name = Some (named_at asked place)
asked_with (Some asked) place Neither = None

-- -l alone is of no form. The program's own name is counted.
abbrev pub asked_of : Option Asked → (count : ℕ) → Option Asked
asked_of None count = None
asked_of (Some asked) count = cond (ltb (unwrap_or asked.line 0) count) (Some asked) None

-- one argument behind the other, from a place on
abbrev pub asked_from : Option Asked → (place : ℕ) → List Argument → Option Asked
asked_from asked place [] = asked
asked_from asked place (a ∷ rest) = asked_from (asked_with asked place a) (place + 1) rest

abbrev pub asked_for : List Argument → Option Asked
asked_for arguments = asked_of (asked_from (Some none_asked) 1 arguments) (length arguments + 1)
