-- LINE 1: what the arguments ask for is opened, for whatever the system answers.
use Rattle.std.specs.Prelude.{◌≡◌, Bool, Option, Some, None, cond, List, ℤ}
use Rattle.options.specs.Options.{asked_for}
use Rattle.options.specs.Ends.{ends_of, next_of}
use Rattle.options.specs.declared.Argument.{Argument}
use Rattle.options.specs.declared.Asked.{Asked}
use Rattle.options.specs.declared.Ends.{Ends}

-- the system says how many arguments there are, and what each holds
pub record Arguments (asked : Option Asked) : Type 0 where
  pub words : List Argument
  pub is : asked ≡ asked_for words

-- what is open, where all can be opened that is asked for
abbrev pub open_as : Option Asked → (opens : Bool) → (line newest tape old : ℤ) → Option Ends
open_as None opens line newest tape old = None
open_as (Some asked) opens line newest tape old = cond opens (Some (next_of (ends_of asked line newest tape) old)) None

-- and whether all can be opened, with which numbers. Arguments of another form open nothing, and neither does what can't be opened whole. The
-- first recording comes next
pub record Opened (r : Option Ends) : Type 0 where
  pub asked : Option Asked
  pub arguments : Arguments asked
  pub opens : Bool
  pub line : ℤ
  pub old : ℤ
  pub newest : ℤ
  pub tape : ℤ
  pub is : r ≡ open_as asked opens line newest tape old

-- LINE 2.1: the next recording instead of the one before; where it can't be opened, nothing is open
pub record Followed (ends : Ends) (r : Option Ends) : Type 0 where
  pub opens : Bool
  pub old : ℤ
  pub is : r ≡ cond opens (Some (next_of ends old)) None
