-- The examples that are proved: the table, worked out by the definitions, is the table.
use mathlib.Core.Path.{◌≡◌, refl}
use mathlib.Core.List.{map}
use Rattle.text.specs.Digits.{digits, number}
use Rattle.sheet.specs.Sheet.{newest}
use Rattle.examples.specs.Case.{worked}
use Rattle.examples.specs.Cases.{cases}

pub every_case_holds : map worked cases ≡ cases
unfolding digits number newest
every_case_holds = refl
