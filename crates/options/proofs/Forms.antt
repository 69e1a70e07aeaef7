-- LINE 1.1 and 1.3: the forms, and some arguments that are of none.
use mathlib.Core.Path.{◌≡◌, refl}
use mathlib.Core.List.{[], ◌∷◌}
use Rattle.std.specs.Prelude.{Some, None}
use Rattle.options.specs.Options.{asked_for}
use Rattle.options.specs.declared.Argument.TheVariants.{Sign, Name, Neither}

pub no_argument : asked_for [] ≡ Some (record { line = None; recordings = None })
no_argument = refl

pub one_recording : asked_for (Name ∷ []) ≡ Some (record { line = None; recordings = Some (record { first = 1; last = 1 }) })
one_recording = refl

pub three_recordings : asked_for (Name ∷ Name ∷ Name ∷ []) ≡ Some (record { line = None; recordings = Some (record { first = 1; last = 3 }) })
three_recordings = refl

pub a_line : asked_for (Sign ∷ Name ∷ []) ≡ Some (record { line = Some 2; recordings = None })
a_line = refl

pub a_line_and_two : asked_for (Sign ∷ Name ∷ Name ∷ Name ∷ []) ≡ Some (record { line = Some 2; recordings = Some (record { first = 3; last = 4 }) })
a_line_and_two = refl

pub no_line : asked_for (Sign ∷ []) ≡ None
no_line = refl

pub line_behind : asked_for (Name ∷ Sign ∷ Name ∷ []) ≡ None
line_behind = refl

pub two_lines : asked_for (Sign ∷ Name ∷ Sign ∷ Name ∷ []) ≡ None
two_lines = refl

pub another_word : asked_for (Name ∷ Neither ∷ []) ≡ None
another_word = refl
