-- Which row of the table a sentence is. No promise to a caller rests on it.
use Rattle.std.specs.Prelude.{ℕ, ◌+◌, Bool, cond}
use Rattle.till.specs.declared.Word.{Word}
use Rattle.till.specs.declared.Word.TheVariants.{Idle, Waiting, SendAgain, Answered, Unfinished, TooShort, NotSent}

abbrev pub long_row : Word → ℕ
long_row Idle = 25
long_row (Waiting count) = 25
long_row (SendAgain count) = 19
long_row (Answered count) = 25
long_row (Unfinished tries) = 21
long_row TooShort = 25
long_row NotSent = 23

abbrev pub say_row : (brief : Bool) → Word → ℕ
say_row brief word = cond brief (long_row word + 1) (long_row word)
