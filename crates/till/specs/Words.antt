-- PROTOCOL 7.1: what each word of the till end says.
use Rattle.std.specs.Prelude.{ℕ}
use Rattle.till.specs.declared.Word.{Word}
use Rattle.till.specs.declared.Word.TheVariants.{Idle, Waiting, SendAgain, Answered, Unfinished, TooShort, NotSent}

-- PROTOCOL 7.1: its number: 7 too short a buffer, 8 cannot be sent, 9 Unfinished, else 0
abbrev pub number_of : Word → ℕ
number_of Idle = 0
number_of (Waiting count) = 0
number_of (SendAgain count) = 0
number_of (Answered count) = 0
number_of (Unfinished tries) = 9
number_of TooShort = 7
number_of NotSent = 8

-- PROTOCOL 7.1: its count: how many bytes stand in the lent buffer; of Unfinished the tries; of 7 and 8 nothing
abbrev pub count_of : Word → ℕ
count_of Idle = 0
count_of (Waiting count) = count
count_of (SendAgain count) = count
count_of (Answered count) = count
count_of (Unfinished tries) = tries
count_of TooShort = 0
count_of NotSent = 0
