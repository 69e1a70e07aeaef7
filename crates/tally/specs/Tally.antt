-- SCRIPTS 7: how the commands of a script ended.
use Rattle.std.specs.Prelude.{ℕ, ◌+◌, min}
use Rattle.line.specs.declared.Call.{Call}
use Rattle.line.specs.declared.Call.TheVariants.{Quiet, Nak, Again, Order}
use Rattle.till.specs.declared.Word.{Word}
use Rattle.till.specs.declared.Word.TheVariants.{Idle, Waiting, SendAgain, Answered, Unfinished, TooShort, NotSent}
use Rattle.tally.specs.declared.Tally.{Tally}

-- a count stops at the largest number of 64 bits
abbrev pub most : ℕ
most = 18446744073709551615

abbrev pub one_more : ℕ → ℕ
one_more n = min (n + 1) most

abbrev pub counts : (answered unfinished unsent carried : ℕ) → Tally
counts a u n c = record { answered = a; unfinished = u; unsent = n; carried = c }

abbrev pub none_yet : Tally
none_yet = counts 0 0 0 0

abbrev pub with_unsent : Tally → Tally
with_unsent t = counts t.answered t.unfinished (one_more t.unsent) t.carried

-- PROTOCOL 7.1: Answered, Unfinished, or not sent
abbrev pub ended_by : Tally → Word → Tally
ended_by t Idle = with_unsent t
ended_by t (Waiting count) = with_unsent t
ended_by t (SendAgain count) = with_unsent t
ended_by t (Answered count) = counts (one_more t.answered) t.unfinished t.unsent t.carried
ended_by t (Unfinished tries) = counts t.answered (one_more t.unfinished) t.unsent t.carried
ended_by t TooShort = with_unsent t
ended_by t NotSent = with_unsent t

-- PROTOCOL 2.1: an order is carried out, whatever its number
abbrev pub called_by : Tally → Call → Tally
called_by t Quiet = t
called_by t Nak = t
called_by t Again = t
called_by t (Order seq code count) = counts t.answered t.unfinished t.unsent (one_more t.carried)
