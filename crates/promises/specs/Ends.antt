-- The two ends as defined in `line`, `device` and `till`, each with a lent buffer: what the code promises of one event, read as a reply.
use Rattle.std.specs.Prelude.{ℕ, ◌≤◌, ◌<◌, ◌≡◌, true, List, [], ◌∷◌, length}
use Rattle.store.specs.Store.{Store}
use Rattle.line.specs.Turns as line
use Rattle.machine.specs.Device.{Lent, lent_turn}
use Rattle.till.specs.Turns as till
use Rattle.till.specs.Words.{number_of, count_of}
use Rattle.till.specs.declared.Word.TheVariants.{Unfinished}
use Rattle.carrying.specs.Carrying.{texts_of}
use Rattle.promises.specs.AtDevice.{FromDevice, shows, anew}
use Rattle.promises.specs.AtTill.{FromTill, replies, fails, none_waits}
use Rattle.promises.specs.Demand1.{Bench, Comes, at_device, at_till, switching, Outcome, from_device, from_till, switched, bench_after}

abbrev pub of_device : Lent → line.Turn Store → FromDevice
of_device lent t = shows t.number t.gives (texts_of t.carried) lent t.state

abbrev pub of_till : List ℕ → till.Turn → FromTill
of_till buffer t = replies (number_of t.word) t.word (count_of t.word) t.puts buffer t.state

abbrev pub outcome_of : Bench → Comes → Outcome
outcome_of s (at_device lent byte) = from_device (of_device lent (lent_turn lent s.device byte))
outcome_of s (at_till buffer h) = from_till (of_till buffer (till.hears (length buffer) s.till h))
outcome_of s switching = switched (anew s.device)

-- the replies of a history, and both ends behind it
abbrev pub outcomes_of : Bench → List Comes → List Outcome
outcomes_of s [] = []
outcomes_of s (c ∷ cs) = outcome_of s c ∷ outcomes_of (bench_after s (outcome_of s c)) cs

abbrev pub behind_all : Bench → List Comes → Bench
behind_all s [] = s
behind_all s (c ∷ cs) = behind_all (bench_after s (outcome_of s c)) cs

-- PROTOCOL 8.7: what no history of fresh ends comes to, where the reply is not the table's: tries above five count as the fifth
pub data Beyond (s : Bench) : Comes → Outcome → Type 0 where
  more_tries : {buffer : List ℕ} {h : till.Happening} (seq code : ℕ) (bytes : List ℕ) (tries : ℕ) (ear : till.Ear) → 210 ≤ length buffer
      → s.till.pending ≡ till.waits seq code bytes tries ear → fails seq code ear h ≡ true → 5 < tries
      → Beyond s (at_till buffer h) (from_till (replies 9 (Unfinished tries) tries [] buffer (none_waits s.till)))
