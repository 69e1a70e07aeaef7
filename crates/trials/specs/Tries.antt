-- PROTOCOL 5.20: when the device is locked, told from the commands that it carried out, the oldest first, and from nothing that it counts.
use Rattle.std.specs.Prelude.{ℕ, suc, cond, List, [], ◌∷◌, Ok, Err}
use Rattle.kinds.specs.Fields.{Parsed}
use Rattle.guard.specs.Guard.{is_right, trial_of, of_trial, judged_by}
use Rattle.guard.specs.declared.Guard.{Guard}
use Rattle.guard.specs.declared.Trial.{Trial}

-- a command that came: as it was read, with its data
pub record Came : Type 0 where
  pub parsed : Parsed
  pub content : List ℕ

-- PROTOCOL 5.20: what a well-formed command tried, by the passwords that stood when it came
pub data Tried : Type 0 where
  none : Tried
  right : Tried
  wrong : Tried

abbrev pub tried_by : Guard → Trial → Tried
tried_by g t = of_trial none (λ op password. cond (is_right g op password) right wrong) t

abbrev pub tried_in : Guard → Parsed → Tried
tried_in g (Ok c) = tried_by g (trial_of c)
tried_in g (Err why) = none

-- the guard behind a list of commands, and what each of them tried
abbrev pub guard_behind : Guard → List Came → Guard
guard_behind g [] = g
guard_behind g (c ∷ cs) = guard_behind (judged_by g c.parsed c.content).guard cs

abbrev pub tries_from : Guard → List Came → List Tried
tries_from g [] = []
tries_from g (c ∷ cs) = tried_in g c.parsed ∷ tries_from (judged_by g c.parsed c.content).guard cs

-- PROTOCOL 5.20: a list begins with so many wrong ones, with no right one between
pub data BeginsWrong : ℕ → List Tried → Type 0 where
  no_more : {ts : List Tried} → BeginsWrong 0 ts
  passed_by : {n : ℕ} {ts : List Tried} → BeginsWrong n ts → BeginsWrong n (none ∷ ts)
  one_more_lem : {n : ℕ} {ts : List Tried} → BeginsWrong n ts → BeginsWrong (suc n) (wrong ∷ ts)

-- PROTOCOL 5.20: three wrong ones with no right one between, wherever they begin
pub data ThreeWrong : List Tried → Type 0 where
  from_here : {ts : List Tried} → BeginsWrong 3 ts → ThreeWrong ts
  later : {t : Tried} {ts : List Tried} → ThreeWrong ts → ThreeWrong (t ∷ ts)
