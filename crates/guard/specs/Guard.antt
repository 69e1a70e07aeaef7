-- PROTOCOL 5.18 to 5.20: the guard of the eight operators.
use Rattle.std.specs.Prelude.{ℕ, ◌+◌, ◌-◌, ◌*◌, Bool, true, cond, ◌&&◌, List, leb, eqb, length, get_or, set, take, drop, replicate, Ok, Err}
use Rattle.std.proofs.lemmas.List.Edits.{sets}
use Rattle.kinds.specs.Operators.{is_op, name_in}
use Rattle.kinds.specs.declared.Command.{Command}
use Rattle.kinds.specs.declared.Command.TheVariants.{OpenText, CloseText, PrintText, Open, Sell, Subtotal, Pay, Close, Cancel, Sums, Closing, Drawer, Status, Rates, ShowText, ChangePassword, ChangeName}
use Rattle.kinds.specs.Fields.{Parsed}
use Rattle.kinds.specs.declared.Password.{Password}
use Rattle.guard.specs.declared.Guard.{Guard}
use Rattle.guard.specs.declared.Judged.{Judged}
use Rattle.guard.specs.declared.Trial.{Trial}
use Rattle.guard.specs.declared.Trial.TheVariants as trial
use Rattle.guard.specs.declared.Verdict.{Verdict}
use Rattle.guard.specs.declared.Verdict.TheVariants.{Free, Right, Wrong, Locked}

-- PROTOCOL 8.4: a fresh one: all passwords are 0000, all names empty, and none was wrong
abbrev pub fresh_guard : Guard
fresh_guard = record { passwords = replicate 8 (record { digits = 4; value = 0 }); sizes = replicate 8 0; names = replicate 192 0; wrong = 0 }

-- PROTOCOL 5.3, 5.19: the password and the name of an operator
abbrev pub password_of : Guard → (op : ℕ) → Password
password_of g op = get_or g.passwords (op - 1) (record { digits = 0; value = 0 })

abbrev pub name_of : Guard → (op : ℕ) → List ℕ
name_of g op = take (get_or g.sizes (op - 1) 0) (drop (24 * (op - 1)) g.names)

-- PROTOCOL 5.3: passwords are compared digit by digit, and so with their number of digits
abbrev pub same : Password → Password → Bool
same p q = eqb p.digits q.digits && eqb p.value q.value

abbrev pub is_right : Guard → (op : ℕ) → Password → Bool
is_right g op p = is_op op && same (password_of g op) p

-- PROTOCOL 5.20: three wrong ones with no right one between lock the device
abbrev pub is_locked : Guard → Bool
is_locked g = leb 3 g.wrong

abbrev pub with_count : Guard → (wrong : ℕ) → Guard
with_count g wrong = record { passwords = g.passwords; sizes = g.sizes; names = g.names; wrong = wrong }

-- PROTOCOL 8.9: switched on anew, count and lock are forgotten, and all else stays
abbrev pub calmed : Guard → Guard
calmed g = with_count g 0

-- PROTOCOL 5.18: another password; 5.19: another name, of 24 bytes at most
abbrev pub with_password : Guard → (op : ℕ) → Password → Guard
with_password g op new =
    cond (is_op op)
    (record { passwords = set g.passwords (op - 1) new; sizes = g.sizes; names = g.names; wrong = g.wrong })
    g

abbrev pub with_name : Guard → (op : ℕ) → List ℕ → Guard
with_name g op name =
    cond (is_op op)
    (record { passwords = g.passwords; sizes = set g.sizes (op - 1) (length (take 24 name)); names = sets g.names (24 * (op - 1)) (take 24 name); wrong = g.wrong })
    g

-- PROTOCOL 5.20: 48, 101 and 102 try a password, and no other command does: the one table over the seventeen kinds
abbrev pub trial_of : Command → Trial
trial_of (Open op password till) = trial.Open op password
trial_of (ChangePassword op old new) = trial.Change op old new
trial_of (ChangeName op password) = trial.Name op password
trial_of OpenText = trial.Nothing
trial_of CloseText = trial.Nothing
trial_of PrintText = trial.Nothing
trial_of (Sell s) = trial.Nothing
trial_of (Subtotal print show adjust) = trial.Nothing
trial_of (Pay p) = trial.Nothing
trial_of Close = trial.Nothing
trial_of Cancel = trial.Nothing
trial_of (Sums taxes) = trial.Nothing
trial_of (Closing clears) = trial.Nothing
trial_of (Drawer s) = trial.Nothing
trial_of Status = trial.Nothing
trial_of Rates = trial.Nothing
trial_of ShowText = trial.Nothing

-- what is asked of a password that is tried; `none` where none is
module _ {A : Type 0} (none : A) where
  abbrev pub of_trial : ((op : ℕ) → Password → A) → Trial → A
  of_trial f trial.Nothing = none
  of_trial f (trial.Open op password) = f op password
  of_trial f (trial.Change op old new) = f op old
  of_trial f (trial.Name op password) = f op password

abbrev pub tried : Guard → (op : ℕ) → Password → Verdict
tried g op password = cond (is_locked g) Locked (cond (is_right g op password) Right Wrong)

abbrev pub verdict_of : Guard → Trial → Verdict
verdict_of g t = of_trial Free (tried g) t

-- PROTOCOL 2.1: a wrong password is 3, and so is any while the device is locked; else the command goes on
abbrev pub verdict_number : Verdict → ℕ
verdict_number Free = 0
verdict_number Right = 0
verdict_number Wrong = 3
verdict_number Locked = 3

abbrev pub passes : Verdict → Bool
passes v = eqb (verdict_number v) 0

-- PROTOCOL 5.18, 5.19: what 101 and 102 change, the password being right; any other command changes neither passwords nor names
abbrev pub changed_by : Guard → Trial → (content : List ℕ) → Guard
changed_by g trial.Nothing content = g
changed_by g (trial.Open op password) content = g
changed_by g (trial.Change op old new) content = with_password g op new
changed_by g (trial.Name op password) content = with_name g op (name_in content)

-- PROTOCOL 5.20: a wrong one counts up, a right one clears the count; while locked it stands still
abbrev pub count_after : Guard → Verdict → ℕ
count_after g Free = g.wrong
count_after g Right = 0
count_after g Wrong = g.wrong + 1
count_after g Locked = g.wrong

abbrev pub guard_after : Guard → Verdict → Trial → (content : List ℕ) → Guard
guard_after g v t content = with_count (cond (passes v) (changed_by g t content) g) (count_after g v)

-- PROTOCOL 5.20: a password counts as tried once the fields are well formed, whatever else refuses the command
abbrev pub judged_of : Guard → Trial → (content : List ℕ) → Judged
judged_of g t content = record { guard = guard_after g (verdict_of g t) t content; passes = passes (verdict_of g t) }

abbrev pub judged_by : Guard → Parsed → (content : List ℕ) → Judged
judged_by g (Ok c) content = judged_of g (trial_of c) content
judged_by g (Err why) content = record { guard = g; passes = true }
