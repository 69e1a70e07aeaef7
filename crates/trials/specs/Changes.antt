-- PROTOCOL 5.18, 5.19: what becomes of passwords and names with one command: told from the command and from what stood before it.
use Rattle.std.specs.Prelude.{ℕ, ◌≤◌, ◌≡◌, Bool, cond, not, ◌&&◌, List, eqb, length, get_or, take, Ok, Err}
use Rattle.kinds.specs.Operators.{name_in}
use Rattle.kinds.specs.Fields.{Parsed}
use Rattle.kinds.specs.declared.Password.{Password}
use Rattle.guard.specs.Guard.{password_of, name_of, is_right, is_locked, trial_of}
use Rattle.guard.specs.declared.Guard.{Guard}
use Rattle.guard.specs.declared.Trial.{Trial}
use Rattle.guard.specs.declared.Trial.TheVariants as trial

-- what the types say: eight passwords, eight names, and 24 bytes for each
pub record Wide (g : Guard) : Type 0 where
  pub passwords : length g.passwords ≡ 8
  pub sizes : length g.sizes ≡ 8
  pub names : length g.names ≡ 192

-- PROTOCOL 5.19: no name is longer than its place; a longer one would reach into the next operator's
pub record Short (g : Guard) : Type 0 where
  pub sizes : (i : ℕ) → get_or g.sizes i 0 ≤ 24

-- PROTOCOL 5.20: a password that is given passes: it is the operator's, and the device is not locked
abbrev pub passes_by : Guard → (op : ℕ) → Password → Bool
passes_by g op password = not (is_locked g) && is_right g op password

-- PROTOCOL 5.18: only a 101 of this operator, with the old password given, changes a password, and that into the new one
abbrev pub password_by : Guard → (op : ℕ) → Trial → Password
password_by g op (trial.Change of old new) = cond (eqb of op && passes_by g of old) new (password_of g op)
password_by g op (trial.Name of password) = password_of g op
password_by g op (trial.Open of password) = password_of g op
password_by g op trial.Nothing = password_of g op

abbrev pub password_after : Guard → (op : ℕ) → Parsed → Password
password_after g op (Ok c) = password_by g op (trial_of c)
password_after g op (Err why) = password_of g op

-- PROTOCOL 5.19: only a 102 of this operator, with the password given, changes a name, and that into the one in its data
abbrev pub name_by : Guard → (op : ℕ) → Trial → (content : List ℕ) → List ℕ
name_by g op (trial.Name of password) content = cond (eqb of op && passes_by g of password) (take 24 (name_in content)) (name_of g op)
name_by g op (trial.Change of old new) content = name_of g op
name_by g op (trial.Open of password) content = name_of g op
name_by g op trial.Nothing content = name_of g op

abbrev pub name_after : Guard → (op : ℕ) → Parsed → (content : List ℕ) → List ℕ
name_after g op (Ok c) content = name_by g op (trial_of c) content
name_after g op (Err why) content = name_of g op
