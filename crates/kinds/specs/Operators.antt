-- PROTOCOL 5.3, 5.18, 5.19: the forms of the commands that an operator gives with a password. Any other data is 1.
use Rattle.std.specs.Prelude.{ℕ, Bool, cond, ◌&&◌, List, ltb, length, Option, None, Ok, Err}
use Rattle.wire.specs.Bytes.{within}
use Rattle.text.specs.Parts.{has, up_to, past}
use Rattle.figures.specs.Numbers.{field_of}
use Rattle.labels.specs.Texts.{is_name}
use Rattle.kinds.specs.Fields.{field_then, comma, Parsed}
use Rattle.kinds.specs.declared.Command.TheVariants.{Open, ChangePassword, ChangeName}
use Rattle.kinds.specs.declared.Unread.TheVariants.{Syntax}
use Rattle.kinds.specs.declared.Password.{Password}
use Rattle.kinds.specs.declared.operators.Third.{Third}
use Rattle.kinds.specs.declared.operators.Third.TheVariants as third

-- PROTOCOL 5.3: Op is from 1 to 8
abbrev pub is_op : ℕ → Bool
is_op op = within 1 8 op

-- PROTOCOL 5.3: a password has 4 to 6 digits (DECISIONS 10)
abbrev pub secret_of : List ℕ → Option ℕ
secret_of s = cond (ltb (length s) 4) None (field_of 6 s)

-- the digits as they were sent, so with their number
abbrev pub password_as : List ℕ → ℕ → Password
password_as digits value = record { digits = length digits; value = value }

-- PROTOCOL 5.3: 48: Till has 1 to 5 digits
abbrev pub open_with : ℕ → Password → List ℕ → Parsed
open_with op password till = field_then (field_of 5 till) (λ t. Ok (Open op password t))

-- PROTOCOL 5.18: 101: the new password
abbrev pub change_with : ℕ → Password → List ℕ → Parsed
change_with op old new = field_then (secret_of new) (λ p. Ok (ChangePassword op old (password_as new p)))

-- PROTOCOL 5.19: 102: a name
abbrev pub name_with : ℕ → Password → List ℕ → Parsed
name_with op password name = cond (is_name name) (Ok (ChangeName op password)) (Err Syntax)

abbrev pub third_of : Third → ℕ → Password → List ℕ → Parsed
third_of third.Till = open_with
third_of third.Password = change_with
third_of third.Name = name_with

-- PROTOCOL 5.3, 5.18, 5.19: Op and Pwd, alike in all three, then the third field
abbrev pub with_third : Third → List ℕ → List ℕ → List ℕ → Parsed
with_third t op pwd last =
    field_then (field_of 1 op) (λ o.
    field_then (secret_of pwd) (λ p.
    cond (is_op o) (third_of t o (password_as pwd p) last) (Err Syntax)))

-- PROTOCOL 4.8: cut at the first comma and at the first one behind that
abbrev pub operators_of : Third → List ℕ → Parsed
operators_of t s =
    cond (has comma s && has comma (past comma s)) (with_third t (up_to comma s) (up_to comma (past comma s)) (past comma (past comma s))) (Err Syntax)

-- PROTOCOL 5.19: the name of a 102, a part of its data
abbrev pub name_in : List ℕ → List ℕ
name_in s = past comma (past comma s)
