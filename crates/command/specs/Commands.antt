-- PROTOCOL 5.1: seventeen kinds of command, each with its own form.
use Rattle.std.specs.Prelude.{ℕ, cond, not, ◌&&◌, List, [], eqb, Ok, Err}
use Rattle.text.specs.Parts.{has}
use Rattle.labels.specs.Texts.{only_line, first_line, second_line}
use Rattle.kinds.specs.Plain.{bare_of, text_of, sums_of, closing_of, show_of}
use Rattle.kinds.specs.Operators.{operators_of}
use Rattle.kinds.specs.declared.operators.Third.TheVariants as third
use Rattle.money.specs.Money.{sell_of, pay_of, drawer_of}
use Rattle.money.specs.Subtotals.{subtotal_of}
use Rattle.kinds.specs.declared.Command.TheVariants.{OpenText, CloseText, Close, Cancel, Status, Rates}
use Rattle.kinds.specs.Fields.{Parsed}
use Rattle.kinds.specs.declared.Unread.TheVariants.{Syntax, Unknown}

-- PROTOCOL 5.1, 2.2: the code, then the data; an unknown command is 2 whatever its data
abbrev pub form_of : ℕ → List ℕ → Parsed
form_of code s =
    cond (eqb code 38) (bare_of OpenText s)
    (cond (eqb code 39) (bare_of CloseText s)
    (cond (eqb code 42) (text_of s)
    (cond (eqb code 48) (operators_of third.Till s)
    (cond (eqb code 49) (sell_of s)
    (cond (eqb code 51) (subtotal_of s)
    (cond (eqb code 53) (pay_of s)
    (cond (eqb code 56) (bare_of Close s)
    (cond (eqb code 60) (bare_of Cancel s)
    (cond (eqb code 65) (sums_of s)
    (cond (eqb code 69) (closing_of s)
    (cond (eqb code 70) (drawer_of s)
    (cond (eqb code 74) (bare_of Status s)
    (cond (eqb code 97) (bare_of Rates s)
    (cond (eqb code 100) (show_of s)
    (cond (eqb code 101) (operators_of third.Password s)
    (cond (eqb code 102) (operators_of third.Name s)
    (Err Unknown)))))))))))))))))

-- PROTOCOL 1.4, 5.17: 10h in the data of any known command but 100 is 1; an unknown one stays 2
abbrev pub not_marked : Parsed → Parsed
not_marked (Ok c) = Err Syntax
not_marked (Err why) = Err why

abbrev pub parsed_of : ℕ → List ℕ → Parsed
parsed_of code s = cond (not (eqb code 100) && has 0x10 s) (not_marked (form_of code s)) (form_of code s)

-- PROTOCOL 4.7: the texts of a command, for whoever shows them, as parts of the data. 42 has one, 49 and 53 have L1 and L2, the others none
abbrev pub first_text : ℕ → List ℕ → List ℕ
first_text code s =
    cond (eqb code 42) (only_line s)
    (cond (eqb code 49) (first_line s)
    (cond (eqb code 53) (first_line s)
    []))

abbrev pub second_text : ℕ → List ℕ → List ℕ
second_text code s =
    cond (eqb code 49) (second_line s)
    (cond (eqb code 53) (second_line s)
    [])
