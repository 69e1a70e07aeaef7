-- PROTOCOL chapter 5, *Answers*: what each field of an answer is, from 0.
use Rattle.std.specs.Prelude.{ℕ, cond, List, [], ◌∷◌, eqb, get_or}
use Rattle.letters.specs.Letters.{bytes}

-- PROTOCOL 6.1: the eight groups
abbrev pub groups : List (List ℕ)
groups =
    bytes "group A"
    ∷ bytes "group B"
    ∷ bytes "group C"
    ∷ bytes "group D"
    ∷ bytes "group E"
    ∷ bytes "group F"
    ∷ bytes "group G"
    ∷ bytes "group H"
    ∷ []

-- PROTOCOL 5.3, 5.9: `All,Fiscal`, or `All` alone
abbrev pub counters : List (List ℕ)
counters =
    bytes "All: receipts opened since the last closing"
    ∷ bytes "Fiscal: fiscal ones among them"
    ∷ []

-- PROTOCOL 5.5: `Total,A,B,C,D,E,F,G,H`
abbrev pub subtotal : List (List ℕ)
subtotal = bytes "total" ∷ groups

-- PROTOCOL 5.13: `Closure,FM,A,B,C,D,E,F,G,H`
abbrev pub closure : List (List ℕ)
closure = bytes "closings made so far" ∷ bytes "FM: the total over all of them" ∷ groups

-- PROTOCOL 5.14: `P,Cash,In,Out`
abbrev pub drawer : List (List ℕ)
drawer =
    bytes "P"
    ∷ bytes "cash in the drawer"
    ∷ bytes "In: put in since the last closing"
    ∷ bytes "Out: taken out since the last closing"
    ∷ []

-- PROTOCOL 5.1: by the command's code; 65 and 97 have a field a group
abbrev pub field_words : (code : ℕ) → List (List ℕ)
field_words code =
    cond (eqb code 38) counters
    (cond (eqb code 39) counters
    (cond (eqb code 48) counters
    (cond (eqb code 51) subtotal
    (cond (eqb code 56) counters
    (cond (eqb code 65) groups
    (cond (eqb code 69) closure
    (cond (eqb code 70) drawer
    (cond (eqb code 97) groups
    []))))))))

abbrev pub field_word : (code i : ℕ) → List ℕ
field_word code i = get_or (field_words code) i []

-- PROTOCOL 5.6: the sum behind `D` or `R`, where no comma stands
abbrev pub paid_word : ℕ → List ℕ
paid_word mark =
    cond (eqb mark 0x44) (bytes "left to pay")
    (cond (eqb mark 0x52) (bytes "paid in full; the change")
    (bytes ""))
