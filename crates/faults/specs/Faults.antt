-- PROTOCOL 9.1: what becomes of some bytes on the line, and of which try or answer.
use Rattle.std.specs.Prelude.{ℕ, zero, suc, ◌+◌, ◌%◌, Bool, cond, List, [], get_or, set, replicate}
use Rattle.faults.specs.declared.Fault.{Fault}
use Rattle.faults.specs.declared.Fault.TheVariants.{Nothing, Becomes, Lost}
use Rattle.faults.specs.declared.Faults.{Faults}

-- PROTOCOL 9.1: whole; with one byte replaced by another, the first being at place 1; or nothing. At a place where there is no byte none is replaced
abbrev pub replaced : (place byte : ℕ) → List ℕ → List ℕ
replaced zero byte bytes = bytes
replaced (suc before) byte bytes = set bytes before byte

abbrev pub arrived_of : Fault → List ℕ → List ℕ
arrived_of Nothing bytes = bytes
arrived_of (Becomes place byte) bytes = replaced place byte bytes
arrived_of Lost bytes = []

-- PROTOCOL 7.6: there are five tries, and five answers: a place for each, tries first. Numbers above five begin anew with 1, and 0 is 5
abbrev pub spot_of : (answer : Bool) → (attempt : ℕ) → ℕ
spot_of answer attempt = (attempt + 4) % 5 + cond answer 5 0

abbrev pub no_faults : Faults
no_faults = record { spots = replicate 10 Nothing }

abbrev pub with_fault : Faults → (answer : Bool) → (attempt : ℕ) → Fault → Faults
with_fault faults answer attempt fault = record { spots = set faults.spots (spot_of answer attempt) fault }

abbrev pub fault_of : Faults → (answer : Bool) → (attempt : ℕ) → Fault
fault_of faults answer attempt = get_or faults.spots (spot_of answer attempt) Nothing
