-- A command carried out in a lent buffer.
use Rattle.std.specs.Prelude.{ℕ, Bool, cond, Result, List, ◌++◌, ltb, length, Option}
use Rattle.std.specs.Result.{result_unwrap_or}
use Rattle.std.proofs.lemmas.List.Edits.{sets}
use Rattle.wire.specs.declared.Unbuilt.{Unbuilt}
use Rattle.kinds.specs.Fields.{Parsed}
use Rattle.sheet.specs.declared.Note.TheVariants.{Nothing}
use Rattle.books.specs.declared.Books.{Books}
use Rattle.deeds.specs.declared.Deed.{Deed}
use Rattle.carrying.specs.Carrying.{deed_for, answer_bytes, lead_of}
use Rattle.carrying.specs.declared.Work.{Work}

pub record Worked : Type 0 where
  pub work : Work
  pub buffer : List ℕ

-- PROTOCOL 2.5: what is given back stands at the front of the lent buffer, and the bytes behind it stay as they were
abbrev pub given_back : Books → ℕ → ℕ → Deed → List ℕ
given_back b seq code d = lead_of d ++ answer_bytes b seq code d

abbrev pub work_done : Books → ℕ → ℕ → Deed → List ℕ → Worked
work_done b seq code d buffer =
    record {
      work = record { number = d.number; books = d.books; count = length (given_back b seq code d); note = d.note };
      buffer = sets buffer 0 (given_back b seq code d);
    }

-- PROTOCOL 2.4: with less than 217 bytes lent it is 7, and all stays
abbrev pub worked : Books → Option ℕ → ℕ → ℕ → (passes : Bool) → Parsed → List ℕ → Worked
worked b m seq code passes p buffer =
    cond (ltb (length buffer) 217) (record { work = record { number = 7; books = b; count = 0; note = Nothing }; buffer = buffer })
    (work_done b seq code (deed_for b m passes p) buffer)

-- the size of a frame that was built; of any other none
abbrev pub size_of : Result ℕ Unbuilt → ℕ
size_of built = result_unwrap_or built 0
