-- DECISIONS 54: a stretch of bytes, heard one after the other up to and including the first that brings something, or all of them.
use Rattle.std.specs.Prelude.{ℕ, ◌+◌, cond, List, [], ◌∷◌}
use Rattle.wire.specs.declared.Way.{Way}
use Rattle.reader.specs.Reading.{read}
use Rattle.reader.specs.Fields.{place_of, reader_of, kept_in, heard_of, is_silent}
use Rattle.reader.specs.declared.Heard.TheVariants.{Nothing}
use Rattle.reader.specs.declared.Reader.{Reader}
use Rattle.stretches.specs.declared.Stretch.{Stretch}

-- what a stretch brings, and the lent array behind it
pub record Stretched : Type 0 where
  pub stretch : Stretch
  pub array : List ℕ

-- with n bytes before it that brought nothing
abbrev pub further : ℕ → Stretched → Stretched
further n s = record { stretch = record { reader = s.stretch.reader; heard = s.stretch.heard; taken = n + s.stretch.taken }; array = s.array }

abbrev pub stretched : Way → Reader → (array bytes : List ℕ) → Stretched
stretched way r array [] = record { stretch = record { reader = r; heard = Nothing; taken = 0 }; array = array }
stretched way r array (b ∷ bs) =
    let step = read way (place_of r array) b in
    let now = reader_of step.place in
    let kept = kept_in array step.place in
    cond (is_silent (heard_of step.event)) (further 1 (stretched way now kept bs)) (record { stretch = record { reader = now; heard = heard_of step.event; taken = 1 }; array = kept })
