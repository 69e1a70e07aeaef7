-- DECISIONS 72: a part heard with the sheet by value.
use Rattle.std.specs.Prelude.{ℕ, ◌-◌, List, length}
use Rattle.tape.specs.Noting.{start_of}
use Rattle.runs.specs.Running.{Running, heard_through}
use Rattle.kept.specs.declared.Kept.{Kept}
use Rattle.recorder.specs.declared.Part.{Part}

-- a part heard with the sheet held by value: everything behind it
pub record PartLeft : Type 0 where
  pub part : Part
  pub frame : List ℕ
  pub last : List ℕ
  pub buffer : List ℕ
  pub display : List ℕ
  pub out : List ℕ
  pub orders : List ℕ

abbrev pub part_left : Part → (frame last buffer display out orders : List ℕ) → PartLeft
part_left p frame last buffer display out orders =
    record { part = p; frame = frame; last = last; buffer = buffer; display = display; out = out; orders = orders }

abbrev pub handed_back : Running → PartLeft
handed_back s =
    part_left (record { kept = record { device = s.run.device; sheet = s.sheet }; given = s.run.given; listed = s.run.listed }) s.frame s.last s.buffer s.display s.out s.orders

abbrev pub part_heard : Kept → (frame last buffer display bytes out orders : List ℕ) → PartLeft
part_heard k frame last buffer display bytes out orders =
    handed_back (heard_through bytes (record { run = start_of k.device (length bytes); frame = frame; last = last; buffer = buffer; display = display; sheet = k.sheet; out = out; orders = orders }))
