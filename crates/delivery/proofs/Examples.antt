-- Deliveries that there are: the papers' own command 74, damaged, cut and whole.
use mathlib.Core.Path.{◌≡◌, refl}
use mathlib.Core.Bool.{true}
use mathlib.Core.List.{List, [], ◌∷◌}
use Rattle.wire.specs.Frame.{Message, command_of}
use Rattle.line.specs.Turns.{Carried, switched_on, session}
use Rattle.tries.specs.Tries.{whole, replaced, cut, clear}
use Rattle.delivery.specs.Delivery.{Sent, delivery, all_arriving}
use Rattle.delivery.specs.AtMostOnce.{all_heard, without_repeats}
use Rattle.delivery.proofs.AtMostOnce.{carries_out_those_whole}
use Rattle.delivery.proofs.Delivered.{hears_only, carries_out_that_very_list}

abbrev status : Message
status = command_of 0x20 74 []

-- document 01, example 8: "ETX replaced by 01h, then the same frame whole: done once."
abbrev twice : List Sent
twice = record { command = status; tries = replaced 9 0x01 ∷ whole ∷ [] } ∷ []

twice_bytes : all_arriving twice
    ≡ 0x01 ∷ 0x24 ∷ 0x20 ∷ 0x4A ∷ 0x05 ∷ 0x30 ∷ 0x30 ∷ 0x39 ∷ 0x33 ∷ 0x01
    ∷ 0x01 ∷ 0x24 ∷ 0x20 ∷ 0x4A ∷ 0x05 ∷ 0x30 ∷ 0x30 ∷ 0x39 ∷ 0x33 ∷ 0x03 ∷ []
twice_bytes = refl

pub done_once : {B : Type 0} (carry : B → Message → Carried B) (store : B) → (session carry (switched_on store) (all_arriving twice)).carried ≡ status ∷ []
done_once carry store = (carries_out_that_very_list carry twice refl store).0

-- two commands, repeats, cuts and damage of every kind among them; the first one's last try is ended by the second one's first
pub there_are_longer : delivery (
    record { command = status; tries = cut 0 ∷ replaced 0 0x03 ∷ cut 9 ∷ replaced 0 0x03 ∷ replaced 3 0x01 ∷ whole ∷ replaced 1 0x25 ∷ replaced 9 0x01 ∷ cut 9 ∷ [] }
    ∷ record { command = command_of 0x21 74 []; tries = replaced 0 0x03 ∷ cut 1 ∷ replaced 8 0x33 ∷ cut 7 ∷ whole ∷ [] }
    ∷ []) ≡ true
there_are_longer = refl

-- request 2026-11, without "at least one whole": the first command's only try lacks its last byte, the second one's first byte becomes it; the third
-- is never heard
abbrev lossy : List Sent
lossy =
    record { command = status; tries = cut 9 ∷ [] }
    ∷ record { command = command_of 0x21 74 []; tries = replaced 0 0x03 ∷ whole ∷ whole ∷ [] }
    ∷ record { command = command_of 0x22 74 []; tries = replaced 3 0x01 ∷ cut 4 ∷ [] }
    ∷ record { command = command_of 0x23 74 []; tries = whole ∷ [] }
    ∷ []

lossy_heard : all_heard clear lossy ≡ status ∷ command_of 0x21 74 [] ∷ command_of 0x21 74 [] ∷ command_of 0x23 74 [] ∷ []
lossy_heard = refl

lossy_carried : (session hears_only (switched_on tt) (all_arriving lossy)).carried ≡ without_repeats (all_heard clear lossy)
lossy_carried = refl

lossy_done : without_repeats (all_heard clear lossy) ≡ status ∷ command_of 0x21 74 [] ∷ command_of 0x23 74 [] ∷ []
lossy_done = refl

-- with one byte less of it none lacks only its last byte, and exactly those of which a try arrived whole are carried out
abbrev damaged : List Sent
damaged =
    record { command = status; tries = cut 8 ∷ [] }
    ∷ record { command = command_of 0x21 74 []; tries = replaced 0 0x03 ∷ whole ∷ whole ∷ [] }
    ∷ record { command = command_of 0x22 74 []; tries = replaced 3 0x01 ∷ cut 4 ∷ [] }
    ∷ record { command = command_of 0x23 74 []; tries = whole ∷ [] }
    ∷ []

pub those_whole : {B : Type 0} (carry : B → Message → Carried B) (store : B)
    → (session carry (switched_on store) (all_arriving damaged)).carried ≡ command_of 0x21 74 [] ∷ command_of 0x23 74 [] ∷ []
those_whole carry store = (carries_out_those_whole carry damaged refl refl refl store).0

-- a SEQ that comes again with the same CMD, all between it lost: a repeat, so that neighbours among those that arrive must differ
lost_between : without_repeats (all_heard clear (
    record { command = status; tries = whole ∷ [] }
    ∷ record { command = command_of 0x21 74 []; tries = [] }
    ∷ record { command = status; tries = whole ∷ [] }
    ∷ [])) ≡ status ∷ []
lost_between = refl
