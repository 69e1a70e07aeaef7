-- EXPLAIN 1: explain [-html] [RECORDING]; SCRIPTS 8: cashier [-k] -l LINE.
use Rattle.std.specs.Prelude.{ℕ, Bool, true, false, Option, Some, None, cond, ◌&&◌, List, eqb, ltb}
use Rattle.text.specs.Parts.{begins}
use Rattle.writing.specs.Words.{is}
use Rattle.wishes.specs.declared.Wish.{Wish}
use Rattle.wishes.specs.declared.Errand.{Errand}

-- the sign for a page; any other argument that begins so is none
abbrev pub is_page : List ℕ → Bool
is_page s = is "-html" s

abbrev pub is_option : List ℕ → Bool
is_option s = begins 0x2D s

abbrev pub made : Bool → Option ℕ → Option Wish
made html recording = Some (record { html = html; recording = recording })

-- behind -html there may be a RECORDING, and nothing more
abbrev pub with_page : ℕ → Option Wish
with_page count = cond (eqb count 2) (made true None) (cond (eqb count 3) (made true (Some 2)) None)

-- by how many arguments there are, the program's own name among them, and the one behind that
abbrev pub wish_of : ℕ → List ℕ → Option Wish
wish_of count first =
    cond (ltb count 2) (made false None)
    (cond (is_page first) (with_page count)
    (cond (is_option first) None
    (cond (eqb count 2) (made false (Some 1)) None)))

-- SCRIPTS 8: -l and a LINE, with -k before them or without
abbrev pub errand_of : ℕ → (first second : List ℕ) → Option Errand
errand_of count first second =
    cond (eqb count 3 && is "-l" first) (Some (record { keeps = false; line = 2 }))
    (cond (eqb count 4 && is "-k" first && is "-l" second) (Some (record { keeps = true; line = 3 })) None)
