-- "All that is lent is long enough", part by part.
use Rattle.std.proofs.lemmas.Bool.{and_parts, and_from}
use mathlib.Core.Path.{◌≡◌, refl}
use mathlib.Core.Bool.{true, ◌&&◌}
use mathlib.Core.List.{List, [], ◌∷◌}
use Prim.Native.Nat.{ℕ, ◌≤◌}
use lib.Dec.{leb}
use lib.ListN.{length}
use lib.Seq.{sets, length-sets}
use borrow.Author.Tests.{leb-true, le-leb}
use Rattle.display.specs.Display.{displayed}
use Rattle.machine.specs.Device.{Lent, enough}

pub record Long (lent : Lent) : Type 0 where
  pub room : 217 ≤ length lent.buffer
  pub lines : 512 ≤ lent.lines
  pub display : 40 ≤ length lent.display

pub long : (lent : Lent) → enough lent ≡ true → Long lent
long lent e =
    let all = and_parts (leb 217 (length lent.buffer) && leb 512 lent.lines) (leb 40 (length lent.display)) e in
    let two = and_parts (leb 217 (length lent.buffer)) (leb 512 lent.lines) all.0 in
    record {
      room = leb-true 217 (length lent.buffer) two.0;
      lines = leb-true 512 lent.lines two.1;
      display = leb-true 40 (length lent.display) all.1;
    }

pub long_so : (lent : Lent) → Long lent → enough lent ≡ true
long_so lent h =
    and_from (leb 217 (length lent.buffer) && leb 512 lent.lines) (leb 40 (length lent.display))
    (and_from (leb 217 (length lent.buffer)) (leb 512 lent.lines) (le-leb 217 (length lent.buffer) h.room) (le-leb 512 lent.lines h.lines))
    (le-leb 40 (length lent.display) h.display)

-- the display's buffer keeps its length
pub shown_length : (buffer : List ℕ) (texts : List (List ℕ)) → length (displayed buffer texts) ≡ length buffer
shown_length buffer [] = refl
shown_length buffer (t ∷ ts) = length-sets buffer 0 t
