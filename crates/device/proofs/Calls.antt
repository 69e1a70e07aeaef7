-- The calls of the shell, one after the other, are the halves put together.
use mathlib.Core.Path.{◌≡◌, ap, ◌∙◌, subst}
use mathlib.Core.List.{List}
use Prim.Native.Nat.{ℕ, ◌≤◌}
use lib.ListN.{length, get_or}
use Rattle.sheet.specs.declared.Line.{Line}
use Rattle.sheet.specs.Sheet.{blank, newest}
use Rattle.sheet.specs.Notes.{written}
use Rattle.machine.specs.declared.Begun.{Begun}
use Rattle.machine.specs.declared.Device.{Device}
use Rattle.giving.specs.declared.Ended.{Ended}
use Rattle.machine.specs.Hearing.{PartHeard, part_of, after_part}
use Rattle.machine.specs.Beginning.{FirstHalf, beginning}
use Rattle.giving.specs.Ending.{SecondHalf, ending}
use Rattle.giving.specs.Together.{put_together, going_on, together}
use Rattle.giving.proofs.Joining.{joined}

-- m is what `length_of` says, i and r what `find` and `get` bring
in_turn : (d : Device) (frame last buffer display : List ℕ) (ys : List Line) (bytes : List ℕ) (m : ℕ) (b : Begun) (fs ds : List ℕ) (i : ℕ) (r : Line) (e : Ended) (ls ws : List ℕ) (zs : List Line)
    → m ≡ length ys
    → record { begun = b; frame = fs; display = ds } ≡ beginning d frame display (length buffer) m bytes
    → i ≡ newest ys b.wanted b.lines b.lines
    → r ≡ get_or ys i blank
    → record { ended = e; last = ls; buffer = ws } ≡ ending b i r last buffer
    → zs ≡ written ys e.writes
    → part_of e.hearing fs ls ws ds zs (length ys) ≡ together d frame last buffer display ys bytes
in_turn d frame last buffer display ys bytes m b fs ds i r e ls ws zs says-length begins finds gets ends tells =
    let first : FirstHalf = record { begun = b; frame = fs; display = ds } in
    ap (λ (z : List Line). part_of e.hearing fs ls ws ds z (length ys)) tells
    ∙ ap (λ (h : SecondHalf). put_together first h ys) ends
    ∙ ap (λ (l : Line). put_together first (ending b i l last buffer) ys) gets
    ∙ ap (λ (j : ℕ). put_together first (ending b j (get_or ys j blank) last buffer) ys) finds
    ∙ ap (λ (f : FirstHalf). going_on f last buffer ys) begins
    ∙ ap (λ (k : ℕ). going_on (beginning d frame display (length buffer) k bytes) last buffer ys) says-length

-- so they are the call
pub the_call : (d : Device) (frame last buffer display : List ℕ) (ys : List Line) (bytes : List ℕ) (m : ℕ) (b : Begun) (fs ds : List ℕ) (i : ℕ) (r : Line) (e : Ended) (ls ws : List ℕ) (zs : List Line)
    → m ≡ length ys
    → record { begun = b; frame = fs; display = ds } ≡ beginning d frame display (length buffer) m bytes
    → i ≡ newest ys b.wanted b.lines b.lines
    → r ≡ get_or ys i blank
    → record { ended = e; last = ls; buffer = ws } ≡ ending b i r last buffer
    → zs ≡ written ys e.writes
    → e.hearing.given.count ≤ 217
    → part_of e.hearing fs ls ws ds zs (length ys) ≡ after_part (record { device = d; frame = frame; last = last; sheet = ys }) (record { buffer = buffer; lines = length ys; display = display }) bytes
the_call d frame last buffer display ys bytes m b fs ds i r e ls ws zs says-length begins finds gets ends tells few =
    let both = in_turn d frame last buffer display ys bytes m b fs ds i r e ls ws zs says-length begins finds gets ends tells in
    both ∙ joined d last buffer display ys frame bytes (subst (λ (p : PartHeard). p.after.count ≤ 217) both few)
