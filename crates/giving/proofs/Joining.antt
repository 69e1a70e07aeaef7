-- The two halves of a call and the sheet between them are the call of the device that `after_part` says.
use mathlib.Core.Path.{◌≡◌, refl, sym, ap, ◌∙◌, subst}
use mathlib.Core.Bool.{Bool, true, false, cond, ◌&&◌}
use mathlib.Core.List.{List, [], ◌∷◌, ◌++◌}
use Prim.Native.Nat.{ℕ, ◌≤◌}
use native.Mathlib.Omega.{arith}
use lib.Dec.{leb}
use lib.ListN.{length, take, drop, get_or}
use lib.Seq.{sets}
use borrow.Author.Tests.{le-leb}
use Rattle.kinds.specs.Fields.{Parsed}
use Rattle.command.specs.Commands.{parsed_of}
use Rattle.sheet.specs.Sheet.{blank}
use Rattle.sheet.specs.Searches.{place_of, match_of}
use Rattle.sheet.specs.declared.Line.{Line}
use Rattle.sheet.specs.declared.Note.TheVariants as note
use Rattle.sheet.specs.declared.Search.{Search}
use Rattle.sheet.proofs.Noting.{writes_note}
use Rattle.line.specs.Turns.{last_answer}
use Rattle.line.specs.Calls.{before_of}
use Rattle.line.specs.Listening.{listened_to, frame_behind}
use Rattle.line.specs.declared.Call.{Call}
use Rattle.line.specs.declared.Call.TheVariants.{Quiet, Nak, Again, Order}
use Rattle.line.specs.declared.Listened.{Listened}
use Rattle.line.specs.declared.Port.{Port}
use Rattle.deeds.specs.declared.Deed.{Deed}
use Rattle.carrying.specs.Carrying.{search_in, deed_for, answer_bytes}
use Rattle.carrying.specs.Work.{Worked, worked, work_done}
use Rattle.carrying.proofs.Working.{worked_long}
use Rattle.machine.specs.Device.{Lent, enough, Machine, not_taken}
use Rattle.machine.specs.Answering.{answering}
use Rattle.machine.specs.Hearing.{PartHeard, part_of, hearing, after_part}
use Rattle.machine.specs.Beginning.{begun_with, not_begun, FirstHalf}
use Rattle.giving.specs.Ending.{SecondHalf, ended_with, carried_behind, ending_as, ending}
use Rattle.giving.specs.Together.{put_together, searched_at, going_on, together}
use Rattle.machine.specs.declared.Begun.{Begun}
use Rattle.machine.specs.declared.Device.{Device}
use Rattle.machine.proofs.Room.{long}
use Rattle.machine.proofs.Working.{front_stands}
use Rattle.guard.specs.Guard.{judged_by}
use Rattle.machine.proofs.Parts.{at, two_halves}

module _ (d : Device) (last buffer display : List ℕ) (sheet : List Line) where
  abbrev lent : Lent
  lent = record { buffer = buffer; lines = length sheet; display = display }

  -- the device behind what was listened to
  abbrev here : Port → List ℕ → Machine
  here = at d.books d.guard last sheet lent

  module _ (room : 217 ≤ length buffer) (line : Port) (taken : ℕ) (frame : List ℕ) where
    abbrev heard : Call → Listened
    heard c = record { line = line; call = c; taken = taken }

    abbrev first_half : Call → FirstHalf
    first_half c = begun_with d.books d.guard (heard c) frame display

    abbrev found : Call → ℕ
    found c = searched_at (first_half c) sheet

    abbrev ends : Call → SecondHalf
    ends c = ending_as c (first_half c).begun (found c) (get_or sheet (found c) blank) last buffer

    -- where nothing is carried out, what is written is what stood there
    quiet : (c : Call) (number : ℕ) (bytes : List ℕ)
        → put_together (first_half c) (ended_with (first_half c).begun number (found c) (get_or sheet (found c) blank) last buffer bytes) sheet
        ≡ record {
          after = record {
            machine = record { device = (first_half c).begun.device; frame = frame; last = last; sheet = sheet };
            lent = record { buffer = sets buffer 0 bytes; lines = length sheet; display = (first_half c).display };
            number = number;
            count = length bytes;
            shows = (first_half c).begun.shows;
          };
          call = c;
          taken = taken;
        }
    quiet c number bytes =
        ap (λ z. part_of (ended_with (first_half c).begun number (found c) (get_or sheet (found c) blank) last buffer bytes).ended.hearing frame last (sets buffer 0 bytes) (first_half c).display z (length sheet))
        (writes_note note.Nothing sheet (found c) (found c))

    ordered : (seq code n : ℕ) → (ends (Order seq code n)).ended.hearing.given.count ≤ 217
        → put_together (first_half (Order seq code n)) (ends (Order seq code n)) sheet
        ≡ record { after = answering (Order seq code n) (here line frame) lent; call = Order seq code n; taken = taken }
    ordered seq code n few =
        let c : Call = Order seq code n in
        let b : Begun = (first_half c).begun in
        let p : Parsed = parsed_of code (take n (drop 3 frame)) in
        let q : Search = search_in d.books p in
        let passes : Bool = (judged_by d.guard p (take n (drop 3 frame))).passes in
        let deed : Deed = deed_for d.books (match_of sheet q) passes p in
        let answer : List ℕ = answer_bytes d.books seq code deed in
        let i : ℕ = place_of sheet q in
        let l : Line = get_or sheet i blank in
        let done : worked d.books (match_of sheet q) seq code passes p buffer ≡ work_done d.books seq code deed buffer = sym (worked_long d.books (match_of sheet q) seq code passes p buffer room) in
        let short : length answer ≤ 217 = subst (λ (w : Worked). w.work.count ≤ 217) done few in
        let by : Worked → PartHeard = λ w. put_together (first_half c) (carried_behind b seq code i l last w) sheet in
        let result = carried_behind b seq code i l last (work_done d.books seq code deed buffer) in
        ap by done
        ∙ ap (λ z. part_of result.ended.hearing frame (sets last 0 z) (sets buffer 0 answer) (first_half c).display (by (work_done d.books seq code deed buffer)).after.machine.sheet (length sheet)) (front_stands buffer answer (omega (arith, short, room)))
        ∙ ap (λ z. part_of result.ended.hearing frame (sets last 0 answer) (sets buffer 0 answer) (first_half c).display z (length sheet)) (writes_note deed.note sheet i d.books.receipt.lines)

    by_call : (c : Call) → (ends c).ended.hearing.given.count ≤ 217
        → put_together (first_half c) (ends c) sheet ≡ record { after = answering c (here line frame) lent; call = c; taken = taken }
    by_call Quiet few = quiet Quiet 0 []
    by_call Nak few = quiet Nak 5 (0x15 ∷ [])
    by_call Again few = quiet Again 6 (last_answer (before_of line.previous last))
    by_call (Order seq code n) few = ordered seq code n few

  module _ (frame bytes : List ℕ) where
    abbrev machine : Machine
    machine = record { device = d; frame = frame; last = last; sheet = sheet }

    abbrev x : Listened
    x = listened_to d.line frame bytes

    abbrev kept : List ℕ
    kept = frame_behind d.line frame bytes

    abbrev first : Bool → FirstHalf
    first long = cond long (begun_with d.books d.guard x kept display) (record { begun = not_begun d; frame = frame; display = display })

    unheard : going_on (first false) last buffer sheet ≡ record { after = not_taken machine lent; call = Quiet; taken = 0 }
    unheard =
        let i = searched_at (first false) sheet in
        ap (λ z. part_of (ended_with (not_begun d) 7 i (get_or sheet i blank) last buffer []).ended.hearing frame last buffer display z (length sheet)) (writes_note note.Nothing sheet i i)

    all_heard_lem : 217 ≤ length buffer → leb 217 (length buffer) ≡ true → (going_on (first true) last buffer sheet).after.count ≤ 217
        → going_on (first true) last buffer sheet ≡ hearing machine lent bytes
    all_heard_lem room e few =
        let f = first true in
        let i = searched_at f sheet in
        let l = get_or sheet i blank in
        let so : ending f.begun i l last buffer ≡ ending_as x.call f.begun i l last buffer
        = ap (λ z. cond z (ending_as x.call f.begun i l last buffer) (ended_with f.begun 7 i l last buffer [])) e in
        ap (λ z. put_together f z sheet) so
        ∙ by_call room x.line x.taken kept x.call (subst (λ (z : SecondHalf). z.ended.hearing.given.count ≤ 217) so few)
        ∙ two_halves d.books d.guard last sheet lent bytes d.line frame

    pub joined : (together d frame last buffer display sheet bytes).after.count ≤ 217 → together d frame last buffer display sheet bytes ≡ after_part machine lent bytes
    joined = go (enough lent) refl
      where
        go : (all : Bool) → enough lent ≡ all → (going_on (first all) last buffer sheet).after.count ≤ 217
            → going_on (first all) last buffer sheet ≡ cond all (hearing machine lent bytes) (record { after = not_taken machine lent; call = Quiet; taken = 0 })
        go false e few = unheard
        go true e few =
            let room = (long lent e).room in
            all_heard_lem room (le-leb 217 (length buffer) room) few
