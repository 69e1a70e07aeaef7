-- Books with eight day sums and eight groups keep them, so that no answer is longer than 217 bytes.
use mathlib.Core.Path.{◌≡◌, refl, ◌∙◌}
use mathlib.Core.Bool.{Bool, true, false, cond}
use mathlib.Core.List.{◌++◌, ◌∷◌}
use Prim.Native.Nat.{ℕ, ◌+◌, ◌≤◌, min}
use native.Mathlib.Omega.{arith}
use lib.Dec.{ltb}
use lib.ListN.{length, set, length-set, length-append}
use Rattle.wire.specs.Frame.{Message}
use Rattle.wire.proofs.Building.{length-enclosed}
use Rattle.kinds.specs.declared.Mode.{Mode}
use Rattle.kinds.specs.Fields.{Parsed}
use Rattle.std.specs.Prelude.{Ok, Err, Option}
use Rattle.command.specs.Commands.{parsed_of}
use Rattle.sheet.specs.Searches.{place_of, match_of}
use Rattle.sheet.proofs.Noting.{noted_length}
use Rattle.receipt.specs.Receipts.{group_after}
use Rattle.books.specs.Books.{with_receipt, with_drawer, with_registers}
use Rattle.books.specs.Registers.{place, register_of, with_register}
use Rattle.books.specs.declared.Books.{Books}
use Rattle.rules.specs.Effects.{payment}
use Rattle.rules.specs.Reasons.{owed, tendered}
use Rattle.rules.specs.Rules.{Rule, rule_of}
use Rattle.rules.specs.Views.{view_of}
use Rattle.rules.specs.declared.views.View.{View}
use Rattle.rules.specs.declared.views.View.TheVariants.{Opens, Sells, Adjusts, Pays, Closes, Cancels, OpensText, ClosesText, Clears, Puts, Takes, Asks}
use Rattle.deeds.specs.Deeds.{refused_with, done_with, deed_of}
use Rattle.deeds.specs.declared.Deed.{Deed}
use Rattle.answers.specs.Contents.{content_of}
use Rattle.answers.specs.Status.{status_of}
use Rattle.answers.proofs.Shown.{shown_short, status_six}
use Rattle.guard.specs.Guard.{judged_by}
use Rattle.store.specs.Store.{Store}
use Rattle.carrying.specs.Carrying.{search_in, deed_for, carry}

pub record Eights (b : Books) : Type 0 where
  pub day : length b.day ≡ 8
  pub groups : length b.receipt.groups ≡ 8

raised : (b : Books) (m : Mode) (sum : ℕ) → Eights b → Eights (with_register b m sum)
raised b m sum h = go (ltb (place m) 4)
  where
    go : (has : Bool) → Eights (cond has (with_registers b (set b.registers (place m) sum)) (with_drawer b (record { cash = sum; put = b.drawer.put; taken = b.drawer.taken })))
    go true = record { day = h.day; groups = h.groups }
    go false = record { day = h.day; groups = h.groups }

done_keeps : (b : Books) (m : Option ℕ) (v : View) → Eights b → Eights (rule_of b m v).after
done_keeps b m Opens h = record { day = h.day; groups = refl }
done_keeps b m (Sells s) h = record { day = h.day; groups = length-set b.receipt.groups s.group (group_after b.receipt s m) ∙ h.groups }
done_keeps b m (Adjusts a) h = record { day = h.day; groups = refl }
done_keeps b m (Pays p) h =
    let with_it = with_receipt b b.opened (payment b p).receipt in
    raised with_it p.mode (register_of with_it p.mode + min (tendered b p) (owed b)) (record { day = h.day; groups = h.groups })
done_keeps b m Closes h = record { day = refl; groups = refl }
done_keeps b m Cancels h = record { day = h.day; groups = refl }
done_keeps b m OpensText h = record { day = h.day; groups = h.groups }
done_keeps b m ClosesText h = record { day = h.day; groups = h.groups }
done_keeps b m Clears h = record { day = refl; groups = h.groups }
done_keeps b m (Puts n) h = record { day = h.day; groups = h.groups }
done_keeps b m (Takes n) h = record { day = h.day; groups = h.groups }
done_keeps b m (Asks when shown) h = h

deed_keeps : (b : Books) (m : Option ℕ) (v : View) → Eights b → Eights (deed_of b m v).books
deed_keeps b m v h = go rule.one rule.three rule.four
  where
    rule : Rule
    rule = rule_of b m v

    go : (x y z : Bool)
        → Eights (cond x (refused_with 1 b) (cond y (refused_with 3 b) (cond z (refused_with 4 b) (done_with rule.after rule.shows rule.note)))).books
    go true y z = h
    go false true z = h
    go false false true = h
    go false false false = done_keeps b m v h

pub eights_stay : (b : Books) (m : Option ℕ) (passes : Bool) (p : Parsed) → Eights b → Eights (deed_for b m passes p).books
eights_stay b m true (Ok c) h = deed_keeps b m (view_of c) h
eights_stay b m false (Ok c) h = h
eights_stay b m passes (Err why) h = h

pub carry_keeps : (s : Store) (m : Message) → Eights s.books → Eights (carry s m).store.books
carry_keeps s m h =
    let p = parsed_of m.code m.content in
    eights_stay s.books (match_of s.sheet (search_in s.books p)) (judged_by s.guard p m.content).passes p h

-- and the sheet its length
pub carry_lines : (s : Store) (m : Message) → length (carry s m).store.sheet ≡ length s.sheet
carry_lines s m =
    let p = parsed_of m.code m.content in
    let q = search_in s.books p in
    noted_length (deed_for s.books (match_of s.sheet q) (judged_by s.guard p m.content).passes p).note s.sheet (place_of s.sheet q) s.books.receipt.lines

pub answer_few : (s : Store) (m : Message) → Eights s.books → length (carry s m).answer ≤ 217
answer_few s m h =
    let b = s.books in
    let p = parsed_of m.code m.content in
    let passes = (judged_by s.guard p m.content).passes in
    let d : Deed = deed_for b (match_of s.sheet (search_in b p)) passes p in
    let k : Eights d.books = eights_stay b (match_of s.sheet (search_in b p)) passes p h in
    let content = content_of d.shown b.day d.books in
    let status = status_of d.number d.books in
    omega (arith, length-enclosed m.seq m.code (content ++ 0x04 ∷ status), length-append content (0x04 ∷ status), status_six d.number d.books, shown_short b.day d.books d.shown h.day k.day k.groups)
