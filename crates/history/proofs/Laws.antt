-- Laws of one command.
use mathlib.Core.Path.{◌≡◌, refl, sym, ap}
use mathlib.Core.Bool.{true, false, false≢true}
use Prim.Native.Nat.{◌≤◌}
use native.Mathlib.Omega.{arith}
use lib.ListN.{length, replicate}
use Rattle.kinds.specs.declared.Adjust.{Adjust}
use Rattle.kinds.specs.declared.Command.{Command}
use Rattle.kinds.specs.declared.Command.TheVariants.{Sell, Closing, Drawer}
use Rattle.kinds.specs.declared.Sale.{Sale}
use Rattle.kinds.specs.declared.Service.{Service}
use Rattle.kinds.specs.declared.Service.TheVariants.{Report, In, Out}
use Rattle.sheet.specs.Notes.{noted}
use Rattle.sheet.specs.Sheet.{blank}
use Rattle.std.specs.Prelude.{ℕ, Option, unwrap_or}
use Rattle.sheet.specs.declared.Note.TheVariants as note
use Rattle.shares.specs.Shares.{size_of, sum_after}
use Rattle.shares.proofs.Laws.{the_shares_sum_up, a_share_is_covered, not_too_much, total_by_size, sum_tells, free_tells, the_receipt_stays_summed}
use Rattle.books.specs.Groups.{at}
use Rattle.books.proofs.Eight.{at_eight}
use Rattle.books.specs.declared.Books.{Books}
use Rattle.books.specs.declared.Shown.TheVariants as shown
use Rattle.rules.specs.Rules.{rule_of}
use Rattle.rules.specs.Views.{view_of}
use Rattle.rules.specs.declared.views.View.{View}
use Rattle.rules.specs.declared.views.View.TheVariants.{Opens, Sells, Adjusts, Pays, Closes, Cancels, OpensText, ClosesText, Clears, Puts, Takes, Asks}
use Rattle.deeds.specs.Deeds.{deed_of, carried_out}
use Rattle.deeds.specs.declared.Deed.{Deed}
use Rattle.store.specs.Store.{Store}
use Rattle.store.specs.Commands.{place_for, match_for, deed_on, left_on}
use Rattle.history.specs.Entries.{does}
use Rattle.history.specs.Reached.{Unchanged, DayCleared, SharedOut}
use Rattle.history.proofs.Steps.{Step, refused, goes, judging, taken, line_done, adjust_done}

refusing : {b : Books} {m : Option ℕ} {v : View} {d : Deed} → Step b m v d → (d.number ≡ 0 → ⊥) → Unchanged b d
refusing (refused n h) z = record { books = refl; shown = refl; note = refl; number = omega arith }
refusing (goes f) z = absurd (z refl)

-- "Stays": receipt, day, cash and all else, whatever the command, and whatever it is refused for
pub a_refusal_changes_nothing : (b : Books) (m : Option ℕ) (c : Command) → ((carried_out b m c).number ≡ 0 → ⊥) → Unchanged b (carried_out b m c)
a_refusal_changes_nothing b m c z = refusing (taken b m c) z

-- neither in the books nor in the sheet
pub a_refusal_leaves_the_store : (s : Store) (c : Command) → ((deed_on s (view_of c)).number ≡ 0 → ⊥) → left_on s (view_of c) ≡ s
a_refusal_leaves_the_store s c z =
    let same = a_refusal_changes_nothing s.books (match_for s (view_of c)) c z in
    rw (same.books, same.note)

-- "Opening a fiscal receipt empties the sheet; otherwise only a line taken changes it."
emptying : (s : Store) {m : Option ℕ} {d : Deed} → Step s.books m Opens d → d.number ≡ 0 → d.note ≡ note.Empties
emptying s (refused n h) z = absurd (omega (arith, z))
emptying s (goes f) z = refl

pub opening_empties_the_sheet : (s : Store) → (deed_on s Opens).number ≡ 0 → (left_on s Opens).sheet ≡ replicate (length s.sheet) blank
opening_empties_the_sheet s z =
    ap (noted s.sheet (place_for s Opens) s.books.receipt.lines) (emptying s (judging s.books (match_for s Opens) Opens) z)

no_note : (b : Books) (m : Option ℕ) (v : View) → does 48 v ≡ false → does 49 v ≡ false → (rule_of b m v).note ≡ note.Nothing
no_note b m Opens e f = absurd (false≢true (sym e))
no_note b m (Sells s) e f = absurd (false≢true (sym f))
no_note b m (Adjusts a) e f = refl
no_note b m (Pays p) e f = refl
no_note b m Closes e f = refl
no_note b m Cancels e f = refl
no_note b m OpensText e f = refl
no_note b m ClosesText e f = refl
no_note b m Clears e f = refl
no_note b m (Puts n) e f = refl
no_note b m (Takes n) e f = refl
no_note b m (Asks when shown) e f = refl

leaving : {b : Books} {m : Option ℕ} {v : View} {d : Deed} → Step b m v d → does 48 v ≡ false → does 49 v ≡ false → d.note ≡ note.Nothing
leaving (refused n h) e f = refl
leaving {b} {m} {v} (goes free) e f = no_note b m v e f

pub all_else_leaves_the_sheet : (s : Store) (v : View) → does 48 v ≡ false → does 49 v ≡ false → (left_on s v).sheet ≡ s.sheet
all_else_leaves_the_sheet s v e f =
    ap (noted s.sheet (place_for s v) s.books.receipt.lines) (leaving (judging s.books (match_for s v) v) e f)

clearing : {b : Books} {m : Option ℕ} {d : Deed} → Step b m Clears d → d.number ≡ 0 → DayCleared b d.books
clearing (refused n h) z = absurd (omega (arith, z))
clearing (goes f) z =
    record { day = refl; registers = refl; counters = refl; put = refl; taken = refl; cash = refl; receipt = refl; opened = refl }

-- 69 with 0
pub a_closing_clears : (b : Books) (m : Option ℕ) → (carried_out b m (Closing true)).number ≡ 0 → DayCleared b (carried_out b m (Closing true)).books
a_closing_clears b m z = clearing (taken b m (Closing true)) z

lowering : {b : Books} {m : Option ℕ} (s : Sale) {d : Deed} → Step b m (Sells s) d → d.number ≡ 0 → s.minus ≡ true → unwrap_or m 0 ≤ at b.receipt.groups s.group
lowering s (refused n h) z = absurd (omega (arith, z))
lowering {b} {m} s (goes f) z = (line_done b m s f).covered

-- 49 with `-`: no group falls below zero
pub a_line_off_is_covered : (b : Books) (m : Option ℕ) (s : Sale) → (carried_out b m (Sell s)).number ≡ 0 → s.minus ≡ true
    → unwrap_or m 0 ≤ at b.receipt.groups s.group
a_line_off_is_covered b m s z = lowering s (taken b m (Sell s)) z

sharing : {b : Books} {m : Option ℕ} (a : Adjust) {d : Deed} → Step b m (Adjusts a) d → d.number ≡ 0 → SharedOut a b d.books
sharing a (refused n h) z = absurd (omega (arith, z))
sharing {b} {m} a (goes f) z =
    let r = b.receipt in
    let done = adjust_done b m a f in
    let free = free_tells r a done.permitted in
    let size = size_of r.total a in
    record {
      shares = the_shares_sum_up size r.total (at r.groups) free.0 (sum_tells r.groups r.total done.summed).1;
      groups = at_eight (sum_after a r.total (at r.groups));
      covered = λ less g lt. a_share_is_covered size r.total (at r.groups) free.0 (not_too_much r.total a done.fields free.1 less) g;
      total = total_by_size r.total a;
      summed = the_receipt_stays_summed r a done.fields done.permitted done.summed;
      lines = refl;
      unpaid = (refl, refl, refl);
      others = refl;
    }

-- 51 with a Percent or an Abs that is done, on any books
pub a_51_is_shared_out : (b : Books) (m : Option ℕ) (a : Adjust) → (deed_of b m (Adjusts a)).number ≡ 0 → SharedOut a b (deed_of b m (Adjusts a)).books
a_51_is_shared_out b m a z = sharing a (judging b m (Adjusts a)) z

serving : {b : Books} {m : Option ℕ} {v : View} {d : Deed} → (rule_of b m v).shows ≡ shown.InDrawer → Step b m v d → d.number ≡ 0 → d.shown ≡ shown.InDrawer
serving e (refused n h) z = absurd (omega (arith, z))
serving e (goes f) z = e

shows_drawer : (b : Books) (m : Option ℕ) (s : Service) → (rule_of b m (view_of (Drawer s))).shows ≡ shown.InDrawer
shows_drawer b m Report = refl
shows_drawer b m (In n) = refl
shows_drawer b m (Out n) = refl

-- 70: "Answers `P,Cash,In,Out`"
pub seventy_shows_the_drawer : (b : Books) (m : Option ℕ) (s : Service) → (carried_out b m (Drawer s)).number ≡ 0 → (carried_out b m (Drawer s)).shown ≡ shown.InDrawer
seventy_shows_the_drawer b m s z = serving (shows_drawer b m s) (taken b m (Drawer s)) z
