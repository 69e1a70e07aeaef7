-- Cash, receipt, day and memory, and the lines in the sheet, follow the whole history: all agree with it after one command more.
use mathlib.Core.Path.{◌≡◌, refl, sym, ◌∙◌}
use mathlib.Core.Bool.{Bool, cond}
use mathlib.Core.List.{List, [], ◌∷◌}
use Prim.Native.Nat.{ℕ, zero, suc, ◌≤◌, ◌<◌}
use native.Mathlib.Omega.{arith}
use lib.ListN.{length}
use lib.Seq.{ext_get_or}
use Rattle.kinds.specs.declared.Command.{Command}
use Rattle.kinds.specs.declared.Mode.{Mode}
use Rattle.kinds.specs.declared.Mode.TheVariants.{N, C, D, B}
use Rattle.books.specs.Groups.{at}
use Rattle.books.specs.Registers.{place}
use Rattle.books.specs.declared.Books.{Books}
use Rattle.books.specs.declared.Counters.{Counters}
use Rattle.books.specs.declared.Drawer.{Drawer}
use Rattle.books.specs.declared.Memory.{Memory}
use Rattle.books.specs.declared.Opened.{Opened}
use Rattle.books.specs.declared.Shown.TheVariants.{Nothing}
use Rattle.books.proofs.Sounding.{zeros}
use Rattle.sheet.proofs.Noting.{noted_length}
use Rattle.sheet.specs.declared.Line.{Line}
use Rattle.receipt.specs.declared.Receipt.{Receipt}
use Rattle.rules.specs.Views.{view_of}
use Rattle.rules.specs.declared.views.View.{View}
use Rattle.rules.specs.declared.views.View.TheVariants.{Asks}
use Rattle.rules.specs.declared.views.When.TheVariants.{Always}
use Rattle.store.specs.Store.{Store, fresh_store, with_guard}
use Rattle.store.specs.Commands.{place_for, match_for, deed_on, left_by, left_on}
use Rattle.deeds.specs.Deeds.{refused_with}
use Rattle.deeds.specs.declared.Deed.{Deed}
use Rattle.guard.specs.declared.Guard.{Guard}
use Rattle.answers.specs.Contents.{content_of}
use Rattle.history.specs.Agrees.{Says, Agrees, told_books, LeadsTo, fresh, next, barred, guarded}
use Rattle.history.specs.Digits.{Given}
use Rattle.history.specs.Entries.{Entry, entry_of, is_done, did_of}
use Rattle.history.specs.History.{receipt_total, paid_sum, receipt_after, figures_of, after}
use Rattle.history.specs.Reached.{Reached}
use Rattle.history.specs.Sold.{Holds}
use Rattle.history.proofs.Lists.{eight_at, same_eight}
use Rattle.history.proofs.Agreeing.{agreeing, no_registers, new_receipt_lem}
use Rattle.history.proofs.Digits.{left_fits}
use Rattle.history.proofs.Reaching.{fresh_reached, reached_stays}
use Rattle.history.proofs.Sheets.{match_for_lem, sheet_kept, count_kept}
use Rattle.history.proofs.Steps.{Step, refused, goes, taken}

-- one command more
more : (es : List Entry) (s : Store) (h : Agrees es s) (k : Reached s.books) (v : View) → Given v → {d : Deed} → Step s.books (match_for s v) v d
    → Says (after (cond (is_done d.number) v (Asks Always Nothing)) (content_of d.shown s.books.day d.books) (figures_of es)) d.books
more es s h k v i (refused n l) = h.books
more es s h k v i (goes free) =
    agreeing (figures_of es) s.books h.books k (match_for s v) v (match_for_lem es s k h v) free (left_fits s.books k (match_for s v) v i)

more_lines : (es : List Entry) (s : Store) (h : Agrees es s) (k : Reached s.books) (v : View) (shown : List ℕ) {d : Deed} → Step s.books (match_for s v) v d
    → Holds (left_by s (place_for s v) d).sheet (receipt_after (cond (is_done d.number) v (Asks Always Nothing)) shown (figures_of es).receipt).sold
more_lines es s h k v shown (refused n l) = h.lines
more_lines es s h k v shown (goes free) = sheet_kept es s k h v shown free

-- from any past in agreement, by any command as data gives it
pub agreement_stays : (es : List Entry) (s : Store) (c : Command) → Reached s.books → Given (view_of c) → Agrees es s
    → Agrees (entry_of s.books c (deed_on s (view_of c)) ∷ es) (left_on s (view_of c))
agreement_stays es s c k i h =
    let v = view_of c in
    let e = entry_of s.books c (deed_on s v) in
    let step = taken s.books (match_for s v) c in
    record {
      books = more es s h k v i step;
      lines = more_lines es s h k v e.shown step;
      count = count_kept (figures_of es).receipt h.count (did_of e) e.shown;
      room = omega (arith, h.room, noted_length (deed_on s v).note s.sheet (place_for s v) s.books.receipt.lines);
    }

pub fresh_agrees : (sheet : List Line) → 512 ≤ length sheet → Agrees [] (fresh_store sheet)
fresh_agrees sheet room =
    record {
      books = record {
        opened = refl;
        receipt = new_receipt_lem;
        day = λ g lt. zeros g;
        registers = no_registers;
        drawer = record { cash = refl; covered = omega arith; put = refl; taken = refl };
        counters = refl;
        memory = refl;
      };
      lines = tt;
      count = refl;
      room = room;
    }

-- so in every history of a fresh device
pub history_reached : {es : List Entry} {s : Store} → LeadsTo es s → Reached s.books
history_reached (fresh sheet room) = fresh_reached
history_reached (next {es} {s} c given past) = reached_stays s.books (match_for s (view_of c)) c (history_reached past)
history_reached (barred c past) = history_reached past
history_reached (guarded g past) = history_reached past

-- a refusal counts for nothing, and the guard is no figure
pub barred_agrees : (es : List Entry) (s : Store) (c : Command) → Agrees es s → Agrees (entry_of s.books c (refused_with 3 s.books) ∷ es) s
barred_agrees es s c h = record { books = h.books; lines = h.lines; count = h.count; room = h.room }

pub guarded_agrees : (es : List Entry) (s : Store) (g : Guard) → Agrees es s → Agrees es (with_guard s g)
guarded_agrees es s g h = record { books = h.books; lines = h.lines; count = h.count; room = h.room }

pub history_agrees : {es : List Entry} {s : Store} → LeadsTo es s → Agrees es s
history_agrees (fresh sheet room) = fresh_agrees sheet room
history_agrees (next {es} {s} c given past) = agreement_stays es s c (history_reached past) given (history_agrees past)
history_agrees (barred {es} {s} c past) = barred_agrees es s c (history_agrees past)
history_agrees (guarded {es} {s} g past) = guarded_agrees es s g (history_agrees past)

-- what is due is never cut off at zero
pub never_overpaid : (es : List Entry) (s : Store) → Reached s.books → Agrees es s → paid_sum es ≤ receipt_total es
never_overpaid es s k h = omega (arith, h.books.receipt.paid, h.books.receipt.total, k.receipt.not_overpaid)

-- four places are all of a list of four
four_told : (l : List ℕ) → length l ≡ 4 → (t : Mode → ℕ) → ((m : Mode) → place m < 4 → at l (place m) ≡ t m) → l ≡ t N ∷ t C ∷ t D ∷ t B ∷ []
four_told l e t h = ext_get_or 0 l (t N ∷ t C ∷ t D ∷ t B ∷ []) e each
  where
    each : (i : ℕ) → i < length l → at l i ≡ at (t N ∷ t C ∷ t D ∷ t B ∷ []) i
    each zero lt = h N (omega arith)
    each (suc zero) lt = h C (omega arith)
    each (suc (suc zero)) lt = h D (omega arith)
    each (suc (suc (suc zero))) lt = h B (omega arith)
    each (suc (suc (suc (suc i)))) lt = absurd (omega (arith, e))

-- a record is its fields
same_receipt_lem : (r : Receipt) {groups : List ℕ} {total lines paid : ℕ} {tried settled : Bool} → r.groups ≡ groups → r.total ≡ total → r.lines ≡ lines → r.paid ≡ paid
    → r.tried ≡ tried → r.settled ≡ settled → r ≡ record { groups = groups; total = total; lines = lines; paid = paid; tried = tried; settled = settled }
same_receipt_lem r e1 e2 e3 e4 e5 e6 = rw (sym e1, sym e2, sym e3, sym e4, sym e5, sym e6)

same_drawer : (d : Drawer) {cash put taken : ℕ} → d.cash ≡ cash → d.put ≡ put → d.taken ≡ taken → d ≡ record { cash = cash; put = put; taken = taken }
same_drawer d e1 e2 e3 = rw (sym e1, sym e2, sym e3)

same_books : (b : Books) {o : Opened} {r : Receipt} {day registers : List ℕ} {d : Drawer} {c : Counters} {m : Memory}
    → b.opened ≡ o → b.receipt ≡ r → b.day ≡ day → b.registers ≡ registers → b.drawer ≡ d → b.counters ≡ c → b.memory ≡ m
    → b ≡ record { opened = o; receipt = r; day = day; registers = registers; drawer = d; counters = c; memory = m }
same_books b e1 e2 e3 e4 e5 e6 e7 = rw (sym e1, sym e2, sym e3, sym e4, sym e5, sym e6, sym e7)

-- so the entries alone tell the books
books_told : (es : List Entry) (b : Books) → Reached b → Says (figures_of es) b → b ≡ told_books es
books_told es b k h =
    let f = figures_of es in
    let r = h.receipt in
    let d = h.drawer in
    let groups = sym (eight_at b.receipt.groups k.receipt.eight_groups) ∙ same_eight (at b.receipt.groups) f.receipt.sums r.groups in
    let day = sym (eight_at b.day k.eight_sums) ∙ same_eight (at b.day) f.day h.day in
    same_books b h.opened (same_receipt_lem b.receipt groups r.total r.lines r.paid r.tried r.settled) day
    (four_told b.registers k.four_registers f.registers h.registers) (same_drawer b.drawer d.cash d.put d.taken) h.counters h.memory

pub agreed_is_told : (es : List Entry) (s : Store) → Reached s.books → Agrees es s → s.books ≡ told_books es
agreed_is_told es s k h = books_told es s.books k h.books
