-- The books say what the history comes to: each figure of PROTOCOL 8.3, and all of them at once.
use Rattle.std.specs.Prelude.{ℕ, ◌-◌, ◌≤◌, ◌<◌, ◌≡◌, List, [], ◌∷◌, length}
use Rattle.kinds.specs.declared.Command.{Command}
use Rattle.kinds.specs.declared.Mode.{Mode}
use Rattle.kinds.specs.declared.Mode.TheVariants.{N, C, D, B}
use Rattle.books.specs.Groups.{eight, at}
use Rattle.books.specs.Registers.{place}
use Rattle.books.specs.declared.Books.{Books}
use Rattle.books.specs.declared.Drawer.{Drawer}
use Rattle.sheet.specs.declared.Line.{Line}
use Rattle.receipt.specs.declared.Receipt.{Receipt}
use Rattle.rules.specs.Views.{view_of}
use Rattle.store.specs.Commands.{deed_on, left_on}
use Rattle.guard.specs.declared.Guard.{Guard}
use Rattle.deeds.specs.Deeds.{refused_with}
use Rattle.store.specs.Store.{Store, fresh_store, with_guard}
use Rattle.history.specs.Digits.{Given}
use Rattle.history.specs.Entries.{Entry, entry_of}
use Rattle.history.specs.Sold.{Holds}
use Rattle.history.specs.History.{ReceiptTold, DrawerTold, Figures, total_in, due_in, figures_of}

-- PROTOCOL 8.3: the fiscal receipt, its eight groups from 0
pub record ReceiptAgrees (t : ReceiptTold) (r : Receipt) : Type 0 where
  pub groups : (g : ℕ) → g < 8 → at r.groups g ≡ t.sums g
  pub total : r.total ≡ total_in t
  pub lines : r.lines ≡ t.lines
  pub paid : r.paid ≡ t.paid
  pub rest : r.total - r.paid ≡ due_in t
  pub tried : r.tried ≡ t.tried
  pub settled : r.settled ≡ t.settled

-- PROTOCOL 6.7, demand 2: cash is all that was put in less all that was taken out, over the whole history
pub record DrawerAgrees (t : DrawerTold) (d : Drawer) : Type 0 where
  pub cash : d.cash ≡ t.all_in - t.all_out
  pub covered : t.all_out ≤ t.all_in
  pub put : d.put ≡ t.put
  pub taken : d.taken ≡ t.taken

-- PROTOCOL 8.3: all parts of the books, the registers by their modes
pub record Says (f : Figures) (books : Books) : Type 0 where
  pub opened : books.opened ≡ f.opened
  pub receipt : ReceiptAgrees f.receipt books.receipt
  pub day : (g : ℕ) → g < 8 → at books.day g ≡ f.day g
  pub registers : (m : Mode) → place m < 4 → at books.registers (place m) ≡ f.registers m
  pub drawer : DrawerAgrees f.drawer books.drawer
  pub counters : books.counters ≡ f.counters
  pub memory : books.memory ≡ f.memory

-- PROTOCOL 8.3, 8.8: what a device remembers: its books, and in a sheet of 512 lines or more those of the open receipt
pub record Agrees (es : List Entry) (s : Store) : Type 0 where
  pub books : Says (figures_of es) s.books
  pub lines : Holds s.sheet (figures_of es).receipt.sold
  pub count : length (figures_of es).receipt.sold ≡ (figures_of es).receipt.lines
  pub room : 512 ≤ length s.sheet

-- PROTOCOL 8.3: the books as the entries alone tell them, no field left out
abbrev pub books_by : Figures → Books
books_by f =
    record {
      opened = f.opened;
      receipt = record {
        groups = eight f.receipt.sums;
        total = total_in f.receipt;
        lines = f.receipt.lines;
        paid = f.receipt.paid;
        tried = f.receipt.tried;
        settled = f.receipt.settled;
      };
      day = eight f.day;
      registers = f.registers N ∷ f.registers C ∷ f.registers D ∷ f.registers B ∷ [];
      drawer = record { cash = f.drawer.all_in - f.drawer.all_out; put = f.drawer.put; taken = f.drawer.taken };
      counters = f.counters;
      memory = f.memory;
    }

abbrev pub told_books : List Entry → Books
told_books es = books_by (figures_of es)

-- PROTOCOL 8.4, 8.8: the entries of a fresh device, and what it remembers then
pub data LeadsTo : List Entry → Store → Type 0 where
  fresh : (sheet : List Line) → 512 ≤ length sheet → LeadsTo [] (fresh_store sheet)
  next : {es : List Entry} {s : Store} (c : Command) → Given (view_of c) → LeadsTo es s
      → LeadsTo (entry_of s.books c (deed_on s (view_of c)) ∷ es) (left_on s (view_of c))
  -- PROTOCOL 5.20: a command that the guard does not let pass is 3
  barred : {es : List Entry} {s : Store} (c : Command) → LeadsTo es s → LeadsTo (entry_of s.books c (refused_with 3 s.books) ∷ es) s
  -- PROTOCOL 5.20, 8.9: whatever becomes of the guard, with a command or by switching on anew: what is told here does not rest on it
  guarded : {es : List Entry} {s : Store} (g : Guard) → LeadsTo es s → LeadsTo es (with_guard s g)
