-- PROTOCOL 8.3 and 8.4: the books of a fresh device, and books with a part of them changed.
use Rattle.std.specs.Prelude.{ℕ, Bool, true, false, List, replicate}
use Rattle.receipt.specs.Receipts.{empty_receipt}
use Rattle.receipt.specs.declared.Receipt.{Receipt}
use Rattle.books.specs.declared.Books.{Books}
use Rattle.books.specs.declared.Counters.{Counters}
use Rattle.books.specs.declared.Drawer.{Drawer}
use Rattle.books.specs.declared.Opened.{Opened}
use Rattle.books.specs.declared.Opened.TheVariants.{Nothing, Fiscal, Text}

-- PROTOCOL 8.4: all sums and counters zero, no receipt open
abbrev pub fresh_books : Books
fresh_books =
    record {
      opened = Nothing;
      receipt = empty_receipt;
      day = replicate 8 0;
      registers = replicate 4 0;
      drawer = record { cash = 0; put = 0; taken = 0 };
      counters = record { all = 0; fiscal = 0 };
      memory = record { closings = 0; total = 0 };
    }

-- PROTOCOL 5.2: which receipt is open: a fiscal one, a non-fiscal one, one of either kind
abbrev pub fiscal_open : Opened → Bool
fiscal_open Nothing = false
fiscal_open Fiscal = true
fiscal_open Text = false

abbrev pub text_open : Opened → Bool
text_open Nothing = false
text_open Fiscal = false
text_open Text = true

abbrev pub any_open : Opened → Bool
any_open Nothing = false
any_open Fiscal = true
any_open Text = true

-- one part changed, all others as they were
module _ (b : Books) where
  abbrev pub with_receipt : Opened → Receipt → Books
  with_receipt o r =
      record { opened = o; receipt = r; day = b.day; registers = b.registers; drawer = b.drawer; counters = b.counters; memory = b.memory }

  abbrev pub with_day : List ℕ → Books
  with_day sums =
      record { opened = b.opened; receipt = b.receipt; day = sums; registers = b.registers; drawer = b.drawer; counters = b.counters; memory = b.memory }

  abbrev pub with_registers : List ℕ → Books
  with_registers r =
      record { opened = b.opened; receipt = b.receipt; day = b.day; registers = r; drawer = b.drawer; counters = b.counters; memory = b.memory }

  abbrev pub with_drawer : Drawer → Books
  with_drawer d =
      record { opened = b.opened; receipt = b.receipt; day = b.day; registers = b.registers; drawer = d; counters = b.counters; memory = b.memory }

  abbrev pub with_counters : Counters → Books
  with_counters c =
      record { opened = b.opened; receipt = b.receipt; day = b.day; registers = b.registers; drawer = b.drawer; counters = c; memory = b.memory }
