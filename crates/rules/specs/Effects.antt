-- PROTOCOL chapter 5, *Done*: what a command makes of the books, where it is more than one part of them changed.
use Rattle.std.specs.Prelude.{◌+◌, min, replicate}
use Rattle.kinds.specs.declared.Payment.{Payment}
use Rattle.receipt.specs.Receipts.{empty_receipt, paid_of}
use Rattle.receipt.specs.declared.Paid.{Paid}
use Rattle.books.specs.Books.{with_receipt, with_day, with_counters}
use Rattle.books.specs.Groups.{eight, at, sum}
use Rattle.books.specs.Registers.{raised_by}
use Rattle.books.specs.Sound.{with_receipt_of}
use Rattle.books.specs.declared.Books.{Books}
use Rattle.books.specs.declared.Opened.TheVariants as opened
use Rattle.rules.specs.Reasons.{owed, tendered}

-- PROTOCOL 5.3: an empty fiscal receipt is open; All and Fiscal go up by one
abbrev pub new_receipt : Books → Books
new_receipt b = with_counters (with_receipt b opened.Fiscal empty_receipt) (record { all = b.counters.all + 1; fiscal = b.counters.fiscal + 1 })

-- PROTOCOL 5.6: 53, with the lesser of amount and rest: the receipt has that much more paid, and cash or the register is raised by it
abbrev pub payment : Books → Payment → Paid
payment b p = paid_of b.receipt (owed b) (tendered b p)

abbrev pub paid_into : Books → Payment → Books
paid_into b p = raised_by (with_receipt b b.opened (payment b p).receipt) p.mode (min (tendered b p) (owed b))

-- PROTOCOL 5.7: the day sums take in the receipt's groups, and none is open
abbrev pub taken_in : Books → Books
taken_in b = with_receipt (with_day b (eight (with_receipt_of b))) opened.Nothing empty_receipt

-- PROTOCOL 5.9: a non-fiscal receipt is open; All goes up by one
abbrev pub new_text : Books → Books
new_text b = with_counters (with_receipt b opened.Text b.receipt) (record { all = b.counters.all + 1; fiscal = b.counters.fiscal })

-- PROTOCOL 5.13: FM takes in the day sums, the closings go up by one; then day sums, registers, All, Fiscal, In and Out are zero, and cash stays
abbrev pub cleared : Books → Books
cleared b =
    record {
      opened = b.opened;
      receipt = b.receipt;
      day = replicate 8 0;
      registers = replicate 4 0;
      drawer = record { cash = b.drawer.cash; put = 0; taken = 0 };
      counters = record { all = 0; fiscal = 0 };
      memory = record { closings = b.memory.closings + 1; total = b.memory.total + sum (eight (at b.day)) };
    }
