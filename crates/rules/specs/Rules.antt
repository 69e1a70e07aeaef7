-- PROTOCOL chapter 5, one rule a view, in the order of the rule book: *Refused* (the reasons for 1, 3 and 4), *Done* and *Answers*.
use Rattle.std.specs.Prelude.{ℕ, ◌+◌, ◌-◌, min, Bool, false, cond, not, ◌&&◌, ◌||◌, leb, ltb, Option}
use Rattle.kinds.specs.declared.Sale.{Sale}
use Rattle.sheet.specs.Sheet.{line_of}
use Rattle.sheet.specs.declared.Note.{Note}
use Rattle.sheet.specs.declared.Note.TheVariants as note
use Rattle.receipt.specs.Lines.{adjust_fits, fits}
use Rattle.receipt.specs.Receipts.{empty_receipt, amount_of, not_permitted, overflows, with_line, is_cash}
use Rattle.shares.specs.Receipts.{not_adjusted, adjust_over, with_adjust}
use Rattle.books.specs.Books.{text_open, any_open, with_receipt, with_drawer}
use Rattle.books.specs.Groups.{at}
use Rattle.books.specs.Rates.{rate_in, is_enabled}
use Rattle.books.specs.Registers.{register_of}
use Rattle.books.specs.Sound.{in_twelve, most_receipts}
use Rattle.books.specs.declared.Books.{Books}
use Rattle.books.specs.declared.Opened.TheVariants as opened
use Rattle.books.specs.declared.Shown.{Shown}
use Rattle.books.specs.declared.Shown.TheVariants as shown
use Rattle.rules.specs.declared.views.View.{View}
use Rattle.rules.specs.declared.views.View.TheVariants.{Opens, Sells, Adjusts, Pays, Closes, Cancels, OpensText, ClosesText, Clears, Puts, Takes, Asks}
use Rattle.rules.specs.Reasons.{is_price, tender_holds, full, day_over, memory_over, many_opened, none_open, unmet, owed, tendered}
use Rattle.rules.specs.Effects.{new_receipt, payment, paid_into, taken_in, new_text, cleared}

-- PROTOCOL 2.2: 1 goes before 3, and 3 before 4. DECISIONS 57: 1 is for numbers that no data gives
pub record Rule : Type 0 where
  pub one : Bool
  pub three : Bool
  pub four : Bool
  -- the books, and what is shown of them, where it is done
  pub after : Books
  pub shows : Shown
  -- and what it leaves in the sheet
  pub note : Note

-- PROTOCOL 5.4: the record that a line leaves; one that is taken off marks the line found
abbrev pub note_of : Sale → (amount : ℕ) → Note
note_of s amount = cond s.minus (note.TakesBack (line_of s amount)) (note.Adds (line_of s amount))

-- what the sheet says to it is asked only of a line
abbrev pub rule_of : Books → Option ℕ → View → Rule
-- PROTOCOL 5.3: 48, its password being right (5.20). For 3: a receipt of either kind open, All at 9999, the memory full. For 4 (8.7): Fiscal would pass its digits. The
-- sheet is emptied
rule_of b m Opens =
    record {
      one = false;
      three = any_open b.opened || many_opened b || full b;
      four = leb most_receipts b.counters.fiscal;
      after = new_receipt b;
      shows = shown.AllAndFiscal;
      note = note.Empties;
    }
-- PROTOCOL 5.4, 8.7: 49. For 3: none open, a 53 done, 512 lines, the group disabled, an Abs off above L, no line to take back, more taken off than the group
-- has. For 4: L, the finished line, the receipt's total, or the group's day sum with this receipt would be too large (8.2). The receipt and the sheet have one
-- line more
rule_of b m (Sells s) =
    record {
      one = not (fits s);
      three = none_open b || not_permitted b.receipt s m (is_enabled (rate_in b s.group));
      four = overflows b.receipt s m (at b.day s.group);
      after = with_receipt b b.opened (with_line b.receipt s m);
      shows = shown.Nothing;
      note = note_of s (amount_of s m);
    }
-- PROTOCOL 5.5, 8.7: 51 with a Percent or an Abs. For 3: none open, a 53 done, a total of zero, an Abs off above it. For 4: the total, or a group's day sum with
-- this receipt, would be too large (8.2). It is no line; it shows the sums afterwards
rule_of b m (Adjusts a) =
    record {
      one = not (adjust_fits false a);
      three = none_open b || not_adjusted b.receipt a;
      four = adjust_over b.receipt a b.day;
      after = with_receipt b b.opened (with_adjust b.receipt a);
      shows = shown.Subtotal;
      note = note.Nothing;
    }
-- PROTOCOL 5.6: 53. For 3: none open, paid in full, not cash and above the rest. For 4: the mode's register, or cash, would pass 12 digits; change is left
-- out. It shows what is left to pay, or the change
rule_of b m (Pays p) =
    record {
      one = not (tender_holds p.tender);
      three = none_open b || b.receipt.settled || not (is_cash p.mode) && ltb (owed b) (tendered b p);
      four = ltb 999999999999 (register_of b p.mode + min (tendered b p) (owed b));
      after = paid_into b p;
      shows = shown.Tendered (payment b p).full (payment b p).left;
      note = note.Nothing;
    }
-- PROTOCOL 5.7: 56. For 3: none open, or not paid in full. For 4 (8.7): a day sum would pass 12 digits
rule_of b m Closes =
    record {
      one = false;
      three = none_open b || not b.receipt.settled;
      four = day_over b;
      after = taken_in b;
      shows = shown.AllAndFiscal;
      note = note.Nothing;
    }
-- PROTOCOL 5.8: 60. None open, or a 53 done. None is open then, and what stood on it is gone; the counters stay
rule_of b m Cancels =
    record {
      one = false;
      three = none_open b || b.receipt.tried;
      four = false;
      after = with_receipt b opened.Nothing empty_receipt;
      shows = shown.Nothing;
      note = note.Nothing;
    }
-- PROTOCOL 5.9: 38. A receipt of either kind open, or All at 9999
rule_of b m OpensText =
    record { one = false; three = any_open b.opened || many_opened b; four = false; after = new_text b; shows = shown.All; note = note.Nothing }
-- PROTOCOL 5.11: 39. No non-fiscal receipt open. None is open then
rule_of b m ClosesText =
    record {
      one = false;
      three = not (text_open b.opened);
      four = false;
      after = with_receipt b opened.Nothing b.receipt;
      shows = shown.All;
      note = note.Nothing;
    }
-- PROTOCOL 5.13: 69 with `0`. For 3: a receipt of either kind open, or the memory full. For 4 (8.7): a day sum has more than 12 digits, or FM would pass 17.
-- It shows the closings made, FM and the day sums
rule_of b m Clears =
    record {
      one = false;
      three = any_open b.opened || full b;
      four = day_over b || memory_over b;
      after = cleared b;
      shows = shown.Closure;
      note = note.Nothing;
    }
-- PROTOCOL 5.14: 70 puts in. A receipt of either kind open; for 4, cash or In would pass 12 digits. Cash and In go up
rule_of b m (Puts n) =
    record {
      one = not (is_price n);
      three = any_open b.opened;
      four = not (in_twelve (b.drawer.cash + n)) || not (in_twelve (b.drawer.put + n));
      after = with_drawer b (record { cash = b.drawer.cash + n; put = b.drawer.put + n; taken = b.drawer.taken });
      shows = shown.InDrawer;
      note = note.Nothing;
    }
-- PROTOCOL 5.14: 70 takes out. A receipt of either kind open, or less in the drawer; for 4, Out would pass 12 digits. Cash goes down, Out up
rule_of b m (Takes n) =
    record {
      one = not (is_price n);
      three = any_open b.opened || ltb b.drawer.cash n;
      four = not (in_twelve (b.drawer.taken + n));
      after = with_drawer b (record { cash = b.drawer.cash - n; put = b.drawer.put; taken = b.drawer.taken + n });
      shows = shown.InDrawer;
      note = note.Nothing;
    }
-- PROTOCOL 5.2: a command that only asks; the books stay
rule_of b m (Asks when shown) = record { one = false; three = unmet b when; four = false; after = b; shows = shown; note = note.Nothing }
