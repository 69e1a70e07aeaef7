-- PROTOCOL chapter 5, *Refused*: why a command is refused. Of each view the first of the tests of its rule that holds (`rule_of`, rules/specs/Rules.antt),
-- in the order of the rule book's sentences; `Done` where none does.
use Rattle.std.specs.Prelude.{ℕ, ◌+◌, min, false, cond, not, ◌&&◌, leb, ltb, eqb, Option, Ok, Err}
use Rattle.text.specs.Parts.{every}
use Rattle.guard.specs.Guard.{trial_of, verdict_of}
use Rattle.guard.specs.declared.Guard.{Guard}
use Rattle.guard.specs.declared.Verdict.{Verdict}
use Rattle.guard.specs.declared.Verdict.TheVariants as verdict
use Rattle.kinds.specs.declared.Adjust.{Adjust}
use Rattle.kinds.specs.declared.Command.{Command}
use Rattle.kinds.specs.Fields.{Parsed}
use Rattle.kinds.specs.declared.Unread.TheVariants as unread
use Rattle.kinds.specs.declared.Payment.{Payment}
use Rattle.receipt.specs.Lines.{finished_of, too_much_off, adjust_fits}
use Rattle.receipt.specs.Receipts.{is_cash}
use Rattle.shares.specs.Shares.{sum_after}
use Rattle.shares.specs.Receipts.{is_sum}
use Rattle.books.specs.Books.{text_open, any_open}
use Rattle.books.specs.Groups.{eight, at}
use Rattle.books.specs.Registers.{register_of}
use Rattle.books.specs.Sound.{in_twelve, most_receipts}
use Rattle.books.specs.declared.Books.{Books}
use Rattle.rules.specs.Reasons.{is_price, tender_holds, full, day_over, memory_over, many_opened, none_open, owed, tendered}
use Rattle.rules.specs.Views.{view_of}
use Rattle.rules.specs.declared.views.View.{View}
use Rattle.rules.specs.declared.views.View.TheVariants.{Opens, Sells, Adjusts, Pays, Closes, Cancels, OpensText, ClosesText, Clears, Puts, Takes, Asks}
use Rattle.rules.specs.declared.views.When.{When}
use Rattle.rules.specs.declared.views.When.TheVariants.{Always, FiscalIsOpen, TextIsOpen, NoneIsOpen}
use Rattle.reasons.specs.Lines.{against_sells}
use Rattle.reasons.specs.declared.Reason.{Reason}
use Rattle.reasons.specs.declared.Reason.TheVariants.{Done, Syntax, OutOfRange, Unknown, WrongPassword, Locked, ReceiptOpen, ManyReceipts, MemoryFull, NoFiscal, PaymentDone, NoTotal, OffAboveTotal, PaidInFull, AboveRest, NotPaid, NoText, LittleCash, ManyFiscal, NotTheSum, TotalOver, GroupOver, RegisterOver, DayOver, MemoryOver, CashOver, InOver, OutOver}

-- PROTOCOL 5.3: 48, its password being right
abbrev pub against_opens : Books → Reason
against_opens b =
    cond (any_open b.opened) ReceiptOpen
    (cond (many_opened b) ManyReceipts
    (cond (full b) MemoryFull
    (cond (leb most_receipts b.counters.fiscal) ManyFiscal
    Done)))

-- PROTOCOL 5.5: 51 with a Percent or an Abs. A total that is not the sum of its groups is out of reach (8.7)
abbrev pub against_adjusts : Books → Adjust → Reason
against_adjusts b a =
    cond (not (adjust_fits false a)) OutOfRange
    (cond (none_open b) NoFiscal
    (cond b.receipt.tried PaymentDone
    (cond (eqb b.receipt.total 0) NoTotal
    (cond (too_much_off b.receipt.total a) OffAboveTotal
    (cond (not (is_sum b.receipt.groups b.receipt.total)) NotTheSum
    (cond (ltb 9999999999 (finished_of b.receipt.total a)) TotalOver
    (cond (not (every in_twelve (eight (λ g. at b.day g + sum_after a b.receipt.total (at b.receipt.groups) g)))) GroupOver
    Done)))))))

-- PROTOCOL 5.6: 53
abbrev pub against_pays : Books → Payment → Reason
against_pays b p =
    cond (not (tender_holds p.tender)) OutOfRange
    (cond (none_open b) NoFiscal
    (cond b.receipt.settled PaidInFull
    (cond (not (is_cash p.mode) && ltb (owed b) (tendered b p)) AboveRest
    (cond (ltb 999999999999 (register_of b p.mode + min (tendered b p) (owed b))) RegisterOver
    Done))))

-- PROTOCOL 5.7: 56
abbrev pub against_closes : Books → Reason
against_closes b = cond (none_open b) NoFiscal (cond (not b.receipt.settled) NotPaid (cond (day_over b) DayOver Done))

-- PROTOCOL 5.8: 60
abbrev pub against_cancels : Books → Reason
against_cancels b = cond (none_open b) NoFiscal (cond b.receipt.tried PaymentDone Done)

-- PROTOCOL 5.9: 38
abbrev pub against_opens_text : Books → Reason
against_opens_text b = cond (any_open b.opened) ReceiptOpen (cond (many_opened b) ManyReceipts Done)

-- PROTOCOL 5.11: 39
abbrev pub against_closes_text : Books → Reason
against_closes_text b = cond (not (text_open b.opened)) NoText Done

-- PROTOCOL 5.13: 69 with `0`
abbrev pub against_clears : Books → Reason
against_clears b =
    cond (any_open b.opened) ReceiptOpen
    (cond (full b) MemoryFull
    (cond (day_over b) DayOver
    (cond (memory_over b) MemoryOver
    Done)))

-- PROTOCOL 5.14: 70 puts in
abbrev pub against_puts : Books → ℕ → Reason
against_puts b n =
    cond (not (is_price n)) OutOfRange
    (cond (any_open b.opened) ReceiptOpen
    (cond (not (in_twelve (b.drawer.cash + n))) CashOver
    (cond (not (in_twelve (b.drawer.put + n))) InOver
    Done)))

-- PROTOCOL 5.14: 70 takes out
abbrev pub against_takes : Books → ℕ → Reason
against_takes b n =
    cond (not (is_price n)) OutOfRange
    (cond (any_open b.opened) ReceiptOpen
    (cond (ltb b.drawer.cash n) LittleCash
    (cond (not (in_twelve (b.drawer.taken + n))) OutOver
    Done)))

-- PROTOCOL 5.2: a command that only asks
abbrev pub against_asks : Books → When → Reason
against_asks b Always = Done
against_asks b FiscalIsOpen = cond (none_open b) NoFiscal Done
against_asks b TextIsOpen = cond (not (text_open b.opened)) NoText Done
against_asks b NoneIsOpen = cond (any_open b.opened) ReceiptOpen Done

abbrev pub against_view : Books → Option ℕ → View → Reason
against_view b m Opens = against_opens b
against_view b m (Sells s) = against_sells b m s
against_view b m (Adjusts a) = against_adjusts b a
against_view b m (Pays p) = against_pays b p
against_view b m Closes = against_closes b
against_view b m Cancels = against_cancels b
against_view b m OpensText = against_opens_text b
against_view b m ClosesText = against_closes_text b
against_view b m Clears = against_clears b
against_view b m (Puts n) = against_puts b n
against_view b m (Takes n) = against_takes b n
against_view b m (Asks when shown) = against_asks b when

-- PROTOCOL 5.20: the guard's reason goes before those of the books
abbrev pub against_verdict : Verdict → Books → Option ℕ → View → Reason
against_verdict verdict.Free b m v = against_view b m v
against_verdict verdict.Right b m v = against_view b m v
against_verdict verdict.Wrong b m v = WrongPassword
against_verdict verdict.Locked b m v = Locked

abbrev pub against_command : Guard → Books → Option ℕ → Command → Reason
against_command g b m c = against_verdict (verdict_of g (trial_of c)) b m (view_of c)

-- PROTOCOL 2.2: 2 and 1 are told before guard, books and sheet are asked
abbrev pub reason_of : Guard → Books → Option ℕ → Parsed → Reason
reason_of g b m (Ok c) = against_command g b m c
reason_of g b m (Err unread.Syntax) = Syntax
reason_of g b m (Err unread.Unknown) = Unknown
