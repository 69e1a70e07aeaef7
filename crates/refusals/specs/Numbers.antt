-- PROTOCOL 2.1: the reply number of each reason.
use Rattle.std.specs.Prelude.{ℕ}
use Rattle.reasons.specs.declared.Reason.{Reason}
use Rattle.reasons.specs.declared.Reason.TheVariants.{Done, Syntax, OutOfRange, Unknown, WrongPassword, Locked, ReceiptOpen, ManyReceipts, MemoryFull, NoFiscal, PaymentDone, ManyLines, GroupDisabled, OffAboveLine, NoLineBack, OffAboveGroup, NoTotal, OffAboveTotal, PaidInFull, AboveRest, NotPaid, NoText, LittleCash, ManyFiscal, LineOver, FinishedOver, NotTheSum, TotalOver, GroupOver, RegisterOver, DayOver, MemoryOver, CashOver, InOver, OutOver}

abbrev pub reason_number : Reason → ℕ
reason_number Done = 0
-- syntax, and numbers that no data gives (8.7)
reason_number Syntax = 1
reason_number OutOfRange = 1
reason_number Unknown = 2
-- not permitted now
reason_number WrongPassword = 3
reason_number Locked = 3
reason_number ReceiptOpen = 3
reason_number ManyReceipts = 3
reason_number MemoryFull = 3
reason_number NoFiscal = 3
reason_number PaymentDone = 3
reason_number ManyLines = 3
reason_number GroupDisabled = 3
reason_number OffAboveLine = 3
reason_number NoLineBack = 3
reason_number OffAboveGroup = 3
reason_number NoTotal = 3
reason_number OffAboveTotal = 3
reason_number PaidInFull = 3
reason_number AboveRest = 3
reason_number NotPaid = 3
reason_number NoText = 3
reason_number LittleCash = 3
-- overflow of a sum
reason_number ManyFiscal = 4
reason_number LineOver = 4
reason_number FinishedOver = 4
reason_number NotTheSum = 4
reason_number TotalOver = 4
reason_number GroupOver = 4
reason_number RegisterOver = 4
reason_number DayOver = 4
reason_number MemoryOver = 4
reason_number CashOver = 4
reason_number InOver = 4
reason_number OutOver = 4
