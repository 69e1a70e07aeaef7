-- The words for commands, replies, reasons and status bits.
use Rattle.std.specs.Prelude.{ℕ, ◌+◌, ◌*◌, cond, ◌&&◌, List, [], ◌∷◌, ltb, get_or}
use Rattle.text.specs.Parts.{first_at}
use Rattle.reasons.specs.declared.Reason.{Reason}
use Rattle.reasons.specs.declared.Reason.TheVariants.{Done, Syntax, OutOfRange, Unknown, WrongPassword, Locked, ReceiptOpen, ManyReceipts, MemoryFull, NoFiscal, PaymentDone, ManyLines, GroupDisabled, OffAboveLine, NoLineBack, OffAboveGroup, NoTotal, OffAboveTotal, PaidInFull, AboveRest, NotPaid, NoText, LittleCash, ManyFiscal, LineOver, FinishedOver, NotTheSum, TotalOver, GroupOver, RegisterOver, DayOver, MemoryOver, CashOver, InOver, OutOver}
use Rattle.letters.specs.Letters.{bytes}

-- PROTOCOL 5.1: the seventeen codes, what each is called, and the word for every other code
abbrev pub codes : List ℕ
codes = 38 ∷ 39 ∷ 42 ∷ 48 ∷ 49 ∷ 51 ∷ 53 ∷ 56 ∷ 60 ∷ 65 ∷ 69 ∷ 70 ∷ 74 ∷ 97 ∷ 100 ∷ 101 ∷ 102 ∷ []

abbrev pub command_words : List (List ℕ)
command_words =
    bytes "open a non-fiscal receipt"
    ∷ bytes "close the non-fiscal receipt"
    ∷ bytes "a line of text"
    ∷ bytes "open a fiscal receipt"
    ∷ bytes "a sale"
    ∷ bytes "subtotal"
    ∷ bytes "total"
    ∷ bytes "close the fiscal receipt"
    ∷ bytes "cancel the fiscal receipt"
    ∷ bytes "sums of the day"
    ∷ bytes "the closing"
    ∷ bytes "the drawer"
    ∷ bytes "status"
    ∷ bytes "rates"
    ∷ bytes "a text for the display"
    ∷ bytes "change a password"
    ∷ bytes "change a name"
    ∷ bytes "unknown command"
    ∷ []

abbrev pub command_word : ℕ → List ℕ
command_word code = get_or command_words (first_at code codes) []

-- PROTOCOL 2.1: the ten numbers, from 0
abbrev pub reply_words : List (List ℕ)
reply_words =
    bytes "done"
    ∷ bytes "syntax"
    ∷ bytes "unknown command"
    ∷ bytes "not permitted now"
    ∷ bytes "overflow of a sum"
    ∷ bytes "broken frame"
    ∷ bytes "repeat"
    ∷ bytes "too little is lent"
    ∷ bytes "cannot be sent"
    ∷ bytes "Unfinished"
    ∷ []

abbrev pub reply_word : ℕ → List ℕ
reply_word number = get_or reply_words number []

-- PROTOCOL 2.1, chapter 5: each reason, in the words of its *Refused* sentence
abbrev pub reason_word : Reason → List ℕ
reason_word Done = bytes "done"
reason_word Syntax = bytes "the data is not of the command's form"
reason_word OutOfRange = bytes "a number that no data gives"
reason_word Unknown = bytes "there is no such command"
reason_word WrongPassword = bytes "the password is wrong"
reason_word Locked = bytes "three wrong passwords have locked the device"
reason_word ReceiptOpen = bytes "a receipt is open"
reason_word ManyReceipts = bytes "9999 receipts were opened since the last closing"
reason_word MemoryFull = bytes "the memory is full: 1825 closings are made"
reason_word NoFiscal = bytes "no fiscal receipt is open"
reason_word PaymentDone = bytes "a 53 has been done on this receipt"
reason_word ManyLines = bytes "the receipt has 512 lines already"
reason_word GroupDisabled = bytes "the group is disabled"
reason_word OffAboveLine = bytes "the amount taken off is above the line"
reason_word NoLineBack = bytes "there is no such line to take back"
reason_word OffAboveGroup = bytes "the line taken back is above what its group has"
reason_word NoTotal = bytes "the receipt's total is zero"
reason_word OffAboveTotal = bytes "the amount taken off is above the total"
reason_word PaidInFull = bytes "the receipt is paid in full"
reason_word AboveRest = bytes "it is not cash, and above the rest"
reason_word NotPaid = bytes "the receipt is not paid in full"
reason_word NoText = bytes "no non-fiscal receipt is open"
reason_word LittleCash = bytes "there is less than that in the drawer"
reason_word ManyFiscal = bytes "Fiscal would pass its four digits"
reason_word LineOver = bytes "price times quantity is above 999999.99"
reason_word FinishedOver = bytes "the finished line is above 999999.99"
reason_word NotTheSum = bytes "the total is not the sum of its groups, or passes ten digits"
reason_word TotalOver = bytes "the receipt's total would pass ten digits"
reason_word GroupOver = bytes "the group's day sum would pass twelve digits"
reason_word RegisterOver = bytes "cash, or the mode's register, would pass twelve digits"
reason_word DayOver = bytes "a day sum would pass twelve digits"
reason_word MemoryOver = bytes "FM would pass seventeen digits"
reason_word CashOver = bytes "cash would pass twelve digits"
reason_word InOver = bytes "In would pass twelve digits"
reason_word OutOver = bytes "Out would pass twelve digits"

-- PROTOCOL 3.1: what each bit says that is set, from bit 0 to bit 7, of bytes 0 to 5; nothing of a bit that is always 0
abbrev pub status_words : List (List ℕ)
status_words =
    bytes "this command: syntax" ∷ bytes "this command: unknown" ∷ [] ∷ [] ∷ [] ∷ bytes "this command was refused" ∷ [] ∷ bytes "always"
    ∷ bytes "this command: overflow of a sum" ∷ bytes "this command: not permitted, or overflow" ∷ [] ∷ [] ∷ [] ∷ [] ∷ [] ∷ bytes "always"
    ∷ [] ∷ [] ∷ [] ∷ bytes "a fiscal receipt is open" ∷ [] ∷ bytes "a non-fiscal receipt is open" ∷ [] ∷ bytes "always"
    ∷ [] ∷ [] ∷ [] ∷ [] ∷ [] ∷ [] ∷ [] ∷ bytes "always"
    ∷ [] ∷ bytes "always" ∷ bytes "always" ∷ bytes "at most 50 closings are free" ∷ bytes "no closing is free" ∷ bytes "no closing is free" ∷ [] ∷ bytes "always"
    ∷ [] ∷ bytes "always" ∷ [] ∷ bytes "always" ∷ bytes "always" ∷ [] ∷ [] ∷ bytes "always"
    ∷ []

abbrev pub status_word : (byte bit : ℕ) → List ℕ
status_word byte bit = cond (ltb bit 8 && ltb byte 6) (get_or status_words (byte * 8 + bit) []) []
