-- Every word has room in a text by value, and is read back from it.
use Rattle.std.proofs.lemmas.Bool.{and_parts}
use Prim.Native.Nat.{ℕ, zero, suc, ◌+◌, ◌*◌, ◌≤◌, min}
use mathlib.Core.Path.{◌≡◌, refl}
use mathlib.Core.Bool.{Bool, true, false, cond, ◌&&◌}
use mathlib.Core.List.{List, [], ◌∷◌}
use native.Mathlib.Omega.{arith}
use lib.Dec.{leb, ltb, eqb}
use lib.ListN.{length, take, drop, get_or, replicate, length-replicate}
use lib.Seq.{sets, sets-eq, take-append_seam}
use borrow.Author.Tests.{leb-true}
use Rattle.text.specs.Parts.{first_at}
use Rattle.reasons.specs.declared.Reason.{Reason}
use Rattle.reasons.specs.declared.Reason.TheVariants.{Done, Syntax, OutOfRange, Unknown, WrongPassword, Locked, ReceiptOpen, ManyReceipts, MemoryFull, NoFiscal, PaymentDone, ManyLines, GroupDisabled, OffAboveLine, NoLineBack, OffAboveGroup, NoTotal, OffAboveTotal, PaidInFull, AboveRest, NotPaid, NoText, LittleCash, ManyFiscal, LineOver, FinishedOver, NotTheSum, TotalOver, GroupOver, RegisterOver, DayOver, MemoryOver, CashOver, InOver, OutOver}
use Rattle.words.specs.Words.{words_of}
use Rattle.words.specs.declared.rows.Words.{Words}
use Rattle.words.specs.Names.{codes, command_words, command_word, reply_words, reply_word, reason_word, status_words, status_word}
use Rattle.words.specs.Fields.{groups, counters, subtotal, closure, drawer, field_words, field_word}

abbrev short : List (List ℕ) → Bool
short [] = true
short (r ∷ rs) = leb (length r) 64 && short rs

row_short : (rows : List (List ℕ)) → short rows ≡ true → (k : ℕ) → length (get_or rows k []) ≤ 64
row_short [] e k = omega arith
row_short (r ∷ rs) e zero = leb-true (length r) 64 (and_parts (leb (length r) 64) (short rs) e).0
row_short (r ∷ rs) e (suc k) = row_short rs (and_parts (leb (length r) 64) (short rs) e).1 k

pub command_short : (code : ℕ) → length (command_word code) ≤ 64
command_short code = row_short command_words refl (first_at code codes)

pub reply_short : (number : ℕ) → length (reply_word number) ≤ 64
reply_short number = row_short reply_words refl number

pub reason_short : (r : Reason) → length (reason_word r) ≤ 64
reason_short Done = omega arith
reason_short Syntax = omega arith
reason_short OutOfRange = omega arith
reason_short Unknown = omega arith
reason_short WrongPassword = omega arith
reason_short Locked = omega arith
reason_short ReceiptOpen = omega arith
reason_short ManyReceipts = omega arith
reason_short MemoryFull = omega arith
reason_short NoFiscal = omega arith
reason_short PaymentDone = omega arith
reason_short ManyLines = omega arith
reason_short GroupDisabled = omega arith
reason_short OffAboveLine = omega arith
reason_short NoLineBack = omega arith
reason_short OffAboveGroup = omega arith
reason_short NoTotal = omega arith
reason_short OffAboveTotal = omega arith
reason_short PaidInFull = omega arith
reason_short AboveRest = omega arith
reason_short NotPaid = omega arith
reason_short NoText = omega arith
reason_short LittleCash = omega arith
reason_short ManyFiscal = omega arith
reason_short LineOver = omega arith
reason_short FinishedOver = omega arith
reason_short NotTheSum = omega arith
reason_short TotalOver = omega arith
reason_short GroupOver = omega arith
reason_short RegisterOver = omega arith
reason_short DayOver = omega arith
reason_short MemoryOver = omega arith
reason_short CashOver = omega arith
reason_short InOver = omega arith
reason_short OutOver = omega arith

pub status_short : (byte bit : ℕ) → length (status_word byte bit) ≤ 64
status_short byte bit = go (ltb bit 8 && ltb byte 6)
  where
    go : (b : Bool) → length (cond b (get_or status_words (byte * 8 + bit) []) []) ≤ 64
    go true = row_short status_words refl (byte * 8 + bit)
    go false = omega arith

-- the table that a code chooses has short rows, as each of them has
either : (b : Bool) (x y : List (List ℕ)) → short x ≡ true → short y ≡ true → short (cond b x y) ≡ true
either true x y e f = e
either false x y e f = f

fields_short : (code : ℕ) → short (field_words code) ≡ true
fields_short code =
    either (eqb code 38) counters _ refl
    (either (eqb code 39) counters _ refl
    (either (eqb code 48) counters _ refl
    (either (eqb code 51) subtotal _ refl
    (either (eqb code 56) counters _ refl
    (either (eqb code 65) groups _ refl
    (either (eqb code 69) closure _ refl
    (either (eqb code 70) drawer _ refl
    (either (eqb code 97) groups _ refl
    refl))))))))

pub field_short : (code i : ℕ) → length (field_word code i) ≤ 64
field_short code i = row_short (field_words code) (fields_short code) i

abbrev zeros : List ℕ
zeros = replicate 64 0

-- a word that a text by value was made of stands at its front
pub in_front : (w : Words) (l : List ℕ) → w ≡ words_of l → length l ≤ 64 → take w.count w.bytes ≡ l
in_front w l e h = rw (e) (go l h)
  where
    go : (l : List ℕ) → length l ≤ 64 → take (min (length l) 64) (sets (replicate 64 0) 0 l) ≡ l
    go l h =
        let count : min (length l) 64 ≡ length l = omega arith in
        let room : 0 + length l ≤ length zeros = omega (arith, length-replicate 64 zero) in
        rw (count, sets-eq l zeros 0 room) (take-append_seam l (drop (0 + length l) zeros))
