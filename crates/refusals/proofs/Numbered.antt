-- A reason is told exactly when a command is refused, and with that number: of any books, whatever the sheet says, for any data.
use Prim.Native.Nat.{ℕ, ◌+◌, min}
use mathlib.Core.Path.{◌≡◌, refl, sym, ◌∙◌}
use mathlib.Core.List.{List}
use mathlib.Core.Bool.{Bool, true, false, cond, not, ◌&&◌, ◌||◌}
use lib.Dec.{leb, ltb, eqb}
use Rattle.text.specs.Parts.{every}
use Rattle.guard.specs.Guard.{trial_of, verdict_of, passes, judged_by}
use Rattle.guard.specs.declared.Guard.{Guard}
use Rattle.guard.specs.declared.Verdict.{Verdict}
use Rattle.guard.specs.declared.Verdict.TheVariants as verdict
use Rattle.std.specs.Prelude.{Option, is_some, unwrap_or, Ok, Err}
use Rattle.kinds.specs.Fields.{Parsed}
use Rattle.kinds.specs.declared.Unread.TheVariants as unread
use Rattle.receipt.specs.Lines.{product_of, finished_of, too_much_off, adjust_fits, fits}
use Rattle.receipt.specs.Receipts.{amount_of, group_after, total_after, is_cash}
use Rattle.shares.specs.Shares.{sum_after}
use Rattle.shares.specs.Receipts.{is_sum}
use Rattle.books.specs.Books.{text_open, any_open}
use Rattle.books.specs.Groups.{eight, at}
use Rattle.books.specs.Rates.{rate_in, is_enabled}
use Rattle.books.specs.Registers.{register_of}
use Rattle.books.specs.Sound.{in_twelve, most_receipts}
use Rattle.books.specs.declared.Books.{Books}
use Rattle.rules.specs.Reasons.{is_price, tender_holds, full, day_over, memory_over, many_opened, none_open, owed, tendered}
use Rattle.rules.specs.Views.{view_of}
use Rattle.rules.specs.declared.views.View.{View}
use Rattle.rules.specs.declared.views.View.TheVariants.{Opens, Sells, Adjusts, Pays, Closes, Cancels, OpensText, ClosesText, Clears, Puts, Takes, Asks}
use Rattle.rules.specs.declared.views.When.TheVariants.{Always, FiscalIsOpen, TextIsOpen, NoneIsOpen}
use Rattle.rules.specs.Rules.{Rule, rule_of}
use Rattle.deeds.specs.Deeds.{refused_with, done_with, judged, deed_of}
use Rattle.carrying.specs.Carrying.{deed_for}
use Rattle.refusals.specs.Numbers.{reason_number}
use Rattle.refusals.specs.Refusals.{against_view, against_verdict, reason_of}
use Rattle.reasons.specs.declared.Reason.TheVariants.{Done, OutOfRange, ReceiptOpen, ManyReceipts, MemoryFull, NoFiscal, PaymentDone, ManyLines, GroupDisabled, OffAboveLine, NoLineBack, OffAboveGroup, NoTotal, OffAboveTotal, PaidInFull, AboveRest, NotPaid, NoText, LittleCash, ManyFiscal, LineOver, FinishedOver, NotTheSum, TotalOver, GroupOver, RegisterOver, DayOver, MemoryOver, CashOver, InOver, OutOver}

-- the number that reasons for 1, 3 and 4 come to
abbrev number_by : Bool → Bool → Bool → ℕ
number_by one three four = cond one 1 (cond three 3 (cond four 4 0))

numbered : (b : Books) (r : Rule) → (judged b r).number ≡ number_by r.one r.three r.four
numbered b r = by r.one r.three r.four
  where
    by : (one three four : Bool)
        → (cond one (refused_with 1 b) (cond three (refused_with 3 b) (cond four (refused_with 4 b) (done_with r.after r.shows r.note)))).number
        ≡ number_by one three four
    by true three four = refl
    by false true four = refl
    by false false true = refl
    by false false false = refl

opens : (a b c d : Bool) → reason_number (cond a ReceiptOpen (cond b ManyReceipts (cond c MemoryFull (cond d ManyFiscal Done)))) ≡ number_by false (a || b || c) d
opens true b c d = refl
opens false true c d = refl
opens false false true d = refl
opens false false false true = refl
opens false false false false = refl

-- 51 with a Percent or an Abs: z is a total of zero, u too much off, s that it is not its groups' sum
adjusts : (f o t z u s w d : Bool)
    → reason_number (cond f OutOfRange (cond o NoFiscal (cond t PaymentDone (cond z NoTotal (cond u OffAboveTotal
    (cond s NotTheSum (cond w TotalOver (cond d GroupOver Done))))))))
    ≡ number_by f (o || (t || z || u)) (s || w || d)
adjusts true o t z u s w d = refl
adjusts false true t z u s w d = refl
adjusts false false true z u s w d = refl
adjusts false false false true u s w d = refl
adjusts false false false false true s w d = refl
adjusts false false false false false true w d = refl
adjusts false false false false false false true d = refl
adjusts false false false false false false false true = refl
adjusts false false false false false false false false = refl

pays : (a b c d e : Bool) → reason_number (cond a OutOfRange (cond b NoFiscal (cond c PaidInFull (cond d AboveRest (cond e RegisterOver Done))))) ≡ number_by a (b || c || d) e
pays true b c d e = refl
pays false true c d e = refl
pays false false true d e = refl
pays false false false true e = refl
pays false false false false true = refl
pays false false false false false = refl

closes : (a b c : Bool) → reason_number (cond a NoFiscal (cond b NotPaid (cond c DayOver Done))) ≡ number_by false (a || b) c
closes true b c = refl
closes false true c = refl
closes false false true = refl
closes false false false = refl

cancels : (a b : Bool) → reason_number (cond a NoFiscal (cond b PaymentDone Done)) ≡ number_by false (a || b) false
cancels true b = refl
cancels false true = refl
cancels false false = refl

opens_text : (a b : Bool) → reason_number (cond a ReceiptOpen (cond b ManyReceipts Done)) ≡ number_by false (a || b) false
opens_text true b = refl
opens_text false true = refl
opens_text false false = refl

closes_text : (a : Bool) → reason_number (cond a NoText Done) ≡ number_by false a false
closes_text true = refl
closes_text false = refl

clears : (a b c d : Bool) → reason_number (cond a ReceiptOpen (cond b MemoryFull (cond c DayOver (cond d MemoryOver Done)))) ≡ number_by false (a || b) (c || d)
clears true b c d = refl
clears false true c d = refl
clears false false true d = refl
clears false false false true = refl
clears false false false false = refl

puts : (a b c d : Bool) → reason_number (cond a OutOfRange (cond b ReceiptOpen (cond c CashOver (cond d InOver Done)))) ≡ number_by a b (c || d)
puts true b c d = refl
puts false true c d = refl
puts false false true d = refl
puts false false false true = refl
puts false false false false = refl

takes : (a b c d : Bool) → reason_number (cond a OutOfRange (cond b ReceiptOpen (cond c LittleCash (cond d OutOver Done)))) ≡ number_by a (b || c) d
takes true b c d = refl
takes false true c d = refl
takes false false true d = refl
takes false false false true = refl
takes false false false false = refl

asks_fiscal : (a : Bool) → reason_number (cond a NoFiscal Done) ≡ number_by false a false
asks_fiscal true = refl
asks_fiscal false = refl

asks_none : (a : Bool) → reason_number (cond a ReceiptOpen Done) ≡ number_by false a false
asks_none true = refl
asks_none false = refl

-- 49: m is `-`, x that no line is found, y that its group has less
sells : (f o t n g u m x y l k w d : Bool)
    → reason_number (cond f OutOfRange (cond o NoFiscal (cond t PaymentDone (cond n ManyLines (cond g GroupDisabled (cond u OffAboveLine
    (cond (m && x) NoLineBack (cond (m && y) OffAboveGroup (cond l LineOver (cond k FinishedOver (cond w TotalOver (cond d GroupOver Done))))))))))))
    ≡ number_by f (o || (t || n || g || u || m && (x || y))) (l || k || w || d)
sells true o t n g u m x y l k w d = refl
sells false true t n g u m x y l k w d = refl
sells false false true n g u m x y l k w d = refl
sells false false false true g u m x y l k w d = refl
sells false false false false true u m x y l k w d = refl
sells false false false false false true m x y l k w d = refl
sells false false false false false false true true y l k w d = refl
sells false false false false false false true false true l k w d = refl
sells false false false false false false true false false true k w d = refl
sells false false false false false false true false false false true w d = refl
sells false false false false false false true false false false false true d = refl
sells false false false false false false true false false false false false true = refl
sells false false false false false false true false false false false false false = refl
sells false false false false false false false x y true k w d = refl
sells false false false false false false false x y false true w d = refl
sells false false false false false false false x y false false true d = refl
sells false false false false false false false x y false false false true = refl
sells false false false false false false false x y false false false false = refl

-- the reason against a view has the number of its deed
pub view_number : (b : Books) (m : Option ℕ) (v : View) → reason_number (against_view b m v) ≡ (deed_of b m v).number
view_number b m v = told v ∙ sym (numbered b (rule_of b m v))
  where
    told : (v : View) → reason_number (against_view b m v) ≡ number_by (rule_of b m v).one (rule_of b m v).three (rule_of b m v).four
    told Opens = opens (any_open b.opened) (many_opened b) (full b) (leb most_receipts b.counters.fiscal)
    told (Sells s) =
        sells (not (fits s)) (none_open b) b.receipt.tried (leb 512 b.receipt.lines) (not (is_enabled (rate_in b s.group))) (too_much_off (product_of s) s.adjust)
        s.minus (not (is_some m)) (ltb (at b.receipt.groups s.group) (unwrap_or m 0))
        (ltb 99999999 (product_of s)) (ltb 99999999 (amount_of s m)) (ltb 9999999999 (total_after b.receipt s m)) (ltb 999999999999 (at b.day s.group + group_after b.receipt s m))
    told (Adjusts a) =
        adjusts (not (adjust_fits false a)) (none_open b) b.receipt.tried (eqb b.receipt.total 0) (too_much_off b.receipt.total a)
        (not (is_sum b.receipt.groups b.receipt.total)) (ltb 9999999999 (finished_of b.receipt.total a))
        (not (every in_twelve (eight (λ g. at b.day g + sum_after a b.receipt.total (at b.receipt.groups) g))))
    told (Pays p) =
        pays (not (tender_holds p.tender)) (none_open b) b.receipt.settled (not (is_cash p.mode) && ltb (owed b) (tendered b p))
        (ltb 999999999999 (register_of b p.mode + min (tendered b p) (owed b)))
    told Closes = closes (none_open b) (not b.receipt.settled) (day_over b)
    told Cancels = cancels (none_open b) b.receipt.tried
    told OpensText = opens_text (any_open b.opened) (many_opened b)
    told ClosesText = closes_text (not (text_open b.opened))
    told Clears = clears (any_open b.opened) (full b) (day_over b) (memory_over b)
    told (Puts n) = puts (not (is_price n)) (any_open b.opened) (not (in_twelve (b.drawer.cash + n))) (not (in_twelve (b.drawer.put + n)))
    told (Takes n) = takes (not (is_price n)) (any_open b.opened) (ltb b.drawer.cash n) (not (in_twelve (b.drawer.taken + n)))
    told (Asks Always shown) = refl
    told (Asks FiscalIsOpen shown) = asks_fiscal (none_open b)
    told (Asks TextIsOpen shown) = closes_text (not (text_open b.opened))
    told (Asks NoneIsOpen shown) = asks_none (any_open b.opened)

-- PROTOCOL 5.20: what the guard does not let pass is 3, with its reason
verdict_number_lem : (b : Books) (m : Option ℕ) (w : Verdict) (v : View) → reason_number (against_verdict w b m v) ≡ (cond (passes w) (deed_of b m v) (refused_with 3 b)).number
verdict_number_lem b m verdict.Free v = view_number b m v
verdict_number_lem b m verdict.Right v = view_number b m v
verdict_number_lem b m verdict.Wrong v = refl
verdict_number_lem b m verdict.Locked v = refl

-- and so has the reason for any command: what it is refused with, or 0
pub reason_number_lem : (g : Guard) (b : Books) (m : Option ℕ) (content : List ℕ) (p : Parsed) → reason_number (reason_of g b m p) ≡ (deed_for b m (judged_by g p content).passes p).number
reason_number_lem g b m content (Ok c) = verdict_number_lem b m (verdict_of g (trial_of c)) (view_of c)
reason_number_lem g b m content (Err unread.Syntax) = refl
reason_number_lem g b m content (Err unread.Unknown) = refl
