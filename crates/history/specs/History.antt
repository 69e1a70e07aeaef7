-- Demand 2: the figures of PROTOCOL 8.3 told from the whole history, newest entry first, and from nothing that the device remembers: what each entry makes
-- of each of them, part by part. What it does not touch stays.
use Rattle.std.specs.Prelude.{ℕ, ◌+◌, ◌-◌, Bool, true, false, cond, not, ◌&&◌, ◌||◌, List, [], ◌∷◌, eqb, drop}
use Rattle.text.specs.Digits.{number}
use Rattle.kinds.specs.declared.Adjust.{Adjust}
use Rattle.kinds.specs.declared.Mode.{Mode}
use Rattle.kinds.specs.declared.Mode.TheVariants.{Cash}
use Rattle.kinds.specs.declared.Payment.{Payment}
use Rattle.kinds.specs.declared.Sale.{Sale}
use Rattle.sheet.specs.declared.Line.{Line}
use Rattle.receipt.specs.Receipts.{given_of}
use Rattle.shares.specs.Shares.{sum_after}
use Rattle.books.specs.Groups.{eight, sum}
use Rattle.books.specs.Registers.{place}
use Rattle.books.specs.declared.Counters.{Counters}
use Rattle.books.specs.declared.Memory.{Memory}
use Rattle.books.specs.declared.Opened.{Opened}
use Rattle.books.specs.declared.Opened.TheVariants.{Nothing, Fiscal, Text}
use Rattle.rules.specs.Views.{of_sale}
use Rattle.rules.specs.declared.views.View.{View}
use Rattle.history.specs.Entries.{Entry, did_of, does, of_payment, of_adjust, of_service}
use Rattle.history.specs.Sold.{amount_told, sold_after}

-- PROTOCOL 5.4, 5.6: the open fiscal receipt: its eight sums, how many lines it has, and which, the newest first; what was paid, whether a 53 was done, and
-- one in full
pub record ReceiptTold : Type 0 where
  pub sums : ℕ → ℕ
  pub lines : ℕ
  pub sold : List Line
  pub paid : ℕ
  pub tried : Bool
  pub settled : Bool

-- PROTOCOL 6.7, 5.14: the drawer: all that was put in, cash payments too, and all that was taken out, over the whole history; In and Out of the day
pub record DrawerTold : Type 0 where
  pub all_in : ℕ
  pub all_out : ℕ
  pub put : ℕ
  pub taken : ℕ

-- PROTOCOL 8.3
pub record Figures : Type 0 where
  pub opened : Opened
  pub receipt : ReceiptTold
  pub day : ℕ → ℕ
  pub registers : Mode → ℕ
  pub drawer : DrawerTold
  pub counters : Counters
  pub memory : Memory

-- PROTOCOL 5.2: which receipt is open: 48 and 38 open one, 56, 60 and 39 leave none
abbrev pub opened_after : View → Opened → Opened
opened_after v o = cond (does 48 v) Fiscal (cond (does 38 v) Text (cond (does 39 v || does 56 v || does 60 v) Nothing o))

-- PROTOCOL 6.5: a group is its finished lines less those taken back, with its shares of what 51 changes; what a line takes off is told from the lines before it
module _ (g : ℕ) (ls : List Line) (s : Sale) where
  abbrev pub added : ℕ
  added = cond (eqb s.group g && not s.minus) (amount_told ls s) 0

  abbrev pub taken_off : ℕ
  taken_off = cond (eqb s.group g && s.minus) (amount_told ls s) 0

-- PROTOCOL 5.4: 49: one line more, those taken off counted
abbrev pub with_sale : ReceiptTold → Sale → ReceiptTold
with_sale r s =
    record {
      sums = λ g. r.sums g + added g r.sold s - taken_off g r.sold s;
      lines = r.lines + 1;
      sold = sold_after r.sold s;
      paid = r.paid;
      tried = r.tried;
      settled = r.settled;
    }

-- PROTOCOL 6.5: the total is the sum of the eight groups. PROTOCOL 5.6: the rest of it is still due
abbrev pub total_in : ReceiptTold → ℕ
total_in r = sum (eight r.sums)

abbrev pub due_in : ReceiptTold → ℕ
due_in r = total_in r - r.paid

-- PROTOCOL 5.5, 6.8: 51 with a Percent or an Abs: each group has its share of it; it is no line
abbrev pub with_adjustment : ReceiptTold → Adjust → ReceiptTold
with_adjustment r a =
    record { sums = sum_after a (total_in r) r.sums; lines = r.lines; sold = r.sold; paid = r.paid; tried = r.tried; settled = r.settled }

-- PROTOCOL 5.6: `R` and the change, read from the answer's data; with a `D` there is none
abbrev pub says_r : List ℕ → Bool
says_r [] = false
says_r (letter ∷ sum) = eqb letter 0x52

abbrev pub change_of : List ℕ → ℕ
change_of shown = cond (says_r shown) (number 0 (drop 1 shown)) 0

-- PROTOCOL 5.6: what a payment brought: the amount, or the rest where none was said, change left out
abbrev pub brought : ReceiptTold → Payment → List ℕ → ℕ
brought r p shown = given_of (due_in r) p.tender - change_of shown

-- PROTOCOL 5.6: 53: that much more is paid; an `R`, and nothing else, makes it paid in full
abbrev pub with_payment : ReceiptTold → Payment → List ℕ → ReceiptTold
with_payment r p shown =
    record {
      sums = r.sums;
      lines = r.lines;
      sold = r.sold;
      paid = r.paid + brought r p shown;
      tried = true;
      settled = says_r shown || r.settled;
    }

-- PROTOCOL 5.3, 5.7, 5.8: the fiscal receipt starts afresh at 48, and 56 and 60 leave nothing of it (DECISIONS 25)
abbrev pub none_told : ReceiptTold
none_told = record { sums = λ g. 0; lines = 0; sold = []; paid = 0; tried = false; settled = false }

-- what comes after these is another receipt
abbrev pub is_another : View → Bool
is_another v = does 48 v || does 56 v || does 60 v

abbrev pub receipt_after : View → List ℕ → ReceiptTold → ReceiptTold
receipt_after v shown r =
    cond (is_another v) none_told
    (of_sale
    (of_payment
    (of_adjust r (λ a. with_adjustment r a) v)
    (λ p. with_payment r p shown) v)
    (λ s. with_sale r s) v)

-- PROTOCOL 6.7, 5.13: a receipt's groups reach the day sums with 56, and 69 clears them
abbrev pub day_after : View → ReceiptTold → (ℕ → ℕ) → ℕ → ℕ
day_after v r day = cond (does 69 v) (λ g. 0) (cond (does 56 v) (λ g. day g + r.sums g) day)

-- PROTOCOL 5.6, 5.13: each mode raises its own register, and 69 clears them
abbrev pub by : Mode → Mode → Bool
by m n = eqb (place m) (place n)

abbrev pub registers_after : View → List ℕ → ReceiptTold → (Mode → ℕ) → Mode → ℕ
registers_after v shown r registers =
    cond (does 69 v) (λ m. 0) (of_payment registers (λ p m. registers m + cond (by m p.mode) (brought r p shown) 0) v)

-- PROTOCOL 5.6, 5.13, 5.14: a payment in cash, what 70 puts in and what it takes out; 69 clears In and Out, and cash stays
abbrev pub drawer_after : View → List ℕ → ReceiptTold → DrawerTold → DrawerTold
drawer_after v shown r d =
    cond (does 69 v) (record { all_in = d.all_in; all_out = d.all_out; put = 0; taken = 0 })
    (of_payment
    (of_service d
    (λ n. record { all_in = d.all_in + n; all_out = d.all_out; put = d.put + n; taken = d.taken })
    (λ n. record { all_in = d.all_in; all_out = d.all_out + n; put = d.put; taken = d.taken + n }) v)
    (λ p. record { all_in = d.all_in + cond (by Cash p.mode) (brought r p shown) 0; all_out = d.all_out; put = d.put; taken = d.taken }) v)

-- PROTOCOL 5.3, 5.9, 5.13: All counts 38 and 48, Fiscal 48 alone, since the last closing
abbrev pub counters_after : View → Counters → Counters
counters_after v c =
    cond (does 69 v) (record { all = 0; fiscal = 0 })
    (cond (does 48 v) (record { all = c.all + 1; fiscal = c.fiscal + 1 })
    (cond (does 38 v) (record { all = c.all + 1; fiscal = c.fiscal })
    c))

-- PROTOCOL 5.13, 6.7: the closings made so far, and FM, which the day sums reach with 69
abbrev pub memory_after : View → (ℕ → ℕ) → Memory → Memory
memory_after v day m = cond (does 69 v) (record { closings = m.closings + 1; total = m.total + sum (eight day) }) m

-- what was done, and the data of its answer, make the figures that they were before into these
abbrev pub after : View → List ℕ → Figures → Figures
after v shown f =
    record {
      opened = opened_after v f.opened;
      receipt = receipt_after v shown f.receipt;
      day = day_after v f.receipt f.day;
      registers = registers_after v shown f.receipt f.registers;
      drawer = drawer_after v shown f.receipt f.drawer;
      counters = counters_after v f.counters;
      memory = memory_after v f.day f.memory;
    }

-- PROTOCOL 8.4: of a fresh device
abbrev pub no_figures : Figures
no_figures =
    record {
      opened = Nothing;
      receipt = none_told;
      day = λ g. 0;
      registers = λ m. 0;
      drawer = record { all_in = 0; all_out = 0; put = 0; taken = 0 };
      counters = record { all = 0; fiscal = 0 };
      memory = record { closings = 0; total = 0 };
    }

abbrev pub figures_of : List Entry → Figures
figures_of [] = no_figures
figures_of (e ∷ es) = after (did_of e) e.shown (figures_of es)

-- PROTOCOL 5.6: of the open receipt, by the history: its total, what was paid, how many lines, whether a 53 was done, and one in full
abbrev pub receipt_total : List Entry → ℕ
receipt_total es = total_in (figures_of es).receipt

abbrev pub paid_sum : List Entry → ℕ
paid_sum es = (figures_of es).receipt.paid

abbrev pub lines_sold : List Entry → ℕ
lines_sold es = (figures_of es).receipt.lines

abbrev pub payment_tried : List Entry → Bool
payment_tried es = (figures_of es).receipt.tried

abbrev pub paid_in_full : List Entry → Bool
paid_in_full es = (figures_of es).receipt.settled

-- PROTOCOL 6.7, demand 2: all that was put into the drawer, and all that was taken out
abbrev pub put_in : List Entry → ℕ
put_in es = (figures_of es).drawer.all_in

abbrev pub taken_out : List Entry → ℕ
taken_out es = (figures_of es).drawer.all_out
