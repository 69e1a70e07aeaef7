-- A day of the paper's own figures, told from its history.
use mathlib.Core.Path.{◌≡◌, refl}
use mathlib.Core.Bool.{true, false}
use Prim.Native.Nat.{ℕ}
use mathlib.Core.List.{List, [], ◌∷◌, ◌++◌, map}
use lib.ListN.{replicate}
use Rattle.text.specs.Digits.{digits, number}
use Rattle.kinds.specs.declared.Adjust.TheVariants.{Nothing, PercentLess}
use Rattle.kinds.specs.declared.Command.{Command}
use Rattle.kinds.specs.declared.Command.TheVariants.{Open, Sell, Pay, Close, Cancel, Closing, Drawer}
use Rattle.kinds.specs.declared.Mode.TheVariants.{Cash, N}
use Rattle.kinds.specs.declared.Service.TheVariants.{In, Out}
use Rattle.kinds.specs.declared.Tender.TheVariants.{Amount}
use Rattle.sheet.specs.Sheet.{blank, newest}
use Rattle.rules.specs.Views.{view_of}
use Rattle.store.specs.Commands.{deed_on, left_on}
use Rattle.store.specs.Store.{Store, fresh_store}
use Rattle.history.specs.Entries.{Entry, entry_of}
use Rattle.history.specs.History.{due_in, lines_sold, payment_tried, paid_in_full, put_in, taken_out, figures_of}

abbrev open_it : Command
open_it = Open 1 (record { digits = 4; value = 0 }) 1

-- document 01, example 5: "A receipt with that 0.67 and 12.00, both in B"
abbrev sold : List Command
sold =
    open_it
    ∷ Sell (record { group = 1; minus = false; price = 199; quantity = 375; adjust = PercentLess 1000 })
    ∷ Sell (record { group = 1; minus = false; price = 1200; quantity = 1000; adjust = Nothing })
    ∷ []

-- "53 `Tab P20`: `R0000000733`. After 56 .. 70 gives cash 12.67."
abbrev paid : List Command
paid = sold ++ Pay (record { mode = Cash; tender = Amount 2000 }) ∷ Close ∷ []

-- 5.00 put in and 3.00 taken out, a receipt cancelled, and the day closed
abbrev day : List Command
day = paid ++ Drawer (In 500) ∷ Drawer (Out 300) ∷ open_it ∷ Cancel ∷ Closing true ∷ []

-- each carried out on what those before it left
abbrev on : List Entry → Store → List Command → List Entry
on es s [] = es
on es s (c ∷ cs) = on (entry_of s.books c (deed_on s (view_of c)) ∷ es) (left_on s (view_of c)) cs

-- their reply numbers, newest first
abbrev numbers : List Entry → List ℕ
numbers = map (λ e. e.number)

abbrev told : List Command → List Entry
told cs = on [] (fresh_store (replicate 512 blank)) cs

pub still_due : due_in (figures_of (told sold)).receipt ≡ 1267
still_due = refl

pub two_lines : lines_sold (told sold) ≡ 2
two_lines = refl

-- group E is disabled, and N above the rest not permitted: refused with 3, and not counted
pub no_third_line : lines_sold (told (sold ++ Sell (record { group = 4; minus = false; price = 100; quantity = 1000; adjust = Nothing }) ∷ [])) ≡ 2
no_third_line = refl

pub not_tried : payment_tried (told (sold ++ Pay (record { mode = N; tender = Amount 2000 }) ∷ [])) ≡ false
not_tried = refl

-- 5.00 of the 12.67 is `D`, 20.00 is `R`
pub not_in_full : (payment_tried (told (sold ++ Pay (record { mode = Cash; tender = Amount 500 }) ∷ [])) ≡ true)
    × (paid_in_full (told (sold ++ Pay (record { mode = Cash; tender = Amount 500 }) ∷ [])) ≡ false)
not_in_full = (refl, refl)

pub in_full : paid_in_full (told (sold ++ Pay (record { mode = Cash; tender = Amount 2000 }) ∷ [])) ≡ true
in_full = refl

pub change_left_out : put_in (told paid) ≡ 1267
unfolding digits number
change_left_out = refl

pub day_of_B : (figures_of (told paid)).day 1 ≡ 1267
day_of_B = refl

pub put_in_lem : put_in (told day) ≡ 1767
unfolding digits number
put_in_lem = refl

pub taken_out_lem : taken_out (told day) ≡ 300
taken_out_lem = refl

pub cleared : (figures_of (told day)).counters.all ≡ 0
cleared = refl

pub one_closing : (figures_of (told day)).memory.closings ≡ 1
one_closing = refl

pub memory : (figures_of (told day)).memory.total ≡ 1267
memory = refl

-- 0.75 less 10 percent comes to 0.67, and that is what is off once the line is taken back, discount and all
abbrev back : Command
back = Sell (record { group = 1; minus = true; price = 199; quantity = 375; adjust = Nothing })

pub finished_amount_off : (figures_of (told (sold ++ back ∷ []))).receipt.sums 1 ≡ 1200
unfolding newest
finished_amount_off = refl

-- a second time there is none (3), and it is not counted
pub not_twice : (numbers (told (sold ++ back ∷ back ∷ [])) ≡ 3 ∷ 0 ∷ 0 ∷ 0 ∷ 0 ∷ []) × (lines_sold (told (sold ++ back ∷ back ∷ [])) ≡ 3)
unfolding newest
not_twice = (refl, refl)

-- sold once more, without the discount: the last one sold goes first, 0.75, then the other, 0.67
abbrev again : Command
again = Sell (record { group = 1; minus = false; price = 199; quantity = 375; adjust = Nothing })

pub last_one_first : ((figures_of (told (sold ++ again ∷ back ∷ []))).receipt.sums 1 ≡ 1267) × ((figures_of (told (sold ++ again ∷ back ∷ back ∷ []))).receipt.sums 1 ≡ 1200)
unfolding newest
last_one_first = (refl, refl)

-- 1.000 of it was never sold (3)
pub not_sold : numbers (told (sold ++ Sell (record { group = 1; minus = true; price = 199; quantity = 1000; adjust = Nothing }) ∷ [])) ≡ 3 ∷ 0 ∷ 0 ∷ 0 ∷ []
unfolding newest
not_sold = refl
