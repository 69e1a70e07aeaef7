-- PROTOCOL 5.1: what each command is to the books, in the rule book's order: the one table over the seventeen kinds. A command that changes nothing in the
-- books `Asks`: all its rule says is what has to be open for it, and what its answer shows.
use Rattle.std.specs.Prelude.{true, false}
use Rattle.kinds.specs.declared.Adjust.{Adjust}
use Rattle.kinds.specs.declared.Adjust.TheVariants.{Nothing, PercentMore, PercentLess, AmountMore, AmountLess}
use Rattle.kinds.specs.declared.Command.{Command}
use Rattle.kinds.specs.declared.Command.TheVariants.{OpenText, CloseText, PrintText, Open, Sell, Subtotal, Pay, Close, Cancel, Sums, Closing, Drawer, Status, Rates, ShowText, ChangePassword, ChangeName}
use Rattle.kinds.specs.declared.Sale.{Sale}
use Rattle.kinds.specs.declared.Service.TheVariants.{Report, In, Out}
use Rattle.books.specs.declared.Shown.TheVariants as shown
use Rattle.rules.specs.declared.views.View.{View}
use Rattle.rules.specs.declared.views.View.TheVariants.{Opens, Sells, Adjusts, Pays, Closes, Cancels, OpensText, ClosesText, Clears, Puts, Takes, Asks}
use Rattle.rules.specs.declared.views.When.TheVariants.{Always, FiscalIsOpen, TextIsOpen, NoneIsOpen}

-- always permitted, with an answer of no data
abbrev pub asks_nothing : View
asks_nothing = Asks Always shown.Nothing

-- PROTOCOL 5.5: 51 without Percent and Abs asks for the total and the eight groups of an open fiscal receipt
abbrev pub subtotal_view : Adjust → View
subtotal_view Nothing = Asks FiscalIsOpen shown.Subtotal
subtotal_view (PercentMore p) = Adjusts (PercentMore p)
subtotal_view (PercentLess p) = Adjusts (PercentLess p)
subtotal_view (AmountMore a) = Adjusts (AmountMore a)
subtotal_view (AmountLess a) = Adjusts (AmountLess a)

abbrev pub view_of : Command → View
-- PROTOCOL 5.3, 5.4: 48 and 49
view_of (Open op password till) = Opens
view_of (Sell s) = Sells s
-- PROTOCOL 5.5: 51
view_of (Subtotal print show adjust) = subtotal_view adjust
-- PROTOCOL 5.6, 5.7, 5.8: 53, 56 and 60
view_of (Pay p) = Pays p
view_of Close = Closes
view_of Cancel = Cancels
-- PROTOCOL 5.9, 5.10, 5.11: 38, 42, which keeps nothing, and 39
view_of OpenText = OpensText
view_of PrintText = Asks TextIsOpen shown.Nothing
view_of CloseText = ClosesText
-- PROTOCOL 5.12: 65, the taxes in the day sums, or these
view_of (Sums true) = Asks Always shown.Taxes
view_of (Sums false) = Asks Always shown.DaySums
-- PROTOCOL 5.13: 69, `0` closes the day, `2` only reports
view_of (Closing true) = Clears
view_of (Closing false) = Asks NoneIsOpen shown.Closure
-- PROTOCOL 5.14: 70 reports, puts in or takes out
view_of (Drawer Report) = Asks NoneIsOpen shown.InDrawer
view_of (Drawer (In n)) = Puts n
view_of (Drawer (Out n)) = Takes n
-- PROTOCOL 5.15, 5.16: 74 and 97 are always permitted
view_of Status = Asks Always shown.Status
view_of Rates = Asks Always shown.Rates
-- PROTOCOL 5.17: 100, whose text goes to the display; always permitted
view_of ShowText = asks_nothing
-- PROTOCOL 5.18, 5.19: 101 and 102 change the guard (5.20), and nothing of the books; permitted with a receipt open too
view_of (ChangePassword op old new) = asks_nothing
view_of (ChangeName op password) = asks_nothing

-- what is asked of a line; of every other view it is `none`
module _ {A : Type 0} (none : A) where
  abbrev pub of_sale : (Sale → A) → View → A
  of_sale f Opens = none
  of_sale f (Sells s) = f s
  of_sale f (Adjusts a) = none
  of_sale f (Pays p) = none
  of_sale f Closes = none
  of_sale f Cancels = none
  of_sale f OpensText = none
  of_sale f ClosesText = none
  of_sale f Clears = none
  of_sale f (Puts n) = none
  of_sale f (Takes n) = none
  of_sale f (Asks when shown) = none
