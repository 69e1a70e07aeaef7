-- PROTOCOL 1.11: the commands a device has carried out, each with its reply: what the figures of the history are told from (DECISIONS 58).
use Rattle.std.specs.Prelude.{ℕ, zero, suc, Bool, true, false, cond, List, eqb}
use Rattle.kinds.specs.declared.Adjust.{Adjust}
use Rattle.kinds.specs.declared.Command.{Command}
use Rattle.kinds.specs.declared.Payment.{Payment}
use Rattle.kinds.specs.declared.Sale.{Sale}
use Rattle.books.specs.declared.Books.{Books}
use Rattle.books.specs.declared.Shown.{Shown}
use Rattle.books.specs.declared.Shown.TheVariants.{Nothing}
use Rattle.answers.specs.Contents.{content_of}
use Rattle.rules.specs.Views.{view_of}
use Rattle.rules.specs.declared.views.View.{View}
use Rattle.rules.specs.declared.views.View.TheVariants.{Opens, Sells, Adjusts, Pays, Closes, Cancels, OpensText, ClosesText, Clears, Puts, Takes, Asks}
use Rattle.rules.specs.declared.views.When.TheVariants.{Always}
use Rattle.deeds.specs.declared.Deed.{Deed}

-- a command carried out, its reply number, and the data of its answer, byte for byte
pub record Entry : Type 0 where
  pub command : Command
  pub number : ℕ
  pub shown : List ℕ

-- a deed on these books, as its answer tells it
abbrev pub entry_of : Books → Command → Deed → Entry
entry_of b c d = record { command = c; number = d.number; shown = content_of d.shown b.day d.books }

-- PROTOCOL 2.1: 0 is done
abbrev pub is_done : ℕ → Bool
is_done zero = true
is_done (suc n) = false

-- PROTOCOL 2.3: what an entry did to the books; a refusal counts for nothing, like a command that only asks
abbrev pub did_of : Entry → View
did_of e = cond (is_done e.number) (view_of e.command) (Asks Always Nothing)

-- PROTOCOL 5.1: the code of what changes the books; 0 where nothing changes
abbrev pub code_of : View → ℕ
code_of Opens = 48
code_of (Sells s) = 49
code_of (Adjusts a) = 51
code_of (Pays p) = 53
code_of Closes = 56
code_of Cancels = 60
code_of OpensText = 38
code_of ClosesText = 39
code_of Clears = 69
code_of (Puts n) = 70
code_of (Takes n) = 70
code_of (Asks when shown) = 0

abbrev pub does : ℕ → View → Bool
does code v = eqb (code_of v) code

-- what a view holds, asked of each in its own way: a line, 51 with a Percent or an Abs, a payment, 70 with an amount, a command that only asks; of a view
-- that holds nothing it is `none`
module _ {A : Type 0} (none : A) where
  abbrev pub of_view : (Sale → A) → (Adjust → A) → (Payment → A) → (puts takes : ℕ → A) → (Shown → A) → View → A
  of_view sells adjusts pays puts takes asks Opens = none
  of_view sells adjusts pays puts takes asks (Sells s) = sells s
  of_view sells adjusts pays puts takes asks (Adjusts a) = adjusts a
  of_view sells adjusts pays puts takes asks (Pays p) = pays p
  of_view sells adjusts pays puts takes asks Closes = none
  of_view sells adjusts pays puts takes asks Cancels = none
  of_view sells adjusts pays puts takes asks OpensText = none
  of_view sells adjusts pays puts takes asks ClosesText = none
  of_view sells adjusts pays puts takes asks Clears = none
  of_view sells adjusts pays puts takes asks (Puts n) = puts n
  of_view sells adjusts pays puts takes asks (Takes n) = takes n
  of_view sells adjusts pays puts takes asks (Asks when shown) = asks shown

  -- one of them, and `none` of all others (of a line: `of_sale` of the views)
  abbrev pub of_adjust : (Adjust → A) → View → A
  of_adjust f = of_view (λ s. none) f (λ p. none) (λ n. none) (λ n. none) (λ shown. none)

  abbrev pub of_payment : (Payment → A) → View → A
  of_payment f = of_view (λ s. none) (λ a. none) f (λ n. none) (λ n. none) (λ shown. none)

  abbrev pub of_service : (puts takes : ℕ → A) → View → A
  of_service f g = of_view (λ s. none) (λ a. none) (λ p. none) f g (λ shown. none)

  abbrev pub of_asked : (Shown → A) → View → A
  of_asked f = of_view (λ s. none) (λ a. none) (λ p. none) (λ n. none) (λ n. none) f
