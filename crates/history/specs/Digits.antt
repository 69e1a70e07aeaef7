-- PROTOCOL 8.2: every field that an answer shows, within its digits.
use Rattle.std.specs.Prelude.{ℕ, ◌^◌, ◌<◌, ◌≡◌, false, Option}
use Rattle.amounts.specs.Amounts.{tax_of}
use Rattle.books.specs.Groups.{at}
use Rattle.books.specs.declared.Books.{Books}
use Rattle.books.specs.declared.Shown.{Shown}
use Rattle.books.specs.declared.Shown.TheVariants as shown
use Rattle.rules.specs.Rules.{rule_of}
use Rattle.rules.specs.declared.views.View.{View}
use Rattle.history.specs.Entries.{of_asked}

-- PROTOCOL 4.9: 10 digits for sums of a receipt; 12 for day sums, taxes, cash and service sums; 4 for counters and closings; 17 for FM
pub record InDigits (b : Books) : Type 0 where
  pub total : b.receipt.total < 10 ^ 10
  pub groups : (g : ℕ) → g < 8 → at b.receipt.groups g < 10 ^ 10
  pub day : (g : ℕ) → g < 8 → at b.day g < 10 ^ 12
  pub taxes : (rate g : ℕ) → g < 8 → tax_of rate (at b.day g) < 10 ^ 12
  pub cash : b.drawer.cash < 10 ^ 12
  pub put : b.drawer.put < 10 ^ 12
  pub taken : b.drawer.taken < 10 ^ 12
  pub all : b.counters.all < 10 ^ 4
  pub fiscal : b.counters.fiscal < 10 ^ 4
  pub closings : b.memory.closings < 10 ^ 4
  pub memory : b.memory.total < 10 ^ 17

-- PROTOCOL 4.9: what is left to pay, and change, 10 digits too
abbrev pub left_of : Shown → ℕ
left_of shown.Nothing = 0
left_of shown.All = 0
left_of shown.AllAndFiscal = 0
left_of shown.Subtotal = 0
left_of (shown.Tendered full left) = left
left_of shown.DaySums = 0
left_of shown.Taxes = 0
left_of shown.Closure = 0
left_of shown.InDrawer = 0
left_of shown.Status = 0
left_of shown.Rates = 0

-- DECISIONS 57, 58: a command as data gives it: no number that is 1, and where it only asks neither rest nor change is shown
pub record Given (v : View) : Type 0 where
  pub one : (b : Books) (m : Option ℕ) → (rule_of b m v).one ≡ false
  pub rest : of_asked 0 left_of v ≡ 0
