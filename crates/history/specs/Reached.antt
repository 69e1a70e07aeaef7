-- What a refusal leaves, what a closing clears, and what holds of the books in every state that a fresh device can reach.
use Rattle.std.specs.Prelude.{ℕ, ◌≤◌, ◌<◌, ◌≡◌, true, false, length, replicate}
use Rattle.kinds.specs.declared.Adjust.{Adjust}
use Rattle.sheet.specs.declared.Note.TheVariants as note
use Rattle.receipt.specs.Receipts.{empty_receipt}
use Rattle.receipt.specs.declared.Receipt.{Receipt}
use Rattle.shares.specs.Shares.{size_of, is_less, more_or_less, share_at}
use Rattle.books.specs.Books.{fiscal_open, with_receipt}
use Rattle.books.specs.Groups.{eight, at, sum}
use Rattle.books.specs.Sound.{sound}
use Rattle.books.specs.declared.Books.{Books}
use Rattle.books.specs.declared.Shown.TheVariants as shown
use Rattle.deeds.specs.declared.Deed.{Deed}

-- PROTOCOL 2.3, 5.1: 1 to 4 change nothing in books or sheet, and the answer has no data
pub record Unchanged (b : Books) (d : Deed) : Type 0 where
  pub books : d.books ≡ b
  pub shown : d.shown ≡ shown.Nothing
  pub note : d.note ≡ note.Nothing
  pub number : d.number ≤ 4

-- PROTOCOL 5.13: day sums, registers, All, Fiscal, In and Out are zero; cash stays
pub record DayCleared (before after : Books) : Type 0 where
  pub day : after.day ≡ replicate 8 0
  pub registers : after.registers ≡ replicate 4 0
  pub counters : after.counters ≡ record { all = 0; fiscal = 0 }
  pub put : after.drawer.put ≡ 0
  pub taken : after.drawer.taken ≡ 0
  pub cash : after.drawer.cash ≡ before.drawer.cash
  pub receipt : after.receipt ≡ before.receipt
  pub opened : after.opened ≡ before.opened

-- PROTOCOL 6.8: a group's share in a Percent or an Abs on a receipt
abbrev pub share_on : Receipt → Adjust → (g : ℕ) → ℕ
share_on r a = share_at (size_of r.total a) r.total (at r.groups)

-- PROTOCOL 5.5, 6.8: what 51 with a Percent or an Abs makes of the books: the shares come to its size, and nothing else is changed
pub record SharedOut (a : Adjust) (before after : Books) : Type 0 where
  pub shares : sum (eight (share_on before.receipt a)) ≡ size_of before.receipt.total a
  pub groups : (g : ℕ) → g < 8 → at after.receipt.groups g ≡ more_or_less (is_less a) (at before.receipt.groups g) (share_on before.receipt a g)
  -- no group falls below zero
  pub covered : is_less a ≡ true → (g : ℕ) → g < 8 → share_on before.receipt a g ≤ at before.receipt.groups g
  pub total : after.receipt.total ≡ more_or_less (is_less a) before.receipt.total (size_of before.receipt.total a)
  pub summed : after.receipt.total ≡ sum (eight (at after.receipt.groups))
  -- it is no line, and no payment
  pub lines : after.receipt.lines ≡ before.receipt.lines
  pub unpaid : (after.receipt.paid ≡ before.receipt.paid) × (after.receipt.tried ≡ before.receipt.tried) × (after.receipt.settled ≡ before.receipt.settled)
  pub others : after ≡ with_receipt before before.opened after.receipt

-- a receipt as sales, changes of the total and payments make it
pub record Receipted (r : Receipt) : Type 0 where
  pub eight_groups : length r.groups ≡ 8
  -- PROTOCOL 6.5: the total is the sum of the eight groups
  pub total : r.total ≡ sum (eight (at r.groups))
  -- PROTOCOL 5.4
  pub few_lines : r.lines ≤ 512
  pub not_overpaid : r.paid ≤ r.total
  -- PROTOCOL 5.6: paid in full, nothing is left to pay
  pub paid_up : r.settled ≡ true → r.paid ≡ r.total
  -- PROTOCOL 5.6: before the first 53 nothing is paid
  pub unpaid : r.tried ≡ false → r.paid ≡ 0
  pub unsettled : r.tried ≡ false → r.settled ≡ false

pub record Reached (b : Books) : Type 0 where
  -- PROTOCOL 8.2: every sum is within its digits
  pub fits : sound b ≡ true
  pub receipt : Receipted b.receipt
  pub eight_sums : length b.day ≡ 8
  pub four_registers : length b.registers ≡ 4
  -- DECISIONS 25: nothing stands on a receipt that is not open
  pub blank : fiscal_open b.opened ≡ false → b.receipt ≡ empty_receipt
