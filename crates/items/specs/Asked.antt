-- PROTOCOL chapter 5: the fields of each command, as they are told.
use Rattle.std.specs.Prelude.{ℕ, ◌+◌, ◌%◌, Bool, cond, Ok, Err, Option, None, List}
use Rattle.kinds.specs.declared.Command.{Command}
use Rattle.kinds.specs.declared.Command.TheVariants.{OpenText, CloseText, PrintText, Open, Sell, Subtotal, Pay, Close, Cancel, Sums, Closing, Drawer, Status, Rates, ShowText, ChangePassword, ChangeName}
use Rattle.kinds.specs.Fields.{Parsed}
use Rattle.kinds.specs.declared.Password.{Password}
use Rattle.kinds.specs.declared.Sale.{Sale}
use Rattle.kinds.specs.declared.Adjust.{Adjust}
use Rattle.kinds.specs.declared.Adjust.TheVariants as adjust
use Rattle.kinds.specs.declared.Payment.{Payment}
use Rattle.kinds.specs.declared.Mode.{Mode}
use Rattle.kinds.specs.declared.Mode.TheVariants as mode
use Rattle.kinds.specs.declared.Tender.{Tender}
use Rattle.kinds.specs.declared.Tender.TheVariants as tender
use Rattle.kinds.specs.declared.Service.{Service}
use Rattle.kinds.specs.declared.Service.TheVariants as service
use Rattle.items.specs.declared.Label.{Label}
use Rattle.items.specs.declared.Label.TheVariants as label
use Rattle.items.specs.declared.Saying.{Saying}
use Rattle.items.specs.declared.Saying.TheVariants as saying
use Rattle.items.specs.declared.Value.TheVariants.{Number, Sum, Thousandths, Digits, Letter, Said}
use Rattle.items.specs.declared.Item.{Item}
use Rattle.items.specs.Items.{labelled, four}

-- one line
abbrev pub alone : Option Item → List (Option Item)
alone first = four first None None None

-- PROTOCOL 5.3, 5.18, 5.19: 48, 101 and 102
abbrev pub password_item : Label → Password → Option Item
password_item which password = labelled which (Digits password.digits password.value)

abbrev pub till_item : ℕ → Option Item
till_item till = labelled label.TillNumber (Number till)

abbrev pub operator_fields : ℕ → Password → Option Item → List (Option Item)
operator_fields op password third = four (labelled label.Operator (Number op)) (password_item label.Password password) third None

-- PROTOCOL 5.4, 5.5: what is done to the line behind its product, or to the whole receipt
abbrev pub adjusted : Adjust → Option Item
adjusted adjust.Nothing = None
adjusted (adjust.PercentMore p) = labelled label.PercentMore (Sum p)
adjusted (adjust.PercentLess p) = labelled label.PercentLess (Sum p)
adjusted (adjust.AmountMore a) = labelled label.AmountMore (Sum a)
adjusted (adjust.AmountLess a) = labelled label.AmountLess (Sum a)

-- PROTOCOL 5.4: 49
abbrev pub sale_fields : Sale → List (Option Item)
sale_fields s =
    four (labelled (cond s.minus label.TakenBack label.Group) (Letter (65 + s.group % 8))) (labelled label.Price (Sum s.price))
    (labelled label.Quantity (Thousandths s.quantity)) (adjusted s.adjust)

-- PROTOCOL 5.5: 51
abbrev pub flags : (print show : Bool) → Option Item → List (Option Item)
flags print show third =
    four (labelled label.Prints (Said (cond print saying.Yes saying.No))) (labelled label.Shows (Said (cond show saying.Yes saying.No))) third None

-- PROTOCOL 5.6: 53
abbrev pub mode_saying : Mode → Saying
mode_saying mode.Cash = saying.Cash
mode_saying mode.N = saying.N
mode_saying mode.C = saying.C
mode_saying mode.D = saying.D
mode_saying mode.B = saying.B

abbrev pub tendered : Tender → Option Item
tendered tender.Rest = labelled label.Amount (Said saying.WholeRest)
tendered (tender.Amount n) = labelled label.Amount (Sum n)

abbrev pub pay_fields : Payment → List (Option Item)
pay_fields p = four (labelled label.PaidIn (Said (mode_saying p.mode))) (tendered p.tender) None None

-- PROTOCOL 5.12, 5.13: 65 and 69
abbrev pub asks_for : Bool → Saying → Saying → List (Option Item)
asks_for which this that = alone (labelled label.AsksFor (Said (cond which this that)))

-- PROTOCOL 5.14: 70
abbrev pub drawer_fields : Service → List (Option Item)
drawer_fields service.Report = alone (labelled label.AsksFor (Said saying.Report))
drawer_fields (service.In n) = alone (labelled label.PutIn (Sum n))
drawer_fields (service.Out n) = alone (labelled label.TakenOut (Sum n))

-- PROTOCOL 5.1
abbrev pub fields_of : Command → List (Option Item)
fields_of OpenText = alone None
fields_of CloseText = alone None
fields_of PrintText = alone None
fields_of (Open op password till) = operator_fields op password (till_item till)
fields_of (Sell s) = sale_fields s
fields_of (Subtotal print show adjust) = flags print show (adjusted adjust)
fields_of (Pay p) = pay_fields p
fields_of Close = alone None
fields_of Cancel = alone None
fields_of (Sums taxes) = asks_for taxes saying.Taxes saying.DaySums
fields_of (Closing clears) = asks_for clears saying.Closing saying.Report
fields_of (Drawer service) = drawer_fields service
fields_of Status = alone None
fields_of Rates = alone None
fields_of ShowText = alone None
fields_of (ChangePassword op old new) = operator_fields op old (password_item label.NewPassword new)
fields_of (ChangeName op password) = operator_fields op password None

-- none where the data is not of the command's form, or there is no such command
abbrev pub asked_of : Parsed → List (Option Item)
asked_of (Ok c) = fields_of c
asked_of (Err why) = alone None
