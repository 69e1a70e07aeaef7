-- What the lines of a telling are called (EXPLAIN 2).
use Rattle.std.specs.Prelude.{ℕ, List}
use Rattle.letters.specs.Letters.{bytes}
use Rattle.items.specs.declared.Label.{Label}
use Rattle.items.specs.declared.Label.TheVariants as label
use Rattle.items.specs.declared.Saying.{Saying}
use Rattle.items.specs.declared.Saying.TheVariants as saying
use Rattle.items.specs.declared.Kind.{Kind}
use Rattle.items.specs.declared.Kind.TheVariants as kind

-- the label of a line
abbrev pub label_word : Label → List ℕ
label_word label.Frame = bytes "frame"
label_word label.Seq = bytes "SEQ"
label_word label.Cmd = bytes "CMD"
label_word label.Data = bytes "data"
label_word label.Operator = bytes "operator"
label_word label.Password = bytes "password"
label_word label.NewPassword = bytes "new password"
label_word label.TillNumber = bytes "till number"
label_word label.Group = bytes "group"
label_word label.TakenBack = bytes "taken back, of group"
label_word label.Price = bytes "price"
label_word label.Quantity = bytes "quantity"
label_word label.PercentMore = bytes "percent added"
label_word label.PercentLess = bytes "percent taken off"
label_word label.AmountMore = bytes "amount added"
label_word label.AmountLess = bytes "amount taken off"
label_word label.Text = bytes "text"
label_word label.SecondText = bytes "second text"
label_word label.PaidIn = bytes "paid in"
label_word label.Amount = bytes "amount"
label_word label.AsksFor = bytes "asks for"
label_word label.Prints = bytes "asks to print"
label_word label.Shows = bytes "asks to show"
label_word label.PutIn = bytes "put in"
label_word label.TakenOut = bytes "taken out"
label_word label.Reply = bytes "reply"
label_word label.Reason = bytes "reason"
label_word label.Answer = bytes "answer"
label_word label.Status = bytes "status"
label_word label.Came = bytes "came"
label_word label.CameAnew = bytes "came, and begins a frame anew"
label_word label.Place = bytes "at byte behind 01"
label_word label.Expected = bytes "expected"
label_word label.Part = bytes "expected as"
label_word label.Skipped = bytes "bytes skipped"
label_word label.OnDisplay = bytes "on the display"

-- a value in words; the parts of a frame as PROTOCOL 1.2 calls them, the registers as PROTOCOL 5.6 does
abbrev pub saying_word : Saying → List ℕ
saying_word saying.Yes = bytes "yes"
saying_word saying.No = bytes "no"
saying_word saying.Cash = bytes "cash"
saying_word saying.N = bytes "register N"
saying_word saying.C = bytes "register C"
saying_word saying.D = bytes "register D"
saying_word saying.B = bytes "register B"
saying_word saying.WholeRest = bytes "the whole rest"
saying_word saying.Taxes = bytes "the taxes in the day sums"
saying_word saying.DaySums = bytes "the day sums"
saying_word saying.Closing = bytes "the closing of the day"
saying_word saying.Report = bytes "a report only"
saying_word saying.Start = bytes "the first byte of a frame"
saying_word saying.Len = bytes "LEN"
saying_word saying.Seq = bytes "SEQ"
saying_word saying.Cmd = bytes "CMD"
saying_word saying.Data = bytes "data, as LEN says"
saying_word saying.Five = bytes "the end of what is counted, where LEN puts it"
saying_word saying.Bcc = bytes "a digit of BCC, by the sum of LEN to 05"
saying_word saying.End = bytes "the end of the frame"
saying_word saying.Nothing = bytes "nothing"

-- what became of a frame
abbrev pub kind_word : Kind → List ℕ
kind_word kind.Done = bytes "done"
kind_word kind.Refused = bytes "refused"
kind_word kind.Broken = bytes "broken frame"
kind_word kind.Repeat = bytes "repeat"
kind_word kind.Skipped = bytes "bytes outside frames"
kind_word kind.Cut = bytes "a frame that the recording ends in"
