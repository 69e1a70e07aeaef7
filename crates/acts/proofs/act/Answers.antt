use mathlib.Core.Path.{sym, ap, ◌∙◌}
use Rattle.deeds.specs.Deeds.{deed_of}
use Rattle.acts.proofs.act.Goals as goal

pub returns-in-Opens : goal.returns-in-Opens
returns-in-Opens c =
    c.open_fiscal.ensures ∙ sym (ap (deed_of c.args.books c.args.m) c.in-Opens.is)

pub returns-in-Sells : goal.returns-in-Sells
returns-in-Sells c =
    c.sell.ensures ∙ sym (ap (deed_of c.args.books c.args.m) c.in-Sells.is)

pub returns-in-Adjusts : goal.returns-in-Adjusts
returns-in-Adjusts c =
    c.adjust.ensures ∙ sym (ap (deed_of c.args.books c.args.m) c.in-Adjusts.is)

pub returns-in-Pays : goal.returns-in-Pays
returns-in-Pays c =
    c.pay.ensures ∙ sym (ap (deed_of c.args.books c.args.m) c.in-Pays.is)

pub returns-in-Closes : goal.returns-in-Closes
returns-in-Closes c =
    c.close.ensures ∙ sym (ap (deed_of c.args.books c.args.m) c.in-Closes.is)

pub returns-in-Cancels : goal.returns-in-Cancels
returns-in-Cancels c =
    c.cancel.ensures ∙ sym (ap (deed_of c.args.books c.args.m) c.in-Cancels.is)

pub returns-in-OpensText : goal.returns-in-OpensText
returns-in-OpensText c =
    c.open_text.ensures ∙ sym (ap (deed_of c.args.books c.args.m) c.in-OpensText.is)

pub returns-in-ClosesText : goal.returns-in-ClosesText
returns-in-ClosesText c =
    c.close_text.ensures ∙ sym (ap (deed_of c.args.books c.args.m) c.in-ClosesText.is)

pub returns-in-Clears : goal.returns-in-Clears
returns-in-Clears c =
    c.clear.ensures ∙ sym (ap (deed_of c.args.books c.args.m) c.in-Clears.is)

pub returns-in-Puts : goal.returns-in-Puts
returns-in-Puts c =
    c.put_in.ensures ∙ sym (ap (deed_of c.args.books c.args.m) c.in-Puts.is)

pub returns-in-Takes : goal.returns-in-Takes
returns-in-Takes c =
    c.take_out.ensures ∙ sym (ap (deed_of c.args.books c.args.m) c.in-Takes.is)

pub returns-in-Asks : goal.returns-in-Asks
returns-in-Asks c =
    c.ask.ensures ∙ sym (ap (deed_of c.args.books c.args.m) c.in-Asks.is)
