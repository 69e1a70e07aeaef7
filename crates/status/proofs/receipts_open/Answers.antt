use Rattle.status.proofs.receipts_open.Goals as goal

pub returns-in-Nothing : goal.returns-in-Nothing
returns-in-Nothing c = rw c.in-Nothing.is

pub returns-in-Fiscal : goal.returns-in-Fiscal
returns-in-Fiscal c = rw c.in-Fiscal.is

pub returns-in-Text : goal.returns-in-Text
returns-in-Text c = rw c.in-Text.is
