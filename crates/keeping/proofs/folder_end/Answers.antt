-- The last slash, or none.
use Rattle.std.proofs.Common.{sym, rules}
use Rattle.keeping.proofs.Slashes.{none_there, last_at}
use Rattle.keeping.proofs.folder_end.Goals as goal

pub returns-in-Some : goal.returns-in-Some
returns-in-Some c = sym (last_at 47 c.args.path.now c.in-Some.last (search rules) (search rules) (search rules))

pub returns-in-None : goal.returns-in-None
returns-in-None c = sym (none_there 47 c.args.path.now (search rules))
