use mathlib.Core.Path.{sym, ap}
use mathlib.Core.Bool.{cond}
use mathlib.Core.List.{[], ◌++◌}
use Rattle.letters.specs.Letters.{bytes}
use Rattle.captions.specs.Captions.{kind_word}
use Rattle.sentences.proofs.Putting.{put_as, put_then}
use Rattle.pages.proofs.put_section.Goals as goal

pub returns-then-not-html : goal.returns-then-not-html
returns-then-not-html c =
    put_as c.put.ensures (sym (ap (λ h. cond h (bytes "<section class='" ++ kind_word c.args.kind ++ bytes "'><h2>") []) (c.if-not-html.true)))

pub returns : goal.returns
returns c =
    put_as (put_then (put_then c.put-begun.ensures c.put_kind-named.ensures) c.put-2.ensures)
    (sym (ap (λ h. cond h (bytes "<section class='" ++ kind_word c.args.kind ++ bytes "'><h2>") []) (c.if-not-html.false)))
