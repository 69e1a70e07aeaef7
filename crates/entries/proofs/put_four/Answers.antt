-- The four lines, one behind the other.
use Rattle.std.proofs.Common.{◌≡◌, refl, sym, Bool, None, List, [], ◌∷◌, ◌++◌, length, get_or, append-nil, arith, rules}
use Rattle.std.specs.Prelude.{Option}
use Rattle.items.specs.declared.Item.{Item}
use Rattle.sentences.proofs.Putting.{put_as, put_then}
use Rattle.entries.specs.Entries.{item_text, four_text}
use Rattle.entries.proofs.put_four.Goals as goal

four_as : (html : Bool) (lines : List (Option Item)) → length lines ≡ 4
    → item_text html (get_or lines 0 None)
    ++ (item_text html (get_or lines 1 None) ++ (item_text html (get_or lines 2 None) ++ (item_text html (get_or lines 3 None) ++ [])))
    ≡ four_text html lines
four_as html [] h = absurd (omega (arith, h))
four_as html (a ∷ []) h = absurd (omega (arith, h))
four_as html (a ∷ b ∷ []) h = absurd (omega (arith, h))
four_as html (a ∷ b ∷ c ∷ []) h = absurd (omega (arith, h))
four_as html (a ∷ b ∷ c ∷ d ∷ []) h = refl
four_as html (a ∷ b ∷ c ∷ d ∷ e ∷ more) h = absurd (omega (arith, h))

pub returns : goal.returns
returns c =
    put_as (put_then c.put_item-one.ensures (put_then c.put_item-two.ensures (put_then c.put_item-three.ensures (put_as c.put_item.ensures (sym (append-nil _))))))
    (four_as c.args.html c.args.lines (search rules))
