use Rattle.std.proofs.Common.{ℕ, ◌≡◌, Bool, ◌&&◌, List, [], ◌∷◌, leb, refl, sym, ap, ◌∙◌, rules, tests}
use Rattle.std.specs.List.{list_all}
use Rattle.std.proofs.lemmas.Iterator.{YieldsList-from_slice}
use Rattle.std.proofs.lemmas.Iterator.Search.{all_from_yields_List}
use Rattle.text.specs.Parts.{every}
use Rattle.labels.proofs.Tabs.{text_short}
use Rattle.labels.proofs.is_within.Goals as goal

list_all-every : (p : ℕ → Bool) (s : List ℕ) → list_all p s ≡ every p s
list_all-every p [] = refl
list_all-every p (b ∷ s) = ap (λ t. p b && t) (list_all-every p s)

pub returns-then-s-most : goal.returns-then-s-most
returns-then-s-most c =
    let s = c.args.s.now in
    let told : c.all.result ≡ list_all (leb 0x20) s = all_from_yields_List (leb 0x20) _ _ c.all.result c.all.ensures.ran (YieldsList-from_slice s cc) (λ x b q k. search (rules, tests)) in
    told ∙ list_all-every (leb 0x20) s ∙ sym (text_short c.args.most s c.if-s-most.true)
