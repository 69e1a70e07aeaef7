-- What entries make of the lines that stand: what they come to, where they come from, and how many they are.
use Rattle.std.proofs.lemmas.Bool.{and_parts}
use mathlib.Core.Path.{◌≡◌, refl, sym, ap, ◌∙◌, subst}
use mathlib.Core.Bool.{Bool, true, false, cond, not, ◌&&◌, false≢true}
use mathlib.Core.List.{List, [], ◌∷◌, ◌++◌}
use mathlib.Core.Logic.{⊎_elim, inl}
use Prim.Native.Nat.{ℕ, ◌+◌, ◌-◌, ◌≤◌, ◌<◌}
use native.Mathlib.Omega.{arith}
use lib.Dec.{ltb, eqb}
use lib.ListN.{length}
use borrow.Author.Tests.{ltb-true, ltb-false, eq-eqb, eqb-true, not-true}
use Rattle.kinds.specs.declared.Adjust.{Adjust}
use Rattle.kinds.specs.declared.Sale.{Sale}
use Rattle.sheet.specs.Sheet.{line_of, no_match}
use Rattle.sheet.specs.declared.Line.{Line}
use Rattle.std.specs.Prelude.{Option, is_some, unwrap_or}
use Rattle.receipt.specs.Lines.{product_of, finished_of}
use Rattle.shares.specs.Shares.{is_less, more_or_less}
use Rattle.rules.specs.Views.{of_sale}
use Rattle.rules.specs.declared.views.View.{View}
use Rattle.rules.specs.declared.views.View.TheVariants.{Opens, Sells, Adjusts, Pays, Closes, Cancels, OpensText, ClosesText, Clears, Puts, Takes, Asks}
use Rattle.history.specs.Entries.{Entry, did_of, of_adjust}
use Rattle.history.specs.History.{ReceiptTold, is_another, receipt_after, figures_of}
use Rattle.history.specs.Sold.{is_like, newest_like, without_newest, amount_told, sold_after}
use Rattle.history.specs.TakingBack.{lines_in, line_at, same_receipt, AddedBy, by_newest, by_earlier, TookBack, standing, worth_of, share_told, discount_told, surcharge_told, shares_where, discounts_in, surcharges_in, lines_where, lines_added, lines_off}
use Rattle.history.proofs.Places.{at_newest, at_older, like_parts, found_in, SameOrBack, same_or_back, one_fewer, worth_less}
use Rattle.history.proofs.Sheets.{as_many, count_more}

-- what a line makes of a group; `off` are its discounts, `on` its surcharges
module _ (x : Sale) (ls : List Line) (g sum off on : ℕ) where
  abbrev amount_if : Bool → ℕ
  amount_if minus = cond minus (unwrap_or (cond {A = Option ℕ} minus (newest_like x ls) no_match) 0) (finished_of (product_of x) x.adjust)

  line-worth : (minus same : Bool) → sum + off ≡ worth_of g ls + on → worth_of g (without_newest x ls) + cond same (unwrap_or (newest_like x ls) 0) 0 ≡ worth_of g ls
      → (minus ≡ true → same ≡ true → unwrap_or (newest_like x ls) 0 ≤ sum)
      → sum + cond (same && not minus) (amount_if minus) 0 - cond (same && minus) (amount_if minus) 0 + (off + 0)
      ≡ cond (not minus && same) (amount_if minus) 0 + worth_of g (cond minus (without_newest x ls) ls) + (on + 0)
  line-worth true true e w covered = omega (arith, covered refl refl)
  line-worth true false e w covered = omega arith
  line-worth false true e w covered = omega arith
  line-worth false false e w covered = omega arith

-- and a Percent or an Abs on the receipt
adjust_worth : (less : Bool) (sum share worth off on : ℕ) → sum + off ≡ worth + on → (less ≡ true → share ≤ sum)
    → more_or_less less sum share + (off + cond less share 0) ≡ worth + (on + cond less 0 share)
adjust_worth true sum share worth off on e covered = omega (arith, covered refl)
adjust_worth false sum share worth off on e covered = omega arith

-- a group with its discounts is what its lines that stand come to with its surcharges
abbrev shares_after : (ReceiptTold → Adjust → ℕ) → List Entry → View → ℕ
shares_after f es v = cond (is_another v) 0 (shares_where f es + of_adjust 0 (f (figures_of es).receipt) v)

abbrev pub Balanced : ℕ → List Entry → View → List ℕ → Type 0
Balanced g es v shown =
    (receipt_after v shown (figures_of es).receipt).sums g + shares_after (discount_told g) es v
    ≡ worth_of g (receipt_after v shown (figures_of es).receipt).sold + shares_after (surcharge_told g) es v

-- what is known of a line with `-`, and of a discount, that is done: it is covered
pub record Covered (r : ReceiptTold) (v : View) : Type 0 where
  pub line : (x : Sale) → v ≡ Sells x → x.minus ≡ true → unwrap_or (newest_like x r.sold) 0 ≤ r.sums x.group
  pub discount : (a : Adjust) → v ≡ Adjusts a → is_less a ≡ true → (g : ℕ) → share_told g r a ≤ r.sums g

pub balanced : (es : List Entry) (g : ℕ) → (figures_of es).receipt.sums g + discounts_in g es ≡ worth_of g (lines_in es) + surcharges_in g es
    → (v : View) (shown : List ℕ) → Covered (figures_of es).receipt v → Balanced g es v shown
balanced es g e Opens shown c = refl
balanced es g e (Sells x) shown c =
    let r = (figures_of es).receipt in
    line-worth x r.sold g (r.sums g) (discounts_in g es) (surcharges_in g es) x.minus (eqb x.group g) e (worth_less x g r.sold)
    (λ minus same. subst (λ i. unwrap_or (newest_like x r.sold) 0 ≤ r.sums i) (eqb-true x.group g same) (c.line x refl minus))
balanced es g e (Adjusts a) shown c =
    let r = (figures_of es).receipt in
    adjust_worth (is_less a) (r.sums g) (share_told g r a) (worth_of g r.sold) (discounts_in g es) (surcharges_in g es) e (λ less. c.discount a refl less g)
balanced es g e (Pays p) shown c = omega arith
balanced es g e Closes shown c = refl
balanced es g e Cancels shown c = refl
balanced es g e OpensText shown c = omega arith
balanced es g e ClosesText shown c = omega arith
balanced es g e Clears shown c = omega arith
balanced es g e (Puts n) shown c = omega arith
balanced es g e (Takes n) shown c = omega arith
balanced es g e (Asks when shown') shown c = omega arith

-- a line found is among those that stand
pub worth_covers : (x : Sale) (ls : List Line) (minus : Bool) → unwrap_or (cond {A = Option ℕ} minus (newest_like x ls) no_match) 0 ≤ worth_of x.group ls
worth_covers x ls true = omega (arith, worth_less x x.group ls, ap (λ t. cond t (unwrap_or (newest_like x ls) 0) 0) (eq-eqb x.group x.group refl))
worth_covers x ls false = omega arith

-- while the receipt is the same, its lines stay in their places, and each is as it was or is taken back
line_after : (r : ReceiptTold) (v : View) (shown : List ℕ) → is_another v ≡ false → (i : ℕ) → i < length r.sold
    → (i < length (receipt_after v shown r).sold) × SameOrBack (line_at i (receipt_after v shown r).sold) (line_at i r.sold)
line_after r Opens shown e i lt = absurd (false≢true (sym e))
line_after r (Sells x) shown e i lt = (omega (arith, count_more x.minus x r.sold), subst (λ l. SameOrBack l (line_at i r.sold)) (sym older) (go x.minus))
  where
    older : line_at i (sold_after r.sold x) ≡ line_at i (cond x.minus (without_newest x r.sold) r.sold)
    older =
        at_older (line_of x (amount_told r.sold x)) (cond x.minus (without_newest x r.sold) r.sold) i
        (λ z. omega (arith, z, count_more x.minus x r.sold))

    go : (minus : Bool) → SameOrBack (line_at i (cond minus (without_newest x r.sold) r.sold)) (line_at i r.sold)
    go true = same_or_back x r.sold i
    go false = inl refl
line_after r (Adjusts a) shown e i lt = (lt, inl refl)
line_after r (Pays p) shown e i lt = (lt, inl refl)
line_after r Closes shown e i lt = absurd (false≢true (sym e))
line_after r Cancels shown e i lt = absurd (false≢true (sym e))
line_after r OpensText shown e i lt = (lt, inl refl)
line_after r ClosesText shown e i lt = (lt, inl refl)
line_after r Clears shown e i lt = (lt, inl refl)
line_after r (Puts n) shown e i lt = (lt, inl refl)
line_after r (Takes n) shown e i lt = (lt, inl refl)
line_after r (Asks when shown') shown e i lt = (lt, inl refl)

-- one that does not stand stays so
module _ (es : List Entry) (i : ℕ) (lt : i < length (lines_in es)) (back : (line_at i (lines_in es)).stands ≡ false) where
  pub still_back : (later : List Entry) → same_receipt later ≡ true
      → (i < length (lines_in (later ++ es))) × (line_at i (lines_in (later ++ es)) ≡ line_at i (lines_in es))
  still_back [] e = (lt, refl)
  still_back (n ∷ later) e =
      let parts = and_parts (not (is_another (did_of n))) (same_receipt later) e in
      let before = still_back later parts.1 in
      let now = line_after (figures_of (later ++ es)).receipt (did_of n) n.shown (not-true (is_another (did_of n)) parts.0) i before.0 in (
        now.0,
        ⊎_elim (λ same. same ∙ before.1) (λ other. absurd (false≢true (sym back ∙ sym (ap (λ (l : Line). l.stands) before.1) ∙ other.0))) now.1,
      )

-- one that stands is one that stood, or the newest entry sold it
module _ (e : Entry) (es : List Entry) (older : (i : ℕ) → i < length (lines_in es) → (line_at i (lines_in es)).stands ≡ true → AddedBy (line_at i (lines_in es)) es) where
  abbrev now : View → List Line
  now v = (receipt_after v e.shown (figures_of es).receipt).sold

  stays-added : (v : View) → did_of e ≡ v → is_another v ≡ false → (i : ℕ) → i < length (lines_in es) → (line_at i (now v)).stands ≡ true → AddedBy (line_at i (now v)) (e ∷ es)
  stays-added v is other i lt stands =
      ⊎_elim
      (λ same. by_earlier (ap is_another is ∙ other) (subst (λ l. AddedBy l es) (sym same) (older i lt (sym (ap (λ (l : Line). l.stands) same) ∙ stands))))
      (λ back. absurd (false≢true (sym back.1 ∙ stands)))
      (line_after (figures_of es).receipt v e.shown other i lt).1

  new_line : (x : Sale) → did_of e ≡ Sells x → (l : Line) → l ≡ line_of x (amount_told (lines_in es) x) → l.stands ≡ true → AddedBy l (e ∷ es)
  new_line x is l same stands =
      let plus : x.minus ≡ false = not-true x.minus (sym (ap (λ (z : Line). z.stands) same) ∙ stands) in
      by_newest x is plus (same ∙ ap (λ t. line_of x (cond t (unwrap_or (cond {A = Option ℕ} t (newest_like x (lines_in es)) no_match) 0) (finished_of (product_of x) x.adjust))) plus)

  sold-line : (x : Sale) → did_of e ≡ Sells x → (i : ℕ) → i < length (now (Sells x)) → (line_at i (now (Sells x))).stands ≡ true → AddedBy (line_at i (now (Sells x))) (e ∷ es)
  sold-line x is i lt stands = go (ltb i (length (lines_in es))) refl
    where
      go : (t : Bool) → ltb i (length (lines_in es)) ≡ t → AddedBy (line_at i (now (Sells x))) (e ∷ es)
      go true k = stays-added (Sells x) is refl i (ltb-true i (length (lines_in es)) k) stands
      go false k =
          new_line x is (line_at i (now (Sells x)))
          (at_newest (line_of x (amount_told (lines_in es) x)) (cond x.minus (without_newest x (lines_in es)) (lines_in es)) i
          (omega (arith, lt, ltb-false i (length (lines_in es)) k, count_more x.minus x (lines_in es))))
          stands

  added-by : (v : View) → did_of e ≡ v → (i : ℕ) → i < length (now v) → (line_at i (now v)).stands ≡ true → AddedBy (line_at i (now v)) (e ∷ es)
  added-by Opens is i lt stands = absurd (omega arith)
  added-by (Sells x) is i lt stands = sold-line x is i lt stands
  added-by (Adjusts a) is i lt stands = stays-added (Adjusts a) is refl i lt stands
  added-by (Pays p) is i lt stands = stays-added (Pays p) is refl i lt stands
  added-by Closes is i lt stands = absurd (omega arith)
  added-by Cancels is i lt stands = absurd (omega arith)
  added-by OpensText is i lt stands = stays-added OpensText is refl i lt stands
  added-by ClosesText is i lt stands = stays-added ClosesText is refl i lt stands
  added-by Clears is i lt stands = stays-added Clears is refl i lt stands
  added-by (Puts n) is i lt stands = stays-added (Puts n) is refl i lt stands
  added-by (Takes n) is i lt stands = stays-added (Takes n) is refl i lt stands
  added-by (Asks when shown) is i lt stands = stays-added (Asks when shown) is refl i lt stands

pub standing_added : (es : List Entry) (i : ℕ) → i < length (lines_in es) → (line_at i (lines_in es)).stands ≡ true → AddedBy (line_at i (lines_in es)) es
standing_added [] i lt stands = absurd (omega arith)
standing_added (e ∷ es) i lt stands = added-by e es (standing_added es) (did_of e) refl i lt stands

-- a line done with `-`, where one like it is found
module _ (es : List Entry) (e : Entry) (x : Sale) (is : did_of e ≡ Sells x) (minus : x.minus ≡ true) where
  abbrev amount : ℕ
  amount = amount_told (lines_in es) x

  amount-found : amount ≡ unwrap_or (newest_like x (lines_in es)) 0
  amount-found = ap (λ t. cond t (unwrap_or (cond {A = Option ℕ} t (newest_like x (lines_in es)) no_match) 0) (finished_of (product_of x) x.adjust)) minus

  lines_then : lines_in (e ∷ es) ≡ line_of x amount ∷ without_newest x (lines_in es)
  lines_then =
      ap (λ v. (receipt_after v e.shown (figures_of es).receipt).sold) is ∙ ap (λ t. line_of x amount ∷ cond t (without_newest x (lines_in es)) (lines_in es)) minus

  place-then : (i : ℕ) → i < length (lines_in es) → line_at i (lines_in (e ∷ es)) ≡ line_at i (without_newest x (lines_in es))
  place-then i lt =
      ap (line_at i) lines_then ∙ at_older (line_of x amount) (without_newest x (lines_in es)) i (λ z. omega (arith, z, as_many x (lines_in es)))

  -- its group, where it is this one and where not
  sum_then : (g : ℕ) → (same : Bool) → (same ≡ true → unwrap_or (newest_like x (lines_in es)) 0 ≤ (figures_of es).receipt.sums g)
      → (figures_of es).receipt.sums g + cond (same && not x.minus) amount 0 - cond (same && x.minus) amount 0 + cond same (unwrap_or (newest_like x (lines_in es)) 0) 0
      ≡ (figures_of es).receipt.sums g
  sum_then g true covered = omega (arith, covered refl, amount-found, ap (λ t. cond (not t) amount 0) minus, ap (λ t. cond t amount 0) minus)
  sum_then g false covered = omega arith

  amount-then : unwrap_or (newest_like x (lines_in es)) 0 ≤ (figures_of es).receipt.sums x.group → (g : ℕ)
      → (figures_of (e ∷ es)).receipt.sums g + cond (eqb x.group g) (unwrap_or (newest_like x (lines_in es)) 0) 0 ≡ (figures_of es).receipt.sums g
  amount-then covered g =
      ap (λ v. (receipt_after v e.shown (figures_of es).receipt).sums g + cond (eqb x.group g) (unwrap_or (newest_like x (lines_in es)) 0) 0) is
      ∙ sum_then g (eqb x.group g) (λ same. subst (λ i. unwrap_or (newest_like x (lines_in es)) 0 ≤ (figures_of es).receipt.sums i) (eqb-true x.group g same) covered)

  pub took : is_some (newest_like x (lines_in es)) ≡ true → unwrap_or (newest_like x (lines_in es)) 0 ≤ (figures_of es).receipt.sums x.group → TookBack x es (e ∷ es)
  took found covered =
      let f = found_in x (lines_in es) found in
      let like = like_parts (line_at f.place (lines_in es)) x f.like in
      record {
        place = f.place;
        among = f.among;
        added = standing_added es f.place f.among like.stood;
        stood = like.stood;
        price = like.price;
        quantity = like.quantity;
        group = like.group;
        last = f.last;
        marked = place-then f.place f.among ∙ f.marked;
        others = λ i lt z. place-then i lt ∙ f.others i lt z;
        off = λ g. ap (λ n. (figures_of (e ∷ es)).receipt.sums g + cond (eqb x.group g) n 0) (sym f.amount) ∙ amount-then covered g;
      }

-- one that is like no line finds none
pub none_found : (x : Sale) (ls : List Line) → ((i : ℕ) → i < length ls → is_like (line_at i ls) x ≡ false) → (t : Bool) → is_some (newest_like x ls) ≡ t → t ≡ false
none_found x ls none true e =
    let f = found_in x ls e in
    sym f.like ∙ none f.place f.among
none_found x ls none false e = refl

-- the lines that stand, and those done with `-`, are as many as were sold
abbrev lines_after : (Sale → Bool) → List Entry → View → ℕ
lines_after p es v = cond (is_another v) 0 (lines_where p es + of_sale 0 (λ s. cond (p s) 1 0) v)

abbrev pub Counted : List Entry → View → List ℕ → Type 0
Counted es v shown =
    standing (receipt_after v shown (figures_of es).receipt).sold + lines_after (λ s. s.minus) es v ≡ lines_after (λ s. not s.minus) es v

one_more_lem : (x : Sale) (ls : List Line) (off added : ℕ) (minus : Bool) → standing ls + off ≡ added → (minus ≡ true → is_some (newest_like x ls) ≡ true)
    → cond (not minus) 1 0 + standing (cond minus (without_newest x ls) ls) + (off + cond minus 1 0) ≡ added + cond (not minus) 1 0
one_more_lem x ls off added true e found = omega (arith, one_fewer x ls (found refl))
one_more_lem x ls off added false e found = omega arith

-- by the views; a line with `-` is done only where one is found
pub counted : (es : List Entry) → standing (lines_in es) + lines_off es ≡ lines_added es → (v : View) (shown : List ℕ)
    → ((x : Sale) → v ≡ Sells x → x.minus ≡ true → is_some (newest_like x (lines_in es)) ≡ true) → Counted es v shown
counted es e Opens shown found = refl
counted es e (Sells x) shown found = one_more_lem x (lines_in es) (lines_off es) (lines_added es) x.minus e (found x refl)
counted es e (Adjusts a) shown found = omega arith
counted es e (Pays p) shown found = omega arith
counted es e Closes shown found = refl
counted es e Cancels shown found = refl
counted es e OpensText shown found = omega arith
counted es e ClosesText shown found = omega arith
counted es e Clears shown found = omega arith
counted es e (Puts n) shown found = omega arith
counted es e (Takes n) shown found = omega arith
counted es e (Asks when shown') shown found = omega arith
