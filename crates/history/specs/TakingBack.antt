-- PROTOCOL 5.4: what it is to take back a line that was really sold. Lines are told by their places, the oldest at 0.
use Rattle.std.specs.Prelude.{ℕ, ◌+◌, ◌<◌, ◌≡◌, Bool, true, false, cond, not, ◌&&◌, List, [], ◌∷◌, eqb, length}
use Rattle.kinds.specs.declared.Adjust.{Adjust}
use Rattle.kinds.specs.declared.Sale.{Sale}
use Rattle.sheet.specs.Notes.{taken_back}
use Rattle.sheet.specs.Sheet.{blank, line_of}
use Rattle.sheet.specs.declared.Line.{Line}
use Rattle.receipt.specs.Lines.{product_of, finished_of}
use Rattle.shares.specs.Shares.{size_of, is_less, share_at}
use Rattle.rules.specs.Views.{of_sale}
use Rattle.rules.specs.declared.views.View.TheVariants.{Sells}
use Rattle.history.specs.Entries.{Entry, did_of, of_adjust}
use Rattle.history.specs.History.{ReceiptTold, total_in, is_another, figures_of}
use Rattle.history.specs.Sold.{is_like}

-- the lines of the open receipt, and the one at a place
abbrev pub lines_in : List Entry → List Line
lines_in es = (figures_of es).receipt.sold

abbrev pub line_at : ℕ → List Line → Line
line_at i [] = blank
line_at i (l ∷ ls) = cond (eqb i (length ls)) l (line_at i ls)

-- PROTOCOL 5.3, 5.7, 5.8: none of these entries begins or ends a fiscal receipt
abbrev pub same_receipt : List Entry → Bool
same_receipt [] = true
same_receipt (e ∷ es) = not (is_another (did_of e)) && same_receipt es

-- PROTOCOL 5.4: a line that an entry of the open receipt sold, with its finished amount
pub data AddedBy (l : Line) : List Entry → Type 0 where
  by_newest : {e : Entry} {es : List Entry} (x : Sale) → did_of e ≡ Sells x → x.minus ≡ false
      → l ≡ line_of x (finished_of (product_of x) x.adjust) → AddedBy l (e ∷ es)
  by_earlier : {e : Entry} {es : List Entry} → is_another (did_of e) ≡ false → AddedBy l es → AddedBy l (e ∷ es)

-- PROTOCOL 5.4: a 49 with `-` took back a line
pub record TookBack (x : Sale) (before after : List Entry) : Type 0 where
  pub place : ℕ
  pub among : place < length (lines_in before)
  -- an entry of this receipt had sold it, and it was not taken back yet
  pub added : AddedBy (line_at place (lines_in before)) before
  pub stood : (line_at place (lines_in before)).stands ≡ true
  -- of the same price, quantity and group, the last such line
  pub price : (line_at place (lines_in before)).price ≡ x.price
  pub quantity : (line_at place (lines_in before)).quantity ≡ x.quantity
  pub group : (line_at place (lines_in before)).group ≡ x.group
  pub last : (i : ℕ) → place < i → i < length (lines_in before) → is_like (line_at i (lines_in before)) x ≡ false
  -- now it is taken back, and all others stay
  pub marked : line_at place (lines_in after) ≡ taken_back (line_at place (lines_in before))
  pub others : (i : ℕ) → i < length (lines_in before) → (i ≡ place → ⊥) → line_at i (lines_in after) ≡ line_at i (lines_in before)
  -- its finished amount is off its group, and no other group has changed
  pub off : (g : ℕ) → (figures_of after).receipt.sums g + cond (eqb x.group g) (line_at place (lines_in before)).amount 0 ≡ (figures_of before).receipt.sums g

-- PROTOCOL 5.4, 6.5: how many lines stand, and what those in a group come to
abbrev pub standing : List Line → ℕ
standing [] = 0
standing (l ∷ ls) = cond l.stands 1 0 + standing ls

abbrev pub worth_of : (group : ℕ) → List Line → ℕ
worth_of g [] = 0
worth_of g (l ∷ ls) = cond (l.stands && eqb l.group g) l.amount 0 + worth_of g ls

-- PROTOCOL 6.8: a group's share in a Percent or an Abs on the receipt: of a discount, and of a surcharge
module _ (g : ℕ) (r : ReceiptTold) (a : Adjust) where
  abbrev pub share_told : ℕ
  share_told = share_at (size_of (total_in r) a) (total_in r) r.sums g

  abbrev pub discount_told : ℕ
  discount_told = cond (is_less a) share_told 0

  abbrev pub surcharge_told : ℕ
  surcharge_told = cond (is_less a) 0 share_told

-- PROTOCOL 6.8: all discounts, and all surcharges, that a group of the open receipt had a share in
abbrev pub shares_where : (ReceiptTold → Adjust → ℕ) → List Entry → ℕ
shares_where f [] = 0
shares_where f (e ∷ es) = cond (is_another (did_of e)) 0 (shares_where f es + of_adjust 0 (f (figures_of es).receipt) (did_of e))

abbrev pub discounts_in : (group : ℕ) → List Entry → ℕ
discounts_in g = shares_where (discount_told g)

abbrev pub surcharges_in : (group : ℕ) → List Entry → ℕ
surcharges_in g = shares_where (surcharge_told g)

-- PROTOCOL 5.4: how many lines were done on the open receipt: sold, and with `-`
abbrev pub lines_where : (Sale → Bool) → List Entry → ℕ
lines_where p [] = 0
lines_where p (e ∷ es) = cond (is_another (did_of e)) 0 (lines_where p es + of_sale 0 (λ s. cond (p s) 1 0) (did_of e))

abbrev pub lines_added : List Entry → ℕ
lines_added = lines_where (λ s. not s.minus)

abbrev pub lines_off : List Entry → ℕ
lines_off = lines_where (λ s. s.minus)
