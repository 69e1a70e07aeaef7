-- A sheet that holds the lines of the open receipt: a search of it brings what the entries tell, and a line leaves in it what they tell.
use Rattle.std.proofs.lemmas.Bool.{and_parts}
use mathlib.Core.Path.{◌≡◌, refl, sym, ap, ◌∙◌, subst}
use mathlib.Core.Bool.{Bool, true, false, cond, ◌&&◌}
use mathlib.Core.List.{List, [], ◌∷◌}
use Prim.Native.Nat.{ℕ, zero, suc, ◌≤◌, ◌<◌}
use native.Mathlib.Omega.{arith}
use lib.Dec.{ltb}
use lib.ListN.{length, get_or, set, length-set}
use lib.Seq.{get_or-set_same, get_or-set_other}
use borrow.Author.Tests.{ltb-true, lt-ltb, le-ltb, lt-leb}
use Rattle.kinds.specs.declared.Sale.{Sale}
use Rattle.sheet.specs.Sheet.{blank, held_of, line_of, matches, newest, match_at, no_match}
use Rattle.sheet.specs.Notes.{taken_back, noted}
use Rattle.sheet.specs.Searches.{no_search, place_of, match_of}
use Rattle.sheet.specs.declared.Line.{Line}
use Rattle.std.specs.Prelude.{Option, Some}
use Rattle.sheet.specs.declared.Search.{Search}
use Rattle.sheet.specs.declared.Note.TheVariants.{Adds, TakesBack}
use Rattle.receipt.specs.Lines.{adjust_fits, fits}
use Rattle.receipt.specs.Receipts.{amount_of}
use Rattle.receipt.proofs.Adjusting.{fits_parts}
use Rattle.rules.specs.Rules.{note_of, rule_of}
use Rattle.rules.specs.Views.{of_sale}
use Rattle.rules.specs.declared.views.View.{View}
use Rattle.rules.specs.declared.views.View.TheVariants.{Opens, Sells, Adjusts, Pays, Closes, Cancels, OpensText, ClosesText, Clears, Puts, Takes, Asks}
use Rattle.rules.specs.Searches.{searched}
use Rattle.store.specs.Commands.{place_for, match_for}
use Rattle.store.specs.Store.{Store}
use Rattle.history.specs.Agrees.{Agrees}
use Rattle.history.specs.Entries.{Entry}
use Rattle.history.specs.History.{ReceiptTold, receipt_after, figures_of}
use Rattle.history.specs.Reached.{Reached}
use Rattle.history.specs.Sold.{is_like, newest_like, without_newest, match_told, sold_after, read_as, Holds}
use Rattle.history.proofs.Steps.{Free, LineDone, line_done}

-- of every command: what the entries tell of the line that it takes back
abbrev pub match_in : List Line → View → Option ℕ
match_in ls = of_sale no_match (match_told ls)

-- the record of a line that is done is read as it is
held : (lowest limit n : ℕ) → lowest ≤ n → n < limit → held_of lowest limit n ≡ n
held lowest limit n low high = rw (le-ltb n lowest low, lt-leb limit n high)

some_quantity : (s : Sale) → fits s ≡ true → 0 < s.quantity
some_quantity s e =
    let all = and_parts (ltb s.group 8 && ltb s.price 10000000000 && ltb 0 s.quantity && ltb s.quantity 100000000000) (adjust_fits s.minus s.adjust) e in
    let four = and_parts (ltb s.group 8 && ltb s.price 10000000000 && ltb 0 s.quantity) (ltb s.quantity 100000000000) all.0 in
    ltb-true 0 s.quantity (and_parts (ltb s.group 8 && ltb s.price 10000000000) (ltb 0 s.quantity) four.0).1

line_read : (s : Sale) (a : ℕ) → fits s ≡ true → a ≤ 99999999 → read_as (line_of s a) ≡ line_of s a
line_read s a e small =
    let p = fits_parts s e in
    let q = some_quantity s e in
    rw (held 0 10000000000 s.price (omega arith) p.1, held 1 100000000000 s.quantity (omega (arith, q)) p.2, held 0 100000000 a (omega arith) (omega arith), held 0 8 s.group (omega arith) p.0)

-- a record past the lines is none of them
holds_past : (sheet ls : List Line) (i : ℕ) (x : Line) → length ls ≤ i → Holds sheet ls → Holds (set sheet i x) ls
holds_past sheet [] i x h k = k
holds_past sheet (l ∷ ls) i x h k =
    (ap read_as (get_or-set_other sheet i (length ls) x blank (λ e. omega (arith, e))) ∙ k.0, holds_past sheet ls i x (omega arith) k.1)

-- one line more
holds_more : (sheet ls : List Line) (n : ℕ) (x : Line) → n ≡ length ls → n < length sheet → read_as x ≡ x → Holds sheet ls → Holds (set sheet n x) (x ∷ ls)
holds_more sheet ls n x e h r k =
    (ap (λ i. read_as (get_or (set sheet n x) i blank)) (sym e) ∙ ap read_as (get_or-set_same sheet n x blank h) ∙ r, holds_past sheet ls n x (omega arith) k)

pub as_many : (s : Sale) (ls : List Line) → length (without_newest s ls) ≡ length ls
as_many s [] = refl
as_many s (l ∷ ls) = go (as_many s ls) (is_like l s) refl
  where
    go : length (without_newest s ls) ≡ length ls → (t : Bool) → is_like l s ≡ t → length (without_newest s (l ∷ ls)) ≡ suc (length ls)
    go older true e = rw e
    go older false e = rw e (ap suc older)

module _ (sheet : List Line) (s : Sale) (none : ℕ) where
  -- where the search of the first n records ends
  abbrev place : ℕ → ℕ
  place n = newest sheet (line_of s 0) none n

  abbrev brought : ℕ → Option ℕ
  brought at = match_at at none (get_or sheet at blank)

  abbrev marked : ℕ → List Line
  marked at = set sheet at (taken_back (get_or sheet at blank))

  -- it ends in none that it did not look at
  ends-within : (n i : ℕ) → n ≤ i → i < none → i ≡ place n → ⊥
  unfolding newest
  ends-within zero i h k e = omega (arith, e)
  ends-within (suc n) i h k e = go (ends-within n i (omega arith) k) (matches (get_or sheet n blank) (line_of s 0)) e
    where
      go : (i ≡ place n → ⊥) → (t : Bool) → i ≡ cond t n (place n) → ⊥
      go older true e = omega (arith, e)
      go older false e = older e

  found-told : (ls : List Line) → length ls ≤ none → Holds sheet ls → brought (place (length ls)) ≡ newest_like s ls
  unfolding newest
  found-told [] h k = rw (le-ltb none none (omega arith))
  found-told (l ∷ ls) h k = ap (λ z. brought (cond (is_like z s) (length ls) (place (length ls)))) k.0 ∙ go (found-told ls (omega arith) k.1) (is_like l s)
    where
      go : brought (place (length ls)) ≡ newest_like s ls → (t : Bool)
          → brought (cond t (length ls) (place (length ls))) ≡ cond t (Some l.amount) (newest_like s ls)
      go older true = rw (lt-ltb (length ls) none (omega arith), ← k.0)
      go older false = older

  marked-told : (ls : List Line) → length ls ≤ none → length ls ≤ length sheet → Holds sheet ls → Holds (marked (place (length ls))) (without_newest s ls)
  unfolding newest
  marked-told [] h r k = k
  marked-told (l ∷ ls) h r k = subst (λ z. Holds (marked (cond (is_like z s) (length ls) (place (length ls)))) (without_newest s (l ∷ ls))) (sym k.0) (go (marked-told ls (omega arith) (omega arith) k.1) (is_like l s))
    where
      go : Holds (marked (place (length ls))) (without_newest s ls) → (t : Bool)
          → Holds (marked (cond t (length ls) (place (length ls)))) (cond t (taken_back l ∷ ls) (l ∷ without_newest s ls))
      go older true = (
        ap read_as (get_or-set_same sheet (length ls) (taken_back (get_or sheet (length ls) blank)) blank (omega arith)) ∙ ap taken_back k.0,
        holds_past sheet ls (length ls) (taken_back (get_or sheet (length ls) blank)) (omega arith) k.1,
      )
      go older false = (
        ap (λ n. read_as (get_or (marked (place (length ls))) n blank)) (as_many s ls)
            ∙ ap read_as (get_or-set_other sheet (place (length ls)) (length ls) (taken_back (get_or sheet (place (length ls)) blank)) blank (ends-within (length ls) (length ls) (omega arith) (omega arith)))
            ∙ k.0,
        older,
      )

-- a search of as many records as there are lines
module _ (sheet ls : List Line) (s : Sale) (n : ℕ) (all : n ≡ length ls) (k : Holds sheet ls) where
  abbrev search : Bool → Search
  search minus = cond minus (record { lines = n; wanted = line_of s 0 }) no_search

  match-told : match_of sheet (search s.minus) ≡ match_told ls s
  unfolding newest
  match-told = go s.minus
    where
      go : (minus : Bool) → match_of sheet (search minus) ≡ cond minus (newest_like s ls) no_match
      go true = ap (λ i. brought sheet s n (place sheet s n i)) all ∙ found-told sheet s n ls (omega arith) k
      go false = refl

  -- and what the line leaves
  line-left : (next : ℕ) → next ≡ length ls → next < length sheet → (a : ℕ) → read_as (line_of s a) ≡ line_of s a
      → Holds (noted sheet (place_of sheet (search s.minus)) next (note_of s a)) (line_of s a ∷ cond s.minus (without_newest s ls) ls)
  line-left next last room a r = go (line_of s a) r s.minus
    where
      go : (x : Line) → read_as x ≡ x → (minus : Bool)
          → Holds (noted sheet (place_of sheet (search minus)) next (cond minus (TakesBack x) (Adds x))) (x ∷ cond minus (without_newest s ls) ls)
      go x r true =
          holds_more (marked sheet s n (place sheet s n n)) (without_newest s ls) next x (last ∙ sym (as_many s ls))
          (omega (arith, length-set sheet (place sheet s n n) (taken_back (get_or sheet (place sheet s n n) blank)))) r
          (subst (λ i. Holds (marked sheet s n (place sheet s n i)) (without_newest s ls)) (sym all) (marked-told sheet s n ls (omega arith) (omega arith) k))
      go x r false = holds_more sheet ls next x last room r k

-- what a device remembers
module _ (es : List Entry) (s : Store) (k : Reached s.books) (h : Agrees es s) where
  abbrev lines : List Line
  lines = (figures_of es).receipt.sold

  as-many-lines : s.books.receipt.lines ≡ length lines
  as-many-lines = h.books.receipt.lines ∙ sym h.count

  all-searched : searched s.books ≡ length lines
  all-searched = omega (arith, as-many-lines, k.receipt.few_lines)

  pub match_for_lem : (v : View) → match_for s v ≡ match_in lines v
  unfolding newest
  match_for_lem Opens = refl
  match_for_lem (Sells x) = match-told s.sheet lines x (searched s.books) all-searched h.lines
  match_for_lem (Adjusts a) = refl
  match_for_lem (Pays p) = refl
  match_for_lem Closes = refl
  match_for_lem Cancels = refl
  match_for_lem OpensText = refl
  match_for_lem ClosesText = refl
  match_for_lem Clears = refl
  match_for_lem (Puts n) = refl
  match_for_lem (Takes n) = refl
  match_for_lem (Asks when shown) = refl

  line_kept : (x : Sale) → Free s.books (match_for s (Sells x)) (Sells x)
      → Holds (noted s.sheet (place_for s (Sells x)) s.books.receipt.lines (note_of x (amount_of x (match_for s (Sells x))))) (sold_after lines x)
  line_kept x free =
      let m = match_for s (Sells x) in
      let done : LineDone s.books m x = line_done s.books m x free in
      subst (λ z. Holds (noted s.sheet (place_for s (Sells x)) s.books.receipt.lines (note_of x (amount_of x m))) (line_of x (amount_of x z) ∷ cond x.minus (without_newest x lines) lines)) (match_for_lem (Sells x))
      (line-left s.sheet lines x (searched s.books) all-searched h.lines s.books.receipt.lines as-many-lines (omega (arith, done.few, h.room)) (amount_of x m)
      (line_read x (amount_of x m) done.fields done.amount))

  -- by the views: only a 48 and a line change it
  pub sheet_kept : (v : View) (shown : List ℕ) → Free s.books (match_for s v) v
      → Holds (noted s.sheet (place_for s v) s.books.receipt.lines (rule_of s.books (match_for s v) v).note) (receipt_after v shown (figures_of es).receipt).sold
  sheet_kept Opens shown free = tt
  sheet_kept (Sells x) shown free = line_kept x free
  sheet_kept (Adjusts a) shown free = h.lines
  sheet_kept (Pays p) shown free = h.lines
  sheet_kept Closes shown free = tt
  sheet_kept Cancels shown free = tt
  sheet_kept OpensText shown free = h.lines
  sheet_kept ClosesText shown free = h.lines
  sheet_kept Clears shown free = h.lines
  sheet_kept (Puts n) shown free = h.lines
  sheet_kept (Takes n) shown free = h.lines
  sheet_kept (Asks when shown') shown free = h.lines

-- there are as many lines as are counted
pub count_more : (minus : Bool) (s : Sale) (ls : List Line) → length (cond minus (without_newest s ls) ls) ≡ length ls
count_more true s ls = as_many s ls
count_more false s ls = refl

pub count_kept : (r : ReceiptTold) → length r.sold ≡ r.lines → (v : View) (shown : List ℕ)
    → length (receipt_after v shown r).sold ≡ (receipt_after v shown r).lines
count_kept r e Opens shown = refl
count_kept r e (Sells x) shown = omega (arith, count_more x.minus x r.sold)
count_kept r e (Adjusts a) shown = e
count_kept r e (Pays p) shown = e
count_kept r e Closes shown = refl
count_kept r e Cancels shown = refl
count_kept r e OpensText shown = e
count_kept r e ClosesText shown = e
count_kept r e Clears shown = e
count_kept r e (Puts n) shown = e
count_kept r e (Takes n) shown = e
count_kept r e (Asks when shown') shown = e
