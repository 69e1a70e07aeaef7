-- Request 2026-01: a line is taken back that was really sold, at most once; what stands on the receipt is what it comes to.
use mathlib.Core.Path.{◌≡◌, refl, sym, ap, ◌∙◌, subst}
use mathlib.Core.Bool.{Bool, true, false, cond, not, ◌&&◌, ◌||◌}
use mathlib.Core.List.{List, ◌∷◌, ◌++◌}
use Prim.Native.Nat.{ℕ, ◌+◌, ◌≤◌, ◌<◌}
use native.Mathlib.Omega.{arith}
use lib.Dec.{leb, ltb}
use lib.ListN.{length}
use Rattle.kinds.specs.declared.Command.TheVariants.{Sell}
use Rattle.kinds.specs.declared.Sale.{Sale}
use Rattle.sheet.specs.Sheet.{no_match}
use Rattle.std.specs.Prelude.{is_some, unwrap_or}
use Rattle.receipt.specs.Lines.{product_of, too_much_off}
use Rattle.receipt.specs.Receipts.{not_permitted}
use Rattle.receipt.proofs.Adjusting.{fits_parts}
use Rattle.shares.specs.Shares.{size_of, share_at}
use Rattle.shares.proofs.Laws.{free_tells, not_too_much, a_share_is_covered}
use Rattle.books.specs.Groups.{at}
use Rattle.books.specs.Rates.{rate_in, is_enabled}
use Rattle.books.specs.declared.Books.{Books}
use Rattle.books.specs.declared.Shown.TheVariants.{Nothing}
use Rattle.rules.specs.Reasons.{none_open}
use Rattle.rules.specs.Rules.{Rule, rule_of}
use Rattle.rules.specs.Views.{view_of}
use Rattle.rules.specs.declared.views.View.{View}
use Rattle.rules.specs.declared.views.View.TheVariants.{Sells, Adjusts, Asks}
use Rattle.rules.specs.declared.views.When.TheVariants.{Always}
use Rattle.deeds.specs.Deeds.{judged}
use Rattle.deeds.specs.declared.Deed.{Deed}
use Rattle.store.specs.Commands.{match_for, deed_on}
use Rattle.store.specs.Store.{Store}
use Rattle.history.specs.Agrees.{Agrees, LeadsTo, fresh, next, barred, guarded}
use Rattle.history.specs.Digits.{Given}
use Rattle.history.specs.Entries.{Entry, entry_of, is_done}
use Rattle.history.specs.History.{figures_of}
use Rattle.history.specs.Reached.{Reached}
use Rattle.history.specs.Sold.{is_like, newest_like}
use Rattle.history.specs.TakingBack.{lines_in, line_at, same_receipt, AddedBy, TookBack, standing, worth_of, discounts_in, surcharges_in, lines_added, lines_off}
use Rattle.history.proofs.Histories.{history_reached, history_agrees}
use Rattle.history.proofs.Sheets.{match_for_lem}
use Rattle.history.proofs.Standing.{Covered, Balanced, balanced, worth_covers, still_back, standing_added, took, none_found, Counted, counted}
use Rattle.history.proofs.Steps.{Free, Step, refused, goes, line_done, adjust_done, judging}

-- what the sheet brings a line with `-` is what the entries tell; one that is done has found its line
module _ (es : List Entry) (s : Store) (x : Sale) (k : Reached s.books) (h : Agrees es s) (minus : x.minus ≡ true) where
  told : match_for s (Sells x) ≡ newest_like x (lines_in es)
  told = match_for_lem es s k h (Sells x) ∙ ap (λ t. cond t (newest_like x (lines_in es)) no_match) minus

  found : Free s.books (match_for s (Sells x)) (Sells x) → is_some (newest_like x (lines_in es)) ≡ true
  found free = ap is_some (sym told) ∙ (line_done s.books (match_for s (Sells x)) x free).found minus

  -- and its group has at least that
  covered : Free s.books (match_for s (Sells x)) (Sells x) → unwrap_or (newest_like x (lines_in es)) 0 ≤ (figures_of es).receipt.sums x.group
  covered free =
      let done = line_done s.books (match_for s (Sells x)) x free in
      omega (arith, ap (λ m. unwrap_or m 0) (sym told), done.covered minus, h.books.receipt.groups x.group (fits_parts x done.fields).0)

-- 3 by the last of its reasons, that there is no line to take back
last_reason : (a b : Bool) → b ≡ true → a || b ≡ true
last_reason true b e = refl
last_reason false b e = e

no_line : (minus found below : Bool) → minus ≡ true → found ≡ false → minus && (not found || below) ≡ true
no_line minus found below e f = rw (e, f)

number_three : (b : Books) (r : Rule) → r.one ≡ false → r.three ≡ true → (judged b r).number ≡ 3
number_three b r e f = rw (e, f)

-- one command more, and the lines are counted
counted_next : (es : List Entry) (s : Store) → Reached s.books → Agrees es s → standing (lines_in es) + lines_off es ≡ lines_added es → (v : View) (shown : List ℕ) {d : Deed}
    → Step s.books (match_for s v) v d → Counted es (cond (is_done d.number) v (Asks Always Nothing)) shown
counted_next es s k h e v shown (refused n l) = omega arith
counted_next es s k h e v shown (goes free) =
    counted es e v shown (λ x is minus. found es s x k h minus (subst (λ w. Free s.books (match_for s w) w) is free))

-- "a minus line must now find the last plus line of the same price, quantity and group not yet taken back, and takes off its finished amount, discount and
-- all": each that is done did so
pub a_line_off_takes_back_one_sold : (es : List Entry) (s : Store) (x : Sale) → Reached s.books → Agrees es s → (deed_on s (Sells x)).number ≡ 0 → x.minus ≡ true
    → TookBack x es (entry_of s.books (Sell x) (deed_on s (Sells x)) ∷ es)
a_line_off_takes_back_one_sold es s x k h z minus =
    go (judging s.books (match_for s (Sells x)) (Sells x)) z (entry_of s.books (Sell x) (deed_on s (Sells x))).shown
  where
    go : {d : Deed} → Step s.books (match_for s (Sells x)) (Sells x) d → d.number ≡ 0 → (shown : List ℕ)
        → TookBack x es (record { command = Sell x; number = d.number; shown = shown } ∷ es)
    go (refused n l) z shown = absurd (omega (arith, z))
    go (goes free) z shown = took es (record { command = Sell x; number = 0; shown = shown }) x refl minus (found es s x k h minus free) (covered es s x k h minus free)

-- "An apprentice took back a coffee that nobody had sold": where no line stands of this price, quantity and group, it is refused with 3
pub what_nobody_sold_is_refused : (es : List Entry) (s : Store) (x : Sale) → Reached s.books → Agrees es s → Given (Sells x) → x.minus ≡ true
    → ((i : ℕ) → i < length (lines_in es) → is_like (line_at i (lines_in es)) x ≡ false) → (deed_on s (Sells x)).number ≡ 3
what_nobody_sold_is_refused es s x k h given minus none =
    let b = s.books in
    let m = match_for s (Sells x) in
    let enabled = is_enabled (rate_in b x.group) in
    let below = ltb (at b.receipt.groups x.group) (unwrap_or m 0) in
    let missing : is_some m ≡ false =
    ap is_some (told es s x k h minus) ∙ none_found x (lines_in es) none (is_some (newest_like x (lines_in es))) refl in
    number_three b (rule_of b m (Sells x)) (given.one b m)
    (last_reason (none_open b) (not_permitted b.receipt x m enabled)
    (last_reason (b.receipt.tried || leb 512 b.receipt.lines || not enabled || too_much_off (product_of x) x.adjust) (x.minus && (not (is_some m) || below)) (no_line x.minus (is_some m) below minus missing)))

-- a line that stands was sold by an entry of this receipt, whatever the entries are
pub what_stands_was_sold : (es : List Entry) (i : ℕ) → i < length (lines_in es) → (line_at i (lines_in es)).stands ≡ true → AddedBy (line_at i (lines_in es)) es
what_stands_was_sold = standing_added

-- a line taken back never stands again on this receipt
pub taken_back_for_good : (later es : List Entry) → same_receipt later ≡ true → (i : ℕ) → i < length (lines_in es) → (line_at i (lines_in es)).stands ≡ false
    → line_at i (lines_in (later ++ es)) ≡ line_at i (lines_in es)
taken_back_for_good later es same i lt back = (still_back es i lt back later same).1

-- so no line is taken back twice: in every history, the lines that stand and those done with `-` are together as many as were sold
pub each_takes_one_back : {es : List Entry} {s : Store} → LeadsTo es s → standing (lines_in es) + lines_off es ≡ lines_added es
each_takes_one_back (fresh sheet room) = refl
each_takes_one_back (next {es} {s} c given past) =
    counted_next es s (history_reached past) (history_agrees past) (each_takes_one_back past) (view_of c) (entry_of s.books c (deed_on s (view_of c))).shown
    (judging s.books (match_for s (view_of c)) (view_of c))
each_takes_one_back (barred c past) = omega (arith, each_takes_one_back past)
each_takes_one_back (guarded g past) = each_takes_one_back past

-- what is done is covered: no sum falls below zero
all_covered : (es : List Entry) (s : Store) → Reached s.books → Agrees es s → (v : View) → Free s.books (match_for s v) v → Covered (figures_of es).receipt v
all_covered es s k h v free =
    record {
      line = λ x is minus. covered es s x k h minus (subst (λ w. Free s.books (match_for s w) w) is free);
      discount = λ a is less g.
          let done = adjust_done s.books (match_for s (Adjusts a)) a (subst (λ w. Free s.books (match_for s w) w) is free) in
          let r = s.books.receipt in
          let free = free_tells r a done.permitted in
          subst (λ t. share_at (size_of t a) t (figures_of es).receipt.sums g ≤ (figures_of es).receipt.sums g) h.books.receipt.total
          (a_share_is_covered (size_of r.total a) r.total (figures_of es).receipt.sums free.0 (not_too_much r.total a done.fields free.1 less) g);
    }

balanced_next : (es : List Entry) (s : Store) (g : ℕ) → Reached s.books → Agrees es s
    → (figures_of es).receipt.sums g + discounts_in g es ≡ worth_of g (lines_in es) + surcharges_in g es → (v : View) (shown : List ℕ) {d : Deed}
    → Step s.books (match_for s v) v d → Balanced g es (cond (is_done d.number) v (Asks Always Nothing)) shown
balanced_next es s g k h e v shown (refused n l) = omega arith
balanced_next es s g k h e v shown (goes free) = balanced es g e v shown (all_covered es s k h v free)

-- each of the eight sums is what the lines of its group that stand come to, with its shares of what 51 added and took off
pub the_sums_are_what_stands : {es : List Entry} {s : Store} → LeadsTo es s → (g : ℕ)
    → (figures_of es).receipt.sums g + discounts_in g es ≡ worth_of g (lines_in es) + surcharges_in g es
the_sums_are_what_stands (fresh sheet room) g = refl
the_sums_are_what_stands (next {es} {s} c given past) g =
    balanced_next es s g (history_reached past) (history_agrees past) (the_sums_are_what_stands past g) (view_of c) (entry_of s.books c (deed_on s (view_of c))).shown
    (judging s.books (match_for s (view_of c)) (view_of c))
the_sums_are_what_stands (barred c past) g = omega (arith, the_sums_are_what_stands past g)
the_sums_are_what_stands (guarded h past) g = the_sums_are_what_stands past g

-- and so is what the device has in its books
pub the_groups_are_what_stands : {es : List Entry} {s : Store} → LeadsTo es s → (g : ℕ) → g < 8
    → at s.books.receipt.groups g + discounts_in g es ≡ worth_of g (lines_in es) + surcharges_in g es
the_groups_are_what_stands {es} past g lt = ap (λ n. n + discounts_in g es) ((history_agrees past).books.receipt.groups g lt) ∙ the_sums_are_what_stands past g

-- what a line found had added is there to be taken off, but for what discounts took off its group since: only they can make it 3
pub a_line_found_is_covered : {es : List Entry} {s : Store} (x : Sale) → LeadsTo es s → x.group < 8
    → unwrap_or (match_for s (Sells x)) 0 ≤ at s.books.receipt.groups x.group + discounts_in x.group es
a_line_found_is_covered {es} {s} x past lt =
    omega (arith, worth_covers x (lines_in es) x.minus, ap (λ m. unwrap_or m 0) (match_for_lem es s (history_reached past) (history_agrees past) (Sells x)), the_groups_are_what_stands past x.group lt)
