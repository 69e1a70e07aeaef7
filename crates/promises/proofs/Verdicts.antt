-- A command that was read is as data gives it: none of its numbers is 1, so that the books ask for its reasons for 3 and 4 alone.
use Rattle.std.proofs.lemmas.Bool.{and_parts, and_from}
use Rattle.std.specs.Prelude.{Option, Some, None, Ok, Err}
use mathlib.Core.Path.{◌≡◌, refl, sym, ap, ◌∙◌}
use mathlib.Core.Bool.{Bool, true, false, cond, not, ◌&&◌, ◌||◌}
use mathlib.Core.List.{List, [], ◌∷◌}
use Prim.Native.Nat.{ℕ, ◌-◌, ◌<◌}
use native.Mathlib.Omega.{arith}
use lib.Dec.{eqb, leb, ltb}
use lib.ListN.{drop}
use borrow.Author.Tests.{leb-true, le-leb, lt-ltb}
use Rattle.wire.specs.Bytes.{within}
use Rattle.text.specs.Parts.{has, up_to, past, begins}
use Rattle.figures.specs.Numbers.{field_number, field_value, signed_number, signed_minus, signed_size, field_of, price_of, quantity_of, above_zero, percent_of, signed_price_of}
use Rattle.figures.specs.declared.Signed.{Signed}
use Rattle.figures.proofs.Bounds.{price_small, quantity_some, quantity_small, percent_small, signed_price_small}
use Rattle.labels.specs.Texts.{is_name, rest_of}
use Rattle.kinds.specs.Fields.{comma, ends_or, Parsed}
use Rattle.kinds.specs.Operators.{is_op, secret_of, password_as, third_of, with_third, operators_of}
use Rattle.kinds.specs.Plain.{sums_of, closing_of}
use Rattle.kinds.specs.declared.Password.{Password}
use Rattle.kinds.specs.declared.operators.Third.{Third}
use Rattle.kinds.specs.declared.operators.Third.TheVariants as third
use Rattle.kinds.specs.declared.Adjust.{Adjust}
use Rattle.kinds.specs.declared.Adjust.TheVariants.{Nothing, PercentMore, PercentLess, AmountMore, AmountLess}
use Rattle.kinds.specs.declared.Command.{Command}
use Rattle.kinds.specs.declared.Command.TheVariants.{Subtotal, Drawer}
use Rattle.kinds.specs.declared.Mode.{Mode}
use Rattle.kinds.specs.declared.Mode.TheVariants.{Cash}
use Rattle.kinds.specs.declared.Unread.TheVariants.{Syntax, Unknown}
use Rattle.kinds.specs.declared.Service.TheVariants.{In, Out}
use Rattle.command.specs.Money.{star, semicolon, group_of, quantity_in, priced_of, with_percent, with_amount, sale_of, sell_of, behind_tab_of, rest_then, is_mode, mode_of, tender_of, payment_in, pay_of, drawer_of}
use Rattle.money.specs.Money.{by_percent, by_amount}
use Rattle.money.specs.Subtotals.{is_flag, changed_by_percent, changed_by_amount, subtotal_with, subtotal_of}
use Rattle.command.specs.Commands.{form_of, not_marked, parsed_of}
use Rattle.receipt.specs.Lines.{adjust_fits}
use Rattle.books.specs.declared.Books.{Books}
use Rattle.rules.specs.Rules.{rule_of}
use Rattle.rules.specs.Views.{view_of}
use Rattle.history.specs.Digits.{left_of, Given}
use Rattle.history.specs.Entries.{of_asked}

-- what was read: syntax, no kind, or such a command
pub data Right : Parsed → Type 0 where
  syntax : Right (Err Syntax)
  no_kind : Right (Err Unknown)
  is_read_lem : {c : Command} → Given (view_of c) → Right (Ok c)

plain : {c : Command} → ((b : Books) (m : Option ℕ) → (rule_of b m (view_of c)).one ≡ false) → of_asked 0 left_of (view_of c) ≡ 0 → Right (Ok c)
plain e f = is_read_lem (record { one = e; rest = f })

either : (x : Bool) (p q : Parsed) → Right p → Right q → Right (cond x p q)
either true p q l r = l
either false p q l r = r

-- a field that was read, and one with a sign
field_right : (x : Option ℕ) (p : Parsed) → (x ≡ Some (field_value x) → Right p) → Right (ends_or (field_number x) p)
field_right (Some n) p k = k refl
field_right None p k = syntax

signed_right : (x : Option Signed) (p : Parsed) → (x ≡ Some (record { minus = signed_minus x; size = signed_size x }) → Right p) → Right (ends_or (signed_number x) p)
signed_right (Some y) p k = k refl
signed_right None p k = syntax

-- 48, 101 and 102
third_right : (t : Third) (op : ℕ) (p : Password) (last : List ℕ) → Right (third_of t op p last)
third_right third.Till op p last = field_right (field_of 5 last) _ (λ e. plain (λ books m. refl) refl)
third_right third.Password op p last = field_right (secret_of last) _ (λ e. plain (λ books m. refl) refl)
third_right third.Name op p last = either (is_name last) _ (Err Syntax) (plain (λ books m. refl) refl) syntax

with_third_right : (t : Third) (op pwd last : List ℕ) → Right (with_third t op pwd last)
with_third_right t op pwd last =
    field_right (field_of 1 op) _ (λ eo.
    field_right (secret_of pwd) _ (λ ep.
    either (is_op (field_value (field_of 1 op))) _ (Err Syntax) (third_right t (field_value (field_of 1 op)) (password_as pwd (field_value (secret_of pwd))) last) syntax))

operators_right : (t : Third) (s : List ℕ) → Right (operators_of t s)
operators_right t s =
    either (has comma s && has comma (past comma s)) _ (Err Syntax) (with_third_right t (up_to comma s) (up_to comma (past comma s)) (past comma (past comma s))) syntax

sums_right : (s : List ℕ) → Right (sums_of s)
sums_right [] = plain (λ books m. refl) refl
sums_right (b ∷ []) = either (eqb b 0x30) _ _ (plain (λ books m. refl) refl) (either (eqb b 0x31) _ _ (plain (λ books m. refl) refl) syntax)
sums_right (a ∷ b ∷ s) = syntax

closing_right : (s : List ℕ) → Right (closing_of s)
closing_right [] = syntax
closing_right (b ∷ []) = either (eqb b 0x30) _ _ (plain (λ books m. refl) refl) (either (eqb b 0x32) _ _ (plain (λ books m. refl) refl) syntax)
closing_right (a ∷ b ∷ s) = syntax

drawer_right : (s : List ℕ) → Right (drawer_of s)
drawer_right [] = plain (λ books m. refl) refl
drawer_right (b ∷ s) =
    let minus = signed_minus (signed_price_of (b ∷ s)) in
    let n = signed_size (signed_price_of (b ∷ s)) in
    signed_right (signed_price_of (b ∷ s)) _ (λ e. go minus n (lt-ltb n 10000000000 (signed_price_small (b ∷ s) minus n e)))
  where
    go : (minus : Bool) (n : ℕ) → ltb n 10000000000 ≡ true → Right (Ok (Drawer (cond minus (Out n) (In n))))
    go true n e = plain (λ books m. ap not e) refl
    go false n e = plain (λ books m. ap not e) refl

rest_right : (f : Option ℕ) (s : List ℕ) (next : List ℕ → Parsed) → ((r : List ℕ) → Right (next r)) → Right (rest_then f s next)
rest_right (Some n) s next k = k (drop n s)
rest_right None s next k = syntax

-- a number above zero was one before it was asked
above_zero_lem : (r : Option ℕ) (n : ℕ) → above_zero r ≡ Some n → (r ≡ Some n) × (ltb 0 n ≡ true)
above_zero_lem (Some m) n e = go (ltb 0 m) refl e
  where
    go : (some : Bool) → ltb 0 m ≡ some → cond some (Some m) None ≡ Some n → (Some m ≡ Some n) × (ltb 0 n ≡ true)
    go true f e = let same : m ≡ n = cc in (e, ap (ltb 0) (sym same) ∙ f)
    go false f e = let z : ◌≡◌ {A = ℕ} 0 1 = cc in absurd (omega arith)
above_zero_lem None n e = let z : ◌≡◌ {A = ℕ} 0 1 = cc in absurd (omega arith)

tender_right : (mode : Mode) (s : List ℕ) → Right (tender_of mode s)
tender_right mode [] = plain (λ books m. refl) refl
tender_right mode (b ∷ s) =
    let n = field_value (above_zero (price_of (b ∷ s))) in
    field_right (above_zero (price_of (b ∷ s))) _ (λ e.
    let more = above_zero_lem (price_of (b ∷ s)) n e in
    plain (λ books m. ap not (and_from _ _ more.1 (lt-ltb n 10000000000 (price_small (b ∷ s) n more.0)))) refl)

payment_right : (s : List ℕ) → Right (payment_in s)
payment_right [] = plain (λ books m. refl) refl
payment_right (b ∷ s) = either (is_mode b) _ _ (tender_right (mode_of b) s) (tender_right Cash (b ∷ s))

pay_right : (s : List ℕ) → Right (pay_of s)
pay_right [] = plain (λ books m. refl) refl
pay_right (b ∷ s) = rest_right (rest_of (b ∷ s)) (b ∷ s) payment_in payment_right

-- 49: group, price, quantity and what follows
group_small : (b n : ℕ) → group_of b ≡ Some n → n < 8
group_small b n = go (within 0x41 0x48 b) refl (within 0xC0 0xC7 b) refl
  where
    go : (x : Bool) → within 0x41 0x48 b ≡ x → (y : Bool) → within 0xC0 0xC7 b ≡ y → cond x (Some (b - 0x41)) (cond y (Some (b - 0xC0)) None) ≡ Some n → n < 8
    go true ex y ey e = let same : b - 0x41 ≡ n = cc in omega (arith, leb-true b 0x48 (and_parts (leb 0x41 b) (leb b 0x48) ex).1)
    go false ex true ey e = let same : b - 0xC0 ≡ n = cc in omega (arith, leb-true b 0xC7 (and_parts (leb 0xC0 b) (leb b 0xC7) ey).1)
    go false ex false ey e = let z : ◌≡◌ {A = ℕ} 0 1 = cc in absurd (omega arith)

quantity_right : (s : List ℕ) (n : ℕ) → quantity_in s ≡ Some n → (ltb 0 n ≡ true) × (ltb n 100000000000 ≡ true)
quantity_right s n = go (has star s)
  where
    go : (x : Bool) → cond x (quantity_of (past star s)) (Some 1000) ≡ Some n → (ltb 0 n ≡ true) × (ltb n 100000000000 ≡ true)
    go true e = (lt-ltb 0 n (quantity_some (past star s) n e), lt-ltb n 100000000000 (quantity_small (past star s) n e))
    go false e = let same : 1000 ≡ n = cc in (lt-ltb 0 n (omega arith), lt-ltb n 100000000000 (omega arith))

priced_right : (group : ℕ) (minus : Bool) (s : List ℕ) (a : Adjust) → group < 8 → adjust_fits minus a ≡ true → Right (priced_of group minus s a)
priced_right group minus s a small fit =
    let price = field_value (price_of (up_to star s)) in
    let quantity = field_value (quantity_in s) in
    field_right (price_of (up_to star s)) _ (λ ep.
    field_right (quantity_in s) _ (λ eq.
    let some = quantity_right s quantity eq in
    plain
    (λ books m. ap not
    (and_from _ _
    (and_from _ _
    (and_from _ _
    (and_from _ _ (lt-ltb group 8 small) (lt-ltb price 10000000000 (price_small (up_to star s) price ep)))
    some.0)
    some.1)
    fit))
    refl))

-- what follows the line, less or more
fits_either : (minus : Bool) (less more : Adjust) → adjust_fits false less ≡ true → adjust_fits false more ≡ true → adjust_fits false (cond minus less more) ≡ true
fits_either true less more l m = l
fits_either false less more l m = m

module _ (group : ℕ) (small : group < 8) (line s : List ℕ) where
  percent-right : Right (with_percent group line s)
  percent-right =
      let minus = signed_minus (percent_of s) in
      let n = signed_size (percent_of s) in
      signed_right (percent_of s) _ (λ e.
      let fit : leb n 9900 ≡ true = le-leb n 9900 (percent_small s minus n e) in
      priced_right group false line (cond minus (PercentLess n) (PercentMore n)) small (fits_either minus (PercentLess n) (PercentMore n) fit fit))

  amount-right : Right (with_amount group line s)
  amount-right =
      let minus = signed_minus (signed_price_of s) in
      let n = signed_size (signed_price_of s) in
      signed_right (signed_price_of s) _ (λ e.
      let fit : ltb n 10000000000 ≡ true = lt-ltb n 10000000000 (signed_price_small s minus n e) in
      priced_right group false line (cond minus (AmountLess n) (AmountMore n)) small (fits_either minus (AmountLess n) (AmountMore n) fit fit))

sale_right : (group : ℕ) → group < 8 → (s : List ℕ) → Right (sale_of group s)
sale_right group small s =
    either (begins 0x2D s) _ _
    (either (has comma (drop 1 s) || has semicolon (drop 1 s)) (Err Syntax) _ syntax (priced_right group true (drop 1 s) Nothing small refl))
    (either (has comma s) _ _ (percent-right group small (up_to comma s) (past comma s))
    (either (has semicolon s) _ _ (amount-right group small (up_to semicolon s) (past semicolon s)) (priced_right group false s Nothing small refl)))

behind_tab_right : (s : List ℕ) → Right (behind_tab_of s)
behind_tab_right [] = syntax
behind_tab_right (g ∷ s) =
    let group = field_value (group_of g) in
    field_right (group_of g) _ (λ e. sale_right group (group_small g group e) s)

sell_right : (s : List ℕ) → Right (sell_of s)
sell_right s = rest_right (rest_of s) s behind_tab_of behind_tab_right

-- 51: what may stand behind the two characters
adjust_right : (print show : Bool) (a : Adjust) → adjust_fits false a ≡ true → Right (Ok (Subtotal print show a))
adjust_right print show Nothing fit = plain (λ books m. refl) refl
adjust_right print show (PercentMore p) fit = plain (λ books m. ap not fit) refl
adjust_right print show (PercentLess p) fit = plain (λ books m. ap not fit) refl
adjust_right print show (AmountMore n) fit = plain (λ books m. ap not fit) refl
adjust_right print show (AmountLess n) fit = plain (λ books m. ap not fit) refl

module _ (print show : Bool) where
  changed-right : (s : List ℕ) → Right (changed_by_percent print show s) × Right (changed_by_amount print show s)
  changed-right s = (
    signed_right (percent_of s) _ (λ e.
        let minus = signed_minus (percent_of s) in
        let n = signed_size (percent_of s) in
        let fit : leb n 9900 ≡ true = le-leb n 9900 (percent_small s minus n e) in
        adjust_right print show (by_percent minus n) (fits_either minus (PercentLess n) (PercentMore n) fit fit)),
    signed_right (signed_price_of s) _ (λ e.
        let minus = signed_minus (signed_price_of s) in
        let n = signed_size (signed_price_of s) in
        let fit : ltb n 10000000000 ≡ true = lt-ltb n 10000000000 (signed_price_small s minus n e) in
        adjust_right print show (by_amount minus n) (fits_either minus (AmountLess n) (AmountMore n) fit fit)),
  )

  behind-right : (s : List ℕ) → Right (subtotal_with print show s)
  behind-right [] = plain (λ books m. refl) refl
  behind-right (mark ∷ s) = either (eqb mark comma) _ _ (changed-right s).0 (either (eqb mark semicolon) _ _ (changed-right s).1 syntax)

subtotal_right : (s : List ℕ) → Right (subtotal_of s)
subtotal_right [] = syntax
subtotal_right (a ∷ []) = syntax
subtotal_right (a ∷ b ∷ s) = either (is_flag a && is_flag b) _ _ (behind-right (eqb a 0x31) (eqb b 0x31) s) syntax

form_right : (code : ℕ) (s : List ℕ) → Right (form_of code s)
form_right code s =
    search (either, plain, syntax, no_kind, operators_right, sell_right, subtotal_right, pay_right, sums_right, closing_right, drawer_right) depth 24

-- 10h makes a known command 1, and an unknown one stays
marked_right : (p : Parsed) → Right (not_marked p)
marked_right (Ok c) = syntax
marked_right (Err Syntax) = syntax
marked_right (Err Unknown) = no_kind

pub parsed_right : (code : ℕ) (s : List ℕ) → Right (parsed_of code s)
parsed_right code s = either (not (eqb code 100) && has 0x10 s) _ _ (marked_right (form_of code s)) (form_right code s)
