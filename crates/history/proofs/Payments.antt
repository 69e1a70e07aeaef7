-- A payment keeps the books and the figures in agreement, whatever its mode.
use mathlib.Core.Path.{◌≡◌, refl, sym, ap, ◌∙◌}
use mathlib.Core.Bool.{Bool, true, false, cond, ◌||◌, or-false}
use mathlib.Core.List.{List, ◌∷◌}
use Prim.Native.Nat.{ℕ, ◌+◌, ◌-◌, ◌^◌, ◌≤◌, ◌<◌, min}
use native.Mathlib.Omega.{arith}
use lib.Dec.{leb, ltb, eqb}
use lib.ListN.{length, set}
use lib.Seq.{get_or-set_same, get_or-set_other}
use borrow.Author.Tests.{leb-true, leb-false, ltb-true, ltb-false, eqb-true, eqb-false, eq-eqb, ne_eqb}
use Rattle.text.specs.Digits.{digits}
use Rattle.kinds.specs.declared.Mode.{Mode}
use Rattle.kinds.specs.declared.Mode.TheVariants.{Cash, N, C, D, B}
use Rattle.kinds.specs.declared.Payment.{Payment}
use Rattle.receipt.specs.Receipts.{given_of}
use Rattle.books.specs.Books.{with_receipt, with_registers, with_drawer}
use Rattle.books.specs.Groups.{at}
use Rattle.books.specs.Registers.{place}
use Rattle.books.specs.declared.Books.{Books}
use Rattle.answers.specs.Contents.{letter}
use Rattle.answers.proofs.Shown.{field_shows}
use Rattle.rules.specs.Effects.{payment, paid_into}
use Rattle.rules.specs.Reasons.{owed, tendered}
use Rattle.rules.specs.declared.views.View.TheVariants.{Pays}
use Rattle.history.specs.Agrees.{ReceiptAgrees, DrawerAgrees, Says}
use Rattle.history.specs.History.{Figures, by, brought, says_r, change_of, with_payment, drawer_after, after}

-- the answer's data: `D` and the rest, or `R` and the change
abbrev seen_as : Bool → ℕ → List ℕ
seen_as full left = letter full ∷ digits 10 left

says_full : (full : Bool) (left : ℕ) → full ≡ says_r (seen_as full left)
says_full true left = refl
says_full false left = refl

-- what was given less the change, read back from its ten digits, is what was raised
net : (full : Bool) (given rest : ℕ) → leb rest given ≡ full → cond full (given - rest) (rest - given) < 10 ^ 10
    → given - change_of (seen_as full (cond full (given - rest) (rest - given))) ≡ min given rest
net true given rest e fit = omega (arith, leb-true rest given e, (field_shows 10 (given - rest)).0 fit)
net false given rest e fit = omega (arith, leb-false rest given e)

less : {a b c d : ℕ} → a ≡ b → c ≡ d → a - c ≡ b - d
less e f = rw (e, f)

place_most : (m : Mode) → place m ≤ 4
place_most Cash = omega arith
place_most N = omega arith
place_most C = omega arith
place_most D = omega arith
place_most B = omega arith

module _ (f : Figures) (b : Books) (h : Says f b) (four : length b.registers ≡ 4) (p : Payment) (unpaid : b.receipt.settled ≡ false) (fit : (payment b p).left < 10 ^ 10) where
  abbrev raised : ℕ
  raised = min (tendered b p) (owed b)

  abbrev seen : List ℕ
  seen = seen_as (payment b p).full (payment b p).left

  abbrev net_in : ℕ
  net_in = brought f.receipt p seen

  -- the history tells the same amount from what was due
  told : net_in ≡ raised
  told =
      ap (λ z. given_of z p.tender - change_of seen) (sym h.receipt.rest) ∙ net (leb (owed b) (tendered b p)) (tendered b p) (owed b) refl fit

  paid-receipt : ReceiptAgrees (with_payment f.receipt p seen) (payment b p).receipt
  paid-receipt =
      let r = h.receipt in
      let paid : b.receipt.paid + raised ≡ f.receipt.paid + net_in = omega (arith, r.paid, told) in
      record {
        groups = r.groups;
        total = r.total;
        lines = r.lines;
        paid = paid;
        rest = less r.total paid;
        tried = refl;
        settled = says_full (payment b p).full (payment b p).left ∙ sym (or-false (says_r seen)) ∙ ap (λ z. says_r seen || z) (sym unpaid ∙ r.settled);
      }

  abbrev here : ℕ
  here = place p.mode

  -- a register, this one or another
  register-told : here < 4 → (m : Mode) → place m < 4 → at (set b.registers here (at b.registers here + raised)) (place m) ≡ f.registers m + cond (by m p.mode) net_in 0
  register-told has m lt = go (eqb (place m) here) refl
    where
      go : (same : Bool) → eqb (place m) here ≡ same
          → at (set b.registers here (at b.registers here + raised)) (place m) ≡ f.registers m + cond same net_in 0
      go true e =
          let same = eqb-true (place m) here e in
          ap (at (set b.registers here (at b.registers here + raised))) same
          ∙ get_or-set_same b.registers here (at b.registers here + raised) 0 (omega arith)
          ∙ omega (arith, told, h.registers m lt, ap (at b.registers) same)
      go false e =
          get_or-set_other b.registers here (place m) (at b.registers here + raised) 0 (eqb-false (place m) here e)
          ∙ omega (arith, h.registers m lt)

  other-register : 4 ≤ here → (m : Mode) → place m < 4 → at b.registers (place m) ≡ f.registers m + cond (by m p.mode) net_in 0
  other-register none m lt =
      let not_here : eqb (place m) here ≡ false = ne_eqb (place m) here (λ e. omega (arith, e)) in
      omega (arith, h.registers m lt, ap (λ z. cond z net_in 0) not_here)

  -- cash, raised by this payment or not
  cash-told : (in_cash : Bool) → by Cash p.mode ≡ in_cash → (cash : ℕ) → cash ≡ b.drawer.cash + cond in_cash raised 0
      → DrawerAgrees (drawer_after (Pays p) seen f.receipt f.drawer) (record { cash = cash; put = b.drawer.put; taken = b.drawer.taken })
  cash-told in_cash e cash c =
      let more : cond (by Cash p.mode) net_in 0 ≡ cond in_cash raised 0 = ap (λ z. cond z net_in 0) e ∙ ap (λ z. cond in_cash z 0) told in
      record {
        cash = omega (arith, c, more, h.drawer.cash, h.drawer.covered);
        covered = omega (arith, h.drawer.covered);
        put = h.drawer.put;
        taken = h.drawer.taken;
      }

  -- "At once P raises cash, another mode its own register"
  pub paid_in : Says (after (Pays p) seen f) (paid_into b p)
  paid_in = go (ltb here 4) refl
    where
      go : (has : Bool) → ltb here 4 ≡ has
          → Says (after (Pays p) seen f)
          (cond has
          (with_registers (with_receipt b b.opened (payment b p).receipt) (set b.registers here (cond has (at b.registers here) b.drawer.cash + raised)))
          (with_drawer (with_receipt b b.opened (payment b p).receipt) (record { cash = cond has (at b.registers here) b.drawer.cash + raised; put = b.drawer.put; taken = b.drawer.taken })))
      go true e =
          let has = ltb-true here 4 e in
          record {
            opened = h.opened;
            receipt = paid-receipt;
            day = h.day;
            registers = register-told has;
            drawer = cash-told false (ne_eqb 4 here (λ z. omega (arith, z))) b.drawer.cash (omega arith);
            counters = h.counters;
            memory = h.memory;
          }
      go false e =
          let none = ltb-false here 4 e in
          record {
            opened = h.opened;
            receipt = paid-receipt;
            day = h.day;
            registers = other-register none;
            drawer = cash-told true (eq-eqb 4 here (omega (arith, place_most p.mode))) (b.drawer.cash + raised) refl;
            counters = h.counters;
            memory = h.memory;
          }
