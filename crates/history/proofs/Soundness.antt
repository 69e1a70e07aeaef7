-- Books within their digits stay so, whatever is carried out.
use mathlib.Core.Path.{◌≡◌, refl}
use mathlib.Core.Bool.{Bool, true, false, cond}
use Prim.Native.Nat.{ℕ, ◌+◌, ◌≤◌, ◌<◌, min}
use native.Mathlib.Omega.{arith}
use lib.Dec.{ltb}
use lib.ListN.{set}
use Rattle.kinds.specs.declared.Adjust.{Adjust}
use Rattle.kinds.specs.declared.Command.{Command}
use Rattle.kinds.specs.declared.Mode.{Mode}
use Rattle.kinds.specs.declared.Sale.{Sale}
use Rattle.std.specs.Prelude.{Option}
use Rattle.receipt.specs.Receipts.{empty_receipt, group_after, with_line}
use Rattle.receipt.specs.declared.Receipt.{Receipt}
use Rattle.shares.specs.Shares.{sum_after}
use Rattle.shares.specs.Receipts.{with_adjust}
use Rattle.books.specs.Books.{fresh_books, with_receipt, with_counters, with_drawer, with_registers}
use Rattle.books.specs.Groups.{eight, at, sum}
use Rattle.books.specs.Rates.{capacity_of}
use Rattle.books.specs.Registers.{place, register_of, raised_by}
use Rattle.books.specs.Sound.{in_twelve, with_receipt_of, sound}
use Rattle.books.specs.declared.Books.{Books}
use Rattle.books.specs.declared.Counters.{Counters}
use Rattle.books.specs.declared.Drawer.{Drawer}
use Rattle.books.specs.declared.Opened.{Opened}
use Rattle.books.specs.declared.Opened.TheVariants as opened
use Rattle.books.proofs.Eight.{at_eight}
use Rattle.books.proofs.Sounding.{DrawerIn, drawer_in, drawer_fits_lem, memory_in, memory_fits_lem, in_12, every_set, zeros, Kept, parts, within_eight, day_within, all_in, whole}
use Rattle.rules.specs.Effects.{payment, cleared}
use Rattle.rules.specs.Reasons.{owed, tendered}
use Rattle.rules.specs.Rules.{rule_of}
use Rattle.rules.specs.declared.views.View.{View}
use Rattle.rules.specs.declared.views.View.TheVariants.{Opens, Sells, Adjusts, Pays, Closes, Cancels, OpensText, ClosesText, Clears, Puts, Takes, Asks}
use Rattle.rules.proofs.Reasoning.{few_texts, few_receipts, puts_within, fits_still}
use Rattle.deeds.specs.Deeds.{carried_out}
use Rattle.deeds.specs.declared.Deed.{Deed}
use Rattle.history.proofs.Lists.{set_each}
use Rattle.history.proofs.Steps.{Free, Step, LineDone, AdjustDone, refused, goes, line_done, adjust_done, payment_done, room_left, taken}

module _ (b : Books) (k : Kept b) where
  -- a line
  line-in : (m : Option ℕ) (s : Sale) → LineDone b m s → (g : ℕ) → g < 8
      → at b.day g + at (set b.receipt.groups s.group (group_after b.receipt s m)) g ≤ 999999999999
  line-in m s l =
      set_each (λ g x. g < 8 → at b.day g + x ≤ 999999999999) b.receipt.groups s.group (group_after b.receipt s m)
      (λ lt. l.sum)
      (λ g lt. within_eight (with_receipt_of b) k.groups g lt)

  -- a Percent or an Abs on the receipt
  adjust-in : (a : Adjust) → AdjustDone b a → (g : ℕ) → g < 8 → at b.day g + at (with_adjust b.receipt a).groups g ≤ 999999999999
  adjust-in a d g lt =
      let after = sum_after a b.receipt.total (at b.receipt.groups) in
      omega (arith, at_eight after g lt, within_eight (λ i. at b.day i + after i) d.days g lt)

  -- without the receipt, and with one on which nothing stands
  day-in : (g : ℕ) → g < 8 → at b.day g ≤ 999999999999
  day-in = within_eight (at b.day) (day_within b k.groups)

  empty-in : (g : ℕ) → g < 8 → at b.day g + at empty_receipt.groups g ≤ 999999999999
  empty-in g lt = omega (arith, day-in g lt, zeros g)

  abbrev d : DrawerIn b.drawer
  d = drawer_in b.drawer k.drawer

  sum-in : sum (eight (at b.day)) ≤ 7999999999992
  sum-in =
      omega (arith, day-in 0 (omega arith), day-in 1 (omega arith), day-in 2 (omega arith), day-in 3 (omega arith), day-in 4 (omega arith), day-in 5 (omega arith), day-in 6 (omega arith), day-in 7 (omega arith))

  -- another receipt, other counters, another drawer, other registers, the same within their digits
  receipt-kept : (o : Opened) (t : Receipt) → ((g : ℕ) → g < 8 → at b.day g + at t.groups g ≤ 999999999999) → t.total ≤ 9999999999 → Kept (with_receipt b o t)
  receipt-kept o t h l =
      record {
        groups = all_in (λ g. at b.day g + at t.groups g) h;
        total = l;
        drawer = k.drawer;
        registers = k.registers;
        fiscal = k.fiscal;
        all = k.all;
        memory = k.memory;
      }

  same_kept : (o : Opened) → Kept (with_receipt b o b.receipt)
  same_kept o = receipt-kept o b.receipt (within_eight (with_receipt_of b) k.groups) k.total

  counters-kept : (c : Counters) → c.fiscal ≤ c.all → c.all ≤ 9999 → Kept (with_counters b c)
  counters-kept c f a =
      record { groups = k.groups; total = k.total; drawer = k.drawer; registers = k.registers; fiscal = f; all = a; memory = k.memory }

  drawer-kept : (w : Drawer) → DrawerIn w → Kept (with_drawer b w)
  drawer-kept w i =
      record { groups = k.groups; total = k.total; drawer = drawer_fits_lem w i; registers = k.registers; fiscal = k.fiscal; all = k.all; memory = k.memory }

  raised-kept : (m : Mode) (x : ℕ) → register_of b m + x ≤ 999999999999 → Kept (raised_by b m x)
  raised-kept m x h = go (ltb (place m) 4)
    where
      go : (has : Bool)
          → Kept (cond has (with_registers b (set b.registers (place m) (register_of b m + x))) (with_drawer b (record { cash = register_of b m + x; put = b.drawer.put; taken = b.drawer.taken })))
      go true =
          record {
            groups = k.groups;
            total = k.total;
            drawer = k.drawer;
            registers = every_set in_twelve b.registers (place m) (register_of b m + x) k.registers (in_12 (register_of b m + x) h);
            fiscal = k.fiscal;
            all = k.all;
            memory = k.memory;
          }
      go false = drawer-kept _ (record { cash = h; put = d.put; taken = d.taken })

  cleared-kept : b.memory.closings < capacity_of b → Kept (cleared b)
  cleared-kept l =
      let m = memory_in b k.memory in
      record {
        groups = all_in (with_receipt_of (cleared b)) (λ g lt. omega (arith, within_eight (with_receipt_of b) k.groups g lt, zeros g));
        total = k.total;
        drawer = drawer_fits_lem (record { cash = b.drawer.cash; put = 0; taken = 0 }) (record { cash = d.cash; put = omega arith; taken = omega arith });
        registers = refl;
        fiscal = omega arith;
        all = omega arith;
        memory = memory_fits_lem (cleared b) (omega (arith, l)) (omega (arith, m.1, sum-in));
      }

  closed_in : (g : ℕ) → g < 8 → at (eight (with_receipt_of b)) g + at empty_receipt.groups g ≤ 999999999999
  closed_in g lt = omega (arith, at_eight (with_receipt_of b) g lt, within_eight (with_receipt_of b) k.groups g lt, zeros g)

-- by the views
staying : (b : Books) → Kept b → (m : Option ℕ) (v : View) → Free b m v → Kept (rule_of b m v).after
staying b k m Opens f =
    counters-kept (with_receipt b opened.Fiscal empty_receipt) (receipt-kept b k opened.Fiscal empty_receipt (empty-in b k) (omega arith)) _ (omega (arith, k.fiscal)) (omega (arith, few_receipts b f.three))
staying b k m (Sells s) f =
    let l = line_done b m s f in
    receipt-kept b k b.opened (with_line b.receipt s m) (line-in b k m s l) l.total
staying b k m (Adjusts a) f =
    let d = adjust_done b m a f in
    receipt-kept b k b.opened (with_adjust b.receipt a) (adjust-in b k a d) d.total
staying b k m (Pays p) f =
    let t = (payment b p).receipt in
    raised-kept (with_receipt b b.opened t) (receipt-kept b k b.opened t (within_eight (with_receipt_of b) k.groups) k.total) p.mode (min (tendered b p) (owed b)) (payment_done b m p f).room
staying b k m Closes f =
    record {
      groups = all_in (λ g. at (eight (with_receipt_of b)) g + at empty_receipt.groups g) (closed_in b k);
      total = omega arith;
      drawer = k.drawer;
      registers = k.registers;
      fiscal = k.fiscal;
      all = k.all;
      memory = k.memory;
    }
staying b k m Cancels f = receipt-kept b k opened.Nothing empty_receipt (empty-in b k) (omega arith)
staying b k m OpensText f =
    counters-kept (with_receipt b opened.Text b.receipt) (same_kept b k opened.Text) _ (omega (arith, k.fiscal)) (omega (arith, few_texts b f.three))
staying b k m ClosesText f = same_kept b k opened.Nothing
staying b k m Clears f = cleared-kept b k (room_left b m f)
staying b k m (Puts n) f =
    let within = puts_within b n f.four in
    drawer-kept b k _ (record { cash = within.0; put = within.1; taken = (d b k).taken })
staying b k m (Takes n) f =
    drawer-kept b k _ (record { cash = omega (arith, (d b k).cash); put = (d b k).put; taken = fits_still b.drawer.taken n f.four })
staying b k m (Asks when shown) f = k

pub fresh_is_sound : sound fresh_books ≡ true
fresh_is_sound = refl

pub step_sound : (b : Books) → sound b ≡ true → (m : Option ℕ) (v : View) → Free b m v → sound (rule_of b m v).after ≡ true
step_sound b e m v f = whole (rule_of b m v).after (staying b (parts b e) m v f)

pub sound_stays : (b : Books) (m : Option ℕ) (c : Command) → sound b ≡ true → sound (carried_out b m c).books ≡ true
sound_stays b m c e = go (taken b m c)
  where
    go : {v : View} {d : Deed} → Step b m v d → sound d.books ≡ true
    go (refused n h) = e
    go {v} (goes f) = step_sound b e m v f
