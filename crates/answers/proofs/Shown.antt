-- What is shown can be sent: the data is short enough and of bytes that may stand there, and so are the six status bytes.
use Rattle.std.proofs.lemmas.Bool.{and_parts}
use mathlib.Core.Path.{◌≡◌, refl, sym, ap, ◌∙◌}
use mathlib.Core.Bool.{Bool, true, false}
use mathlib.Core.List.{List, [], ◌∷◌, ◌++◌, map}
use Prim.Native.Nat.{ℕ, zero, suc, ◌+◌, ◌*◌, ◌/◌, ◌%◌, ◌^◌, ◌≤◌, ◌<◌}
use native.Mathlib.Nat.{mod-lt, mod-eq_of_lt, one-le-pow}
use native.Mathlib.Omega.{arith}
use lib.ListN.{length, length-append}
use borrow.Author.Tests.{le-leb, ne_eqb}
use Rattle.text.specs.Digits.{digits, number}
use Rattle.text.proofs.Laws.{length_digits, number_digits}
use Rattle.wire.specs.Bytes.{may_stand, every}
use Rattle.wire.specs.Frame.{answer_of, carriable, sendable}
use Rattle.wire.proofs.Building.{sendable_answer}
use Rattle.wire.specs.declared.Way.TheVariants.{ToTill}
use Rattle.wire.specs.declared.Role.TheVariants.{Name, Data, Status}
use Rattle.books.specs.declared.Books.{Books}
use Rattle.books.specs.declared.Shown.{Shown}
use Rattle.books.specs.declared.Shown.TheVariants as shown
use Rattle.answers.specs.Contents.{comma_each, commas, taxes_from, rates_text, letter, content_of}
use Rattle.books.specs.Books.{fiscal_open, text_open}
use Rattle.status.specs.Status.{bit, tells_syntax, tells_unknown, tells_overflow, tells_refused, any_verdict, verdict0, verdict1, receipts, few_free, memories, status_of}

-- a field shows its number exactly where the number fits
pub field_shows : (width n : ℕ) → (n < 10 ^ width → number 0 (digits width n) ≡ n) × (number 0 (digits width n) ≡ n → n < 10 ^ width)
field_shows width n =
    let some : 1 ≤ 10 ^ width = one-le-pow width 10 (omega arith) in (
      λ h. number_digits width n ∙ mod-eq_of_lt h,
      λ e. omega (arith, mod-lt n {m = 10 ^ width} (omega arith), sym (number_digits width n) ∙ e),
    )

-- how many bytes fields take, a comma counted with each
abbrev size : List (List ℕ) → ℕ
size [] = 0
size (f ∷ fs) = length f + 1 + size fs

each_size : (fs : List (List ℕ)) → length (comma_each fs) ≡ size fs
each_size [] = refl
each_size (f ∷ fs) = omega (arith, length-append f (comma_each fs), each_size fs)

commas_size : (fs : List (List ℕ)) → length (commas fs) ≤ size fs
commas_size [] = omega arith
commas_size (f ∷ fs) = omega (arith, length-append f (comma_each fs), each_size fs)

sums_size : (width : ℕ) (sums : List ℕ) → width ≤ 12 → size (map (digits width) sums) ≤ 13 * length sums
sums_size width [] h = omega arith
sums_size width (n ∷ sums) h = omega (arith, length_digits width n, sums_size width sums h)

taxes_length : (b : Books) (g : ℕ) (sums : List ℕ) → length (taxes_from b g sums) ≡ length sums
taxes_length b g [] = refl
taxes_length b g (n ∷ sums) = ap suc (taxes_length b (g + 1) sums)

-- a field's bytes, and those of all fields
module _ (t : ℕ → Bool) where
  every-cons : (x : ℕ) (xs : List ℕ) → t x ≡ true → every t xs ≡ true → every t (x ∷ xs) ≡ true
  every-cons x xs p q = rw p q

  every_append : (xs ys : List ℕ) → every t xs ≡ true → every t ys ≡ true → every t (xs ++ ys) ≡ true
  every_append [] ys p q = q
  every_append (x ∷ xs) ys p q =
      let h = and_parts (t x) (every t xs) p in
      rw h.0 (every_append xs ys h.1 q)

plain : (b : ℕ) → 0x20 ≤ b → b ≤ 0xFF → may_stand Data b ≡ true
plain b low high = rw (ne_eqb b 0x09 (λ e. omega arith), ne_eqb b 0x0A (λ e. omega arith), ne_eqb b 0x10 (λ e. omega arith), le-leb 0x20 b low, le-leb b 0xFF high)

digits_plain : (width n : ℕ) → every (may_stand Data) (digits width n) ≡ true
unfolding digits
digits_plain zero n = refl
digits_plain (suc width) n =
    every_append (may_stand Data) (digits width (n / 10)) ((48 + n % 10) ∷ []) (digits_plain width (n / 10))
    (every-cons (may_stand Data) (48 + n % 10) [] (plain (48 + n % 10) (omega arith) (omega arith)) refl)

data Plain : List (List ℕ) → Type 0 where
  none : Plain []
  one : (f : List ℕ) {fs : List (List ℕ)} → every (may_stand Data) f ≡ true → Plain fs → Plain (f ∷ fs)

each_plain : {fs : List (List ℕ)} → Plain fs → every (may_stand Data) (comma_each fs) ≡ true
each_plain none = refl
each_plain (one f {fs} p q) = every_append (may_stand Data) f (comma_each fs) p (each_plain q)

commas_plain : {fs : List (List ℕ)} → Plain fs → every (may_stand Data) (commas fs) ≡ true
commas_plain none = refl
commas_plain (one f {fs} p q) = every_append (may_stand Data) f (comma_each fs) p (each_plain q)

sums_plain : (width : ℕ) (sums : List ℕ) → Plain (map (digits width) sums)
sums_plain width [] = none
sums_plain width (n ∷ sums) = one (digits width n) (digits_plain width n) (sums_plain width sums)

-- the six status bytes, each from 80h to FFh
data High : List ℕ → Type 0 where
  end : High []
  byte : (x : ℕ) {xs : List ℕ} → 0x80 ≤ x → x ≤ 0xFF → High xs → High (x ∷ xs)

high_pass : (t : ℕ → Bool) → ((x : ℕ) → 0x80 ≤ x → x ≤ 0xFF → t x ≡ true) → {xs : List ℕ} → High xs → every t xs ≡ true
high_pass t passes end = refl
high_pass t passes (byte x {xs} low high more) = every-cons t x xs (passes x low high) (high_pass t passes more)

bit_most : (value : ℕ) (set : Bool) → bit value set ≤ value
bit_most value true = omega arith
bit_most value false = omega arith

status_high : (n : ℕ) (b : Books) → High (status_of n b)
status_high n b =
    let o = b.opened in
    byte (verdict0 n) (omega arith) (omega (arith, bit_most 0x01 (tells_syntax n), bit_most 0x02 (tells_unknown n), bit_most 0x20 (any_verdict n)))
    (byte (verdict1 n) (omega arith) (omega (arith, bit_most 0x01 (tells_overflow n), bit_most 0x02 (tells_refused n)))
    (byte (receipts o) (omega arith) (omega (arith, bit_most 0x08 (fiscal_open o), bit_most 0x20 (text_open o)))
    (byte 0x80 (omega arith) (omega arith)
    (byte (memories b) (omega arith) (omega (arith, bit_most 0x08 (few_free b 50), bit_most 0x10 (few_free b 0), bit_most 0x20 (few_free b 0)))
    (byte 0x9A (omega arith) (omega arith) end)))))

pub status_six : (n : ℕ) (b : Books) → length (status_of n b) ≡ 6
status_six n b = refl

pub status_stands : (n : ℕ) (b : Books) → every (may_stand Status) (status_of n b) ≡ true
status_stands n b = high_pass (may_stand Status) (λ x low high. rw (le-leb 0x80 x low, le-leb x 0xFF high)) (status_high n b)

-- the text of 97, byte for byte
pub rates_shown : (b : Books) → rates_text b
    ≡ 0x30 ∷ 0x30 ∷ 0x2E ∷ 0x30 ∷ 0x30 ∷ 0x2C ∷ 0x32 ∷ 0x30 ∷ 0x2E ∷ 0x30 ∷ 0x30 ∷ 0x2C ∷ 0x32 ∷ 0x30 ∷ 0x2E ∷ 0x30 ∷ 0x30 ∷ 0x2C ∷ 0x30 ∷ 0x39 ∷ 0x2E ∷ 0x30 ∷ 0x30 ∷ 0x2C ∷ 0x2C ∷ 0x2C ∷ 0x2C ∷ []
unfolding digits
rates_shown b = refl

-- every answer's data, for books whose lists are of eight
module _ (day : List ℕ) (b : Books) where
  pub shown_short : (s : Shown) → length day ≡ 8 → length b.day ≡ 8 → length b.receipt.groups ≡ 8 → length (content_of s day b) ≤ 200
  shown_short shown.Nothing d e g = omega arith
  shown_short shown.All d e g = omega (arith, length_digits 4 b.counters.all)
  shown_short shown.AllAndFiscal d e g =
      omega (arith, commas_size (digits 4 b.counters.all ∷ digits 4 b.counters.fiscal ∷ []), length_digits 4 b.counters.all, length_digits 4 b.counters.fiscal)
  shown_short shown.Subtotal d e g =
      omega (arith, commas_size (map (digits 10) (b.receipt.total ∷ b.receipt.groups)), sums_size 10 (b.receipt.total ∷ b.receipt.groups) (omega arith))
  shown_short (shown.Tendered full left) d e g = omega (arith, length_digits 10 left)
  shown_short shown.DaySums d e g =
      omega (arith, commas_size (map (digits 12) b.day), sums_size 12 b.day (omega arith))
  shown_short shown.Taxes d e g =
      omega (arith, commas_size (map (digits 12) (taxes_from b 0 b.day)), sums_size 12 (taxes_from b 0 b.day) (omega arith), taxes_length b 0 b.day)
  shown_short shown.Closure d e g =
      omega (arith, commas_size (digits 4 b.memory.closings ∷ digits 17 b.memory.total ∷ map (digits 12) day), length_digits 4 b.memory.closings, length_digits 17 b.memory.total, sums_size 12 day (omega arith))
  shown_short shown.InDrawer d e g =
      omega (arith, commas_size ((0x50 ∷ []) ∷ map (digits 12) (b.drawer.cash ∷ b.drawer.put ∷ b.drawer.taken ∷ [])), sums_size 12 (b.drawer.cash ∷ b.drawer.put ∷ b.drawer.taken ∷ []) (omega arith))
  shown_short shown.Status d e g = omega arith
  shown_short shown.Rates d e g = omega (arith, ap length (rates_shown b))

  letter-plain : (full : Bool) → may_stand Data (letter full) ≡ true
  letter-plain true = refl
  letter-plain false = refl

  pub shown_stands : (s : Shown) → every (may_stand Data) (content_of s day b) ≡ true
  shown_stands shown.Nothing = refl
  shown_stands shown.All = digits_plain 4 b.counters.all
  shown_stands shown.AllAndFiscal = commas_plain (sums_plain 4 (b.counters.all ∷ b.counters.fiscal ∷ []))
  shown_stands shown.Subtotal = commas_plain (sums_plain 10 (b.receipt.total ∷ b.receipt.groups))
  shown_stands (shown.Tendered full left) = every-cons (may_stand Data) (letter full) (digits 10 left) (letter-plain full) (digits_plain 10 left)
  shown_stands shown.DaySums = commas_plain (sums_plain 12 b.day)
  shown_stands shown.Taxes = commas_plain (sums_plain 12 (taxes_from b 0 b.day))
  shown_stands shown.Closure =
      commas_plain
      (one (digits 4 b.memory.closings) (digits_plain 4 b.memory.closings)
      (one (digits 17 b.memory.total) (digits_plain 17 b.memory.total)
      (sums_plain 12 day)))
  shown_stands shown.InDrawer = commas_plain (one (0x50 ∷ []) refl (sums_plain 12 (b.drawer.cash ∷ b.drawer.put ∷ b.drawer.taken ∷ [])))
  shown_stands shown.Status = high_pass (may_stand Data) (λ x low high. plain x (omega arith) high) (status_high 0 b)
  shown_stands shown.Rates = rw (rates_shown b)

-- so every answer can be sent, whatever its reply number
carried : (seq code : ℕ) (content : List ℕ) → may_stand Name seq ≡ true → may_stand Name code ≡ true → length content ≤ 200
    → every (may_stand Data) content ≡ true → carriable seq code content ≡ true
carried seq code content p q h e = rw (p, q, le-leb (length content) 200 h, e)

pub shown_sendable : (seq code n : ℕ) (s : Shown) (day : List ℕ) (b : Books) → may_stand Name seq ≡ true → may_stand Name code ≡ true
    → length day ≡ 8 → length b.day ≡ 8 → length b.receipt.groups ≡ 8
    → sendable ToTill (answer_of seq code (content_of s day b) (status_of n b)) ≡ true
shown_sendable seq code n s day b p q d e g =
    sendable_answer seq code (content_of s day b) (status_of n b) (status_six n b)
    (carried seq code (content_of s day b) p q (shown_short day b s d e g) (shown_stands day b s))
    (status_stands n b)
