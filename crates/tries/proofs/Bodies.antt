-- The bytes of a frame behind 01h: where 01h and 03h stand, and when two of them are one. For commands and answers alike.
use Rattle.std.proofs.lemmas.Bool.{and_parts}
use mathlib.Core.Path.{◌≡◌, refl, sym, ap, ◌∙◌, subst}
use mathlib.Core.Bool.{Bool, true, false, ◌||◌}
use mathlib.Core.Logic.{◌⊎◌, ⊎_elim}
use mathlib.Core.List.{List, [], ◌∷◌, ◌++◌, append_assoc, append-nil, head-eq_of_cons-eq, tail-eq_of_cons-eq}
use Prim.Native.Nat.{ℕ, ◌+◌, ◌*◌, ◌/◌, ◌%◌, ◌≤◌, ◌<◌}
use native.Mathlib.Omega.{arith}
use lib.Dec.{leb, eqb}
use lib.ListN.{length, length-append}
use borrow.Author.Tests.{eqb-true, leb-true}
use Rattle.wire.specs.Bytes.{within, may_stand, every}
use Rattle.wire.specs.Frame.{Message, total, bcc, hexadecimal, inner, counted, sendable}
use Rattle.wire.specs.declared.Way.{Way}
use Rattle.wire.specs.declared.Way.TheVariants.{ToDevice, ToTill}
use Rattle.wire.specs.declared.Role.TheVariants.{Name, Data, Status}
use Rattle.text.proofs.Laws.{empty}
use Rattle.wire.proofs.Suits.{behind_small}
use Rattle.reader.proofs.RoundTrip.{Parts, parts, length-inner}
use Rattle.tries.proofs.Lists.{Free, free_join, free_test, free_every, only_last, cut_same, total_join, OneOff, InFirst, InSecond, off_back, off_length, off_total, off_same, off_parts, off_some, overlap, last_of, snoc_same}

-- LEN to 05h, their BCC, and all that stands behind 01h
abbrev pub core : Way → Message → List ℕ
core k m = counted m.seq m.code (inner k m)

abbrev pub check : Way → Message → List ℕ
check k m = bcc (total (core k m))

abbrev pub body : Way → Message → List ℕ
body k m = core k m ++ check k m ++ 0x03 ∷ []

-- bounds
at_most_lem : (lowest b : ℕ) → within lowest 0xFF b ≡ true → b ≤ 255
at_most_lem lowest b e = leb-true b 0xFF (and_parts (leb lowest b) (leb b 0xFF) e).1

data_most : (b : ℕ) → may_stand Data b ≡ true → b ≤ 255
data_most b = go (eqb b 0x09) refl (eqb b 0x0A) refl (eqb b 0x10) refl
  where
    go : (x : Bool) → eqb b 0x09 ≡ x → (y : Bool) → eqb b 0x0A ≡ y → (z : Bool) → eqb b 0x10 ≡ z → x || y || z || within 0x20 0xFF b ≡ true → b ≤ 255
    go true ex y ey z ez e = omega (arith, eqb-true b 0x09 ex)
    go false ex true ey z ez e = omega (arith, eqb-true b 0x0A ey)
    go false ex false ey true ez e = omega (arith, eqb-true b 0x10 ez)
    go false ex false ey false ez e = at_most_lem 0x20 b e

total_most : (t : ℕ → Bool) → ((x : ℕ) → t x ≡ true → x ≤ 255) → (xs : List ℕ) → every t xs ≡ true → total xs ≤ 255 * length xs
total_most t most [] e = omega arith
total_most t most (x ∷ xs) e =
    let two = and_parts (t x) (every t xs) e in
    omega (arith, most x two.0, total_most t most xs two.1)

-- of what stands between CMD and 05h
inner_most : (k : Way) (m : Message) → Parts k m → total (inner k m) ≤ 255 * 207
inner_most ToDevice m h = omega (arith, total_most (may_stand Data) data_most m.content h.content, h.few)
inner_most ToTill m h =
    omega (
      arith,
      total_join m.content (0x04 ∷ m.status),
      total_most (may_stand Data) data_most m.content h.content,
      total_most (may_stand Status) (at_most_lem 0x80) m.status h.status,
      h.few,
      h.size,
    )

-- a byte that may not stand there
inner_free : (v : ℕ) → may_stand Data v ≡ false → may_stand Status v ≡ false → v < 4 → (k : Way) (m : Message) → Parts k m → Free v (inner k m)
inner_free v data' state low ToDevice m h = free_every v (may_stand Data) data' m.content h.content
inner_free v data' state low ToTill m h =
    free_join v m.content (0x04 ∷ m.status) (free_every v (may_stand Data) data' m.content h.content)
    (λ e. omega arith, free_every v (may_stand Status) state m.status h.status)

-- four hexadecimal digits say a number below 65536
one_digit : (s t : ℕ) → s / 16 ≡ t / 16 → s % 16 ≡ t % 16 → s ≡ t
one_digit s t e f = omega arith

shorter_256 : (s : ℕ) → s / 256 / 16 ≡ s / 4096
shorter_256 s = omega arith

shorter_16 : (s : ℕ) → s / 16 / 16 ≡ s / 256
shorter_16 s = omega arith

top_digit : (s : ℕ) → s < 65536 → s / 4096 % 16 ≡ s / 4096
top_digit s h = omega arith

digits_same : (s t : ℕ) → s < 65536 → t < 65536 → s / 4096 % 16 ≡ t / 4096 % 16 → s / 256 % 16 ≡ t / 256 % 16 → s / 16 % 16 ≡ t / 16 % 16 → s % 16 ≡ t % 16 → s ≡ t
digits_same s t hs ht a b c d =
    let p : s / 4096 ≡ t / 4096 = sym (top_digit s hs) ∙ a ∙ top_digit t ht in
    let q : s / 256 ≡ t / 256 = one_digit (s / 256) (t / 256) (shorter_256 s ∙ p ∙ sym (shorter_256 t)) b in
    let r : s / 16 ≡ t / 16 = one_digit (s / 16) (t / 16) (shorter_16 s ∙ q ∙ sym (shorter_16 t)) c in
    one_digit s t r d

hex_same : (s t : ℕ) → hexadecimal s ≡ hexadecimal t → s % 16 ≡ t % 16
hex_same s t e = omega arith

bcc_same : (s t : ℕ) → s < 65536 → t < 65536 → bcc s ≡ bcc t → s ≡ t
bcc_same s t hs ht e =
    let a : hexadecimal (s / 4096) ≡ hexadecimal (t / 4096) = head-eq_of_cons-eq e in
    let e1 = tail-eq_of_cons-eq e in
    let b : hexadecimal (s / 256) ≡ hexadecimal (t / 256) = head-eq_of_cons-eq e1 in
    let e2 = tail-eq_of_cons-eq e1 in
    let c : hexadecimal (s / 16) ≡ hexadecimal (t / 16) = head-eq_of_cons-eq e2 in
    let d : hexadecimal s ≡ hexadecimal t = head-eq_of_cons-eq (tail-eq_of_cons-eq e2) in
    digits_same s t hs ht (hex_same (s / 4096) (t / 4096) a) (hex_same (s / 256) (t / 256) b) (hex_same (s / 16) (t / 16) c) (hex_same s t d)

module _ (k : Way) (m : Message) (can : sendable k m ≡ true) where
  h : Parts k m
  h = parts k m can

  -- a byte that may not stand in data and is no digit, before 03h
  free : (v : ℕ) → may_stand Name v ≡ false → may_stand Data v ≡ false → may_stand Status v ≡ false → v < 4 → Free v (core k m ++ check k m)
  free v mark data' state low =
      free_join v (core k m) (check k m) (
        λ e. omega arith,
        (
          free_test v (may_stand Name) mark m.seq h.seq,
          (
            free_test v (may_stand Name) mark m.code h.code,
            free_join v (inner k m) (0x05 ∷ []) (inner_free v data' state low k m h) (λ e. omega arith, tt),
          ),
        ),
      )
      (λ e. omega arith, (λ e. omega arith, (λ e. omega arith, (λ e. omega arith, tt))))

  pub no_01 : Free 0x01 (body k m)
  no_01 = free_join 0x01 (core k m ++ check k m) (0x03 ∷ []) (free 0x01 refl refl refl (omega arith)) (λ e. omega arith, tt)

  pub no_03 : Free 0x03 (core k m ++ check k m)
  no_03 = free 0x03 refl refl refl (omega arith)

  -- 03h stands at the end alone
  pub ends : (u w : List ℕ) → body k m ≡ u ++ 0x03 ∷ w → w ≡ []
  ends = only_last 0x03 (core k m ++ check k m) no_03

  pub length-core : length (core k m) ≡ length (inner k m) + 4
  length-core = omega (arith, length-append (inner k m) (0x05 ∷ []))

  pub length-body : length (body k m) ≡ length (inner k m) + 9
  length-body = omega (arith, length-append (core k m ++ check k m) (0x03 ∷ []), length-append (core k m) (check k m), length-core)

  total-small : total (core k m) < 65536
  total-small =
      omega (arith, total_join (inner k m) (0x05 ∷ []), inner_most k m h, at_most_lem 0x20 m.seq h.seq, at_most_lem 0x20 m.code h.code, length-inner k m h, h.few, behind_small k)

-- two frames whose bytes behind 01h end alike
module _ (k : Way) (m n : Message) (cm : sendable k m ≡ true) (cn : sendable k n ≡ true) where
  checks-same : check k m ≡ check k n → total (core k m) ≡ total (core k n)
  checks-same = bcc_same (total (core k m)) (total (core k n)) (total-small k m cm) (total-small k n cn)

  -- no proper end of one is another
  pub no_suffix : (a : List ℕ) → body k m ≡ a ++ body k n → a ≡ []
  no_suffix a e = go a cut.0 (omega (arith, ap total cut.0, total_join a (core k n), checks-same (cut_same (check k m) (0x03 ∷ []) (check k n) (0x03 ∷ []) refl cut.1).0))
    where
      regroup : core k m ++ (check k m ++ 0x03 ∷ []) ≡ (a ++ core k n) ++ (check k n ++ 0x03 ∷ [])
      regroup =
          sym (append_assoc (core k m) (check k m) (0x03 ∷ []))
          ∙ e
          ∙ ap (λ z. a ++ z) (append_assoc (core k n) (check k n) (0x03 ∷ []))
          ∙ sym (append_assoc a (core k n) (check k n ++ 0x03 ∷ []))

      sizes : length (core k m) ≡ length (a ++ core k n)
      sizes = omega (arith, ap length e, length-append a (body k n), length-append a (core k n), length-body k m cm, length-body k n cn, length-core k m cm, length-core k n cn)

      cut : (core k m ≡ a ++ core k n) × (check k m ++ 0x03 ∷ [] ≡ check k n ++ 0x03 ∷ [])
      cut = cut_same (core k m) (check k m ++ 0x03 ∷ []) (a ++ core k n) (check k n ++ 0x03 ∷ []) sizes regroup

      go : (b : List ℕ) → core k m ≡ b ++ core k n → total b ≡ 0 → b ≡ []
      go [] f z = refl
      go (x ∷ b) f z = let first = head-eq_of_cons-eq f in absurd (omega arith)

  -- nor does one stand within another
  pub no_window : (a w : List ℕ) → body k m ≡ a ++ (body k n ++ w) → (a ≡ []) × (w ≡ [])
  no_window a w e =
      let seam : body k m ≡ (a ++ (core k n ++ check k n)) ++ 0x03 ∷ w =
      e ∙ ap (λ z. a ++ z) (append_assoc (core k n ++ check k n) (0x03 ∷ []) w) ∙ sym (append_assoc a (core k n ++ check k n) (0x03 ∷ w)) in
      let none : w ≡ [] = ends k m cm (a ++ (core k n ++ check k n)) w seam in
      (no_suffix a (e ∙ ap (λ z. a ++ (body k n ++ z)) none ∙ ap (λ z. a ++ z) (append-nil (body k n))), none)

  -- two that differ in one place are none
  pub no_neighbour : OneOff (body k m) (body k n) → ⊥
  no_neighbour d = ⊎_elim in-core in-check (off_parts (core k m) (check k m ++ 0x03 ∷ []) d (append_assoc (core k m) (check k m) (0x03 ∷ [])))
    where
      size : length (core k m) ≡ length (core k n)
      size = omega (arith, off_length d, length-body k m cm, length-body k n cn, length-core k m cm, length-core k n cn)

      in-core : InFirst (core k m) (check k m ++ 0x03 ∷ []) (body k n) → ⊥
      in-core c =
          let cut = cut_same (core k n) (check k n ++ 0x03 ∷ []) c.other (check k m ++ 0x03 ∷ []) (sym size ∙ off_length c.off) (sym (append_assoc (core k n) (check k n) (0x03 ∷ [])) ∙ c.is) in
          let same = (cut_same (check k m) (0x03 ∷ []) (check k n) (0x03 ∷ []) refl (sym cut.1)).0 in
          off_total c.off (checks-same same ∙ ap total cut.0)

      in-check : InSecond (core k m) (check k m ++ 0x03 ∷ []) (body k n) → ⊥
      in-check c =
          let cut = cut_same (core k n) (check k n ++ 0x03 ∷ []) (core k m) c.other (sym size) (sym (append_assoc (core k n) (check k n) (0x03 ∷ [])) ∙ c.is) in
          off_same c.off (ap (λ z. bcc (total z) ++ 0x03 ∷ []) (sym cut.0) ∙ cut.1)

  -- one whose byte was replaced does not begin with one
  pub no_damaged : (g w : List ℕ) → OneOff (body k m) g → g ≡ body k n ++ w → ⊥
  no_damaged g w d e = ⊎_elim front-off behind-off (off_parts (body k n) w (off_back d) e)
    where
      exact : w ≡ [] → ⊥
      exact none = no_neighbour (subst (OneOff (body k m)) (e ∙ ap (λ z. body k n ++ z) none ∙ append-nil (body k n)) d)

      behind-off : InSecond (body k n) w (body k m) → ⊥
      behind-off c =
          let none = (no_window [] c.other c.is).1 in
          omega (arith, off_some c.off, off_length c.off, ap length none)

      before-03 : (v : List ℕ) → body k m ≡ v ++ w → InFirst (core k n ++ check k n) (0x03 ∷ []) v → ⊥
      before-03 v is c =
          exact (ends k m cm c.other w (is ∙ ap (λ z. z ++ w) c.is ∙ append_assoc c.other (0x03 ∷ []) w))

      at-03 : (v : List ℕ) → body k m ≡ v ++ w → InSecond (core k n ++ check k n) (0x03 ∷ []) v → ⊥
      at-03 v is c =
          let first : length (inner k m) + 4 + 0x20 ≡ length (inner k n) + 4 + 0x20 = head-eq_of_cons-eq (is ∙ ap (λ z. z ++ w) c.is) in
          let sizes = ap length is ∙ length-append v w in
          let same = ap length c.is ∙ length-append (core k n ++ check k n) c.other in
          exact (empty w (omega (arith, length-body k m cm, length-body k n cn, length-append (core k n ++ check k n) (0x03 ∷ []), off_length c.off)))

      front-off : InFirst (body k n) w (body k m) → ⊥
      front-off c = ⊎_elim (before-03 c.other c.is) (at-03 c.other c.is) (off_parts (core k n ++ check k n) (0x03 ∷ []) c.off refl)

-- a proper beginning of one, a byte, and another: one stands there only where the byte is the 03h that the beginning lacked
module _ (k : Way) (m old n : Message) (cm : sendable k m ≡ true) (co : sendable k old ≡ true) (cn : sendable k n ≡ true)
    (u : List ℕ) (y : ℕ) (v : List ℕ) (begun : body k old ≡ u ++ y ∷ v) where
  not_within : (w : List ℕ) → u ≡ body k n ++ w → ⊥
  not_within w e =
      let all = no_window k old n co cn [] (w ++ y ∷ v) (begun ∙ ap (λ z. z ++ y ∷ v) e ∙ append_assoc (body k n) w (y ∷ v)) in
      omega (arith, ap length all.1, length-append w (y ∷ v))

  by_one : (x : ℕ) → body k n ≡ u ++ x ∷ [] → (x ≡ 0x03) × (v ≡ [])
  by_one x e =
      let last = snoc_same (core k n ++ check k n) u 0x03 x e in
      let whole : body k old ≡ (core k n ++ check k n) ++ y ∷ v = begun ∙ ap (λ z. z ++ y ∷ v) (sym last.0) in
      let first : length (inner k old) + 4 + 0x20 ≡ length (inner k n) + 4 + 0x20 = head-eq_of_cons-eq whole in (
        sym last.1,
        empty v (omega (arith, ap length whole, length-body k old co, length-body k n cn, length-append (core k n ++ check k n) (y ∷ v), length-append (core k n ++ check k n) (0x03 ∷ []))),
      )

  by-more : (x z : ℕ) (e w : List ℕ) → body k n ≡ u ++ x ∷ z ∷ e → body k m ≡ (z ∷ e) ++ w → ⊥
  by-more x z e w is rest =
      let last = last_of z e in
      let ends_so : body k n ≡ (u ++ x ∷ last.0) ++ last.1 ∷ [] = is ∙ ap (λ t. u ++ x ∷ t) last.2 ∙ sym (append_assoc u (x ∷ last.0) (last.1 ∷ [])) in
      let three : 0x03 ≡ last.1 = (snoc_same (core k n ++ check k n) (u ++ x ∷ last.0) 0x03 last.1 ends_so).1 in
      let seam : body k m ≡ last.0 ++ 0x03 ∷ w = rest ∙ ap (λ t. t ++ w) last.2 ∙ append_assoc last.0 (last.1 ∷ []) w ∙ ap (λ t. last.0 ++ t ∷ w) (sym three) in
      let same : body k m ≡ z ∷ e = rest ∙ ap (λ t. (z ∷ e) ++ t) (ends k m cm last.0 w seam) ∙ append-nil (z ∷ e) in
      let none = no_suffix k n m cn cm (u ++ x ∷ []) (is ∙ sym (append_assoc u (x ∷ []) (z ∷ e)) ∙ ap (λ t. (u ++ x ∷ []) ++ t) (sym same)) in
      omega (arith, ap length none, length-append u (x ∷ []))

  pub joined : (x : ℕ) (w : List ℕ) → u ++ x ∷ body k m ≡ body k n ++ w → (x ≡ 0x03) × (v ≡ [])
  joined x w e = ⊎_elim (λ r. go r.extra r.is r.rest) (λ r. absurd (not_within r.extra r.is)) (overlap u (x ∷ body k m) (body k n) w e)
    where
      go : (extra : List ℕ) → body k n ≡ u ++ extra → x ∷ body k m ≡ extra ++ w → (x ≡ 0x03) × (v ≡ [])
      go [] is rest = absurd (not_within [] (sym (is ∙ append-nil u) ∙ sym (append-nil (body k n))))
      go (t ∷ []) is rest = by_one x (is ∙ ap (λ z. u ++ z ∷ []) (sym (head-eq_of_cons-eq rest)))
      go (t ∷ z ∷ extra) is rest = absurd (by-more t z extra w is (tail-eq_of_cons-eq rest))
