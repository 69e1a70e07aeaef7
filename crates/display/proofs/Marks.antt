-- A turn of the loops over a text's data: what is left of the plain text and of the tests, behind one byte more.
use mathlib.Core.Path.{◌≡◌, refl, sym, ap}
use mathlib.Core.Bool.{Bool, true, false, not, cond, ◌&&◌, false≢true}
use mathlib.Core.List.{List, [], ◌∷◌}
use Prim.Native.Nat.{ℕ, suc, ◌+◌, ◌-◌, ◌≤◌, ◌<◌}
use native.Mathlib.Numerals.{add-one}
use native.Mathlib.Omega.{arith}
use lib.Dec.{leb, eqb}
use lib.ListN.{length, get_or, drop, set, drop_of_length-le}
use lib.Seq.{sets, drop-cons}
use borrow.Author.Tests.{not-true, not-false}
use Rattle.text.specs.Parts.{within}
use Rattle.display.specs.Display.{plain_from, plain_of, marks_suit, can_show}

-- one byte, before any rest
mark_first : (marked : Bool) (b : ℕ) (rest : List ℕ) (mark : Bool) → mark ≡ (not marked && eqb b 0x10) → not mark ≡ false
    → plain_from marked (b ∷ rest) ≡ plain_from mark rest
mark_first marked b rest false e f = absurd (false≢true (sym f))
mark_first true b rest true e f = absurd (false≢true (sym e))
mark_first false b rest true e f = rw (sym e)

byte_first : (marked : Bool) (b : ℕ) (rest : List ℕ) (mark : Bool) → mark ≡ (not marked && eqb b 0x10) → not mark ≡ true
    → plain_from marked (b ∷ rest) ≡ cond marked (b - 0x40) b ∷ plain_from mark rest
byte_first marked b rest true e f = absurd (false≢true f)
byte_first true b rest false e f = refl
byte_first false b rest false e f = rw (sym e)

suit_first : (marked : Bool) (b : ℕ) (rest : List ℕ) → marked && not (within 0x40 0x5F b) ≡ false → marks_suit marked (b ∷ rest) ≡ marks_suit (not marked && eqb b 0x10) rest
suit_first true b rest e = rw (not-false (within 0x40 0x5F b) e)
suit_first false b rest e = refl

strange_first : (marked : Bool) (b : ℕ) (rest : List ℕ) → marked && not (within 0x40 0x5F b) ≡ true → marks_suit marked (b ∷ rest) ≡ false
strange_first true b rest e = rw (not-true (within 0x40 0x5F b) e)
strange_first false b rest e = absurd (false≢true e)

-- the same where the loops stand
module _ (s : List ℕ) (i : ℕ) (marked : Bool) where
  pub plain_mark : (mark : Bool) → i < length s → mark ≡ (not marked && eqb (get_or s i 0) 0x10) → not mark ≡ false
      → plain_from marked (drop i s) ≡ plain_from mark (drop (i + 1) s)
  plain_mark mark h e f = rw (add-one, drop-cons s i 0) (mark_first marked (get_or s i 0) (drop (suc i) s) mark e f)

  pub plain_byte : (mark : Bool) → i < length s → mark ≡ (not marked && eqb (get_or s i 0) 0x10) → not mark ≡ true
      → plain_from marked (drop i s) ≡ cond marked (get_or s i 0 - 0x40) (get_or s i 0) ∷ plain_from mark (drop (i + 1) s)
  plain_byte mark h e f = rw (add-one, drop-cons s i 0) (byte_first marked (get_or s i 0) (drop (suc i) s) mark e f)

  pub plain_done : length s ≤ i → plain_from marked (drop i s) ≡ []
  plain_done h = rw (drop_of_length-le s h)

  pub suit_turn : (mark : Bool) → i < length s → mark ≡ (not marked && eqb (get_or s i 0) 0x10) → marked && not (within 0x40 0x5F (get_or s i 0)) ≡ false
      → marks_suit marked (drop i s) ≡ marks_suit mark (drop (i + 1) s)
  suit_turn mark h e f = rw (add-one, e, drop-cons s i 0) (suit_first marked (get_or s i 0) (drop (suc i) s) f)

  pub suit_stop : i < length s → marked && not (within 0x40 0x5F (get_or s i 0)) ≡ true → marks_suit marked (drop i s) ≡ false
  suit_stop h f = rw (drop-cons s i 0) (strange_first marked (get_or s i 0) (drop (suc i) s) f)

  suit-done : length s ≤ i → marks_suit marked (drop i s) ≡ not marked
  suit-done h = rw (drop_of_length-le s h)

  -- at the end of the data
  pub judged : (count : ℕ) → length s ≤ i → marks_suit false s ≡ marks_suit marked (drop i s) → count + length (plain_from marked (drop i s)) ≡ length (plain_of s)
      → not marked && leb count 40 ≡ can_show s
  judged count h e f =
      let all : length (plain_of s) ≡ count = omega (arith, ap length (plain_done h)) in
      rw (e, suit-done h, all)

  -- a byte is put, and the rest of the plain text is still to be put
  pub put_turn : (mark : Bool) (buf after : List ℕ) (count next b : ℕ) → i < length s → mark ≡ (not marked && eqb (get_or s i 0) 0x10) → not mark ≡ true
      → b ≡ cond marked (get_or s i 0 - 0x40) (get_or s i 0) → after ≡ set buf count b → next ≡ count + 1
      → sets after next (plain_from mark (drop (i + 1) s)) ≡ sets buf count (plain_from marked (drop i s))
  put_turn mark buf after count next b h e f is_b put one =
      let more : count + 1 ≡ suc count = add-one count in
      rw (plain_byte mark h e f, put, one, more, is_b)
