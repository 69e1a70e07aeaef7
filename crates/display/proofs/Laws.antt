-- PROTOCOL 5.17: every text of up to 40 bytes has data that stands for it, and what a command shows is read back from its result and the lent buffer.
use Rattle.std.proofs.lemmas.Bool.{and_parts, and_from}
use mathlib.Core.Path.{◌≡◌, refl, sym, ap, ◌∙◌}
use mathlib.Core.Bool.{Bool, true, false, cond, ◌&&◌}
use mathlib.Core.List.{List, [], ◌∷◌}
use Prim.Native.Nat.{ℕ, ◌+◌, ◌-◌, ◌*◌, ◌≤◌}
use native.Mathlib.Omega.{arith}
use lib.Dec.{leb, ltb, eqb}
use lib.ListN.{length, take, drop}
use lib.Seq.{sets, sets-eq, take-append_seam}
use borrow.Author.Tests.{ltb-true, ltb-false, leb-true, le-leb, ne_eqb}
use Rattle.wire.specs.Bytes.{every, within, may_stand}
use Rattle.wire.specs.declared.Role.TheVariants.{Data}
use Rattle.wire.proofs.Suits.{data_byte}
use Rattle.display.specs.Display.{plain_of, marks_suit, can_show, shown_by, display_of, displayed, texts_in, data_of}

-- the data of a text stands for the text
pub read_back : (t : List ℕ) → plain_of (data_of t) ≡ t
read_back [] = refl
read_back (b ∷ t) = go (read_back t) (ltb b 0x20) refl
  where
    go : plain_of (data_of t) ≡ t → (low : Bool) → ltb b 0x20 ≡ low → plain_of (cond low (0x10 ∷ (b + 0x40) ∷ data_of t) (b ∷ data_of t)) ≡ b ∷ t
    go rest true e = let back : b + 0x40 - 0x40 ≡ b = omega arith in rw (back, rest)
    go rest false e = let more = ltb-false b 0x20 e in rw (ne_eqb b 0x10 (λ q. omega arith), rest)

-- and 40h to 5Fh is behind each 10h of it
pub marks_back : (t : List ℕ) → marks_suit false (data_of t) ≡ true
marks_back [] = refl
marks_back (b ∷ t) = go (marks_back t) (ltb b 0x20) refl
  where
    go : marks_suit false (data_of t) ≡ true → (low : Bool) → ltb b 0x20 ≡ low → marks_suit false (cond low (0x10 ∷ (b + 0x40) ∷ data_of t) (b ∷ data_of t)) ≡ true
    go rest true e = let less = ltb-true b 0x20 e in rw (le-leb 0x40 (b + 0x40) (omega arith), le-leb (b + 0x40) 0x5F (omega arith), rest)
    go rest false e = let more = ltb-false b 0x20 e in ap (λ marked. marks_suit marked (data_of t)) (ne_eqb b 0x10 (λ q. omega arith)) ∙ rest

-- a byte is sent as two bytes at most
data_length : (t : List ℕ) → length (data_of t) ≤ 2 * length t
data_length [] = omega arith
data_length (b ∷ t) = go (data_length t) (ltb b 0x20)
  where
    go : length (data_of t) ≤ 2 * length t → (low : Bool) → length (cond low (0x10 ∷ (b + 0x40) ∷ data_of t) (b ∷ data_of t)) ≤ 2 * length (b ∷ t)
    go rest true = omega arith
    go rest false = omega arith

-- each of which may stand in data
high_stands : (b : ℕ) → 0x20 ≤ b → b ≤ 0xFF → may_stand Data b ≡ true
high_stands b h g = sym (data_byte b (omega arith) (λ q. omega arith) (λ q. omega arith) (λ q. omega arith)) ∙ le-leb 0x20 b h

data_stands : (t : List ℕ) → every (within 0x00 0xFF) t ≡ true → every (may_stand Data) (data_of t) ≡ true
data_stands [] h = refl
data_stands (b ∷ t) h =
    let (byte, bytes) = and_parts (within 0x00 0xFF b) (every (within 0x00 0xFF) t) h in
    go (leb-true b 0xFF (and_parts (leb 0x00 b) (leb b 0xFF) byte).1) (data_stands t bytes) (ltb b 0x20) refl
  where
    go : b ≤ 0xFF → every (may_stand Data) (data_of t) ≡ true → (low : Bool) → ltb b 0x20 ≡ low
        → every (may_stand Data) (cond low (0x10 ∷ (b + 0x40) ∷ data_of t) (b ∷ data_of t)) ≡ true
    go byte rest true e = let less = ltb-true b 0x20 e in and_from (may_stand Data (b + 0x40)) (every (may_stand Data) (data_of t)) (high_stands (b + 0x40) (omega arith) (omega arith)) rest
    go byte rest false e = and_from (may_stand Data b) (every (may_stand Data) (data_of t)) (high_stands b (ltb-false b 0x20 e) byte) rest

-- so every text of up to 40 bytes can be shown: there is data for it, which can be sent
pub every_text_has_data : (t : List ℕ) → length t ≤ 40 → every (within 0x00 0xFF) t ≡ true
    → (can_show (data_of t) ≡ true) × (plain_of (data_of t) ≡ t) × (every (may_stand Data) (data_of t) ≡ true) × (length (data_of t) ≤ 80)
every_text_has_data t h bytes = (
  rw (marks_back t, read_back t) (le-leb (length t) 40 h),
  read_back t,
  data_stands t bytes,
  omega (arith, data_length t),
)

-- a command shows one text at most, of at most 40 bytes
pub few_shown : (code : ℕ) (s t : List ℕ) (ts : List (List ℕ)) → shown_by code s ≡ t ∷ ts → (length t ≤ 40) × (ts ≡ [])
few_shown code s t ts = go (eqb code 100 && can_show s) refl
  where
    go : (shows : Bool) → (eqb code 100 && can_show s) ≡ shows → cond shows (plain_of s ∷ []) [] ≡ t ∷ ts → (length t ≤ 40) × (ts ≡ [])
    go true e q =
        let can = (and_parts (eqb code 100) (can_show s) e).1 in
        let few = leb-true (length (plain_of s)) 40 (and_parts (marks_suit false s) (leb (length (plain_of s)) 40) can).1 in
        let same : plain_of s ≡ t = cc in
        (omega (arith, ap length same), (cc))
    go false e q = let z : ◌≡◌ {A = ℕ} 0 1 = cc in absurd (omega arith)

-- a text at the front of a buffer that has room for it is read back
front_back : (buffer t : List ℕ) → length t ≤ length buffer → take (length t) (sets buffer 0 t) ≡ t
front_back buffer t h = rw (sets-eq t buffer 0 (omega arith)) (take-append_seam t (drop (0 + length t) buffer))

-- what is told of a command, and the lent buffer, say which texts it shows: none, and a text of no bytes, are told apart
pub texts_back : (buffer : List ℕ) (code : ℕ) (s : List ℕ) → 40 ≤ length buffer
    → texts_in (display_of (shown_by code s)) (displayed buffer (shown_by code s)) ≡ shown_by code s
texts_back buffer code s room = go (shown_by code s) (few_shown code s)
  where
    go : (texts : List (List ℕ)) → ((t : List ℕ) (ts : List (List ℕ)) → texts ≡ t ∷ ts → (length t ≤ 40) × (ts ≡ []))
        → texts_in (display_of texts) (displayed buffer texts) ≡ texts
    go [] few = refl
    go (t ∷ ts) few =
        let (small, one) = few t ts refl in
        rw one (ap (λ x. x ∷ []) (front_back buffer t (omega arith)))
