-- The loops over a sentence and over data: what is left to be put, put here, makes the whole.
use Prim.Native.Nat.{ℕ, zero, suc, ◌+◌, ◌-◌, ◌/◌, ◌≤◌, ◌<◌, min}
use mathlib.Core.Path.{◌≡◌, refl, sym, ap, ◌∙◌}
use mathlib.Core.List.{List, [], ◌++◌}
use mathlib.Core.Bool.{Bool, true, false, cond, ◌||◌}
use native.Mathlib.Numerals.{add-one}
use native.Mathlib.Nat.{add-zero}
use native.Mathlib.Omega.{arith}
use lib.Dec.{eqb}
use lib.ListN.{length, drop, get_or, drop_of_length-le}
use lib.Seq.{drop-cons, drop-drop, get_or-drop}
use borrow.Author.Tests.{lt-ltb, le-ltb}
use Rattle.sentences.specs.Put.{Put}
use Rattle.sentences.specs.Figures.{width_of}
use Rattle.sentences.specs.Filled.{shown, escaped, piece, takes, filled}
use Rattle.sentences.proofs.Putting.{put_from_end, put_then, put_none, put_length, put_as}

-- with the rest put here, all is put
pub record Rest (l : List ℕ) (at : ℕ) (all rest here : List ℕ) (p : ℕ) : Type 0 where
  pub within : p ≤ length here
  pub same : length here ≡ length l
  pub ends : (m : List ℕ) (q : ℕ) → Put here p rest m q → Put l at all m q

pub rest_start : {l : List ℕ} {at p : ℕ} (all : List ℕ) → p ≡ min at (length l) → Rest l at all all l p
rest_start all e = record {
  within = omega arith;
  same = refl;
  ends = λ m q h. put_from_end (rw e at h);
}

-- a piece of it is put
pub rest_turn : {l all rest here next : List ℕ} {at p q : ℕ} → Rest l at all rest here p → (first more : List ℕ) → rest ≡ first ++ more
    → Put here p first next q → Rest l at all more next q
rest_turn r first more e h = record {
  within = omega (arith, h.behind, put_length h);
  same = put_length h ∙ r.same;
  ends = λ m q k. r.ends m q (put_as (put_then h k) (sym e));
}

-- nothing is left
pub rest_done : {l all rest here : List ℕ} {at p : ℕ} → Rest l at all rest here p → rest ≡ [] → Put l at all here p
rest_done {here = here} {p = p} r e = r.ends here p (put_as (put_none r.within) (sym e))

-- data from i on
pub data_next : (bytes : List ℕ) (i : ℕ) → i < length bytes → escaped (drop i bytes) ≡ shown (get_or bytes i 0) ++ escaped (drop (i + 1) bytes)
unfolding escaped
data_next bytes i h = rw (add-one, drop-cons bytes i 0)

pub data_done : (bytes : List ℕ) (i : ℕ) → length bytes ≤ i → escaped (drop i bytes) ≡ []
unfolding escaped
data_done bytes i h = rw (drop_of_length-le bytes h)

-- a sentence from i on, with the figures from k on
pub filled_next : (s w f : List ℕ) (i k : ℕ) → i < length s
    → filled (drop i s) w (drop k f) ≡ piece (get_or s i 0) w (get_or f k 0) ++ filled (drop (i + 1) s) w (drop (k + takes (get_or s i 0)) f)
unfolding filled
filled_next s w f i k h =
    let here : get_or (drop k f) 0 0 ≡ get_or f k 0 = get_or-drop k f 0 0 ∙ ap (λ n. get_or f n 0) (add-zero k) in
    rw (add-one, drop-cons s i 0, here, drop-drop)

pub filled_done : (s w f : List ℕ) (i : ℕ) → length s ≤ i → filled (drop i s) w f ≡ []
unfolding filled
filled_done s w f i h = rw (drop_of_length-le s h)

-- a turn of the loop, by what was asked of the byte and of the figures
pub turn_by : (s w f : List ℕ) (i k : ℕ) → i < length s → {n t : ℕ} → t ≡ takes (get_or s i 0) → n ≡ get_or f k 0
    → {l all here next : List ℕ} {at p q : ℕ} → Rest l at all (filled (drop i s) w (drop k f)) here p → Put here p (piece (get_or s i 0) w n) next q
    → Rest l at all (filled (drop (i + 1) s) w (drop (k + t) f)) next q
turn_by s w f i k h {n} {t} e g r put =
    rest_turn r (piece (get_or s i 0) w n) (filled (drop (i + 1) s) w (drop (k + t) f)) (rw (e, g) (filled_next s w f i k h)) put

pub takes_one : (b : ℕ) {t : ℕ} → t ≡ takes b → t ≤ 1
takes_one b {t} e = rw e (go (eqb b 0x23 || (eqb b 0x24 || eqb b 0x25)))
  where
    go : (x : Bool) → cond x 1 0 ≤ 1
    go true = omega arith
    go false = omega arith

-- the digits counted one by one
pub width_one : (more n : ℕ) → n < 10 → width_of more n ≡ 1
unfolding width_of
width_one zero n h = refl
width_one (suc more) n h = rw (lt-ltb n 10 h)

pub width_next : (more n : ℕ) → 0 < more → 10 ≤ n → width_of more n ≡ 1 + width_of (more - 1) (n / 10)
unfolding width_of
width_next zero n h g = absurd (omega arith)
width_next (suc more) n h g =
    let back : suc more - 1 ≡ more = omega arith in
    rw (le-ltb n 10 g, back) (omega arith)

pub width_none : (more n : ℕ) → more ≡ 0 → width_of more n ≡ 1
unfolding width_of
width_none more n e = rw e

pub width_more : (count n : ℕ) → count < 20 → 10 ≤ n → count + width_of (20 - count) n ≡ count + 1 + width_of (20 - (count + 1)) (n / 10)
width_more count n h g =
    let less : 20 - count - 1 ≡ 20 - (count + 1) = omega arith in
    omega (arith, width_next (20 - count) n (omega arith) g, ap (λ m. width_of m (n / 10)) less)
