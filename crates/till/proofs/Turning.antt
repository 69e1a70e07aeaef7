-- Laws of one turn, as the code's branches ask them.
use mathlib.Core.Path.{◌≡◌, refl, sym, ap, ◌∙◌}
use mathlib.Core.Bool.{Bool, true, false, cond, false≢true}
use mathlib.Core.List.{List, [], ◌∷◌, ◌++◌}
use Prim.Native.Nat.{ℕ, zero, suc, ◌+◌, ◌-◌, ◌≤◌, min}
use native.Mathlib.Omega.{arith}
use lib.Dec.{ltb}
use lib.ListN.{length, get_or, take, drop, length-append, length-take, length-drop}
use lib.Seq.{sets, take-take, length-take-le}
use borrow.Author.Tests.{eqb-true}
use Rattle.text.proofs.Laws.{sets-append}
use Rattle.wire.proofs.Suits.{length_front}
use Rattle.wire.specs.Frame.{Message}
use Rattle.wire.specs.Places.{front, data_count}
use Rattle.wire.specs.declared.Way.TheVariants.{ToTill}
use Rattle.reader.specs.Reading.{outside, inside, heard, at_last, read}
use Rattle.reader.specs.Fields.{place_of}
use Rattle.reader.specs.declared.Reader.{Reader}
use Rattle.till.specs.Turns.{fresh_ear, idle, waits, Turn, stays, gives}
use Rattle.till.specs.Fields.{held_in}
use Rattle.till.specs.Private.{spoken, failed_by}
use Rattle.till.specs.declared.Attempt.{Attempt}
use Rattle.till.specs.declared.Said.{Said}
use Rattle.std.proofs.Common.{None}
use Rattle.till.specs.declared.Word.TheVariants.{SendAgain, Answered, Unfinished}
use Rattle.till.proofs.Hearing.{heard_from}

-- a part of the first k bytes is a part of all
part : (n i k : ℕ) (l : List ℕ) → i + n ≤ k → take n (drop i (take k l)) ≡ take n (drop i l)
part n zero k l h = take-take n k l (omega arith)
part n (suc i) zero l h = absurd (omega arith)
part n (suc i) (suc k) [] h = refl
part n (suc i) (suc k) (x ∷ l) h = part n i k l (omega arith)

-- the bytes since 01h
place_bytes : (r : Reader) (array : List ℕ) (sum : ℕ) (bytes : List ℕ) → place_of r array ≡ inside sum bytes → bytes ≡ take r.count array
place_bytes r array sum bytes = go r.inside
  where
    go : (within : Bool) → cond within (inside r.sum (take r.count array)) outside ≡ inside sum bytes → bytes ≡ take r.count array
    go true e = cc
    go false e = let z : ◌≡◌ {A = ℕ} 0 1 = cc in absurd (omega arith)

whole_size : (bytes : List ℕ) → at_last ToTill bytes ≡ true → length bytes ≡ data_count ToTill (get_or bytes 0 0) + 15
whole_size [] e = absurd (false≢true e)
whole_size (len ∷ bytes) e =
    omega (arith, eqb-true (length bytes) (length (front ToTill (data_count ToTill len)) + 4) e, length_front ToTill (data_count ToTill len))

-- a whole answer, as it stands in the array
pub record Stands (answer : List ℕ) (m : Message) : Type 0 where
  pub room : length m.content + 15 ≤ length answer
  pub content : m.content ≡ take (length m.content) (drop 3 answer)
  pub status : m.status ≡ take 6 (drop (4 + length m.content) answer)

pub stands : (r : Reader) (answer : List ℕ) (b : ℕ) (m : Message) → (read ToTill (place_of r answer) b).event ≡ heard m → Stands answer m
stands r answer b m e =
    let f = heard_from ToTill (place_of r answer) b m e in
    let n : ℕ = data_count ToTill (get_or f.bytes 0 0) in
    let is : f.bytes ≡ take r.count answer = place_bytes r answer f.sum f.bytes f.was in
    let long : length f.bytes ≡ min r.count (length answer) = ap length is ∙ length-take r.count answer in
    let whole : length f.bytes ≡ n + 15 = whole_size f.bytes f.last in
    let data-at : m.content ≡ take n (drop 3 answer) =
    ap (λ (z : Message). z.content) f.says ∙ ap (λ z. take n (drop 3 z)) is ∙ part n 3 r.count answer (omega arith) in
    let status-at : m.status ≡ take 6 (drop (4 + n) answer) =
    ap (λ (z : Message). z.status) f.says ∙ ap (λ z. take 6 (drop (4 + n) z)) is ∙ part 6 (4 + n) r.count answer (omega arith) in
    let count : length m.content ≡ n = ap length data-at ∙ length-take-le n (drop 3 answer) (omega (arith, length-drop 3 answer)) in
    record {
      room = omega arith;
      content = data-at ∙ ap (λ k. take k (drop 3 answer)) (sym count);
      status = status-at ∙ ap (λ k. take 6 (drop (4 + k) answer)) (sym count);
    }

-- the two parts are put one behind the other
pub length-status : (answer : List ℕ) (n : ℕ) → n + 10 ≤ length answer → length (take 6 (drop (4 + n) answer)) ≡ 6
length-status answer n h = length-take-le 6 (drop (4 + n) answer) (omega (arith, length-drop (4 + n) answer))

-- a failed try, by whether it comes before the fifth
abbrev pub fails_by : (next seq code : ℕ) → List ℕ → ℕ → Bool → Turn
fails_by next seq code bytes tries early =
    cond early (gives SendAgain bytes (record { next = next; pending = waits seq code bytes (tries + 1) fresh_ear }))
    (stays (Unfinished tries) (record { next = next; pending = idle }))

module _ (next : ℕ) (a : Attempt) (frame : List ℕ) where
  abbrev fails : Bool → Turn
  fails early = fails_by next a.seq a.code (take a.count frame) a.tries early

  -- it leaves the answer's bytes
  pub fails_keeps : (answer : List ℕ) → answer ≡ held_in answer (failed_by next a frame).state.pending
  fails_keeps answer = go (ltb a.tries 5)
    where
      go : (early : Bool) → answer ≡ held_in answer (fails early).state.pending
      go true = refl
      go false = refl

-- Answered: the answer's data and status, as they stand in the array
pub answered : (next : ℕ) (answer : List ℕ) (m : Message) → Stands answer m → (n : ℕ) → length m.content ≡ n → (r : Said) (buf buf' : List ℕ)
    → r ≡ record { till = record { next = next; slot = None }; word = Answered (n + 6) }
    → buf' ≡ sets buf 0 (take n (drop 3 answer) ++ take 6 (drop (4 + n) answer))
    → (r ≡ spoken (gives Answered (m.content ++ m.status) (record { next = next; pending = idle }))) × (buf' ≡ sets buf 0 (m.content ++ m.status))
answered next answer m s n size r buf buf' p q =
    let content : m.content ≡ take n (drop 3 answer) = s.content ∙ ap (λ k. take k (drop 3 answer)) size in
    let status : m.status ≡ take 6 (drop (4 + n) answer) = s.status ∙ ap (λ k. take 6 (drop (4 + k) answer)) size in
    let six : length m.status ≡ 6 = ap length status ∙ length-status answer n (omega (arith, s.room)) in
    let all : n + 6 ≡ length (m.content ++ m.status) = sym (length-append m.content m.status ∙ omega arith) in (
      p ∙ ap (λ k. record { till = record { next = next; slot = None }; word = Answered k }) all,
      q ∙ ap (λ z. sets buf 0 (z ++ take 6 (drop (4 + n) answer))) (sym content) ∙ ap (λ z. sets buf 0 (m.content ++ z)) (sym status),
    )

pub put_both : (buf b1 b2 answer : List ℕ) (n : ℕ) → n + 10 ≤ length answer → b1 ≡ sets buf 0 (take n (drop 3 answer))
    → b2 ≡ sets b1 n (take 6 (drop (n + 4) answer)) → b2 ≡ sets buf 0 (take n (drop 3 answer) ++ take 6 (drop (4 + n) answer))
put_both buf b1 b2 answer n room e1 e2 =
    let behind : n + 4 ≡ 4 + n = omega arith in
    let long : 0 + length (take n (drop 3 answer)) ≡ n = omega (arith, length-take-le n (drop 3 answer) (omega (arith, length-drop 3 answer))) in
    e2 ∙ ap (λ k. sets b1 n (take 6 (drop k answer))) behind ∙ ap (λ z. sets z n (take 6 (drop (4 + n) answer))) e1
    ∙ sym (
    sets-append buf 0 (take n (drop 3 answer)) (take 6 (drop (4 + n) answer))
    ∙ ap (λ k. sets (sets buf 0 (take n (drop 3 answer))) k (take 6 (drop (4 + n) answer))) long)

pub put_part : (buf from : List ℕ) (start n at : ℕ) → sets buf at (take (start + n - start) (drop start from)) ≡ sets buf at (take n (drop start from))
put_part buf from start n at =
    let all : start + n - start ≡ n = omega arith in
    ap (λ k. sets buf at (take k (drop start from))) all
