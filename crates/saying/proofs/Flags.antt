-- The loops over the bits of a status byte, and over the status bytes.
use Prim.Native.Nat.{ℕ, suc, ◌+◌, ◌-◌, ◌/◌, ◌%◌, ◌≤◌, ◌<◌}
use mathlib.Core.Path.{◌≡◌, sym, ap, ◌∙◌}
use mathlib.Core.Bool.{Bool, cond}
use mathlib.Core.List.{List, [], ◌++◌}
use native.Mathlib.Numerals.{add-one}
use native.Mathlib.Omega.{arith}
use lib.Dec.{eqb}
use lib.ListN.{length, take, drop, get_or, drop_of_length-le}
use lib.Seq.{drop-cons}
use borrow.Author.Tests.{le-ltb}
use Rattle.text.proofs.Cutting.{to_end}
use Rattle.verdict.specs.Verdict.{verdict_in}
use Rattle.sentences.specs.Filled.{filled}
use Rattle.phrases.specs.Sentences.{line_end}
use Rattle.saying.specs.Answers.{flag_text, bits_text, status_text, opening_text, answer_at, answer_text}

pub bits_next : (bit place above : ℕ) → bit < 7
    → bits_text (7 - bit) bit place above ≡ cond (eqb (above % 2) 1) (flag_text place bit) [] ++ bits_text (7 - (bit + 1)) (bit + 1) place (above / 2)
unfolding bits_text
bits_next bit place above h =
    let more : 7 - bit ≡ suc (6 - bit) = omega arith in
    let left : 7 - (bit + 1) ≡ 6 - bit = omega arith in
    rw (more, left)

pub bits_done : (bit place above : ℕ) → 7 ≤ bit → bits_text (7 - bit) bit place above ≡ []
unfolding bits_text
bits_done bit place above h = let none : 7 - bit ≡ 0 = omega arith in rw none

pub status_next : (bytes : List ℕ) (i : ℕ) → i < length bytes
    → status_text i (drop i bytes) ≡ bits_text 7 0 i (get_or bytes i 0) ++ status_text (i + 1) (drop (i + 1) bytes)
unfolding status_text
status_next bytes i h =
    rw (drop-cons bytes i 0) (ap (λ k. bits_text 7 0 i (get_or bytes i 0) ++ status_text (i + 1) (drop k bytes)) (sym (add-one i)))

pub status_done : (bytes : List ℕ) (i : ℕ) → length bytes ≤ i → status_text i (drop i bytes) ≡ []
unfolding status_text
status_done bytes i h = rw (drop_of_length-le bytes h)

-- an answer of six bytes or more
pub answer_as_lem : (brief : Bool) (all : List ℕ) (number : ℕ)
    → number ≡ verdict_in (get_or all (length all - 6) 0) (get_or all (length all - 6 + 1) 0)
    → 6 ≤ length all
    → opening_text brief number (take (length all - 6) all) ++ status_text 0 (take (length all - (length all - 6)) (drop (length all - 6) all)) ++ filled line_end [] []
    ≡ answer_text brief all
answer_as_lem brief all number e h =
    ap (λ n. opening_text brief n (take (length all - 6) all) ++ status_text 0 (take (length all - (length all - 6)) (drop (length all - 6) all)) ++ filled line_end [] []) e
    ∙ ap (λ d. opening_text brief (verdict_in (get_or all (length all - 6) 0) (get_or all (length all - 6 + 1) 0)) (take (length all - 6) all) ++ status_text 0 d ++ filled line_end [] []) (to_end (length all - 6) all)
    ∙ ap (λ b. cond b [] (answer_at brief (length all - 6) all)) (sym (le-ltb (length all) 6 h))
