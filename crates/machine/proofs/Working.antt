-- Laws of an order carried out and of an answer given again, a branch of the code each.
use mathlib.Core.Path.{◌≡◌, refl, sym, ap, ◌∙◌}
use mathlib.Core.List.{List, [], ◌∷◌, ◌++◌, append-nil}
use Prim.Native.Nat.{ℕ, ◌+◌, ◌-◌, ◌≤◌, ◌<◌, min}
use native.Mathlib.Decide.{dec_lt}
use native.Mathlib.Omega.{arith}
use lib.ListN.{length, take, drop, length-drop, length-take, drop_of_length-le, take-append-drop}
use lib.Seq.{sets, sets-eq, take_at}
use Rattle.wire.specs.Frame.{command_of}
use Rattle.line.specs.Turns.{Carried, last_answer}
use Rattle.line.specs.Calls.{before_of}
use Rattle.line.specs.declared.Call.{Call}
use Rattle.line.specs.declared.Call.TheVariants.{Quiet, Nak, Again, Order}
use Rattle.line.specs.declared.Previous.{Previous}
use Rattle.line.specs.declared.Previous.TheVariants.{Nothing, Frame}
use Rattle.store.specs.Store.{Store}
use Rattle.carrying.specs.Carrying.{carry}
use Rattle.carrying.specs.Work.{Worked, work_done, worked}
use Rattle.carrying.specs.declared.Work.{Work}
use Rattle.carrying.proofs.Working.{worked_long}
use Rattle.machine.specs.Device.{Lent, Machine, store_of, After}
use Rattle.machine.specs.Answering.{orders, answering}
use Rattle.machine.specs.Hearing.{after_of}
use Rattle.machine.specs.declared.Device.{Device}
use Rattle.machine.specs.declared.Given.{Given}

-- parts of a list
pub take_all : (n : ℕ) (xs : List ℕ) → length xs ≤ n → take n xs ≡ xs
take_all n xs h = sym (append-nil (take n xs)) ∙ ap (λ z. take n xs ++ z) (sym (drop_of_length-le xs h)) ∙ take-append-drop n xs

pub take_min : (n k : ℕ) (xs : List ℕ) → length xs ≤ k → take (min n k) xs ≡ take n xs
take_min n k xs h = go (dec_lt n k)
  where
    go : Dec (n < k) → take (min n k) xs ≡ take n xs
    go (yes below) = let e : min n k ≡ n = omega arith in ap (λ i. take i xs) e
    go (no above) = let e : min n k ≡ k = omega arith in ap (λ i. take i xs) e ∙ take_all k xs h ∙ sym (take_all n xs (omega arith))

off_none : (n : ℕ) → n - 0 ≡ n
off_none n = omega arith

-- what was put at the front stands there
pub front_stands : (l bytes : List ℕ) → length bytes ≤ length l → take (length bytes) (sets l 0 bytes) ≡ bytes
front_stands l bytes h = ap (take (length bytes)) (sets-eq bytes l 0 (omega arith)) ∙ take_at bytes (drop (0 + length bytes) l) (length bytes) refl

pub front_back : (l bytes : List ℕ) → length bytes ≤ length l → take (length bytes - 0) (drop 0 (sets l 0 bytes)) ≡ bytes
front_back l bytes h = ap (λ k. take k (sets l 0 bytes)) (off_none (length bytes)) ∙ front_stands l bytes h

-- the last answer, once more
module _ (p : Previous) (last l : List ℕ) (s c count n : ℕ) (e : p ≡ Frame s c count) (en : n ≡ min count (length last)) where
  same : take (n - 0) (drop 0 last) ≡ last_answer (before_of p last)
  same = ap (λ k. take k last) (off_none n ∙ en) ∙ take_min count (length last) last (omega arith) ∙ sym (ap (λ z. last_answer (before_of z last)) e)

  pub again_size : n ≡ length (last_answer (before_of p last))
  again_size = sym (ap length (sym same) ∙ length-take (n - 0) last ∙ omega (arith, en))

  pub again_bytes : (b : List ℕ) → b ≡ sets l 0 (take (n - 0) (drop 0 last)) → b ≡ sets l 0 (last_answer (before_of p last))
  again_bytes b eb = eb ∙ ap (sets l 0) same

pub none_again : (p : Previous) (last l : List ℕ) → p ≡ Nothing → (0 ≡ length (last_answer (before_of p last))) × (l ≡ sets l 0 (last_answer (before_of p last)))
none_again p last l e = (sym (ap (λ z. length (last_answer (before_of z last))) e), sym (ap (λ z. sets l 0 (last_answer (before_of z last))) e))

pub again_few : (p : Previous) (last : List ℕ) → length last ≡ 217 → length (last_answer (before_of p last)) ≤ 217
again_few Nothing last h = omega arith
again_few (Frame s c n) last h = omega (arith, length-take n last, h)
