-- Bytes appended as far as there is room, and a command listed.
use mathlib.Core.Path.{◌≡◌, sym, ap, ◌∙◌}
use mathlib.Core.List.{List, [], ◌∷◌, ◌++◌, append-nil}
use Prim.Native.Nat.{ℕ, ◌+◌, ◌-◌, ◌%◌, ◌<◌, min}
use native.Mathlib.Decide.{dec_lt}
use native.Mathlib.Omega.{arith}
use lib.ListN.{length, take, drop, length-append, length-drop, length-take}
use lib.Seq.{sets, length-sets}
use Rattle.text.proofs.Laws.{sets-append, sets-out}
use Rattle.line.specs.declared.Call.{Call}
use Rattle.line.specs.declared.Call.TheVariants.{Order}
use Rattle.machine.specs.Hearing.{carried_by}
use Rattle.machine.proofs.Working.{take_min}
use Rattle.tape.specs.Noting.{listing}

-- bytes appended, as far as there is room
sets-capped : (l : List ℕ) (n : ℕ) (vs : List ℕ) → sets l (min n (length l)) vs ≡ sets l n vs
sets-capped l n vs = go (dec_lt n (length l))
  where
    go : Dec (n < length l) → sets l (min n (length l)) vs ≡ sets l n vs
    go (yes h) = let e : min n (length l) ≡ n = omega arith in ap (λ k. sets l k vs) e
    go (no h) = let e : min n (length l) ≡ length l = omega arith in ap (λ k. sets l k vs) e ∙ sets-out l (length l) vs (omega arith) ∙ sym (sets-out l n vs (omega arith))

module _ (l xs ys : List ℕ) (at : ℕ) where
  pub joined : sets (sets l at xs) (min (at + length xs) (length l)) ys ≡ sets l at (xs ++ ys)
  joined =
      ap (λ k. sets (sets l at xs) (min (at + length xs) k) ys) (sym (length-sets l at xs)) ∙ sets-capped (sets l at xs) (at + length xs) ys ∙ sym (sets-append l at xs ys)

  pub joined_size : min (min (at + length xs) (length l) + length ys) (length (sets l at xs)) ≡ min (at + length (xs ++ ys)) (length l)
  joined_size = omega (arith, length-append xs ys, length-sets l at xs)

-- a command listed: its head, then its data
module _ (call : Call) (frame l : List ℕ) (at : ℕ) where
  module _ (s c k n a b : ℕ) (l1 l2 : List ℕ) (e : call ≡ Order s c k) (size : length frame ≡ 256) (en : n ≡ min k 253)
      (ea : a ≡ min (at + 3) (length l)) (e1 : l1 ≡ sets l at (s ∷ c ∷ (n % 256) ∷ [])) (eb : b ≡ min (a + length (take (n + 3 - 3) (drop 3 frame))) (length l1))
      (e2 : l2 ≡ sets l1 a (take (n + 3 - 3) (drop 3 frame))) where
    abbrev part : List ℕ
    part = take (n + 3 - 3) (drop 3 frame)

    abbrev head : List ℕ
    head = s ∷ c ∷ (n % 256) ∷ []

    is-part : part ≡ take k (drop 3 frame)
    is-part =
        let m : n + 3 - 3 ≡ min k 253 = omega (arith, en) in
        ap (λ i. take i (drop 3 frame)) m ∙ take_min k 253 (drop 3 frame) (omega (arith, length-drop 3 frame, size))

    size_is : n ≡ length (take k (drop 3 frame))
    size_is = sym (length-take k (drop 3 frame) ∙ omega (arith, length-drop 3 frame, size, en))

    is-listed : head ++ part ≡ listing (carried_by call frame)
    is-listed =
        ap (λ z. head ++ z) is-part ∙ ap (λ z. s ∷ c ∷ (z % 256) ∷ take k (drop 3 frame)) size_is
        ∙ sym (append-nil (s ∷ c ∷ (length (take k (drop 3 frame)) % 256) ∷ take k (drop 3 frame))) ∙ sym (ap (λ z. listing (carried_by z frame)) e)

    pub list_order : (b ≡ min (at + length (listing (carried_by call frame))) (length l)) × (l2 ≡ sets l at (listing (carried_by call frame)))
    list_order = (
      eb ∙ ap (λ z. min (z + length part) (length l1)) ea ∙ ap (λ z. min (min (at + 3) (length l) + length part) (length z)) e1 ∙ joined_size l head part at
          ∙ ap (λ z. min (at + length z) (length l)) is-listed,
      e2 ∙ ap (λ z. sets l1 z part) ea ∙ ap (λ z. sets z (min (at + 3) (length l)) part) e1 ∙ joined l head part at ∙ ap (sets l at) is-listed,
    )
