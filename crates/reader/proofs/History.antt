-- Built is all that is read, over any history.
use mathlib.Core.Path.{◌≡◌, refl, sym, ap, ◌∙◌, subst}
use mathlib.Core.Bool.{true, false≢true}
use mathlib.Core.Logic.{◌⊎◌, ⊎_elim, inl, inr}
use mathlib.Core.List.{List, [], ◌∷◌, ◌++◌, append_assoc, append-nil}
use Prim.Native.Nat.{ℕ, ◌+◌}
use native.Mathlib.Omega.{arith}
use lib.ListN.{length}
use borrow.Author.Tests.{eqb-true}
use Rattle.wire.specs.Frame.{Message, frame, sendable}
use Rattle.wire.specs.Places.{front, data_count}
use Rattle.wire.specs.declared.Way.{Way}
use Rattle.reader.specs.Reading.{Place, outside, inside, heard, Read, read, starts_anew, message, suits, at_last, grown, run}
use Rattle.reader.proofs.Steps.{Ways, starts_anew_lem, is_skipped, breaks, goes_on_lem, ends, ways}
use Rattle.reader.proofs.Passing.{done}
use Rattle.reader.proofs.BuiltOnly.{Grown, grow, cases, whole_ending}

-- a place as it is known behind a history: the bytes since the last 01h, each in its place
abbrev pub Known : Way → List ℕ → Place → Type 0
Known k hist outside = Unit {0}
Known k hist (inside sum bytes) = ((before : List ℕ) × (hist ≡ before ++ 0x01 ∷ bytes)) × ((bytes ≡ []) ⊎ Grown k sum bytes)

-- LEN, or one byte more
begins : (k : Way) (sum : ℕ) (bytes : List ℕ) (b : ℕ) → (bytes ≡ []) ⊎ Grown k sum bytes → suits k sum bytes b ≡ true → Grown k (grown k sum bytes b) (bytes ++ b ∷ [])
begins k sum bytes b g e =
    ⊎_elim
    (λ none. subst (λ z. suits k sum z b ≡ true → Grown k (grown k sum z b) (z ++ b ∷ [])) (sym none)
    (λ fits. record { size = b; front_bytes = []; ending_bytes = []; is = refl; range = fits; front_pass = done; ending_pass = done; summed = refl; in_order = λ h. refl }) e)
    (λ some. grow k sum bytes b some e)
    g

known_step : (k : Way) (hist : List ℕ) (p : Place) (b : ℕ) → Known k hist p → Known k (hist ++ b ∷ []) (read k p b).place
known_step k hist p b h = go (ways k p b)
  where
    Next : Read → Type 0
    Next r = Known k (hist ++ b ∷ []) r.place

    go : Ways k p b → Next (read k p b)
    go (starts_anew_lem is e) = subst Next (sym e) ((hist, ap (λ z. hist ++ z ∷ []) is), inl refl)
    go (is_skipped is e) = subst Next (sym e) tt
    go (breaks e) = subst Next (sym e) tt
    go (goes_on_lem sum bytes is fits more e) =
        let here = subst (Known k hist) is h in
        subst Next (sym e) ((here.0.0, ap (λ z. z ++ b ∷ []) here.0.1 ∙ append_assoc here.0.0 (0x01 ∷ bytes) (b ∷ [])), inr (begins k sum bytes b here.1 fits))
    go (ends sum bytes is fits last e) = subst Next (sym e) tt

pub known_run : (k : Way) (bs hist : List ℕ) (p : Place) → Known k hist p → Known k (hist ++ bs) (run k p bs).place
known_run k [] hist p h = rw append-nil h
known_run k (b ∷ bs) hist p h =
    subst (λ z. Known k z (run k (read k p b).place bs).place) (append_assoc hist (b ∷ []) bs)
    (known_run k bs (hist ++ b ∷ []) (read k p b).place (known_step k hist p b h))

-- what can't be heard
pub no_start : (p : Place) (m : Message) → starts_anew p ≡ heard m → ⊥
no_start outside m e = let z : ◌≡◌ {A = ℕ} 0 1 = cc in omega arith
no_start (inside sum []) m e = let z : ◌≡◌ {A = ℕ} 0 1 = cc in omega arith
no_start (inside sum (b ∷ bytes)) m e = let z : ◌≡◌ {A = ℕ} 0 1 = cc in omega arith

-- a whole frame stands at the end of the history
abbrev Ends : Way → List ℕ → Message → Type 0
Ends k bs m = (sendable k m ≡ true) × ((before : List ℕ) × (bs ≡ before ++ frame k m))

abbrev Whole : Way → ℕ → ℕ → List ℕ → Type 0
Whole k sum b bytes = suits k sum bytes b ≡ true → at_last k bytes ≡ true → (0x01 ∷ (bytes ++ b ∷ []) ≡ frame k (message k bytes)) × (sendable k (message k bytes) ≡ true)

whole_grown : (k : Way) (sum : ℕ) (bytes : List ℕ) (b : ℕ) → Grown k sum bytes → Whole k sum b bytes
whole_grown k sum bytes b g =
    ⊎_elim
    (λ c. subst (Whole k sum b) (sym c.0)
    (λ es el. absurd (omega (arith, c.1, eqb-true (length g.front_bytes) (length (front k (data_count k g.size)) + 4) el))))
    (λ full. subst (Whole k sum b) (sym g.is)
    (whole_ending k sum g.size g.front_bytes g.ending_bytes b g.range g.front_pass full g.ending_pass g.summed))
    (cases k sum bytes g)

whole_known : (k : Way) (hist : List ℕ) (sum : ℕ) (bytes : List ℕ) (b : ℕ) → Known k hist (inside sum bytes)
    → suits k sum bytes b ≡ true → at_last k bytes ≡ true → Ends k (hist ++ b ∷ []) (message k bytes)
whole_known k hist sum bytes b h es el =
    let all = ⊎_elim (λ none. subst (Whole k sum b) (sym none) (λ es el. absurd (false≢true el))) (whole_grown k sum bytes b) h.1 es el in
    (all.1, (h.0.0, ap (λ z. z ++ b ∷ []) h.0.1 ∙ append_assoc h.0.0 (0x01 ∷ bytes) (b ∷ []) ∙ ap (λ z. h.0.0 ++ z) all.0))

heard_step : (k : Way) (hist : List ℕ) (p : Place) (b : ℕ) (m : Message) → Known k hist p → (read k p b).event ≡ heard m → Ends k (hist ++ b ∷ []) m
heard_step k hist p b m h er = go (ways k p b)
  where
    told : (r : Read) → read k p b ≡ r → r.event ≡ heard m
    told r e = sym (ap (λ (z : Read). z.event) e) ∙ er

    go : Ways k p b → Ends k (hist ++ b ∷ []) m
    go (starts_anew_lem is e) = absurd (no_start p m (told _ e))
    go (is_skipped is e) = absurd (no_start outside m (told _ e))
    go (breaks e) = absurd (no_start (inside 0 (0 ∷ [])) m (told _ e))
    go (goes_on_lem sum bytes is fits more e) = absurd (no_start outside m (told _ e))
    go (ends sum bytes is fits last e) =
        let same : heard (message k bytes) ≡ heard m = told _ e in
        let message-is : message k bytes ≡ m = cc in
        subst (Ends k (hist ++ b ∷ [])) message-is (whole_known k hist sum bytes b (subst (Known k hist) is h) fits last)

-- the theorem: a byte that is heard as a whole message ends the frame of that message, which could be sent
pub built_is_all_that_is_read : (k : Way) (bs : List ℕ) (b : ℕ) (m : Message) → (read k (run k outside bs).place b).event ≡ heard m
    → (sendable k m ≡ true) × ((before : List ℕ) × (bs ++ b ∷ [] ≡ before ++ frame k m))
built_is_all_that_is_read k bs b m = heard_step k bs (run k outside bs).place b m (known_run k bs [] outside tt)
