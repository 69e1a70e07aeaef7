-- What a run of bytes brings: when no message is heard, and how often a frame is broken. For commands and answers alike.
use mathlib.Core.Path.{◌≡◌, refl, sym, ap, ◌∙◌, subst}
use mathlib.Core.Bool.{Bool, true, false, false≢true}
use mathlib.Core.List.{List, [], ◌∷◌, ◌++◌, map, append_assoc, append-nil, cons≢nil, head-eq_of_cons-eq, tail-eq_of_cons-eq}
use Prim.Native.Nat.{ℕ, zero, suc, ◌+◌, ◌/◌}
use native.Mathlib.Omega.{arith}
use lib.ListN.{length, get_or, replicate, length-append}
use borrow.Author.Tests.{eq-eqb, ne_eqb}
use Rattle.wire.specs.Bytes.{may_stand}
use Rattle.wire.specs.Frame.{Message, bcc, hexadecimal, sendable}
use Rattle.wire.specs.Places.{is, none, behind_data, front, data_count}
use Rattle.wire.specs.declared.Way.{Way}
use Rattle.wire.specs.declared.Way.TheVariants.{ToDevice, ToTill}
use Rattle.wire.specs.declared.Role.TheVariants.{Data, Status}
use Rattle.reader.specs.Reading.{Place, outside, inside, Event, nothing, broken_frame, heard, Read, read, read_other, message, suits, at_last, grown, Run, run}
use Rattle.reader.proofs.Steps.{reads_broken, reads_more, reads_whole, read_other_lem}
use Rattle.reader.proofs.Walking.{run_first, run_append}
use Rattle.reader.proofs.History.{built_is_all_that_is_read}
use Rattle.tries.specs.TryRead.{news}
use Rattle.tries.proofs.Lists.{Free, free_left, only_first}
use Rattle.tries.proofs.Bodies.{body}

-- what is new in two runs, and in silence
pub news_join : (es fs : List Event) → news (es ++ fs) ≡ news es ++ news fs
news_join [] fs = refl
news_join (nothing ∷ es) fs = news_join es fs
news_join (broken_frame ∷ es) fs = ap (λ z. broken_frame ∷ z) (news_join es fs)
news_join (heard m ∷ es) fs = ap (λ z. heard m ∷ z) (news_join es fs)

pub news_quiet : (n : ℕ) → news (replicate n nothing) ≡ []
news_quiet zero = refl
news_quiet (suc n) = news_quiet n

-- no message is heard
abbrev pub Silent : Event → Type 0
Silent e = (m : Message) → e ≡ heard m → ⊥

abbrev pub NoneHeard : List Event → Type 0
NoneHeard [] = Unit {0}
NoneHeard (e ∷ es) = Silent e × NoneHeard es

not_nothing : (e : Event) → e ≡ nothing → broken_frame ≡ e → ⊥
not_nothing e p q = let z : ◌≡◌ {A = ℕ} 0 1 = cc in omega arith

silent_nothing : Silent nothing
silent_nothing m e = let z : ◌≡◌ {A = ℕ} 0 1 = cc in omega arith

silent_broken : Silent broken_frame
silent_broken m e = let z : ◌≡◌ {A = ℕ} 0 1 = cc in omega arith

not_outside : (sum : ℕ) (bytes : List ℕ) → inside sum bytes ≡ outside → ⊥
not_outside sum bytes e = let z : ◌≡◌ {A = ℕ} 0 1 = cc in omega arith

module _ (k : Way) where
  -- outside, what holds no 01h is skipped
  pub skipped : (bs : List ℕ) → Free 0x01 bs → run k outside bs ≡ record { place = outside; events = replicate (length bs) nothing }
  skipped [] f = refl
  skipped (b ∷ bs) f =
      run_first k outside b bs _ (read_other_lem k outside b f.0)
      ∙ ap (λ (r : Run). record { place = r.place; events = nothing ∷ r.events }) (skipped bs f.1)

  -- the place behind one byte more
  pub place_snoc : (p : Place) (xs : List ℕ) (b : ℕ) → (run k p (xs ++ b ∷ [])).place ≡ (read k (run k p xs).place b).place
  place_snoc p xs b = ap (λ (r : Run). r.place) (run_append k p xs (b ∷ []))

  -- behind 01h nothing is heard of bytes without 01h that do not begin with all that stands behind 01h in a frame
  module _ (bs : List ℕ) (clean : Free 0x01 bs) (never : (n : Message) (w : List ℕ) → sendable k n ≡ true → bs ≡ body k n ++ w → ⊥) where
    none_here : (pre : List ℕ) (b : ℕ) (rest : List ℕ) → bs ≡ pre ++ b ∷ rest → Silent (read k (run k (inside 0 []) pre).place b).event
    none_here pre b rest e n q =
        let found = built_is_all_that_is_read k (0x01 ∷ pre) b n q in
        let cut : bs ≡ (pre ++ b ∷ []) ++ rest = e ∙ sym (append_assoc pre (b ∷ []) rest) in
        let whole : pre ++ b ∷ [] ≡ body k n = only_first 0x01 (pre ++ b ∷ []) found.1.0 (body k n) (free_left 0x01 (pre ++ b ∷ []) rest (subst (Free 0x01) cut clean)) found.1.1 in
        never n rest found.0 (cut ∙ ap (λ z. z ++ rest) whole)

    pub none_from : (rest pre : List ℕ) → bs ≡ pre ++ rest → NoneHeard (run k (run k (inside 0 []) pre).place rest).events
    none_from [] pre e = tt
    none_from (b ∷ rest) pre e = (
      none_here pre b rest e,
      subst (λ p. NoneHeard (run k p rest).events) (place_snoc (inside 0 []) pre b)
          (none_from rest (pre ++ b ∷ []) (e ∙ sym (append_assoc pre (b ∷ []) rest))),
    )

    pub none_heard : NoneHeard (run k (inside 0 []) bs).events
    none_heard = none_from bs [] refl

  -- one byte inside a frame that is not 01h: broken, one more, or the last
  module _ (sum : ℕ) (bytes : List ℕ) (x : ℕ) (ne : x ≡ 0x01 → ⊥) where
    abbrev step : Read
    step = read k (inside sum bytes) x

    breaks : suits k sum bytes x ≡ false → step ≡ record { place = outside; event = broken_frame }
    breaks e = read_other_lem k (inside sum bytes) x ne ∙ reads_broken k sum bytes x e

    more : suits k sum bytes x ≡ true → at_last k bytes ≡ false → step ≡ record { place = inside (grown k sum bytes x) (bytes ++ x ∷ []); event = nothing }
    more e l = read_other_lem k (inside sum bytes) x ne ∙ reads_more k sum bytes x e l

    last : suits k sum bytes x ≡ true → at_last k bytes ≡ true → step ≡ record { place = outside; event = heard (message k bytes) }
    last e l = read_other_lem k (inside sum bytes) x ne ∙ reads_whole k sum bytes x e l

  -- what comes in silence stays inside the frame, behind the bytes that were there
  abbrev Behind : Place → List ℕ → List ℕ → Type 0
  Behind p bytes xs = (after : ℕ) × ((run k p xs).place ≡ inside after (bytes ++ xs))

  pub stays_inside : (xs : List ℕ) → Free 0x01 xs → (sum : ℕ) (bytes : List ℕ) (n : ℕ) → (run k (inside sum bytes) xs).events ≡ replicate n nothing → Behind (inside sum bytes) bytes xs
  stays_inside [] f sum bytes n e = (sum, ap (inside sum) (sym (append-nil bytes)))
  stays_inside (x ∷ xs) f sum bytes zero e = absurd (cons≢nil e)
  stays_inside (x ∷ xs) f sum bytes (suc n) e = go (stays_inside xs f.1 (grown k sum bytes x) (bytes ++ x ∷ []) n) (suits k sum bytes x) refl (at_last k bytes) refl
    where
      is_nothing : (read k (inside sum bytes) x).event ≡ nothing
      is_nothing = head-eq_of_cons-eq e

      go : ((run k (inside (grown k sum bytes x) (bytes ++ x ∷ [])) xs).events ≡ replicate n nothing → Behind (inside (grown k sum bytes x) (bytes ++ x ∷ [])) (bytes ++ x ∷ []) xs)
          → (s : Bool) → suits k sum bytes x ≡ s → (l : Bool) → at_last k bytes ≡ l → Behind (inside sum bytes) bytes (x ∷ xs)
      go behind false es l el = absurd (not_nothing _ is_nothing (sym (ap (λ (r : Read). r.event) (breaks sum bytes x f.0 es))))
      go behind true es true el = absurd (silent_nothing (message k bytes) (sym is_nothing ∙ ap (λ (r : Read). r.event) (last sum bytes x f.0 es el)))
      go behind true es false el =
          let parts = run_first k (inside sum bytes) x xs _ (more sum bytes x f.0 es el) in
          let rest = behind (tail-eq_of_cons-eq (sym (ap (λ (r : Run). r.events) parts) ∙ e)) in
          (rest.0, ap (λ (r : Run). r.place) parts ∙ rest.1 ∙ ap (inside rest.0) (append_assoc bytes (x ∷ []) xs))

  -- a frame that is left without being heard is broken, once
  pub breaks_once : (xs : List ℕ) → Free 0x01 xs → (sum : ℕ) (bytes : List ℕ) → NoneHeard (run k (inside sum bytes) xs).events
      → (run k (inside sum bytes) xs).place ≡ outside → news (run k (inside sum bytes) xs).events ≡ broken_frame ∷ []
  breaks_once [] f sum bytes none out = absurd (not_outside sum bytes out)
  breaks_once (x ∷ xs) f sum bytes none out = go (breaks_once xs f.1 (grown k sum bytes x) (bytes ++ x ∷ [])) (suits k sum bytes x) refl (at_last k bytes) refl
    where
      next : Place
      next = inside (grown k sum bytes x) (bytes ++ x ∷ [])

      go : (NoneHeard (run k next xs).events → (run k next xs).place ≡ outside → news (run k next xs).events ≡ broken_frame ∷ [])
          → (s : Bool) → suits k sum bytes x ≡ s → (l : Bool) → at_last k bytes ≡ l → news (run k (inside sum bytes) (x ∷ xs)).events ≡ broken_frame ∷ []
      go behind false es l el =
          let parts = run_first k (inside sum bytes) x xs _ (breaks sum bytes x f.0 es) in
          ap (λ (r : Run). news r.events) parts ∙ ap (λ (r : Run). broken_frame ∷ news r.events) (skipped xs f.1) ∙ ap (λ z. broken_frame ∷ z) (news_quiet (length xs))
      go behind true es true el = absurd (none.0 (message k bytes) (ap (λ (r : Read). r.event) (last sum bytes x f.0 es el)))
      go behind true es false el =
          let one = more sum bytes x f.0 es el in
          let parts = run_first k (inside sum bytes) x xs _ one in
          ap (λ (r : Run). news r.events) parts
          ∙ behind (subst (λ (r : Read). NoneHeard (run k r.place xs).events) one none.1) (sym (ap (λ (r : Run). r.place) parts) ∙ out)

-- places that refuse a byte
abbrev Refuse : ℕ → List (ℕ → Bool) → Type 0
Refuse v [] = Unit {0}
Refuse v (t ∷ ts) = (t v ≡ false) × Refuse v ts

refuse_join : (v : ℕ) (ts us : List (ℕ → Bool)) → Refuse v ts → Refuse v us → Refuse v (ts ++ us)
refuse_join v [] us r q = q
refuse_join v (t ∷ ts) us r q = (r.0, refuse_join v ts us r.1 q)

refuse_run : (v n : ℕ) (t : ℕ → Bool) → t v ≡ false → Refuse v (replicate n t)
refuse_run v zero t e = tt
refuse_run v (suc n) t e = (e, refuse_run v n t e)

refuse_at : (v : ℕ) (ts : List (ℕ → Bool)) (t : ℕ → Bool) → Refuse v ts → (i : ℕ) → get_or (ts ++ t ∷ []) i none v ≡ true → i ≡ length ts
refuse_at v [] t r zero e = refl
refuse_at v [] t r (suc i) e = absurd (false≢true e)
refuse_at v (u ∷ ts) t r zero e = absurd (false≢true (sym r.0 ∙ e))
refuse_at v (u ∷ ts) t r (suc i) e = ap suc (refuse_at v ts t r.1 i e)

-- 03h suits the last place alone
refuse_hex : (n : ℕ) → is (hexadecimal n) 0x03 ≡ false
refuse_hex n = ne_eqb 0x03 (hexadecimal n) (λ e. omega arith)

refuse_behind : (k : Way) → Refuse 0x03 (behind_data k)
refuse_behind ToDevice = tt
refuse_behind ToTill = (refl, refuse_run 0x03 6 (may_stand Status) refl)

module _ (k : Way) where
  refuse-03 : (n sum : ℕ) → Refuse 0x03 (front k n ++ map is (bcc sum))
  refuse-03 n sum =
      refuse_join 0x03 (front k n) (map is (bcc sum)) (
        refl,
        (
          refl,
          refuse_join 0x03 (replicate n (may_stand Data) ++ behind_data k) (is 0x05 ∷ [])
              (refuse_join 0x03 (replicate n (may_stand Data)) (behind_data k) (refuse_run 0x03 n (may_stand Data) refl) (refuse_behind k)) (refl, tt),
        ),
      )
      (refuse_hex (sum / 4096), (refuse_hex (sum / 256), (refuse_hex (sum / 16), (refuse_hex sum, tt))))

  last-suits : (sum : ℕ) (bytes : List ℕ) → suits k sum bytes 0x03 ≡ true → at_last k bytes ≡ true
  last-suits sum [] e = absurd (false≢true (sym (len-not-03 k) ∙ e))
    where
      len-not-03 : (j : Way) → suits j sum [] 0x03 ≡ false
      len-not-03 ToDevice = refl
      len-not-03 ToTill = refl
  last-suits sum (len ∷ r) e =
      let tests : List (ℕ → Bool) = front k (data_count k len) in
      let seam = ap (λ (z : List (ℕ → Bool)). get_or z (length r) none 0x03) (append_assoc tests (map is (bcc sum)) (is 0x03 ∷ [])) in
      let at : length r ≡ length (tests ++ map is (bcc sum)) = refuse_at 0x03 (tests ++ map is (bcc sum)) (is 0x03) (refuse-03 (data_count k len) sum) (length r) (seam ∙ e) in
      eq-eqb (length r) (length tests + 4) (at ∙ length-append tests (map is (bcc sum)))

  -- behind 03h reading is outside, wherever it stood
  pub after_03 : (p : Place) → (read k p 0x03).place ≡ outside
  after_03 outside = refl
  after_03 (inside sum bytes) = go (suits k sum bytes 0x03) refl
    where
      go : (s : Bool) → suits k sum bytes 0x03 ≡ s → (read_other k (inside sum bytes) 0x03).place ≡ outside
      go false e = ap (λ (r : Read). r.place) (reads_broken k sum bytes 0x03 e)
      go true e = ap (λ (r : Read). r.place) (reads_whole k sum bytes 0x03 e (last-suits sum bytes e))

  -- where 03h ends a whole frame, every other byte but 01h leaves it too
  pub after_last : (p : Place) (m : Message) → (read k p 0x03).event ≡ heard m → (x : ℕ) → (x ≡ 0x01 → ⊥) → (read k p x).place ≡ outside
  after_last outside m e x ne = ap (λ (r : Read). r.place) (read_other_lem k outside x ne)
  after_last (inside sum bytes) m e x ne = go (suits k sum bytes 0x03) refl (suits k sum bytes x) refl
    where
      go : (s : Bool) → suits k sum bytes 0x03 ≡ s → (t : Bool) → suits k sum bytes x ≡ t → (read k (inside sum bytes) x).place ≡ outside
      go false es t et = absurd (silent_broken m (sym (ap (λ (r : Read). r.event) (reads_broken k sum bytes 0x03 es)) ∙ e))
      go true es false et = ap (λ (r : Read). r.place) (breaks k sum bytes x ne et)
      go true es true et = ap (λ (r : Read). r.place) (last k sum bytes x ne et (last-suits sum bytes es))
