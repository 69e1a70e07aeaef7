-- One try: what reading makes of it is what `brings` and `leaves` say. For commands and answers alike.
use Rattle.std.proofs.lemmas.Bool.{and_parts}
use mathlib.Core.Path.{◌≡◌, refl, sym, ap, ◌∙◌, subst}
use mathlib.Core.Bool.{Bool, true, false, cond, not, ◌&&◌}
use mathlib.Core.List.{List, [], ◌∷◌, ◌++◌, append_assoc, append-nil, tail-eq_of_cons-eq}
use Prim.Native.Nat.{ℕ, zero, suc, ◌+◌, ◌≤◌, ◌<◌}
use native.Mathlib.Omega.{arith}
use lib.Dec.{ltb, eqb}
use lib.ListN.{length, get_or, set, take, drop, replicate, length-append, length-drop, drop_of_length-le}
use lib.Seq.{split_at, set_split, set-append_left, set_at, drop-append-le}
use borrow.Author.Tests.{eqb-true, eqb-false, eq-eqb, ltb-true, ltb-false, lt-ltb, le-ltb, ne_eqb, not-true}
use Rattle.wire.specs.Frame.{Message, inner, frame, sendable}
use Rattle.wire.specs.declared.Way.{Way}
use Rattle.reader.specs.Reading.{Place, outside, inside, Event, nothing, broken_frame, heard, read, starts_anew, Run, run}
use Rattle.reader.proofs.Walking.{run_first, run_append}
use Rattle.reader.proofs.RoundTrip.{read_what_was_built}
use Rattle.tries.specs.Tries.{Arrival, whole, replaced, cut, may_arrive, Begun, clear, begun, leaves, start_brings, lost_start_brings, damage_brings}
use Rattle.tries.specs.TryRead.{news, stands_at, Fits, TryRead}
use Rattle.tries.proofs.Lists.{Free, free_join, free_left, free_right, off_set, last_of, snoc_same, prefix_same}
use Rattle.tries.proofs.Bodies.{core, check, body, no_01, length-body, no_window, no_damaged, joined}
use Rattle.tries.proofs.Hearing.{news_join, news_quiet, NoneHeard, skipped, place_snoc, none_from, none_heard, stays_inside, breaks_once, after_03, after_last}

-- 03h at the end
ends_outside : (k : Way) (p : Place) (xs : List ℕ) → (run k p (xs ++ 0x03 ∷ [])).place ≡ outside
ends_outside k p xs = place_snoc k p xs 0x03 ∙ after_03 k (run k p xs).place

-- a frame behind its 01h
module _ (k : Way) (m : Message) (can : sendable k m ≡ true) where
  abbrev start : List ℕ
  start = core k m ++ check k m

  body-events : (run k (inside 0 []) (body k m)).events ≡ replicate (length (inner k m) + 8) nothing ++ heard m ∷ []
  body-events = tail-eq_of_cons-eq (ap (λ (r : Run). r.events) (read_what_was_built k m can outside))

  -- all the others come in silence, and 03h behind them is heard as the message
  last-heard : ((run k (inside 0 []) start).events ≡ replicate (length (inner k m) + 8) nothing)
      × ((read k (run k (inside 0 []) start).place 0x03).event ≡ heard m)
  last-heard =
      snoc_same (run k (inside 0 []) start).events (replicate (length (inner k m) + 8) nothing) _ _
      (sym (ap (λ (r : Run). r.events) (run_append k (inside 0 []) start (0x03 ∷ []))) ∙ body-events)

  -- a proper beginning
  module _ (left : List ℕ) (next : ℕ) (right : List ℕ) (is : body k m ≡ left ++ next ∷ right) where
    left-free : Free 0x01 left
    left-free = free_left 0x01 left (next ∷ right) (subst (Free 0x01) is (no_01 k m can))

    right-free : Free 0x01 right
    right-free = (free_right 0x01 left (next ∷ right) (subst (Free 0x01) is (no_01 k m can))).1

    quiet-left : (n : ℕ) × ((run k (inside 0 []) left).events ≡ replicate n nothing)
    quiet-left =
        let last = last_of next right in
        let is-start = (snoc_same start (left ++ last.0) 0x03 last.1 (is ∙ ap (λ z. left ++ z) last.2 ∙ sym (append_assoc left last.0 (last.1 ∷ [])))).0 in
        prefix_same (run k (inside 0 []) left).events _ nothing (length (inner k m) + 8)
        (sym (ap (λ (r : Run). r.events) (run_append k (inside 0 []) left last.0)) ∙ ap (λ z. (run k (inside 0 []) z).events) (sym is-start) ∙ last-heard.0)

    news-left : news (run k (inside 0 []) left).events ≡ []
    news-left = ap news quiet-left.1 ∙ news_quiet quiet-left.0

    place-left : (sum : ℕ) × ((run k (inside 0 []) left).place ≡ inside sum left)
    place-left = stays_inside k left left-free 0 [] quiet-left.0 quiet-left.1

-- 01h, from what stands begun
start_brings_lem : (k : Way) (b : Begun) → Fits k b → news (starts_anew (stands_at k b) ∷ []) ≡ start_brings b
start_brings_lem k clear f = refl
start_brings_lem k (begun n zero) f = absurd (omega (arith, f.1))
start_brings_lem k (begun n (suc zero)) f = refl
start_brings_lem k (begun n (suc (suc c))) f =
    let place = place-left k n f.0 (take (suc c) (body k n)) _ _ (split_at (body k n) (suc c) 0 (omega (arith, f.2))) in
    ap (λ p. news (starts_anew p ∷ [])) place.1 ∙ ap (λ t. cond t (broken_frame ∷ []) []) (sym (lt-ltb 1 (suc (suc c)) (omega arith)))

first_brings : (k : Way) (b : Begun) → Fits k b → (xs : List ℕ) → news (run k (stands_at k b) (0x01 ∷ xs)).events ≡ start_brings b ++ news (run k (inside 0 []) xs).events
first_brings k b f xs =
    news_join (starts_anew (stands_at k b) ∷ []) (run k (inside 0 []) xs).events
    ∙ ap (λ z. z ++ news (run k (inside 0 []) xs).events) (start_brings_lem k b f)

-- a byte behind 01h was replaced
module _ (k : Way) (m : Message) (can : sendable k m ≡ true) (i byte : ℕ) (h : i < length (body k m)) (ne : byte ≡ get_or (body k m) i 0 → ⊥) where
  abbrev left : List ℕ
  left = take i (body k m)

  abbrev right : List ℕ
  right = drop (suc i) (body k m)

  abbrev damaged : List ℕ
  damaged = set (body k m) i byte

  around : body k m ≡ left ++ get_or (body k m) i 0 ∷ right
  around = split_at (body k m) i 0 h

  around-it : damaged ≡ left ++ byte ∷ right
  around-it = set_split (body k m) i byte h

  -- the last byte, or one before it
  length-start : length (start k m can) + 1 ≡ length (body k m)
  length-start = omega (arith, length-append (start k m can) (0x03 ∷ []))

  -- another byte than 01h
  module _ (other : byte ≡ 0x01 → ⊥) where
    place_other : (run k (inside 0 []) damaged).place ≡ outside
    place_other = go (ltb (suc i) (length (body k m))) refl
      where
        go : (t : Bool) → ltb (suc i) (length (body k m)) ≡ t → (run k (inside 0 []) damaged).place ≡ outside
        go true e =
            let early : i < length (start k m can) = omega (arith, ltb-true (suc i) (length (body k m)) e, length-start) in
            ap (λ z. (run k (inside 0 []) z).place) (set-append_left (start k m can) (0x03 ∷ []) i byte early) ∙ ends_outside k (inside 0 []) (set (start k m can) i byte)
        go false e =
            let late : length (start k m can) ≡ i = omega (arith, ltb-false (suc i) (length (body k m)) e, length-start) in
            ap (λ z. (run k (inside 0 []) z).place) (set_at (start k m can) 0x03 [] byte i late)
            ∙ place_snoc k (inside 0 []) (start k m can) byte
            ∙ after_last k (run k (inside 0 []) (start k m can)).place m (last-heard k m can).1 byte other

    free_other : Free 0x01 damaged
    free_other =
        subst (Free 0x01) (sym around-it)
        (free_join 0x01 left (byte ∷ right) (left-free k m can left (get_or (body k m) i 0) right around) (other, right-free k m can left (get_or (body k m) i 0) right around))

    news-other : news (run k (inside 0 []) damaged).events ≡ broken_frame ∷ []
    news-other =
        breaks_once k damaged free_other 0 []
        (none_heard k damaged free_other (λ n w cn q. no_damaged k m n can cn damaged w (off_set (body k m) i byte h ne) q)) place_other

  -- 01h: reading starts anew within the frame
  module _ (anew : byte ≡ 0x01) where
    -- what stands behind it is not heard
    news-right : (t : Bool) → ltb (suc i) (length (body k m)) ≡ t → ((run k (inside 0 []) right).place ≡ cond t outside (inside 0 []))
        × (news (run k (inside 0 []) right).events ≡ cond t (broken_frame ∷ []) [])
    news-right false e =
        let nothing_right : right ≡ [] = drop_of_length-le (body k m) (ltb-false (suc i) (length (body k m)) e) in
        (ap (λ z. (run k (inside 0 []) z).place) nothing_right, ap (λ z. news (run k (inside 0 []) z).events) nothing_right)
    news-right true e =
        let early : suc i ≤ length (start k m can) = omega (arith, ltb-true (suc i) (length (body k m)) e, length-start) in
        let is : right ≡ drop (suc i) (start k m can) ++ 0x03 ∷ [] = drop-append-le (suc i) (start k m can) (0x03 ∷ []) early in
        let place = ap (λ z. (run k (inside 0 []) z).place) is ∙ ends_outside k (inside 0 []) (drop (suc i) (start k m can)) in
        let free = right-free k m can left (get_or (body k m) i 0) right around in
        (place, breaks_once k right free 0 [] (none_heard k right free never) place)
      where
        never : (n : Message) (w : List ℕ) → sendable k n ≡ true → right ≡ body k n ++ w → ⊥
        never n w cn e =
            let x = get_or (body k m) i 0 in
            let all = no_window k m n can cn (left ++ x ∷ []) w (around ∙ ap (λ z. left ++ x ∷ z) e ∙ sym (append_assoc left (x ∷ []) (body k n ++ w))) in
            omega (arith, ap length all.0, length-append left (x ∷ []))

    parts : run k (inside 0 []) damaged
        ≡ record {
          place = (run k (inside 0 []) right).place;
          events = (run k (inside 0 []) left).events ++ starts_anew (run k (inside 0 []) left).place ∷ (run k (inside 0 []) right).events;
        }
    parts = ap (run k (inside 0 [])) (around-it ∙ ap (λ z. left ++ z ∷ right) anew) ∙ run_append k (inside 0 []) left (0x01 ∷ right)

    news-parts : news (run k (inside 0 []) damaged).events ≡ news (starts_anew (run k (inside 0 []) left).place ∷ []) ++ news (run k (inside 0 []) right).events
    news-parts =
        let place = (run k (inside 0 []) left).place in
        let behind = (run k (inside 0 []) right).events in
        ap (λ (r : Run). news r.events) parts
        ∙ news_join (run k (inside 0 []) left).events (starts_anew place ∷ behind)
        ∙ ap (λ z. z ++ news (starts_anew place ∷ behind)) (news-left k m can left (get_or (body k m) i 0) right around)
        ∙ news_join (starts_anew place ∷ []) behind

  -- both, as the definitions say it
  abbrev size : ℕ
  size = length (frame k m)

  abbrev Two : Bool → List Event
  Two t = cond t (broken_frame ∷ broken_frame ∷ []) (broken_frame ∷ [])

  early-or-last : (t : Bool) → ltb (suc i + 1) size ≡ t → ltb (suc i) (length (body k m)) ≡ t
  early-or-last true e = lt-ltb (suc i) (length (body k m)) (omega (arith, ltb-true (suc i + 1) size e))
  early-or-last false e = le-ltb (suc i) (length (body k m)) (omega (arith, ltb-false (suc i + 1) size e))

  damage-brings : news (run k (inside 0 []) damaged).events ≡ damage_brings size (suc i) byte
  damage-brings = go (eqb byte 0x01) refl (ltb 1 (suc i)) refl (ltb (suc i + 1) size) refl
    where
      parted : (t u : Bool) → (ltb 1 (suc i) ≡ t) → (ltb (suc i + 1) size ≡ u) → cond t (broken_frame ∷ []) [] ++ cond u (broken_frame ∷ []) [] ≡ Two (t && u)
      parted true true et eu = refl
      parted true false et eu = refl
      parted false true et eu = refl
      parted false false et eu = absurd (omega (arith, ltb-false 1 (suc i) et, ltb-false (suc i + 1) size eu, length-body k m can))

      go : (s : Bool) → eqb byte 0x01 ≡ s → (t : Bool) → ltb 1 (suc i) ≡ t → (u : Bool) → ltb (suc i + 1) size ≡ u
          → news (run k (inside 0 []) damaged).events ≡ damage_brings size (suc i) byte
      go false es t et u eu = news-other (eqb-false byte 0x01 es) ∙ ap (λ z. Two (z && (ltb 1 (suc i) && ltb (suc i + 1) size))) (sym es)
      go true es t et u eu =
          let anew = eqb-true byte 0x01 es in
          news-parts anew
          ∙ ap (λ z. z ++ news (run k (inside 0 []) right).events) (start_brings_lem k (begun m (suc i)) (can, omega arith, omega arith) ∙ ap (λ z. cond z (broken_frame ∷ []) []) et)
          ∙ ap (λ z. cond t (broken_frame ∷ []) [] ++ z) (news-right anew u (early-or-last u eu)).1
          ∙ parted t u et eu
          ∙ ap (λ z. Two (z && u)) (sym et)
          ∙ ap (λ z. Two (ltb 1 (suc i) && z)) (sym eu)
          ∙ ap (λ z. Two (z && (ltb 1 (suc i) && ltb (suc i + 1) size))) (sym es)

  abbrev Stands : Begun → Type 0
  Stands b = ((run k (inside 0 []) damaged).place ≡ stands_at k b) × Fits k b

  damage-leaves : Stands (cond (eqb byte 0x01 && eqb (suc i + 1) size) (begun m 1) clear)
  damage-leaves = go (eqb byte 0x01) refl (ltb (suc i + 1) size) refl
    where
      go : (s : Bool) → eqb byte 0x01 ≡ s → (u : Bool) → ltb (suc i + 1) size ≡ u → Stands (cond (eqb byte 0x01 && eqb (suc i + 1) size) (begun m 1) clear)
      go false es u eu =
          subst (λ z. Stands (cond (z && eqb (suc i + 1) size) (begun m 1) clear)) (sym es) (place_other (eqb-false byte 0x01 es), tt)
      go true es true eu =
          let anew = eqb-true byte 0x01 es in
          let no_last : eqb (suc i + 1) size ≡ false = ne_eqb (suc i + 1) size (λ e. omega (arith, ltb-true (suc i + 1) size eu)) in
          subst (λ z. Stands (cond (z && eqb (suc i + 1) size) (begun m 1) clear)) (sym es)
          (subst (λ z. Stands (cond z (begun m 1) clear)) (sym no_last)
          (ap (λ (r : Run). r.place) (parts anew) ∙ (news-right anew true (early-or-last true eu)).0, tt))
      go true es false eu =
          let anew = eqb-true byte 0x01 es in
          let is_last : eqb (suc i + 1) size ≡ true = eq-eqb (suc i + 1) size (omega (arith, ltb-false (suc i + 1) size eu)) in
          subst (λ z. Stands (cond (z && eqb (suc i + 1) size) (begun m 1) clear)) (sym es)
          (subst (λ z. Stands (cond z (begun m 1) clear)) (sym is_last)
          (ap (λ (r : Run). r.place) (parts anew) ∙ (news-right anew false (early-or-last false eu)).0, (can, omega arith, omega (arith, length-body k m can))))

-- 01h itself was replaced, and a frame stands begun
module _ (k : Way) (m n : Message) (cm : sendable k m ≡ true) (cn : sendable k n ≡ true) (c : ℕ) (h : suc c < length (frame k n)) (x : ℕ) (ne : x ≡ 0x01 → ⊥) where
  abbrev pub ahead : List ℕ
  ahead = take c (body k n)

  abbrev lacks : List ℕ
  lacks = drop (suc c) (body k n)

  abbrev pub place : Place
  place = (run k (inside 0 []) ahead).place

  in_two : body k n ≡ ahead ++ get_or (body k n) c 0 ∷ lacks
  in_two = split_at (body k n) c 0 (omega arith)

  skip-free : Free 0x01 (x ∷ body k m)
  skip-free = (ne, no_01 k m cm)

  -- the byte that it lacked
  module _ (three : x ≡ 0x03) (last : suc c + 1 ≡ length (frame k n)) where
    pub ends_it : read k place x ≡ record { place = outside; event = heard n }
    ends_it =
        let full : length (body k n) ≤ suc c = omega arith in
        let none : lacks ≡ [] = drop_of_length-le (body k n) full in
        let same : start k n cn ≡ ahead = (snoc_same (start k n cn) ahead 0x03 (get_or (body k n) c 0) (in_two ∙ ap (λ z. ahead ++ get_or (body k n) c 0 ∷ z) none)).0 in
        let at : (run k (inside 0 []) (start k n cn)).place ≡ place = ap (λ z. (run k (inside 0 []) z).place) same in
        let event : (read k place 0x03).event ≡ heard n = ap (λ p. (read k p 0x03).event) (sym at) ∙ (last-heard k n cn).1 in
        ap (read k place) three ∙ (λ i. record { place = after_03 k place i; event = event i })

    run-ended : run k place (x ∷ body k m) ≡ record { place = outside; events = heard n ∷ replicate (length (body k m)) nothing }
    run-ended = run_first k place x (body k m) _ ends_it ∙ ap (λ (r : Run). record { place = r.place; events = heard n ∷ r.events }) (skipped k (body k m) (no_01 k m cm))

  -- another: what was begun is broken
  module _ (other : (x ≡ 0x03) × (suc c + 1 ≡ length (frame k n)) → ⊥) where
    place_after : (run k place (x ∷ body k m)).place ≡ outside
    place_after = ends_outside k place (x ∷ start k m cm)

    none-joined : NoneHeard (run k place (x ∷ body k m)).events
    none-joined =
        none_from k (ahead ++ x ∷ body k m) (free_join 0x01 ahead (x ∷ body k m) (left-free k n cn ahead (get_or (body k n) c 0) lacks in_two) skip-free)
        (λ w v cw q. apart (joined k m n w cm cn cw ahead (get_or (body k n) c 0) lacks in_two x v q)) (x ∷ body k m) ahead refl
      where
        apart : (x ≡ 0x03) × (lacks ≡ []) → ⊥
        apart and_parts = other (and_parts.0, omega (arith, ap length and_parts.1, length-drop (suc c) (body k n)))

    news-joined : news (run k place (x ∷ body k m)).events ≡ broken_frame ∷ []
    news-joined =
        let at = place-left k n cn ahead (get_or (body k n) c 0) lacks in_two in
        ap (λ p. news (run k p (x ∷ body k m)).events) at.1
        ∙ breaks_once k (x ∷ body k m) skip-free at.0 ahead (subst (λ p. NoneHeard (run k p (x ∷ body k m)).events) at.1 none-joined)
        (ap (λ p. (run k p (x ∷ body k m)).place) (sym at.1) ∙ place_after)

module _ (k : Way) (m : Message) (can : sendable k m ≡ true) where
  whole-read : (b : Begun) → Fits k b → TryRead k b m whole
  whole-read b f = record {
    news_are = first_brings k b f (body k m)
        ∙ ap (λ z. start_brings b ++ z) (ap news (body-events k m can) ∙ news_join (replicate (length (inner k m) + 8) nothing) (heard m ∷ []) ∙ ap (λ z. z ++ heard m ∷ []) (news_quiet (length (inner k m) + 8)));
    place_is = ap (λ (r : Run). r.place) (read_what_was_built k m can (stands_at k b));
    fits = tt;
  }

  cut-read : (count : ℕ) → count < length (frame k m) → (b : Begun) → Fits k b → TryRead k b m (cut count)
  cut-read zero h b f = record { news_are = refl; place_is = refl; fits = f }
  cut-read (suc c) h b f = record {
    news_are = first_brings k b f (take c (body k m))
        ∙ ap (λ z. start_brings b ++ z) (news-left k m can (take c (body k m)) _ _ (split_at (body k m) c 0 (omega arith)))
        ∙ append-nil (start_brings b);
    place_is = refl;
    fits = (can, omega arith, h);
  }

  damaged-read : (i byte : ℕ) → i < length (body k m) → (byte ≡ get_or (body k m) i 0 → ⊥) → (b : Begun) → Fits k b → TryRead k b m (replaced (suc i) byte)
  damaged-read i byte h ne b f = record {
    news_are = first_brings k b f (set (body k m) i byte) ∙ ap (λ z. start_brings b ++ z) (damage-brings k m can i byte h ne);
    place_is = (damage-leaves k m can i byte h ne).0;
    fits = (damage-leaves k m can i byte h ne).1;
  }

  -- its first byte is no 01h, so that it leaves nothing begun
  lost-start : (x : ℕ) → (x ≡ 0x01 → ⊥) → (b : Begun) → news (run k (stands_at k b) (x ∷ body k m)).events ≡ lost_start_brings k b x → (run k (stands_at k b) (x ∷ body k m)).place ≡ outside
      → TryRead k b m (replaced 0 x)
  lost-start x ne b are out =
      let none : leaves k b m (replaced 0 x) ≡ clear = ap (λ t. cond (t && eqb (0 + 1) (length (frame k m))) (begun m 1) clear) (ne_eqb x 0x01 ne) in
      record { news_are = are; place_is = out ∙ ap (stands_at k) (sym none); fits = subst (Fits k) (sym none) tt }

  lost-start-read : (x : ℕ) → (x ≡ 0x01 → ⊥) → (b : Begun) → Fits k b → TryRead k b m (replaced 0 x)
  lost-start-read x ne clear f =
      let r = skipped k (x ∷ body k m) (ne, no_01 k m can) in
      lost-start x ne clear (ap (λ (z : Run). news z.events) r ∙ news_quiet (length (x ∷ body k m))) (ap (λ (z : Run). z.place) r)
  lost-start-read x ne (begun n zero) f = absurd (omega (arith, f.1))
  lost-start-read x ne (begun n (suc c)) f = go (eqb x 0x03) refl (eqb (suc c + 1) (length (frame k n))) refl
    where
      told : (t : Bool) → List Event
      told t = cond t (heard n ∷ []) (broken_frame ∷ [])

      go : (s : Bool) → eqb x 0x03 ≡ s → (t : Bool) → eqb (suc c + 1) (length (frame k n)) ≡ t → TryRead k (begun n (suc c)) m (replaced 0 x)
      go true es true et =
          let r = run-ended k m n can f.0 c f.2 x ne (eqb-true x 0x03 es) (eqb-true (suc c + 1) (length (frame k n)) et) in
          lost-start x ne (begun n (suc c))
          (ap (λ (z : Run). news z.events) r
          ∙ ap (λ z. heard n ∷ z) (news_quiet (length (body k m)))
          ∙ ap (λ t. told (true && t)) (sym et)
          ∙ ap (λ t. told (t && eqb (suc c + 1) (length (frame k n)))) (sym es))
          (ap (λ (z : Run). z.place) r)
      go true es false et =
          let other : (x ≡ 0x03) × (suc c + 1 ≡ length (frame k n)) → ⊥ = λ and_parts. eqb-false (suc c + 1) (length (frame k n)) et and_parts.1 in
          lost-start x ne (begun n (suc c))
          (news-joined k m n can f.0 c f.2 x ne other ∙ ap (λ t. told (true && t)) (sym et) ∙ ap (λ t. told (t && eqb (suc c + 1) (length (frame k n)))) (sym es))
          (place_after k m n can f.0 c f.2 x ne other)
      go false es t et =
          let other : (x ≡ 0x03) × (suc c + 1 ≡ length (frame k n)) → ⊥ = λ and_parts. eqb-false x 0x03 es and_parts.0 in
          lost-start x ne (begun n (suc c))
          (news-joined k m n can f.0 c f.2 x ne other ∙ ap (λ t. told (t && eqb (suc c + 1) (length (frame k n)))) (sym es))
          (place_after k m n can f.0 c f.2 x ne other)

  -- the law of this room: every try is read so, from wherever the tries before it left off
  pub try_read : (a : Arrival) → may_arrive (frame k m) a ≡ true → (b : Begun) → Fits k b → TryRead k b m a
  try_read whole e = whole-read
  try_read (cut count) e = cut-read count (ltb-true count (length (frame k m)) e)
  try_read (replaced at byte) e = go at (ltb-true at (length (frame k m)) two.0) (eqb-false byte (get_or (frame k m) at 0) (not-true (eqb byte (get_or (frame k m) at 0)) two.1))
    where
      two : (ltb at (length (frame k m)) ≡ true) × (not (eqb byte (get_or (frame k m) at 0)) ≡ true)
      two = and_parts (ltb at (length (frame k m))) (not (eqb byte (get_or (frame k m) at 0))) e

      go : (i : ℕ) → i < length (frame k m) → (byte ≡ get_or (frame k m) i 0 → ⊥) → (b : Begun) → Fits k b → TryRead k b m (replaced i byte)
      go zero h ne = lost-start-read byte ne
      go (suc i) h ne = damaged-read i byte (omega arith) ne
