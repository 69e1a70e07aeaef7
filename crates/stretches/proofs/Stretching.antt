-- Laws of a stretch of bytes: a turn of the loop that takes it byte by byte, and a whole command at its front.
use mathlib.Core.Path.{◌≡◌, refl, sym, ap, ◌∙◌, subst}
use mathlib.Core.Bool.{Bool, true, false, cond}
use mathlib.Core.List.{List, [], ◌∷◌, ◌++◌, append_assoc}
use Prim.Native.Nat.{ℕ, suc, ◌+◌, ◌-◌, ◌%◌, ◌≤◌, ◌<◌}
use native.Mathlib.Omega.{arith}
use lib.ListN.{length, get_or, take, drop, length-append, length-drop, take-append-drop}
use lib.Seq.{take-add, take_at, drop-drop, length-take-le, sets}
use borrow.Author.Tests.{eqb-false}
use lib.Dec.{eqb}
use Rattle.text.proofs.Laws.{sets_over}
use Rattle.wire.specs.Bytes.{may_stand, every}
use Rattle.wire.specs.Frame.{Message, total, bcc, counted}
use Rattle.wire.specs.declared.Way.{Way}
use Rattle.wire.specs.declared.Way.TheVariants.{ToDevice}
use Rattle.wire.specs.declared.Role.TheVariants.{Data}
use Rattle.wire.proofs.Building.{bcc_mod}
use Rattle.reader.specs.Reading.{Place, outside, inside, Read, Event, nothing, broken_frame, heard, starts_anew, read, Run, run}
use Rattle.reader.specs.Fields.{reader_of, kept_in, heard_of, is_silent}
use Rattle.stretches.specs.Private.{Heads, Leads, before_start, closing, leading}
use Rattle.stretches.specs.Stretches.{Stretched, further, stretched}
use Rattle.reader.specs.declared.Heard.TheVariants.{Whole}
use Rattle.reader.specs.declared.Reader.{Reader}
use Rattle.reader.proofs.Steps.{read_start, read_other_lem, place_out, Ways, starts_anew_lem, is_skipped, breaks, goes_on_lem, ends, ways}
use Rattle.reader.proofs.Running.{bytes_of, place_back}
use Rattle.reader.proofs.Holding.{Underway, underway_few, underway_read}
use Rattle.reader.proofs.Walking.{quiet, run_first}
use Rattle.reader.proofs.RoundTrip.{Parts, parts, sendable_parts, len, body, quad, sum, walked, read_last}

none_further : (s : Stretched) → s ≡ further 0 s
none_further s =
    let e : 0 + s.stretch.taken ≡ s.stretch.taken = omega arith in
    ap (λ n. record { stretch = record { reader = s.stretch.reader; heard = s.stretch.heard; taken = n }; array = s.array }) (sym e)

both_further : (i j n : ℕ) → i + j ≡ n → (s : Stretched) → further i (further j s) ≡ further n s
both_further i j n e s =
    let sums : i + (j + s.stretch.taken) ≡ n + s.stretch.taken = omega arith in
    ap (λ z. record { stretch = record { reader = s.stretch.reader; heard = s.stretch.heard; taken = z }; array = s.array }) sums

-- what is known at the head of the loop over bytes: i of them brought nothing, and the rest is a stretch from here
pub record Head (k : Way) (first : Reader) (array₀ bytes array : List ℕ) (reader : Reader) (i : ℕ) : Type 0 where
  pub within : i ≤ length bytes
  pub goes : stretched k first array₀ bytes ≡ further i (stretched k reader array (drop i bytes))

-- a whole command at the front, from what the code asks of its bytes
leads_behind : (n added : ℕ) (start l s c : ℕ) (rest : List ℕ) → n ≤ 200 → n + 10 ≤ length (start ∷ l ∷ s ∷ c ∷ rest) → Heads n (start ∷ l ∷ s ∷ c ∷ rest)
    → every (may_stand Data) (take n rest) ≡ true → added ≡ total (take (n + 4) (l ∷ s ∷ c ∷ rest)) % 65536 → take 6 (drop n rest) ≡ closing added
    → Leads n (start ∷ l ∷ s ∷ c ∷ rest)
leads_behind n added start l s c rest small room h content es six =
    let m : Message = leading n (start ∷ l ∷ s ∷ c ∷ rest) in
    let size : length (take n rest) ≡ n = length-take-le n rest (omega arith) in
    let four : n + 4 ≡ suc (suc (suc (n + 1))) = omega arith in
    let ten : n + 10 ≡ suc (suc (suc (suc (n + 6)))) = omega arith in
    let is-len : l ≡ length (take n rest) + 4 + 0x20 = h.len ∙ omega arith in
    let five : take (n + 1) rest ≡ take n rest ++ 0x05 ∷ [] = take-add n 1 rest ∙ ap (λ z. take n rest ++ take 1 z) (sym (take-append-drop 6 (drop n rest)) ∙ ap (λ z. z ++ drop 6 (drop n rest)) six) in
    let all : take (n + 4) (l ∷ s ∷ c ∷ rest) ≡ counted s c (take n rest) =
    ap (λ k. take k (l ∷ s ∷ c ∷ rest)) four ∙ (λ i. is-len i ∷ s ∷ c ∷ five i) in
    let digits : bcc added ≡ bcc (total (counted s c (take n rest))) =
    ap bcc (es ∙ ap (λ z. total z % 65536) all) ∙ bcc_mod (total (counted s c (take n rest))) in
    let fours : List ℕ = bcc (total (counted s c (take n rest))) in
    let apart : take n rest ++ (0x05 ∷ (fours ++ 0x03 ∷ [])) ≡ take n rest ++ 0x05 ∷ [] ++ fours ++ 0x03 ∷ [] =
    sym (append_assoc (take n rest ++ 0x05 ∷ []) fours (0x03 ∷ []) ∙ append_assoc (take n rest) (0x05 ∷ []) (fours ++ 0x03 ∷ [])) in
    record {
      small = small;
      room = room;
      can = sendable_parts ToDevice m (record { seq = h.seq; code = h.code; few = omega (arith, size); content = content; size = refl; status = refl });
      whole =
          ap (λ k. take k (start ∷ l ∷ s ∷ c ∷ rest)) ten
          ∙ ap (λ z. start ∷ l ∷ s ∷ c ∷ z) (take-add n 6 rest ∙ ap (λ z. take n rest ++ z) (six ∙ ap (λ z. 0x05 ∷ z ++ 0x03 ∷ []) digits))
          ∙ (λ i. h.start i ∷ is-len i ∷ s ∷ c ∷ apart i);
    }

pub leads_whole : (n added : ℕ) (bytes : List ℕ) → n ≤ 200 → n + 10 ≤ length bytes → Heads n bytes
    → every (may_stand Data) (take (n + 4 - 4) (drop 4 bytes)) ≡ true → added ≡ total (take (n + 4 + 1 - 1) (drop 1 bytes)) % 65536
    → take (n + 4 + 6 - (n + 4)) (drop (n + 4) bytes) ≡ closing added → Leads n bytes
leads_whole n added [] small room h content es six = absurd (omega arith)
leads_whole n added (start ∷ []) small room h content es six = absurd (omega arith)
leads_whole n added (start ∷ l ∷ []) small room h content es six = absurd (omega arith)
leads_whole n added (start ∷ l ∷ s ∷ []) small room h content es six = absurd (omega arith)
leads_whole n added (start ∷ l ∷ s ∷ c ∷ rest) small room h content es six =
    let data-end : n + 4 - 4 ≡ n = omega arith in
    let sum-end : n + 4 + 1 - 1 ≡ n + 4 = omega arith in
    let few : n + 4 + 6 - (n + 4) ≡ 6 = omega arith in
    let at : n + 4 ≡ 4 + n = omega arith in
    leads_behind n added start l s c rest small room h
    (ap (λ j. every (may_stand Data) (take j rest)) (sym data-end) ∙ content)
    (es ∙ ap (λ j. total (take j (l ∷ s ∷ c ∷ rest)) % 65536) sum-end)
    (ap (take 6) (drop-drop n 4 (start ∷ l ∷ s ∷ c ∷ rest)) ∙ ap (λ j. take 6 (drop j (start ∷ l ∷ s ∷ c ∷ rest))) (sym at)
    ∙ ap (λ j. take j (drop (n + 4) (start ∷ l ∷ s ∷ c ∷ rest))) (sym few) ∙ six)

-- a byte that brings nothing keeps what the array holds of the frame
no_start : (array : List ℕ) (p : Place) → starts_anew p ≡ nothing → array ≡ kept_in array p
no_start array outside e = refl
no_start array (inside sum []) e = refl
no_start array (inside sum (b ∷ bytes)) e = let z : ◌≡◌ {A = ℕ} 0 1 = cc in absurd (omega arith)

kept_on : (k : Way) (array : List ℕ) (p : Place) (b : ℕ) → length (bytes_of (read k p b).place) ≤ length array → (read k p b).event ≡ nothing
    → kept_in (kept_in array p) (read k p b).place ≡ kept_in array (read k p b).place
kept_on k array p b room e = go (ways k p b)
  where
    Kept : Read → Type 0
    Kept r = kept_in (kept_in array p) r.place ≡ kept_in array r.place

    go : Ways k p b → Kept (read k p b)
    go (starts_anew_lem is er) = subst Kept (sym er) (sym (no_start array p (sym (ap (λ (r : Read). r.event) er) ∙ e)))
    go (is_skipped is er) = subst Kept (sym er) (ap (kept_in array) is)
    go (breaks er) = let z : broken_frame ≡ nothing = sym (ap (λ (r : Read). r.event) er) ∙ e in let y : ◌≡◌ {A = ℕ} 0 1 = cc in absurd (omega arith)
    go (goes_on_lem sum bytes is fits more er) =
        let small : length (bytes ++ b ∷ []) ≤ length array = subst (λ (r : Read). length (bytes_of r.place) ≤ length array) er room in
        subst Kept (sym er) (ap (λ q. sets (kept_in array q) 0 (bytes ++ b ∷ [])) is ∙ sets_over 0 array bytes (bytes ++ b ∷ []) (omega (arith, length-append bytes (b ∷ []))) small)
    go (ends sum bytes is fits last er) = let z : heard _ ≡ nothing = sym (ap (λ (r : Read). r.event) er) ∙ e in let y : ◌≡◌ {A = ℕ} 0 1 = cc in absurd (omega arith)

abbrev first_of : List Event → Event
first_of [] = nothing
first_of (e ∷ es) = e

abbrev rest_of : List Event → List Event
rest_of [] = []
rest_of (e ∷ es) = es

-- a stretch by what its first byte reads
abbrev heard_as : Way → Read → (array bytes : List ℕ) → Stretched
heard_as k step array bs =
    cond (is_silent (heard_of step.event)) (further 1 (stretched k (reader_of step.place) (kept_in array step.place) bs))
    (record { stretch = record { reader = reader_of step.place; heard = heard_of step.event; taken = 1 }; array = kept_in array step.place })

-- bytes that bring nothing, and what comes behind them
module _ (k : Way) (array : List ℕ) (size : length array ≡ 256) (ys : List ℕ) where
  along : (xs : List ℕ) (p q : Place) → Underway k p → run k p xs ≡ quiet q (length xs)
      → stretched k (reader_of p) (kept_in array p) (xs ++ ys) ≡ further (length xs) (stretched k (reader_of q) (kept_in array q) ys)
  along [] p q u e =
      none_further (stretched k (reader_of p) (kept_in array p) ys)
      ∙ ap (λ (r : Run). further 0 (stretched k (reader_of r.place) (kept_in array r.place) ys)) e
  along (x ∷ xs) p q u e =
      let next : Place = (read k p x).place in
      let silent : (read k p x).event ≡ nothing = ap (λ (r : Run). first_of r.events) e in
      let rest : run k next xs ≡ quiet q (length xs) = ap (λ (r : Run). record { place = r.place; events = rest_of r.events }) e in
      let u' : Underway k next = underway_read k p x u in
      let one : 1 + length xs ≡ suc (length xs) = omega arith in
      ap (λ z. heard_as k (read k z x) (kept_in array p) (xs ++ ys)) (place_back array p (omega (arith, underway_few k p u)))
      ∙ ap (λ z. heard_as k (record { place = next; event = z }) (kept_in array p) (xs ++ ys)) silent
      ∙ ap (λ z. further 1 (stretched k (reader_of next) z (xs ++ ys))) (kept_on k array p x (omega (arith, underway_few k next u')) silent)
      ∙ ap (further 1) (along xs next q u' rest)
      ∙ both_further 1 (length xs) (suc (length xs)) one (stretched k (reader_of q) (kept_in array q) ys)

-- the stretch of a whole command at the front
module _ (n : ℕ) (bytes array : List ℕ) (lead : Leads n bytes) (size : length array ≡ 256) where
  abbrev m : Message
  m = leading n bytes

  h : Parts ToDevice m
  h = parts ToDevice m lead.can

  -- all between 01h and 03h
  abbrev between : List ℕ
  between = len ToDevice m h ∷ (body ToDevice m h ++ quad ToDevice m h)

  abbrev behind : List ℕ
  behind = drop (n + 10) bytes

  split : bytes ≡ 0x01 ∷ (between ++ 0x03 ∷ behind)
  split = sym (take-append-drop (n + 10) bytes) ∙ ap (λ z. z ++ behind) lead.whole ∙ ap (λ z. 0x01 ∷ z) (append_assoc between (0x03 ∷ []) behind)

  length-content : length (take n (drop 4 bytes)) ≡ n
  length-content = length-take-le n (drop 4 bytes) (omega (arith, length-drop 4 bytes, lead.room))

  length-between : length between ≡ n + 8
  length-between =
      let inside : length (m.content ++ 0x05 ∷ []) ≡ n + 1 = length-append m.content (0x05 ∷ []) ∙ ap (λ z. z + 1) length-content in
      omega (arith, length-append (body ToDevice m h) (quad ToDevice m h), inside)

  abbrev last : Place
  last = inside (sum ToDevice m h) between

  walk : run ToDevice outside (0x01 ∷ between) ≡ quiet last (suc (length between))
  walk =
      let count : length m.content + 8 ≡ length between = omega (arith, length-between, length-content) in
      run_first ToDevice outside 0x01 between _ (read_start ToDevice outside 0x01 refl)
      ∙ ap (λ (z : Run). record { place = z.place; events = nothing ∷ z.events }) (walked ToDevice m h)
      ∙ ap (λ j. quiet last (suc j)) count

  ended : stretched ToDevice (reader_of last) (kept_in array last) (0x03 ∷ behind)
      ≡ record { stretch = record { reader = reader_of outside; heard = Whole m.seq m.code (length m.content); taken = 1 }; array = sets array 0 between }
  ended =
      ap (λ p. heard_as ToDevice (read ToDevice p 0x03) (kept_in array last) behind) (place_back array last (omega (arith, length-between, lead.small)))
      ∙ ap (λ z. heard_as ToDevice z (kept_in array last) behind) (read_last ToDevice m h)

  at_once : stretched ToDevice (reader_of outside) array bytes
      ≡ record { stretch = record { reader = reader_of outside; heard = Whole (get_or bytes 2 0) (get_or bytes 3 0) n; taken = n + 10 }; array = sets array 0 (take (n + 9 - 1) (drop 1 bytes)) }
  at_once =
      let taken : suc (length between) + 1 ≡ n + 10 = omega (arith, length-between) in
      let part : between ≡ take (n + 9 - 1) (drop 1 bytes) =
      sym (ap (λ z. take (n + 9 - 1) (drop 1 z)) split ∙ take_at between (0x03 ∷ behind) (n + 9 - 1) (omega (arith, length-between))) in
      ap (stretched ToDevice (reader_of outside) array) split
      ∙ along ToDevice array size (0x03 ∷ behind) (0x01 ∷ between) outside last tt walk
      ∙ ap (further (suc (length between))) ended
      ∙ (λ i. record { stretch = record { reader = reader_of outside; heard = Whole m.seq m.code (length-content i); taken = taken i }; array = sets array 0 (part i) })

-- bytes before the first 01h are skipped
module _ (k : Way) (array : List ℕ) where
  skip : (bytes : List ℕ) → stretched k (reader_of outside) array bytes ≡ further (before_start bytes) (stretched k (reader_of outside) array (drop (before_start bytes) bytes))
  skip [] = refl
  skip (b ∷ bs) = go (eqb b 0x01) refl (skip bs)
    where
      go : (start : Bool) → eqb b 0x01 ≡ start
          → stretched k (reader_of outside) array bs ≡ further (before_start bs) (stretched k (reader_of outside) array (drop (before_start bs) bs))
          → stretched k (reader_of outside) array (b ∷ bs)
          ≡ further (cond start 0 (suc (before_start bs))) (stretched k (reader_of outside) array (drop (cond start 0 (suc (before_start bs))) (b ∷ bs)))
      go true e rest = none_further (stretched k (reader_of outside) array (b ∷ bs))
      go false e rest =
          let one : 1 + before_start bs ≡ suc (before_start bs) = omega arith in
          ap (λ z. heard_as k z array bs) (read_other_lem k outside b (eqb-false b 0x01 e))
          ∙ ap (further 1) rest
          ∙ both_further 1 (before_start bs) (suc (before_start bs)) one (stretched k (reader_of outside) array (drop (before_start bs) bs))

  -- whatever the other fields of a reader that is outside
  outer : (r : Reader) (bytes : List ℕ) → r.inside ≡ false → 0 < length bytes → stretched k r array bytes ≡ stretched k (reader_of outside) array bytes
  outer r [] out some = absurd (omega arith)
  outer r (b ∷ bs) out some = ap (λ p. heard_as k (read k p b) array bs) (place_out r array out)

-- the stretch of a whole command that comes next
pub next_at_once : (n start : ℕ) (bytes array rest : List ℕ) (r : Reader) → r.inside ≡ false → start ≡ before_start bytes → rest ≡ drop start bytes → Leads n rest
    → length array ≡ 256 → (array' : List ℕ) (reader : Reader) → array' ≡ sets array 0 (take (n + 9 - 1) (drop 1 rest)) → reader ≡ reader_of outside
    → record { stretch = record { reader = reader; heard = Whole (get_or rest 2 0) (get_or rest 3 0) n; taken = start + n + 10 }; array = array' } ≡ stretched ToDevice r array bytes
next_at_once n start bytes array rest r out es er lead size array' reader ea ef =
    let some : 0 < length bytes = omega (arith, lead.room, ap length er, length-drop start bytes) in
    let sums : start + (n + 10) ≡ start + n + 10 = omega arith in
    sym (
    outer ToDevice array r bytes out some ∙ skip ToDevice array bytes
    ∙ ap (λ j. further j (stretched ToDevice (reader_of outside) array (drop j bytes))) (sym es)
    ∙ ap (λ z. further start (stretched ToDevice (reader_of outside) array z)) (sym er)
    ∙ ap (further start) (at_once n rest array lead size)
    ∙ (λ i. record { stretch = record { reader = sym ef i; heard = Whole (get_or rest 2 0) (get_or rest 3 0) n; taken = sums i }; array = sym ea i }))
