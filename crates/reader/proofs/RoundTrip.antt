-- Read what was built: the frame of whatever can be sent, read from any place, is heard as exactly that.
use Rattle.std.proofs.lemmas.Bool.{and_parts}
use mathlib.Core.Path.{◌≡◌, refl, sym, ap, ◌∙◌}
use mathlib.Core.Bool.{Bool, true, ◌&&◌}
use mathlib.Core.List.{List, [], ◌∷◌, ◌++◌, append_assoc, append-nil}
use Prim.Native.Nat.{ℕ, suc, ◌+◌, ◌/◌, ◌%◌, ◌≤◌}
use native.Mathlib.Omega.{arith}
use lib.Dec.{leb, eqb}
use lib.ListN.{length, get_or, take, drop, replicate, length-append, length-replicate, replicate-append-replicate}
use lib.Seq.{get_or-append-add, take_at, drop_at}
use borrow.Author.Tests.{eq-eqb, eqb-true, leb-true, le-leb}
use Rattle.wire.specs.Bytes.{may_stand, every}
use Rattle.wire.specs.Frame.{Message, total, bcc, hexadecimal, inner, counted, frame, statuses, carriable, sendable}
use Rattle.wire.specs.Places.{is, none, behind_data, shortest, longest, front, ending, data_count}
use Rattle.wire.specs.Replies.{room}
use Rattle.wire.specs.declared.Way.{Way}
use Rattle.wire.specs.declared.Way.TheVariants.{ToDevice, ToTill}
use Rattle.wire.specs.declared.Role.TheVariants.{Name, Data, Status}
use Rattle.text.proofs.Laws.{empty}
use Rattle.wire.proofs.Suits.{length_front, behind_small}
use Rattle.wire.proofs.Building.{bcc_mod, length-enclosed}
use Rattle.reader.specs.Reading.{Place, outside, inside, nothing, heard, read, starts_anew, message, Run, run}
use Rattle.reader.proofs.Steps.{read_start, read_other_lem, reads_whole, len_more}
use Rattle.reader.proofs.Passing.{Pass, done, more, pass_join, pass_every}
use Rattle.reader.proofs.Walking.{sum_on, sum_total, run_first, quiet, quiet_then, walk_front, walk_ending}

-- what "can be sent" says, part by part
pub record Parts (k : Way) (m : Message) : Type 0 where
  pub seq : may_stand Name m.seq ≡ true
  pub code : may_stand Name m.code ≡ true
  pub few : length m.content ≤ 200
  pub content : every (may_stand Data) m.content ≡ true
  pub size : length m.status ≡ statuses k
  pub status : every (may_stand Status) m.status ≡ true

pub parts : (k : Way) (m : Message) → sendable k m ≡ true → Parts k m
parts k m e =
    let whole = and_parts (carriable m.seq m.code m.content && eqb (length m.status) (statuses k)) (every (may_stand Status) m.status) e in
    let state = and_parts (carriable m.seq m.code m.content) (eqb (length m.status) (statuses k)) whole.0 in
    let bytes = and_parts (may_stand Name m.seq && may_stand Name m.code && leb (length m.content) 200) (every (may_stand Data) m.content) state.0 in
    let count = and_parts (may_stand Name m.seq && may_stand Name m.code) (leb (length m.content) 200) bytes.0 in
    let marks = and_parts (may_stand Name m.seq) (may_stand Name m.code) count.0 in
    record {
      seq = marks.0;
      code = marks.1;
      few = leb-true (length m.content) 200 count.1;
      content = bytes.1;
      size = eqb-true (length m.status) (statuses k) state.1;
      status = whole.1;
    }

pub sendable_parts : (k : Way) (m : Message) → Parts k m → sendable k m ≡ true
sendable_parts k m h =
    rw (h.seq, h.code, le-leb (length m.content) 200 h.few, h.content, eq-eqb (length m.status) (statuses k) h.size, h.status)

-- the bytes between CMD and 05h pass their tests
pass_behind : (k : Way) (m : Message) → Parts k m → Pass (replicate (length m.content) (may_stand Data) ++ behind_data k) (inner k m)
pass_behind ToDevice m h = rw append-nil (pass_every (may_stand Data) m.content h.content)
pass_behind ToTill m h =
    pass_join (pass_every (may_stand Data) m.content h.content) (sym (length-replicate (length m.content) (may_stand Data)))
    (more refl (rw h.size at (pass_every (may_stand Status) m.status h.status)))

pub length-inner : (k : Way) (m : Message) → Parts k m → length (inner k m) ≡ length m.content + length (behind_data k)
length-inner ToDevice m h = omega arith
length-inner ToTill m h = omega (arith, length-append m.content (0x04 ∷ m.status), h.size)

pass_front : (k : Way) (m : Message) → Parts k m → Pass (front k (length m.content)) (m.seq ∷ m.code ∷ inner k m ++ 0x05 ∷ [])
pass_front k m h =
    let size : length (inner k m) ≡ length (replicate (length m.content) (may_stand Data) ++ behind_data k) =
    length-inner k m h ∙ sym (length-append (replicate (length m.content) (may_stand Data)) (behind_data k) ∙ ap (λ n. n + length (behind_data k)) (length-replicate (length m.content) (may_stand Data))) in
    more h.seq (more h.code (pass_join (pass_behind k m h) size (more {t = is 0x05} refl done)))

-- the bytes from LEN on say the message that they were made of, whatever stands behind them
content_back : (k : Way) (m : Message) (rest : List ℕ) → take (length m.content) ((inner k m ++ 0x05 ∷ []) ++ rest) ≡ m.content
content_back ToDevice m rest = rw append_assoc (take_at m.content (0x05 ∷ rest) (length m.content) refl)
content_back ToTill m rest =
    rw (append_assoc, append_assoc) (take_at m.content (0x04 ∷ (m.status ++ 0x05 ∷ rest)) (length m.content) refl)

status_back : (k : Way) (m : Message) (rest : List ℕ) → Parts k m → take (statuses k) (drop (1 + length m.content) ((inner k m ++ 0x05 ∷ []) ++ rest)) ≡ m.status
status_back ToDevice m rest h = sym (empty m.status h.size)
status_back ToTill m rest h =
    let regroup : (((m.content ++ 0x04 ∷ m.status) ++ 0x05 ∷ []) ++ rest) ≡ (m.content ++ 0x04 ∷ []) ++ (m.status ++ 0x05 ∷ rest) = simp append_assoc in
    let front : length (m.content ++ 0x04 ∷ []) ≡ 1 + length m.content = length-append m.content (0x04 ∷ []) ∙ omega arith in
    ap (λ z. take 6 (drop (1 + length m.content) z)) regroup
    ∙ ap (take 6) (drop_at (m.content ++ 0x04 ∷ []) (m.status ++ 0x05 ∷ rest) (1 + length m.content) front)
    ∙ take_at m.status (0x05 ∷ rest) 6 h.size

same : (n : ℕ) → is n n ≡ true
same n = eq-eqb n n refl

pass_quad : (s : ℕ) → Pass (ending s) (bcc s)
pass_quad s = more (same (hexadecimal (s / 4096))) (more (same (hexadecimal (s / 256))) (more (same (hexadecimal (s / 16))) (more (same (hexadecimal s)) done)))

module _ (k : Way) (m : Message) (h : Parts k m) where
  abbrev pub len : ℕ
  len = length (inner k m) + 4 + 0x20

  abbrev pub body : List ℕ
  body = m.seq ∷ m.code ∷ inner k m ++ 0x05 ∷ []

  abbrev pub quad : List ℕ
  quad = bcc (total (counted m.seq m.code (inner k m)))

  announced : data_count k len ≡ length m.content
  announced = omega (arith, length-inner k m h)

  pub message_back : (rest : List ℕ) → message k (len ∷ (body ++ rest)) ≡ m
  message_back rest =
      let bytes : List ℕ = len ∷ (body ++ rest) in
      let behind : 4 + data_count k len ≡ suc (suc (suc (1 + length m.content))) = omega (arith, announced) in
      let content : take (data_count k len) ((inner k m ++ 0x05 ∷ []) ++ rest) ≡ m.content =
      ap (λ n. take n ((inner k m ++ 0x05 ∷ []) ++ rest)) announced ∙ content_back k m rest in
      let status : take (statuses k) (drop (4 + data_count k len) bytes) ≡ m.status =
      ap (λ n. take (statuses k) (drop n bytes)) behind ∙ status_back k m rest h in
      λ i. record { seq = m.seq; code = m.code; content = content i; status = status i }

  abbrev pub sum : ℕ
  sum = sum_on len body

  sum_is : sum ≡ total (counted m.seq m.code (inner k m)) % 65536
  sum_is = sum_total len body (omega (arith, length-inner k m h, h.few, behind_small k))

  pub quad_is : bcc sum ≡ quad
  quad_is = ap bcc sum_is ∙ bcc_mod (total (counted m.seq m.code (inner k m)))

  tests-are : front k (data_count k len) ≡ front k (length m.content)
  tests-are = ap (front k) announced

  length-body : length body ≡ length (front k (data_count k len))
  length-body =
      let tests = length_front k (data_count k len) in
      omega (arith, length-append (inner k m) (0x05 ∷ []), length-inner k m h, announced)

  -- SEQ to 05h
  walked-body : run k (inside len (len ∷ [])) body ≡ quiet (inside sum (len ∷ body)) (length body)
  walked-body = walk_front k len (rw (← tests-are) at (pass_front k m h)) [] [] len refl refl

  -- BCC
  walked-quad : run k (inside sum (len ∷ body)) quad ≡ quiet (inside sum (len ∷ (body ++ quad))) 4
  walked-quad = walk_ending k len (rw quad_is at (pass_quad sum)) (front k (data_count k len)) body sum refl (sym length-body) (omega (arith, length-body)) (omega (arith, length-body))

  -- 03h
  pub read_last : read k (inside sum (len ∷ (body ++ quad))) 0x03 ≡ record { place = outside; event = heard m }
  read_last =
      let tests : List (ℕ → Bool) = front k (data_count k len) in
      let at : length (body ++ quad) ≡ length tests + 4 = length-append body quad ∙ ap (λ n. n + 4) length-body in
      let suit : get_or (tests ++ ending sum) (length (body ++ quad)) none 0x03 ≡ true =
      ap (λ n. get_or (tests ++ ending sum) n none 0x03) at ∙ ap (λ (t : ℕ → Bool). t 0x03) (get_or-append-add tests (ending sum) 4 none) in
      read_other_lem k (inside sum (len ∷ (body ++ quad))) 0x03 (λ e. omega arith)
      ∙ reads_whole k sum (len ∷ (body ++ quad)) 0x03 suit (eq-eqb (length (body ++ quad)) (length tests + 4) at)
      ∙ ap (λ z. record { place = outside; event = heard z }) (message_back quad)

  -- LEN
  read-len : read k (inside 0 []) len ≡ record { place = inside len (len ∷ []); event = nothing }
  read-len =
      let size = length-inner k m h in
      read_other_lem k (inside 0 []) len (λ e. omega arith) ∙ len_more k len (omega arith) (omega (arith, h.few))

  -- all between 01h and 03h
  pub walked : run k (inside 0 []) (len ∷ (body ++ quad)) ≡ quiet (inside sum (len ∷ (body ++ quad))) (length (inner k m) + 8)
  walked =
      let size : suc (length body + 4) ≡ length (inner k m) + 8 = omega (arith, length-append (inner k m) (0x05 ∷ [])) in
      run_first k (inside 0 []) len (body ++ quad) _ read-len
      ∙ ap (λ (r : Run). record { place = r.place; events = nothing ∷ r.events })
      (quiet_then k (inside len (len ∷ [])) (inside sum (len ∷ body)) body quad (length body) _ walked-body walked-quad)
      ∙ ap (λ es. record { place = inside sum (len ∷ (body ++ quad)); events = nothing ∷ es }) (replicate-append-replicate (length body) 4 nothing)
      ∙ ap (quiet (inside sum (len ∷ (body ++ quad)))) size

  heard-behind : run k (inside 0 []) (counted m.seq m.code (inner k m) ++ quad ++ 0x03 ∷ [])
      ≡ record { place = outside; events = replicate (length (inner k m) + 8) nothing ++ heard m ∷ [] }
  heard-behind =
      quiet_then k (inside 0 []) (inside sum (len ∷ (body ++ quad))) (len ∷ (body ++ quad)) (0x03 ∷ []) (length (inner k m) + 8) _ walked
      (run_first k (inside sum (len ∷ (body ++ quad))) 0x03 [] _ read_last)

-- the theorem: from any place, the first byte gives what 01h gives there, the others nothing, and the last the whole message
pub read_what_was_built : (k : Way) (m : Message) → sendable k m ≡ true → (p : Place)
    → run k p (frame k m) ≡ record { place = outside; events = starts_anew p ∷ (replicate (length (inner k m) + 8) nothing ++ heard m ∷ []) }
read_what_was_built k m e p =
    run_first k p 0x01 (counted m.seq m.code (inner k m) ++ bcc (total (counted m.seq m.code (inner k m))) ++ 0x03 ∷ []) _ (read_start k p 0x01 refl)
    ∙ ap (λ (r : Run). record { place = r.place; events = starts_anew p ∷ r.events }) (heard-behind k m (parts k m e))

-- "24h to ECh for commands, 2Bh to F3h for answers"
pub len_sizes : (shortest ToDevice ≡ 0x24) × (longest ToDevice ≡ 0xEC) × (shortest ToTill ≡ 0x2B) × (longest ToTill ≡ 0xF3)
len_sizes = (refl, refl, refl, refl)

pub len_range : (k : Way) (m : Message) → sendable k m ≡ true → (shortest k ≤ get_or (frame k m) 1 0) × (get_or (frame k m) 1 0 ≤ longest k)
len_range k m e =
    let h = parts k m e in
    (omega (arith, length-inner k m h), omega (arith, length-inner k m h, h.few))

behind_room : (k : Way) → 210 + length (behind_data k) ≡ room k
behind_room ToDevice = refl
behind_room ToTill = refl

-- a frame has at least 10 bytes, and at most 210 in a command and 217 in an answer
pub frame_size : (k : Way) (m : Message) → sendable k m ≡ true → (10 ≤ length (frame k m)) × (length (frame k m) ≤ room k)
frame_size k m e =
    let h = parts k m e in
    let size = length-enclosed m.seq m.code (inner k m) in
    (omega arith, omega (arith, length-inner k m h, h.few, behind_room k))
