-- An answer's frame, heard from any place of reading by a till end that waits for it, is Answered with its last byte.
use Rattle.std.proofs.lemmas.Bool.{and_parts}
use mathlib.Core.Path.{◌≡◌, refl, sym, ap, ◌∙◌, subst}
use mathlib.Core.Bool.{true, false, cond, false≢true}
use mathlib.Core.List.{List, [], ◌∷◌, ◌++◌}
use Prim.Native.Nat.{ℕ, zero, suc, ◌+◌, ◌-◌, ◌/◌}
use native.Mathlib.Omega.{arith}
use lib.ListN.{length, replicate, length-append}
use borrow.Author.Tests.{ne_eqb}
use Rattle.wire.specs.Bytes.{may_stand, every}
use Rattle.wire.specs.Frame.{Message, total, bcc, counted, inner, frame, sendable, hexadecimal}
use Rattle.wire.specs.declared.Way.TheVariants.{ToTill}
use Rattle.wire.specs.declared.Role.{Role}
use Rattle.wire.specs.declared.Role.TheVariants.{Name as SeqOrCmd, Data, Status}
use Rattle.wire.proofs.Building.{length-enclosed}
use Rattle.reader.specs.Reading.{Place, outside, inside, nothing, heard, read, Run, run, starts_anew}
use Rattle.reader.proofs.Walking.{run_first}
use Rattle.reader.proofs.Steps.{read_start}
use Rattle.reader.proofs.RoundTrip.{Parts, parts, read_what_was_built}
use Rattle.till.specs.Turns.{Ear, ear_after, Pending, idle, waits, State, byte, Turn, stays, gives, failed, read_as, nak_outside, on_meaning}
use Rattle.attempts.specs.History.{says, behind, history, heard_bytes, words, puts_of}
use Rattle.till.specs.declared.Word.TheVariants.{Waiting, Answered}
use Rattle.attempts.proofs.Answers.{heard_answers}

-- no byte of an answer's frame is NAK
abbrev No-nak : List ℕ → Type 0
No-nak [] = Unit {0}
No-nak (b ∷ bs) = (b ≡ 0x15 → ⊥) × No-nak bs

no_nak_join : (xs ys : List ℕ) → No-nak xs → No-nak ys → No-nak (xs ++ ys)
no_nak_join [] ys p q = q
no_nak_join (x ∷ xs) ys p q = (p.0, no_nak_join xs ys p.1 q)

no_nak_stands : (sort : Role) (b : ℕ) → may_stand sort b ≡ true → b ≡ 0x15 → ⊥
no_nak_stands SeqOrCmd b e q = false≢true (ap (may_stand SeqOrCmd) (sym q) ∙ e)
no_nak_stands Data b e q = false≢true (ap (may_stand Data) (sym q) ∙ e)
no_nak_stands Status b e q = false≢true (ap (may_stand Status) (sym q) ∙ e)

no_nak_every : (sort : Role) (bs : List ℕ) → every (may_stand sort) bs ≡ true → No-nak bs
no_nak_every sort [] e = tt
no_nak_every sort (b ∷ bs) e =
    let two = and_parts (may_stand sort b) (every (may_stand sort) bs) e in
    (no_nak_stands sort b two.0, no_nak_every sort bs two.1)

hex_no_nak : (n : ℕ) → hexadecimal n ≡ 0x15 → ⊥
hex_no_nak n e = omega arith

no_nak_bcc : (sum : ℕ) → No-nak (bcc sum)
no_nak_bcc sum = (hex_no_nak (sum / 4096), (hex_no_nak (sum / 256), (hex_no_nak (sum / 16), (hex_no_nak sum, tt))))

no_nak_counted : (m : Message) → Parts ToTill m → No-nak (counted m.seq m.code (inner ToTill m))
no_nak_counted m h = (
  (λ e. omega arith),
  (
    no_nak_stands SeqOrCmd m.seq h.seq,
    (
      no_nak_stands SeqOrCmd m.code h.code,
      no_nak_join (inner ToTill m) (0x05 ∷ [])
          (no_nak_join m.content (0x04 ∷ m.status) (no_nak_every Data m.content h.content) ((λ e. omega arith), no_nak_every Status m.status h.status))
          ((λ e. omega arith), tt),
    ),
  ),
)

-- all behind 01h
abbrev rest : Message → List ℕ
rest m = counted m.seq m.code (inner ToTill m) ++ bcc (total (counted m.seq m.code (inner ToTill m))) ++ 0x03 ∷ []

no_nak_rest : (m : Message) → Parts ToTill m → No-nak (rest m)
no_nak_rest m h =
    no_nak_join (counted m.seq m.code (inner ToTill m) ++ bcc (total (counted m.seq m.code (inner ToTill m)))) (0x03 ∷ [])
    (no_nak_join (counted m.seq m.code (inner ToTill m)) (bcc (total (counted m.seq m.code (inner ToTill m)))) (no_nak_counted m h) (no_nak_bcc (total (counted m.seq m.code (inner ToTill m)))))
    ((λ e. omega arith), tt)

-- a byte that brings nothing
no_nak_place : (p : Place) (b : ℕ) → (b ≡ 0x15 → ⊥) → nak_outside p b ≡ false
no_nak_place outside b h = ne_eqb b 0x15 h
no_nak_place (inside sum bytes) b h = refl

module _ (next seq code : ℕ) (bytes : List ℕ) (tries : ℕ) where
  abbrev at : Ear → State
  at ear = record { next = next; pending = waits seq code bytes tries ear }

  abbrev done : State
  done = record { next = next; pending = idle }

  goes : (ear : Ear) (b : ℕ) → (b ≡ 0x15 → ⊥) → (read ToTill ear.place b).event ≡ nothing
      → says (at ear) (record { size = 210; happens = byte b }) ≡ stays (Waiting 0) (at (ear_after ear b))
  goes ear b h e =
      ap (λ n. on_meaning next seq code bytes tries (cond n failed (read_as seq code b (ear_after ear b) (read ToTill ear.place b).event))) (no_nak_place ear.place b h)
      ∙ ap (λ z. on_meaning next seq code bytes tries (read_as seq code b (ear_after ear b) z)) e

  -- 01h, wherever reading stands
  starts : (ear : Ear) → says (at ear) (record { size = 210; happens = byte 0x01 }) ≡ stays (Waiting 0) (at (ear_after ear 0x01))
  starts ear = go ear.place
    where
      go : (p : Place) → on_meaning next seq code bytes tries (cond (nak_outside p 0x01) failed (read_as seq code 0x01 (ear_after ear 0x01) (starts_anew p)))
          ≡ stays (Waiting 0) (at (ear_after ear 0x01))
      go outside = refl
      go (inside sum []) = refl
      go (inside sum (b ∷ since)) = refl

  -- a run of bytes, heard
  abbrev Heard : State → List ℕ → ℕ → Message → Type 0
  Heard s bs n m =
      (words (history s (heard_bytes bs)) ≡ replicate n (Waiting 0) ++ Answered (length (m.content ++ m.status)) ∷ [])
      × ((puts_of (history s (heard_bytes bs)) ≡ replicate n [] ++ (m.content ++ m.status) ∷ []) × (behind s (heard_bytes bs) ≡ done))

  one_more_lem : (s t : State) (b : ℕ) (bs : List ℕ) (n : ℕ) (m : Message) → says s (record { size = 210; happens = byte b }) ≡ stays (Waiting 0) t
      → Heard t bs n m → Heard s (b ∷ bs) (suc n) m
  one_more_lem s t b bs n m e h = (
    ap (λ (z : Turn). z.word ∷ words (history z.state (heard_bytes bs))) e ∙ ap (λ z. Waiting 0 ∷ z) h.0,
    (
      ap (λ (z : Turn). z.puts ∷ puts_of (history z.state (heard_bytes bs))) e ∙ ap (λ z. [] ∷ z) h.1.0,
      ap (λ (z : Turn). behind z.state (heard_bytes bs)) e ∙ h.1.1,
    ),
  )

  the_last : (ear : Ear) (b : ℕ) (m : Message) → m.seq ≡ seq → m.code ≡ code → (read ToTill ear.place b).event ≡ heard m → Heard (at ear) (b ∷ []) 0 m
  the_last ear b m es ec e =
      let turn : says (at ear) (record { size = 210; happens = byte b }) ≡ gives Answered (m.content ++ m.status) done =
      ap (on_meaning next seq code bytes tries) (heard_answers seq code ear b m (record { hears = e; seq_is = es; code_is = ec })) in
      (ap (λ (z : Turn). z.word ∷ []) turn, (ap (λ (z : Turn). z.puts ∷ []) turn, ap (λ (z : Turn). z.state) turn))

  walk : (bs : List ℕ) (ear : Ear) (n : ℕ) (m : Message) → m.seq ≡ seq → m.code ≡ code → No-nak bs
      → (run ToTill ear.place bs).events ≡ replicate n nothing ++ heard m ∷ [] → Heard (at ear) bs n m
  walk [] ear n m es ec h e = absurd (omega (arith, ap length e, length-append (replicate n nothing) (heard m ∷ [])))
  walk (b ∷ []) ear zero m es ec h e = the_last ear b m es ec (cc)
  walk (b ∷ c ∷ bs) ear zero m es ec h e = let z : ◌≡◌ {A = ℕ} 0 1 = cc in absurd (omega arith)
  walk (b ∷ bs) ear (suc n) m es ec h e =
      let first : (read ToTill ear.place b).event ≡ nothing = cc in
      let others : (run ToTill (ear_after ear b).place bs).events ≡ replicate n nothing ++ heard m ∷ [] = cc in
      one_more_lem (at ear) (at (ear_after ear b)) b bs n m (goes ear b h.0 first) (walk bs (ear_after ear b) n m es ec h.1 others)

  whole : (ear : Ear) (m : Message) → sendable ToTill m ≡ true → m.seq ≡ seq → m.code ≡ code → Heard (at ear) (frame ToTill m) (suc (length (inner ToTill m) + 8)) m
  whole ear m can es ec =
      let events : starts_anew ear.place ∷ (run ToTill (inside 0 []) (rest m)).events ≡ starts_anew ear.place ∷ (replicate (length (inner ToTill m) + 8) nothing ++ heard m ∷ []) =
      ap (λ (r : Run). r.events) (sym (run_first ToTill ear.place 0x01 (rest m) _ (read_start ToTill ear.place 0x01 refl)) ∙ read_what_was_built ToTill m can ear.place) in
      one_more_lem (at ear) (at (ear_after ear 0x01)) 0x01 (rest m) (length (inner ToTill m) + 8) m (starts ear)
      (walk (rest m) (ear_after ear 0x01) (length (inner ToTill m) + 8) m es ec (no_nak_rest m (parts ToTill m can)) (cc))

-- the theorem
pub answer_heard : (s : State) (seq code : ℕ) (bytes : List ℕ) (tries : ℕ) (ear : Ear) → s.pending ≡ waits seq code bytes tries ear
    → (m : Message) → sendable ToTill m ≡ true → m.seq ≡ seq → m.code ≡ code
    → (words (history s (heard_bytes (frame ToTill m))) ≡ replicate (length (frame ToTill m) - 1) (Waiting 0) ++ Answered (length (m.content ++ m.status)) ∷ [])
    × ((puts_of (history s (heard_bytes (frame ToTill m))) ≡ replicate (length (frame ToTill m) - 1) [] ++ (m.content ++ m.status) ∷ [])
    × (behind s (heard_bytes (frame ToTill m)) ≡ record { next = s.next; pending = idle }))
answer_heard s seq code bytes tries ear e m can es ec =
    let size : suc (length (inner ToTill m) + 8) ≡ length (frame ToTill m) - 1 = omega (arith, length-enclosed m.seq m.code (inner ToTill m)) in
    subst (λ (p : Pending). Heard s.next seq code bytes tries (record { next = s.next; pending = p }) (frame ToTill m) (length (frame ToTill m) - 1) m) (sym e)
    (subst (λ n. Heard s.next seq code bytes tries (record { next = s.next; pending = waits seq code bytes tries ear }) (frame ToTill m) n m) size
    (whole s.next seq code bytes tries ear m can es ec))
