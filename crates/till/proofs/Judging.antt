-- A byte to a command that waits: what the code judges of it is what it means, and what each verdict says is its turn.
use mathlib.Core.Path.{◌≡◌, refl, sym, ap, subst, ◌∙◌}
use mathlib.Core.Bool.{Bool, true, false, cond, ◌&&◌, false≢true}
use mathlib.Core.List.{List, ◌++◌}
use Prim.Native.Nat.{ℕ, ◌+◌, ◌≤◌}
use native.Mathlib.Omega.{arith}
use lib.Dec.{eqb}
use lib.ListN.{length, take, drop}
use lib.Seq.{sets}
use borrow.Author.Tests.{eqb-true, ne_eqb}
use Rattle.wire.specs.Frame.{Message}
use Rattle.wire.specs.declared.Way.TheVariants.{ToTill}
use Rattle.reader.specs.Reading.{Place, outside, inside, Event, nothing, broken_frame, heard, read}
use Rattle.reader.specs.Fields.{place_of, kept_in, heard_of, taken_of}
use Rattle.reader.specs.declared.Reader.{Reader}
use Rattle.reader.specs.declared.Taken.{Taken}
use Rattle.till.specs.Turns.{Ear, ear_after, Turn, Meaning, failed, goes_on, answers, nak_outside, read_as, byte_means, on_meaning}
use Rattle.till.specs.Fields.{ear_in, held_in}
use Rattle.till.specs.Private.{spoken, failed_by, heard_by, judged}
use Rattle.till.specs.declared.Attempt.{Attempt}
use Rattle.till.specs.declared.Said.{Said}
use Rattle.std.proofs.Common.{None}
use Rattle.till.specs.declared.Verdict.{Verdict}
use Rattle.till.specs.declared.Verdict.TheVariants.{Fails, GoesOn, Answers}
use Rattle.till.specs.declared.Word.TheVariants.{Answered}
use Rattle.till.proofs.Hearing.{broken_outside, heard_from}
use Rattle.till.proofs.Turning.{fails_keeps, stands, answered}

nak_is : (r : Reader) (answer : List ℕ) (b : ℕ) → cond r.inside false (eqb b 0x15) ≡ nak_outside (place_of r answer) b
nak_is r answer b = go r.inside
  where
    go : (within : Bool) → cond within false (eqb b 0x15) ≡ nak_outside (cond within (inside r.sum (take r.count answer)) outside) b
    go true = refl
    go false = refl

-- NAK outside an answer leaves reading where it stands
nak_leaves : (p : Place) (b : ℕ) → nak_outside p b ≡ true → (read ToTill p b).place ≡ outside
nak_leaves outside b e = rw (ne_eqb b 0x01 (λ one. omega (arith, eqb-true b 0x15 e)))
nak_leaves (inside sum bytes) b e = absurd (false≢true e)

abbrev pub verdict_of : Meaning → Verdict
verdict_of failed = Fails
verdict_of (goes_on ear) = GoesOn
verdict_of (answers m) = Answers (length m.content)

-- a whole answer to the command that waits
pub record Answering (means : Meaning) (e : Event) (n : ℕ) : Type 0 where
  pub message : Message
  pub is : means ≡ answers message
  pub event : e ≡ heard message
  pub size : length message.content ≡ n

module _ (next : ℕ) (a : Attempt) (frame answer : List ℕ) (b : ℕ) where
  abbrev at : Place
  at = place_of a.ear.reader answer

  abbrev after : Ear
  after = ear_after (ear_in a.ear answer) b

  abbrev means : Meaning
  means = byte_means a.seq a.code (ear_in a.ear answer) b

  abbrev means_by : Bool → Event → Meaning
  means_by nak e = cond nak failed (read_as a.seq a.code b after e)

  abbrev turn : Meaning → Turn
  turn m = on_meaning next a.seq a.code (take a.count frame) a.tries m

  judged-by : (nak : Bool) (e : Event) → judged nak a.seq a.code b (heard_of e) ≡ verdict_of (means_by nak e)
  judged-by true e = refl
  judged-by false nothing = refl
  judged-by false broken_frame = go (eqb b 0x01)
    where
      go : (s : Bool) → cond s GoesOn Fails ≡ verdict_of (cond s (goes_on after) failed)
      go true = refl
      go false = refl
  judged-by false (heard m) = go (eqb m.seq a.seq && eqb m.code a.code)
    where
      go : (s : Bool) → cond s (Answers (length m.content)) Fails ≡ verdict_of (cond s (answers m) failed)
      go true = refl
      go false = refl

  pub judged_is : (nak : Bool) (t : Taken) (v w : Verdict) → nak ≡ cond a.ear.reader.inside false (eqb b 0x15) → t ≡ taken_of (read ToTill at b)
      → v ≡ judged nak a.seq a.code b t.heard → v ≡ w → verdict_of means ≡ w
  judged_is nak t v w n e h is = sym (
      h ∙ ap (λ s. judged s a.seq a.code b t.heard) (n ∙ nak_is a.ear.reader answer b)
      ∙ ap (λ (z : Taken). judged (nak_outside at b) a.seq a.code b z.heard) e
      ∙ judged-by (nak_outside at b) (read ToTill at b).event)
      ∙ is

  -- a failed try: reading is outside
  fails-is : verdict_of means ≡ Fails → (means ≡ failed) × ((read ToTill at b).place ≡ outside)
  fails-is = go (nak_outside at b) refl (read ToTill at b).event refl
    where
      go : (s : Bool) → nak_outside at b ≡ s → (e : Event) → (read ToTill at b).event ≡ e → verdict_of (means_by s e) ≡ Fails
          → (means_by s e ≡ failed) × ((read ToTill at b).place ≡ outside)
      go true n e h v = (refl, nak_leaves at b n)
      go false n nothing h v = let z : ◌≡◌ {A = ℕ} 0 1 = cc in absurd (omega arith)
      go false n broken_frame h v = by (eqb b 0x01) refl v
        where
          by : (s : Bool) → eqb b 0x01 ≡ s → verdict_of (cond s (goes_on after) failed) ≡ Fails
              → (cond s (goes_on after) failed ≡ failed) × ((read ToTill at b).place ≡ outside)
          by true es w = let z : ◌≡◌ {A = ℕ} 0 1 = cc in absurd (omega arith)
          by false es w = (refl, broken_outside ToTill at b es h)
      go false n (heard m) h v = by (eqb m.seq a.seq && eqb m.code a.code) v
        where
          by : (s : Bool) → verdict_of (cond s (answers m) failed) ≡ Fails → (cond s (answers m) failed ≡ failed) × ((read ToTill at b).place ≡ outside)
          by true w = let z : ◌≡◌ {A = ℕ} 0 1 = cc in absurd (omega arith)
          by false w = (refl, (heard_from ToTill at b m h).left)

  -- a whole answer
  answers-is : (n : ℕ) → verdict_of means ≡ Answers n → Answering means (read ToTill at b).event n
  answers-is n = go (nak_outside at b) (read ToTill at b).event
    where
      go : (s : Bool) (e : Event) → verdict_of (means_by s e) ≡ Answers n → Answering (means_by s e) e n
      go true e v = let z : ◌≡◌ {A = ℕ} 0 1 = cc in absurd (omega arith)
      go false nothing v = let z : ◌≡◌ {A = ℕ} 0 1 = cc in absurd (omega arith)
      go false broken_frame v = by (eqb b 0x01) v
        where
          by : (s : Bool) → verdict_of (cond s (goes_on after) failed) ≡ Answers n → Answering (cond s (goes_on after) failed) broken_frame n
          by true w = let z : ◌≡◌ {A = ℕ} 0 1 = cc in absurd (omega arith)
          by false w = let z : ◌≡◌ {A = ℕ} 0 1 = cc in absurd (omega arith)
      go false (heard m) v = by (eqb m.seq a.seq && eqb m.code a.code) v
        where
          by : (s : Bool) → verdict_of (cond s (answers m) failed) ≡ Answers n → Answering (cond s (answers m) failed) (heard m) n
          by true w = record { message = m; is = refl; event = refl; size = cc }
          by false w = let z : ◌≡◌ {A = ℕ} 0 1 = cc in absurd (omega arith)

  -- what is said and what stays, from the meaning; the array is the answer's behind the byte
  module _ (array : List ℕ) (kept : array ≡ kept_in answer (read ToTill at b).place) where
    same : (m : Message) → (read ToTill at b).event ≡ heard m → array ≡ answer
    same m e = kept ∙ ap (kept_in answer) (heard_from ToTill at b m e).left

    pub answer_room : (n : ℕ) → verdict_of means ≡ Answers n → n + 10 ≤ length array
    answer_room n v =
        let w = answers-is n v in
        omega (arith, ap length (same w.message w.event), w.size, (stands a.ear.reader answer b w.message w.event).room)

    module _ (r : Said) (buf buf' : List ℕ) where
      abbrev Turned : Turn → Type 0
      Turned x = (r ≡ spoken x) × ((array ≡ held_in answer x.state.pending) × (buf' ≡ sets buf 0 x.puts))

      pub says_failed : verdict_of means ≡ Fails → r ≡ spoken (failed_by next a frame) → buf' ≡ sets buf 0 (failed_by next a frame).puts
          → Turned (heard_by next a frame answer b)
      says_failed v p q =
          let f = fails-is v in
          subst (λ m. Turned (turn m)) (sym f.0) (p, (kept ∙ ap (kept_in answer) f.1 ∙ fails_keeps next a frame answer, q))

      pub says_answer : (n : ℕ) → verdict_of means ≡ Answers n → r ≡ record { till = record { next = next; slot = None }; word = Answered (n + 6) }
          → buf' ≡ sets buf 0 (take n (drop 3 array) ++ take 6 (drop (4 + n) array)) → Turned (heard_by next a frame answer b)
      says_answer n v p q =
          let w = answers-is n v in
          let as-was = same w.message w.event in
          let whole = stands a.ear.reader answer b w.message w.event in
          let put = answered next answer w.message whole n w.size r buf buf' p (q ∙ ap (λ z. sets buf 0 (take n (drop 3 z) ++ take 6 (drop (4 + n) z))) as-was) in
          subst (λ m. Turned (turn m)) (sym w.is) (put.0, (as-was, put.1))
