-- Laws of a command carried out: the answer's data put in its place, the frame around it, and what the books did as the device's work.
use Rattle.std.specs.Prelude.{Option}
use mathlib.Core.Path.{◌≡◌, refl, sym, ap, ◌∙◌}
use mathlib.Core.Bool.{Bool, cond}
use mathlib.Core.List.{List, ◌∷◌, ◌++◌}
use Prim.Native.Nat.{ℕ, ◌+◌, ◌≤◌, ◌<◌}
use native.Mathlib.Omega.{arith}
use lib.ListN.{length, take, drop, length-append, length-drop}
use lib.Seq.{sets, length-sets, length-take-le}
use borrow.Author.Tests.{lt-ltb, le-ltb}
use Rattle.std.proofs.Common.{Result, Ok, Err}
use Rattle.wire.specs.Frame.{answer_of, frame}
use Rattle.wire.specs.Replies.{reply_of, sealing}
use Rattle.wire.specs.declared.Unbuilt.{Unbuilt}
use Rattle.wire.specs.declared.Unbuilt.TheVariants.{Short, Unsendable}
use Rattle.wire.specs.declared.Way.TheVariants.{ToTill}
use Rattle.wire.proofs.Building.{length-enclosed, around, seal_done}
use Rattle.kinds.specs.Fields.{Parsed}
use Rattle.sheet.specs.declared.Note.TheVariants.{Nothing}
use Rattle.books.specs.declared.Books.{Books}
use Rattle.deeds.specs.declared.Deed.{Deed}
use Rattle.carrying.specs.Carrying.{deed_for, answer_bytes}
use Rattle.carrying.specs.Work.{Worked, work_done, worked, size_of}

reply_count : (b : Result ℕ Unbuilt) (l : List ℕ) → (reply_of b l).count ≡ size_of b
reply_count (Ok n) l = refl
reply_count (Err Short) l = refl
reply_count (Err Unsendable) l = refl

reply_buffer : (b : Result ℕ Unbuilt) (l : List ℕ) → (reply_of b l).buffer ≡ l
reply_buffer (Ok n) l = refl
reply_buffer (Err Short) l = refl
reply_buffer (Err Unsendable) l = refl

-- data put in its place, then the frame around it
module _ (l content status made : List ℕ) (seq code n : ℕ) (b1 b2 : List ℕ) (b : Result ℕ Unbuilt) (room : 217 ≤ length l) (few : length content ≤ 200) (six : length status ≡ 6)
    (en : n ≡ length content) (e1 : b1 ≡ sets l 4 content) (es : made ≡ status) (em : reply_of b b2 ≡ sealing b1 seq code n made) where
  abbrev answer : List ℕ
  answer = frame ToTill (answer_of seq code content status)

  eb : reply_of b b2 ≡ sealing b1 seq code n status
  eb = em ∙ ap (sealing b1 seq code n) es

  long : length b1 ≡ length l
  long = ap length e1 ∙ length-sets l 4 content

  sealed : sealing b1 seq code n status
      ≡ record { number = 0; count = length (frame ToTill (answer_of seq code (take n (drop 4 b1)) status)); buffer = sets b1 0 (frame ToTill (answer_of seq code (take n (drop 4 b1)) status)) }
  sealed = seal_done b1 seq code n status (omega (arith, long)) (omega (arith, en))

  stands : length (take n (drop 4 b1)) ≡ n
  stands = length-take-le n (drop 4 b1) (omega (arith, length-drop 4 b1, long, en))

  answer-size : length answer ≡ length content + 17
  answer-size = length-enclosed seq code (content ++ 0x04 ∷ status) ∙ omega (arith, length-append content (0x04 ∷ status), six)

  made-size : length (frame ToTill (answer_of seq code (take n (drop 4 b1)) status)) ≡ n + 17
  made-size = length-enclosed seq code (take n (drop 4 b1) ++ 0x04 ∷ status) ∙ omega (arith, length-append (take n (drop 4 b1)) (0x04 ∷ status), six, stands)

  pub seal_size : (size_of b ≡ length answer) × (size_of b ≤ 217)
  seal_size =
      let size : size_of b ≡ length answer = sym (reply_count b b2) ∙ ap (λ r. r.count) (eb ∙ sealed) ∙ omega (arith, made-size, answer-size, en) in
      (size, omega (arith, size, answer-size))

  pub seal_bytes : b2 ≡ sets l 0 answer
  seal_bytes =
      around l content seq code (λ z. z ++ 0x04 ∷ status) (omega (arith, length-append content (0x04 ∷ status))) (omega (arith, length-append content (0x04 ∷ status), six)) b1 b2 e1
      (sym (reply_buffer b b2) ∙ ap (λ r. r.buffer) (eb ∙ sealed) ∙ ap (λ k. sets b1 0 (frame ToTill (answer_of seq code (take k (drop 4 b1)) status))) en)

-- a deed as work
pub work_is : (b : Books) (seq code : ℕ) (d : Deed) (size : ℕ) (l b2 : List ℕ) → size ≡ length (answer_bytes b seq code d) → b2 ≡ sets l 0 (answer_bytes b seq code d)
    → record { work = record { number = d.number; books = d.books; count = size; note = d.note }; buffer = b2 } ≡ work_done b seq code d l
work_is b seq code d size l b2 es e2 =
    λ i. record { work = record { number = d.number; books = d.books; count = es i; note = d.note }; buffer = e2 i }

-- with the buffer's length known
module _ (b : Books) (m : Option ℕ) (seq code : ℕ) (passes : Bool) (p : Parsed) (l : List ℕ) where
  abbrev short : Worked
  short = record { work = record { number = 7; books = b; count = 0; note = Nothing }; buffer = l }

  pub worked_short : length l < 217 → short ≡ worked b m seq code passes p l
  worked_short h = sym (ap (λ z. cond z short (work_done b seq code (deed_for b m passes p) l)) (lt-ltb (length l) 217 h))

  pub worked_long : 217 ≤ length l → work_done b seq code (deed_for b m passes p) l ≡ worked b m seq code passes p l
  worked_long h = sym (ap (λ z. cond z short (work_done b seq code (deed_for b m passes p) l)) (le-ltb (length l) 217 h))
