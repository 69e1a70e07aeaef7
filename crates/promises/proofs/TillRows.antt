-- Demand 1 at the till end: a row of the table for every event while at most five tries were made, and no other reply by the table.
use mathlib.Core.Path.{◌≡◌, refl, sym, ap, ◌∙◌, subst}
use mathlib.Core.Bool.{Bool, true, false, cond, not, ◌||◌, false≢true}
use mathlib.Core.List.{List}
use Prim.Native.Nat.{ℕ, ◌≤◌}
use native.Mathlib.Omega.{arith}
use lib.Dec.{ltb}
use lib.ListN.{length}
use borrow.Author.Tests.{ltb-true, ltb-false, lt-ltb, le-ltb}
use Rattle.wire.specs.Frame.{Message, command_of, frame, sendable}
use Rattle.wire.specs.declared.Way.TheVariants.{ToDevice}
use Rattle.till.specs.Turns as till
use Rattle.till.specs.declared.Word.TheVariants.{Idle, Waiting, TooShort, NotSent}
use Rattle.till.proofs.Turning.{fails_by}
use Rattle.promises.specs.AtTill.{FromTill, replies, from_line, is_failed, fails, is_waiting, unsendable, ByTill, row_0_idle, row_0_sent, row_0_byte, row_0_again, row_0_answered, row_7, row_8, row_9}
use Rattle.promises.specs.Ends.{of_till}

-- how often the frame of the command that waits was handed out
abbrev pub tries_of : till.Pending → ℕ
tries_of till.idle = 0
tries_of (till.waits seq code bytes tries ear) = tries

is_failed_lem : (x : till.Meaning) → is_failed x ≡ true → x ≡ till.failed
is_failed_lem till.failed e = refl
is_failed_lem (till.goes_on ear) e = absurd (false≢true e)
is_failed_lem (till.answers m) e = absurd (false≢true e)

module _ (buffer : List ℕ) (room : 210 ≤ length buffer) where
  -- a command that waits
  module _ (next seq code : ℕ) (bytes : List ℕ) (tries : ℕ) (ear : till.Ear) (few : tries ≤ 5) where
    abbrev held : till.State
    held = record { next = next; pending = till.waits seq code bytes tries ear }

    abbrev At : till.Happening → ℕ → Type 0
    At h n = ByTill (record { next = next; pending = till.waits seq code bytes n ear }) buffer h (of_till buffer (fails_by next seq code bytes n false))

    failing : (h : till.Happening) → fails seq code ear h ≡ true → ByTill held buffer h (of_till buffer (till.fails_try next seq code bytes tries))
    failing h f = go (ltb tries 5) refl
      where
        go : (early : Bool) → ltb tries 5 ≡ early → ByTill held buffer h (of_till buffer (fails_by next seq code bytes tries early))
        go true e = row_0_again seq code bytes tries ear room refl f (ltb-true tries 5 e)
        go false e = subst (At h) (omega (arith, few, ltb-false tries 5 e)) (row_9 seq code bytes ear room refl f)

    on-byte : (b : ℕ) (x : till.Meaning) → till.byte_means seq code ear b ≡ x → ByTill held buffer (till.byte b) (of_till buffer (till.on_meaning next seq code bytes tries x))
    on-byte b till.failed e = failing (till.byte b) (ap is_failed e)
    on-byte b (till.goes_on q) e = row_0_byte b seq code bytes tries ear q room refl e
    on-byte b (till.answers m) e = row_0_answered b seq code bytes tries ear m room refl e

  -- a command where none waits
  sending : (next code : ℕ) (content : List ℕ) (can : Bool) → sendable ToDevice (command_of next code content) ≡ can
      → ByTill (record { next = next; pending = till.idle }) buffer (till.command code content)
      (of_till buffer (cond can (till.sent next (command_of next code content)) (till.stays NotSent (record { next = next; pending = till.idle }))))
  sending next code content true e = row_0_sent code content (frame ToDevice (command_of next code content)) room (ap not e) refl
  sending next code content false e = row_8 code content room (ap not e)

  pub taking : (next : ℕ) (p : till.Pending) → tries_of p ≤ 5 → (h : till.Happening)
      → ByTill (record { next = next; pending = p }) buffer h (of_till buffer (till.takes (record { next = next; pending = p }) h))
  taking next till.idle few (till.command code content) = sending next code content (sendable ToDevice (command_of next code content)) refl
  taking next till.idle few (till.byte b) = row_0_idle room refl refl
  taking next till.idle few till.timeout = row_0_idle room refl refl
  taking next (till.waits seq code bytes tries ear) few (till.command other content) = row_8 other content room refl
  taking next (till.waits seq code bytes tries ear) few (till.byte b) = on-byte next seq code bytes tries ear few b (till.byte_means seq code ear b) refl
  taking next (till.waits seq code bytes tries ear) few till.timeout = failing next seq code bytes tries ear few till.timeout refl

pub has_its_row : (s : till.State) (buffer : List ℕ) (h : till.Happening) → tries_of s.pending ≤ 5 → ByTill s buffer h (of_till buffer (till.hears (length buffer) s h))
has_its_row s buffer h few = go (ltb (length buffer) 210) refl
  where
    go : (short : Bool) → ltb (length buffer) 210 ≡ short → ByTill s buffer h (of_till buffer (cond short (till.stays TooShort s) (till.takes s h)))
    go true e = row_7 (ltb-true (length buffer) 210 e)
    go false e = taking buffer (ltb-false (length buffer) 210 e) s.next s.pending few h

-- and no other
module _ (s : till.State) (buffer : List ℕ) where
  abbrev at_length : till.Happening → Bool → FromTill
  at_length h short = of_till buffer (cond short (till.stays TooShort s) (till.takes s h))

  abbrev at_pending : till.Happening → till.Pending → FromTill
  at_pending h p = of_till buffer (till.takes (record { next = s.next; pending = p }) h)

  long : (h : till.Happening) → 210 ≤ length buffer → (p : till.Pending) → s.pending ≡ p → at_length h (ltb (length buffer) 210) ≡ at_pending h p
  long h room p e = ap (at_length h) (le-ltb (length buffer) 210 room) ∙ ap (at_pending h) e

  abbrev at_meaning : ℕ → ℕ → List ℕ → ℕ → till.Meaning → FromTill
  at_meaning seq code bytes tries x = of_till buffer (till.on_meaning s.next seq code bytes tries x)

  failed : (h : till.Happening) (seq code : ℕ) (bytes : List ℕ) (tries : ℕ) (ear : till.Ear) → fails seq code ear h ≡ true
      → at_pending h (till.waits seq code bytes tries ear) ≡ at_meaning seq code bytes tries till.failed
  failed (till.command other content) seq code bytes tries ear f = absurd (false≢true f)
  failed (till.byte b) seq code bytes tries ear f = ap (at_meaning seq code bytes tries) (is_failed_lem (till.byte_means seq code ear b) f)
  failed till.timeout seq code bytes tries ear f = refl

  idling : (h : till.Happening) → 210 ≤ length buffer → s.pending ≡ till.idle → from_line h ≡ true
      → at_length h (ltb (length buffer) 210) ≡ of_till buffer (till.stays Idle s)
  idling (till.command code content) room e f = absurd (false≢true f)
  idling (till.byte b) room e f = ap (at_length (till.byte b)) (le-ltb (length buffer) 210 room) ∙ ap (λ p. of_till buffer (till.on_byte s p b)) e
  idling till.timeout room e f = ap (at_length till.timeout) (le-ltb (length buffer) 210 room) ∙ ap (λ p. of_till buffer (till.on_timeout s p)) e

  -- a command: by whether one waits, and whether it can be sent
  commanding : (code : ℕ) (content : List ℕ) → 210 ≤ length buffer → (unfit : Bool) → unsendable s code content ≡ unfit
      → at_length (till.command code content) (ltb (length buffer) 210)
      ≡ of_till buffer (cond unfit (till.stays NotSent s) (till.sent s.next (command_of s.next code content)))
  commanding code content room unfit e =
      ap (at_length (till.command code content)) (le-ltb (length buffer) 210 room) ∙ go s.pending unfit e
    where
      m : Message
      m = command_of s.next code content

      free : (can unfit : Bool) → not can ≡ unfit
          → of_till buffer (cond can (till.sent s.next m) (till.stays NotSent s)) ≡ of_till buffer (cond unfit (till.stays NotSent s) (till.sent s.next m))
      free true true e = absurd (false≢true e)
      free true false e = refl
      free false true e = refl
      free false false e = absurd (false≢true (sym e))

      go : (p : till.Pending) (unfit : Bool) → is_waiting p || not (sendable ToDevice m) ≡ unfit
          → of_till buffer (till.on_command s p code content) ≡ of_till buffer (cond unfit (till.stays NotSent s) (till.sent s.next m))
      go till.idle unfit e = free (sendable ToDevice m) unfit e
      go (till.waits seq other bytes tries ear) true e = refl
      go (till.waits seq other bytes tries ear) false e = absurd (false≢true (sym e))

  pub only_row : (h : till.Happening) (r : FromTill) → ByTill s buffer h r → r ≡ of_till buffer (till.hears (length buffer) s h)
  only_row h r (row_0_idle room e f) = sym (idling h room e f)
  only_row h r (row_0_sent code content bytes room f e) =
      ap (λ z. replies 0 (Waiting (length z)) (length z) z buffer (record { next = till.seq_after s.next; pending = till.waits s.next code z 1 till.fresh_ear })) e
      ∙ sym (commanding code content room false f)
  only_row h r (row_0_byte b seq code bytes tries ear q room e f) =
      sym (long (till.byte b) room (till.waits seq code bytes tries ear) e ∙ ap (at_meaning seq code bytes tries) f)
  only_row h r (row_0_again seq code bytes tries ear room e f early) =
      sym (long h room (till.waits seq code bytes tries ear) e ∙ failed h seq code bytes tries ear f
      ∙ ap (λ z. of_till buffer (fails_by s.next seq code bytes tries z)) (lt-ltb tries 5 early))
  only_row h r (row_0_answered b seq code bytes tries ear m room e f) =
      sym (long (till.byte b) room (till.waits seq code bytes tries ear) e ∙ ap (at_meaning seq code bytes tries) f)
  only_row h r (row_7 short) = sym (ap (at_length h) (lt-ltb (length buffer) 210 short))
  only_row h r (row_8 code content room f) = sym (commanding code content room true f)
  only_row h r (row_9 seq code bytes ear room e f) = sym (long h room (till.waits seq code bytes 5 ear) e ∙ failed h seq code bytes 5 ear f)
