-- Laws of building a frame.
use Rattle.std.proofs.lemmas.Bool.{and_parts}
use mathlib.Core.Path.{◌≡◌, refl, sym, ap, ◌∙◌}
use mathlib.Core.Bool.{true, false, ◌&&◌}
use mathlib.Core.List.{List, [], ◌∷◌, ◌++◌, append_assoc}
use Prim.Native.Nat.{ℕ, suc, ◌+◌, ◌-◌, ◌/◌, ◌%◌, ◌≤◌, ◌<◌}
use native.Mathlib.Omega.{arith}
use lib.Dec.{leb}
use lib.ListN.{length, take, drop, set, length-append, length-drop}
use lib.Seq.{sets, sets-eq, take_at, drop_at, length-take-le}
use borrow.Author.Tests.{lt-ltb, le-ltb, lt-leb, le-leb, leb-true}
use Rattle.text.proofs.Laws.{sets-append, sets_same, sets_over}
use Rattle.wire.proofs.Suits.{&&-true, &&-false}
use Rattle.wire.specs.Bytes.{may_stand, every}
use Rattle.wire.specs.Frame.{Message, command_of, answer_of, total, bcc, hexadecimal, counted, enclosed, frame, sendable, carriable}
use Rattle.wire.specs.Replies.{room, building, sealing}
use Rattle.wire.specs.declared.Way.{Way}
use Rattle.wire.specs.declared.Way.TheVariants.{ToDevice, ToTill}
use Rattle.wire.specs.declared.Role.TheVariants.{Name, Data, Status}

-- four hexadecimal digits see a sum only up to FFFFh
hex_mod_4096 : (s : ℕ) → hexadecimal (s % 65536 / 4096) ≡ hexadecimal (s / 4096)
hex_mod_4096 s = omega arith

hex_mod_256 : (s : ℕ) → hexadecimal (s % 65536 / 256) ≡ hexadecimal (s / 256)
hex_mod_256 s = omega arith

hex_mod_16 : (s : ℕ) → hexadecimal (s % 65536 / 16) ≡ hexadecimal (s / 16)
hex_mod_16 s = omega arith

hex_mod_1 : (s : ℕ) → hexadecimal (s % 65536) ≡ hexadecimal s
hex_mod_1 s = omega arith

pub bcc_mod : (s : ℕ) → bcc (s % 65536) ≡ bcc s
bcc_mod s = rw (hex_mod_4096 s, hex_mod_256 s, hex_mod_16 s, hex_mod_1 s)

pub length-enclosed : (seq code : ℕ) (between : List ℕ) → length (enclosed seq code between) ≡ length between + 10
length-enclosed seq code between =
    simp length-append (omega arith)

-- a frame put around what stands in the buffer already
module _ (l : List ℕ) (n seq code : ℕ) (room : n + 10 ≤ length l) where
  abbrev between : List ℕ
  between = take n (drop 4 l)

  abbrev head : List ℕ
  head = 0x01 ∷ (n + 4 + 0x20) ∷ seq ∷ code ∷ []

  length-between : length between ≡ n
  length-between = length-take-le n (drop 4 l) (omega (arith, length-drop 4 l))

  length-counted : length (counted seq code between) ≡ n + 4
  length-counted = rw (length-append between (0x05 ∷ []), length-between) (omega arith)

  headed : sets l 0 head ≡ head ++ drop 4 l
  headed = sets-eq head l 0 (omega arith)

  in_place : sets (sets l 0 head) 4 between ≡ sets l 0 head
  in_place = ap (λ d. sets (sets l 0 head) 4 (take n d)) (sym (ap (drop 4) headed)) ∙ sets_same 4 n (sets l 0 head)

  abbrev front : List ℕ
  front = 0x01 ∷ counted seq code between

  with-05 : set (sets l 0 head) (n + 4) 0x05 ≡ sets l 0 front
  with-05 =
      let at : 4 + length between ≡ n + 4 = omega (arith, length-between) in
      sym (
      ap (λ k. sets l 0 (0x01 ∷ (k + 4 + 0x20) ∷ seq ∷ code ∷ between ++ 0x05 ∷ [])) length-between
      ∙ sets-append (sets l 0 head) 4 between (0x05 ∷ [])
      ∙ ap (λ z. set z (4 + length between) 0x05) in_place
      ∙ ap (λ k. set (sets l 0 head) k 0x05) at)

  summed : take (n + 5 - 1) (drop 1 (sets l 0 front)) ≡ counted seq code between
  summed =
      ap (λ z. take (n + 5 - 1) (drop 1 z)) (sets-eq front l 0 (omega (arith, length-counted)))
      ∙ take_at (counted seq code between) (drop (0 + length front) l) (n + 5 - 1) (length-counted ∙ omega arith)

  abbrev quad : List ℕ
  quad = bcc (total (counted seq code between))

  closed : set (sets (sets l 0 front) (n + 5) quad) (n + 9) 0x03 ≡ sets l 0 (enclosed seq code between)
  closed =
      let first : 0 + length front ≡ n + 5 = omega (arith, length-counted) in
      let second : 0 + length (front ++ quad) ≡ n + 9 = omega (arith, length-append front quad, length-counted) in
      sym (
      sets-append l 0 (front ++ quad) (0x03 ∷ [])
      ∙ ap (λ z. set z (0 + length (front ++ quad)) 0x03) (sets-append l 0 front quad)
      ∙ ap (λ k. set (sets (sets l 0 front) (0 + length front) quad) k 0x03) second
      ∙ ap (λ k. set (sets (sets l 0 front) k quad) (n + 9) 0x03) first)

  -- the buffer after each of the five things that the code puts
  pub enclosing : (b1 b2 b3 b4 four : List ℕ) (sum : ℕ) → b1 ≡ sets l 0 head → b2 ≡ set b1 (n + 4) 0x05
      → sum ≡ total (take (n + 5 - 1) (drop 1 b2)) % 65536 → four ≡ bcc sum → b3 ≡ sets b2 (n + 5) four → b4 ≡ set b3 (n + 9) 0x03
      → b4 ≡ sets l 0 (enclosed seq code between)
  enclosing b1 b2 b3 b4 four sum e1 e2 es eq e3 e4 =
      let front2 : b2 ≡ sets l 0 front = e2 ∙ ap (λ z. set z (n + 4) 0x05) e1 ∙ with-05 in
      let all : four ≡ quad = eq ∙ ap bcc (es ∙ ap (λ z. total (take (n + 5 - 1) (drop 1 z)) % 65536) front2 ∙ ap (λ z. total z % 65536) summed) ∙ bcc_mod (total (counted seq code between)) in
      e4 ∙ ap (λ z. set z (n + 9) 0x03) (e3 ∙ ap (λ z. sets z (n + 5) four) front2 ∙ ap (λ z. sets (sets l 0 front) (n + 5) z) all) ∙ closed

-- what was put from the fifth byte on stands there
lone : (l inner : List ℕ) → length inner + 4 ≤ length l → take (length inner) (drop 4 (sets l 4 inner)) ≡ inner
lone l inner room =
    ap (λ z. take (length inner) (drop 4 z)) (sets-eq inner l 4 (omega arith) ∙ append_assoc (take 4 l) inner (drop (4 + length inner) l))
    ∙ ap (take (length inner)) (drop_at (take 4 l) (inner ++ drop (4 + length inner) l) 4 (length-take-le 4 l (omega arith)))
    ∙ take_at inner (drop (4 + length inner) l) (length inner) refl

-- what is to stand between CMD and 05h is put first, then the frame around it, in an answer with more behind it
pub around : (l content : List ℕ) (seq code : ℕ) (more : List ℕ → List ℕ) → length content ≤ length (more content) → length (more content) + 10 ≤ length l
    → (b e : List ℕ) → b ≡ sets l 4 content → e ≡ sets b 0 (enclosed seq code (more (take (length content) (drop 4 b))))
    → e ≡ sets l 0 (enclosed seq code (more content))
around l content seq code more longer room b e eb ee =
    let inside : take (length content) (drop 4 b) ≡ content = ap (λ z. take (length content) (drop 4 z)) eb ∙ lone l content (omega arith) in
    let size = length-enclosed seq code (more content) in
    ee ∙ ap (λ z. sets b 0 (enclosed seq code (more z))) inside ∙ ap (λ z. sets z 0 (enclosed seq code (more content))) eb
    ∙ sets_over 4 l content (enclosed seq code (more content)) (omega arith) (omega arith)

-- 04h and the status, put behind n bytes that stand in their place
pub finishing : (l status : List ℕ) (n seq code : ℕ) → n + 17 ≤ length l → length status ≡ 6 → (b1 b2 e : List ℕ)
    → b1 ≡ set l (n + 4) 0x04 → b2 ≡ sets b1 (n + 5) status → e ≡ sets b2 0 (enclosed seq code (take (n + 7) (drop 4 b2)))
    → e ≡ sets l 0 (enclosed seq code (take n (drop 4 l) ++ 0x04 ∷ status))
finishing l status n seq code room six b1 b2 e e1 e2 ee =
    let stands : length (take n (drop 4 l)) ≡ n = length-take-le n (drop 4 l) (omega (arith, length-drop 4 l)) in
    let inner : List ℕ = take n (drop 4 l) ++ 0x04 ∷ status in
    let size : length inner ≡ n + 7 = length-append (take n (drop 4 l)) (0x04 ∷ status) ∙ omega arith in
    let at : 4 + length (take n (drop 4 l)) ≡ n + 4 = omega arith in
    let next : suc (n + 4) ≡ n + 5 = omega arith in
    let put : b2 ≡ sets l 4 inner =
    e2 ∙ ap (λ z. sets z (n + 5) status) e1
    ∙ sym (
    sets-append l 4 (take n (drop 4 l)) (0x04 ∷ status)
    ∙ ap (λ z. sets z (4 + length (take n (drop 4 l))) (0x04 ∷ status)) (sets_same 4 n l)
    ∙ ap (λ k. sets l k (0x04 ∷ status)) at
    ∙ ap (λ k. sets (set l (n + 4) 0x04) k status) next) in
    around l inner seq code (λ z. z) (omega arith) (omega arith) b2 e put (ee ∙ ap (λ k. sets b2 0 (enclosed seq code (take k (drop 4 b2)))) (sym size))

pub carriable_short : (seq code : ℕ) (content : List ℕ) → carriable seq code content ≡ true → length content ≤ 200
carriable_short seq code content e =
    leb-true (length content) 200 (and_parts (may_stand Name seq && may_stand Name code) (leb (length content) 200) (and_parts _ (every (may_stand Data) content) e).0).1

-- a command has no status, so it can be sent when its data can
pub sendable_command : (seq code : ℕ) (content : List ℕ)
    → sendable ToDevice (command_of seq code content) ≡ carriable seq code content
sendable_command seq code content = rw (&&-true (carriable seq code content && true), &&-true (carriable seq code content))

pub sendable_answer : (seq code : ℕ) (content status : List ℕ) → length status ≡ 6 → carriable seq code content ≡ true → every (may_stand Status) status ≡ true
    → sendable ToTill (answer_of seq code content status) ≡ true
sendable_answer seq code content status six e s = rw (e, six, s)

pub too_long_lem : (seq code : ℕ) (content : List ℕ) → 200 < length content → carriable seq code content ≡ false
too_long_lem seq code content h = rw (lt-leb (length content) 200 h, &&-false)

-- what building answers
module _ (k : Way) (l : List ℕ) (m : Message) where
  pub too_short : length l < room k → building k l m ≡ record { number = 7; count = 0; buffer = l }
  too_short h = rw (lt-ltb (length l) (room k) h)

  pub cannot : room k ≤ length l → sendable k m ≡ false → building k l m ≡ record { number = 8; count = 0; buffer = l }
  cannot h e = rw (le-ltb (length l) (room k) h, e)

  pub can : room k ≤ length l → sendable k m ≡ true → building k l m ≡ record { number = 0; count = length (frame k m); buffer = sets l 0 (frame k m) }
  can h e = rw (le-ltb (length l) (room k) h, e)

-- sealing an answer, a branch of the code each
module _ (l : List ℕ) (seq code n : ℕ) (status : List ℕ) where
  pub seal_done : 217 ≤ length l → n ≤ 200
      → sealing l seq code n status
      ≡ record { number = 0; count = length (frame ToTill (answer_of seq code (take n (drop 4 l)) status)); buffer = sets l 0 (frame ToTill (answer_of seq code (take n (drop 4 l)) status)) }
  seal_done h k = rw (le-ltb (length l) 217 h, le-leb n 200 k)
