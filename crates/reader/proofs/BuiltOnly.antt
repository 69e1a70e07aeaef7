-- Built is all that is read: whatever is heard as whole is the frame of what was heard, and stands at the end of what came.
use Rattle.std.proofs.lemmas.Bool.{and_parts}
use mathlib.Core.Path.{◌≡◌, refl, sym, ap, ◌∙◌, subst}
use mathlib.Core.Bool.{Bool, true}
use mathlib.Core.Logic.{◌⊎◌, ⊎_elim, inl, inr}
use mathlib.Core.List.{List, [], ◌∷◌, ◌++◌, map, append_assoc, append-nil}
use Prim.Native.Nat.{ℕ, zero, suc, ◌+◌, ◌%◌, ◌≤◌, ◌<◌}
use native.Mathlib.Decide.{dec_lt}
use native.Mathlib.Omega.{arith}
use lib.Dec.{leb}
use lib.ListN.{length, get_or, replicate, length-append, length-replicate, get_or-append}
use lib.Seq.{get_or-append-add}
use borrow.Author.Tests.{eqb-true, leb-true, lt-ltb, le-ltb}
use Rattle.wire.specs.Bytes.{within, may_stand, every}
use Rattle.wire.specs.Frame.{Message, bcc, inner, frame, sendable}
use Rattle.wire.specs.Places.{is, none, behind_data, shortest, longest, front, ending, data_count}
use Rattle.wire.specs.declared.Way.{Way}
use Rattle.wire.specs.declared.Way.TheVariants.{ToDevice, ToTill}
use Rattle.wire.specs.declared.Role.TheVariants.{Name, Data, Status}
use Rattle.text.proofs.Laws.{empty}
use Rattle.wire.proofs.Suits.{length_front}
use Rattle.reader.specs.Reading.{message, suits, at_last, grown}
use Rattle.reader.proofs.Passing.{Pass, done, more, pass_short, pass_snoc}
use Rattle.reader.proofs.Walking.{sum_on, sum_snoc}
use Rattle.reader.proofs.RoundTrip.{Parts, length-inner, len, body, quad, message_back, quad_is, sendable_parts}

-- a list that passes two lists of tests to the end is two lists
pub record Split (ts us : List (ℕ → Bool)) (xs : List ℕ) : Type 0 where
  pub left : List ℕ
  pub right : List ℕ
  pub is : xs ≡ left ++ right
  pub size : length left ≡ length ts
  pub first : Pass ts left
  pub second : Pass us right

split : (ts us : List (ℕ → Bool)) (xs : List ℕ) → Pass (ts ++ us) xs → length xs ≡ length (ts ++ us) → Split ts us xs
split [] us xs p l = record { left = []; right = xs; is = refl; size = refl; first = done; second = p }
split (t ∷ ts) us [] p l = absurd (omega arith)
split (t ∷ ts) us (x ∷ xs) (more h p) l =
    let rest = split ts us xs p (omega arith) in
    record {
      left = x ∷ rest.left;
      right = rest.right;
      is = ap (λ z. x ∷ z) rest.is;
      size = ap suc rest.size;
      first = more h rest.first;
      second = rest.second;
    }

-- tests for given bytes pass these bytes alone
pass_is : (vs xs : List ℕ) → Pass (map is vs) xs → length xs ≡ length vs → xs ≡ vs
pass_is [] [] p l = refl
pass_is [] (x ∷ xs) p l = absurd (omega arith)
pass_is (v ∷ vs) [] p l = absurd (omega arith)
pass_is (v ∷ vs) (x ∷ xs) (more h p) l = ap (λ z. z ∷ xs) (eqb-true x v h) ∙ ap (λ z. v ∷ z) (pass_is vs xs p (omega arith))

pass_run : (n : ℕ) (t : ℕ → Bool) (xs : List ℕ) → Pass (replicate n t) xs → every t xs ≡ true
pass_run n t [] p = refl
pass_run zero t (x ∷ xs) p = absurd (omega (arith, pass_short p))
pass_run (suc n) t (x ∷ xs) (more h p) = rw h (pass_run n t xs p)

-- the message that a whole list of bytes from SEQ to 05h says
pub record Said (k : Way) (n : ℕ) (a : List ℕ) : Type 0 where
  pub message : Message
  pub size : length message.content ≡ n
  pub parts : n ≤ 200 → Parts k message
  pub is : a ≡ message.seq ∷ message.code ∷ inner k message ++ 0x05 ∷ []

-- between CMD and 05h, by the kind
between : (k : Way) (x y n : ℕ) (r : List ℕ) → may_stand Name x ≡ true → may_stand Name y ≡ true
    → Split (replicate n (may_stand Data)) (behind_data k) r → length r ≡ n + length (behind_data k) → Said k n (x ∷ y ∷ r ++ 0x05 ∷ [])
between ToDevice x y n r hx hy s l =
    let none_left : s.right ≡ [] = empty s.right (omega (arith, ap length s.is, length-append s.left s.right, s.size, length-replicate n (may_stand Data))) in
    record {
      message = record { seq = x; code = y; content = s.left; status = [] };
      size = s.size ∙ length-replicate n (may_stand Data);
      parts = λ few. record {
        seq = hx;
        code = hy;
        few = omega (arith, s.size, length-replicate n (may_stand Data));
        content = pass_run n (may_stand Data) s.left s.first;
        size = refl;
        status = refl;
      };
      is = ap (λ z. x ∷ y ∷ z ++ 0x05 ∷ []) (s.is ∙ ap (λ z. s.left ++ z) none_left ∙ append-nil s.left);
    }
between ToTill x y n r hx hy s l = go s.right s.second refl (omega (arith, ap length s.is, length-append s.left s.right, s.size, length-replicate n (may_stand Data)))
  where
    go : (rs : List ℕ) → Pass (behind_data ToTill) rs → s.right ≡ rs → length rs ≡ 7 → Said ToTill n (x ∷ y ∷ r ++ 0x05 ∷ [])
    go [] p e z = absurd (omega arith)
    go (q ∷ qs) (more h p) e z =
        let four : q ≡ 0x04 = eqb-true q 0x04 h in
        record {
          message = record { seq = x; code = y; content = s.left; status = qs };
          size = s.size ∙ length-replicate n (may_stand Data);
          parts = λ few. record {
            seq = hx;
            code = hy;
            few = omega (arith, s.size, length-replicate n (may_stand Data));
            content = pass_run n (may_stand Data) s.left s.first;
            size = omega arith;
            status = pass_run 6 (may_stand Status) qs p;
          };
          is = ap (λ w. x ∷ y ∷ w ++ 0x05 ∷ []) (s.is ∙ ap (λ w. s.left ++ w) (e ∙ ap (λ w. w ∷ qs) four));
        }

-- SEQ to 05h
said : (k : Way) (n : ℕ) (a : List ℕ) → Pass (front k n) a → length a ≡ length (front k n) → Said k n a
said k n [] p l = absurd (omega arith)
said k n (x ∷ []) p l = absurd (omega (arith, length_front k n))
said k n (x ∷ y ∷ r) (more hx (more hy p)) l = said-rest k x y n r hx hy p (omega arith)
  where
    said-rest : (k : Way) (x y n : ℕ) (r : List ℕ) → may_stand Name x ≡ true → may_stand Name y ≡ true
        → Pass (replicate n (may_stand Data) ++ behind_data k ++ is 0x05 ∷ []) r → length r ≡ length (replicate n (may_stand Data) ++ behind_data k ++ is 0x05 ∷ [])
        → Said k n (x ∷ y ∷ r)
    said-rest k x y n r hx hy p l =
        let tests : List (ℕ → Bool) = replicate n (may_stand Data) ++ behind_data k in
        let size : length tests ≡ n + length (behind_data k) =
        length-append (replicate n (may_stand Data)) (behind_data k) ∙ ap (λ z. z + length (behind_data k)) (length-replicate n (may_stand Data)) in
        let outer = split tests (is 0x05 ∷ []) r p l in
        let one : length outer.right ≡ 1 =
        omega (arith, l, length-append tests (is 0x05 ∷ []), ap length outer.is, length-append outer.left outer.right, outer.size) in
        let five : outer.right ≡ 0x05 ∷ [] = pass_is (0x05 ∷ []) outer.right outer.second one in
        let within = split (replicate n (may_stand Data)) (behind_data k) outer.left outer.first outer.size in
        subst (λ z. Said k n (x ∷ y ∷ z)) (sym (outer.is ∙ ap (λ z. outer.left ++ z) five)) (between k x y n outer.left hx hy within (outer.size ∙ size))

-- what is known of the bytes since 01h, once LEN is among them: those up to 05h, and those behind it
pub record Grown (k : Way) (sum : ℕ) (bytes : List ℕ) : Type 0 where
  pub size : ℕ
  pub front_bytes : List ℕ
  pub ending_bytes : List ℕ
  pub is : bytes ≡ size ∷ (front_bytes ++ ending_bytes)
  pub range : within (shortest k) (longest k) size ≡ true
  pub front_pass : Pass (front k (data_count k size)) front_bytes
  pub ending_pass : Pass (ending sum) ending_bytes
  pub summed : sum ≡ sum_on size front_bytes
  pub in_order : length front_bytes < length (front k (data_count k size)) → ending_bytes ≡ []

-- one byte more, up to 05h or behind it
module _ (k : Way) (sum size : ℕ) (a : List ℕ) (range : within (shortest k) (longest k) size ≡ true) (pa : Pass (front k (data_count k size)) a) (es : sum ≡ sum_on size a) where
  abbrev tests : List (ℕ → Bool)
  tests = front k (data_count k size)

  grow-front : (b : ℕ) → length a < length tests → suits k sum (size ∷ a) b ≡ true → Grown k (grown k sum (size ∷ a) b) (size ∷ (a ++ b ∷ []))
  grow-front b early e =
      rw (lt-ltb (length a) (length tests) early)
      (record {
        size = size;
        front_bytes = a ++ b ∷ [];
        ending_bytes = [];
        is = ap (λ z. size ∷ z) (sym (append-nil (a ++ b ∷ [])));
        range = range;
        front_pass = pass_snoc pa b (sym (ap (λ (t : ℕ → Bool). t b) (get_or-append tests (ending sum) none (length a) early)) ∙ e);
        ending_pass = done;
        summed = ap (λ s. (s + b) % 65536) es ∙ sym (sum_snoc size a b);
        in_order = λ h. refl;
      })

  grow-ending : (q : List ℕ) (b : ℕ) → Pass (ending sum) q → length a ≡ length tests → suits k sum (size ∷ (a ++ q)) b ≡ true
      → Grown k (grown k sum (size ∷ (a ++ q)) b) (size ∷ ((a ++ q) ++ b ∷ []))
  grow-ending q b pq full e =
      let at : length (a ++ q) ≡ length tests + length q = length-append a q ∙ ap (λ n. n + length q) full in
      rw (le-ltb (length (a ++ q)) (length tests) (omega arith))
      (record {
        size = size;
        front_bytes = a;
        ending_bytes = q ++ b ∷ [];
        is = ap (λ z. size ∷ z) (append_assoc a q (b ∷ []));
        range = range;
        front_pass = pa;
        ending_pass = pass_snoc pq b (sym (ap (λ n. get_or (tests ++ ending sum) n none b) at ∙ ap (λ (t : ℕ → Bool). t b) (get_or-append-add tests (ending sum) (length q) none)) ∙ e);
        summed = es;
        in_order = λ h. absurd (omega arith);
      })

-- bytes up to 05h alone, or all of them and some behind
pub cases : (k : Way) (sum : ℕ) (bytes : List ℕ) (g : Grown k sum bytes)
    → ((bytes ≡ g.size ∷ g.front_bytes) × (length g.front_bytes < length (front k (data_count k g.size))))
    ⊎ (length g.front_bytes ≡ length (front k (data_count k g.size)))
cases k sum bytes g = go (dec_lt (length g.front_bytes) (length (front k (data_count k g.size))))
  where
    go : Dec (length g.front_bytes < length (front k (data_count k g.size)))
        → ((bytes ≡ g.size ∷ g.front_bytes) × (length g.front_bytes < length (front k (data_count k g.size))))
        ⊎ (length g.front_bytes ≡ length (front k (data_count k g.size)))
    go (yes early) = inl (g.is ∙ ap (λ z. g.size ∷ (g.front_bytes ++ z)) (g.in_order early) ∙ ap (λ z. g.size ∷ z) (append-nil g.front_bytes), early)
    go (no late) = inr (omega (arith, pass_short g.front_pass))

pub grow : (k : Way) (sum : ℕ) (bytes : List ℕ) (b : ℕ) → Grown k sum bytes → suits k sum bytes b ≡ true → Grown k (grown k sum bytes b) (bytes ++ b ∷ [])
grow k sum bytes b g e =
    ⊎_elim
    (λ c. subst (λ z. suits k sum z b ≡ true → Grown k (grown k sum z b) (z ++ b ∷ [])) (sym c.0)
    (grow-front k sum g.size g.front_bytes g.range g.front_pass g.summed b c.1) e)
    (λ full. subst (λ z. suits k sum z b ≡ true → Grown k (grown k sum z b) (z ++ b ∷ [])) (sym g.is)
    (grow-ending k sum g.size g.front_bytes g.range g.front_pass g.summed g.ending_bytes b g.ending_pass full) e)
    (cases k sum bytes g)

-- a whole one
module _ (k : Way) (sum size : ℕ) (a q : List ℕ) (b : ℕ) (range : within (shortest k) (longest k) size ≡ true) (pa : Pass (front k (data_count k size)) a)
    (full : length a ≡ length (front k (data_count k size))) (pq : Pass (ending sum) q) (es : sum ≡ sum_on size a)
    (e : suits k sum (size ∷ (a ++ q)) b ≡ true) (last : at_last k (size ∷ (a ++ q)) ≡ true) where
  four : length q ≡ 4
  four = omega (arith, eqb-true (length (a ++ q)) (length (front k (data_count k size)) + 4) last, length-append a q, full)

  -- BCC and 03h
  closing : q ++ b ∷ [] ≡ bcc sum ++ 0x03 ∷ []
  closing =
      let at : length (a ++ q) ≡ length (front k (data_count k size)) + length q = length-append a q ∙ ap (λ n. n + length q) full in
      let suit : get_or (ending sum) (length q) none b ≡ true =
      sym (ap (λ n. get_or (front k (data_count k size) ++ ending sum) n none b) at ∙ ap (λ (t : ℕ → Bool). t b) (get_or-append-add (front k (data_count k size)) (ending sum) (length q) none)) ∙ e in
      pass_is (bcc sum ++ 0x03 ∷ []) (q ++ b ∷ []) (pass_snoc pq b suit) (omega (arith, length-append q (b ∷ []), four))

  s : Said k (data_count k size) a
  s = said k (data_count k size) a pa full

  in-range : (shortest k ≤ size) × (size ≤ longest k)
  in-range =
      let two = and_parts (leb (shortest k) size) (leb size (longest k)) range in
      (leb-true (shortest k) size two.0, leb-true size (longest k) two.1)

  h : Parts k s.message
  h = s.parts (omega (arith, in-range))

  is-len : size ≡ len k s.message h
  is-len = omega (arith, in-range, length-inner k s.message h, s.size)

  is-message : message k (size ∷ (a ++ q)) ≡ s.message
  is-message = ap (λ z. message k (z ∷ (a ++ q))) is-len ∙ ap (λ z. message k (len k s.message h ∷ (z ++ q))) s.is ∙ message_back k s.message h q

  is-quad : bcc sum ≡ quad k s.message h
  is-quad = ap bcc (es ∙ ap (λ z. sum_on z a) is-len ∙ ap (sum_on (len k s.message h)) s.is) ∙ quad_is k s.message h

  is-frame : 0x01 ∷ size ∷ ((a ++ q) ++ b ∷ []) ≡ frame k s.message
  is-frame =
      ap (λ z. 0x01 ∷ size ∷ z) (append_assoc a q (b ∷ []) ∙ ap (λ z. a ++ z) (closing ∙ ap (λ z. z ++ 0x03 ∷ []) is-quad) ∙ ap (λ z. z ++ (quad k s.message h ++ 0x03 ∷ [])) s.is)
      ∙ ap (λ z. 0x01 ∷ z ∷ (body k s.message h ++ (quad k s.message h ++ 0x03 ∷ []))) is-len
      ∙ ap (λ z. 0x01 ∷ len k s.message h ∷ z) (sym (append_assoc (body k s.message h) (quad k s.message h) (0x03 ∷ [])))

  pub whole_ending : (0x01 ∷ size ∷ ((a ++ q) ++ b ∷ []) ≡ frame k (message k (size ∷ (a ++ q)))) × (sendable k (message k (size ∷ (a ++ q))) ≡ true)
  whole_ending = (is-frame ∙ ap (frame k) (sym is-message), ap (sendable k) is-message ∙ sendable_parts k s.message h)
