-- At most once, in one word: what is carried out is a part of the list that was sent, in its order. Nothing is asked of the tries.
use mathlib.Core.Path.{◌≡◌, refl, sym, ap, ◌∙◌, subst}
use mathlib.Core.Bool.{Bool, true, false, cond, ◌&&◌}
use mathlib.Core.Logic.{◌⊎◌, ⊎_elim, inl, inr}
use mathlib.Core.List.Sublistᴰ
use mathlib.Core.List.{List, [], ◌∷◌, ◌++◌, append-nil, Sublist, Sublistᴰ}
use Prim.Native.Nat.{ℕ, zero, suc, ◌+◌}
use lib.Dec.{eqb}
use lib.ListN.{length}
use Rattle.wire.specs.Frame.{Message, frame}
use Rattle.wire.specs.declared.Way.TheVariants.{ToDevice}
use Rattle.reader.specs.Reading.{broken_frame, heard}
use Rattle.line.specs.Turns.{Before, none, was, Carried, switched_on, repeats, session}
use Rattle.tries.specs.Tries.{Arrival, whole, replaced, cut, Begun, clear, begun, leaves, start_brings, lost_start_brings, damage_brings, brings}
use Rattle.delivery.specs.Delivery.{Sent, commands, all_arriving, tries_leave}
use Rattle.delivery.specs.AtMostOnce.{all_may_come, messages, tries_heard, all_heard}
use Rattle.delivery.proofs.Delivered.{same}
use Rattle.delivery.proofs.AtMostOnce.{new_behind, same_behind, other_behind, start_silent, damage_silent, carries_out_what_is_heard}

-- what stands begun is this command's
abbrev OwnBegun : Message → Begun → Type 0
OwnBegun m clear = Unit {0}
OwnBegun m (begun n count) = n ≡ m

-- and may be heard yet
abbrev begun_in : Begun → List Message
begun_in clear = []
begun_in (begun n count) = n ∷ []

abbrev new_of : Before → Message → List Message
new_of before m = cond (repeats before m) [] (m ∷ [])

abbrev new_begun : Before → Begun → List Message
new_begun before clear = []
new_begun before (begun n count) = new_of before n

lost_hears : (b : Begun) (byte : ℕ) → (messages (lost_start_brings ToDevice b byte) ≡ []) ⊎ (messages (lost_start_brings ToDevice b byte) ≡ begun_in b)
lost_hears clear byte = inl refl
lost_hears (begun n count) byte = go (eqb byte 0x03 && eqb (count + 1) (length (frame ToDevice n)))
  where
    go : (t : Bool) → (messages (cond t (heard n ∷ []) (broken_frame ∷ [])) ≡ []) ⊎ (messages (cond t (heard n ∷ []) (broken_frame ∷ [])) ≡ n ∷ [])
    go true = inr refl
    go false = inl refl

damaged_own : (m : Message) (at byte : ℕ) (b : Begun) → OwnBegun m (leaves ToDevice b m (replaced at byte))
damaged_own m at byte b = go (eqb byte 0x01 && eqb (at + 1) (length (frame ToDevice m)))
  where
    go : (t : Bool) → OwnBegun m (cond t (begun m 1) clear)
    go true = refl
    go false = tt

still_own : (m : Message) (a : Arrival) (b : Begun) → OwnBegun m b → OwnBegun m (leaves ToDevice b m a)
still_own m whole b o = tt
still_own m (replaced at byte) b o = damaged_own m at byte b
still_own m (cut zero) b o = o
still_own m (cut (suc n)) b o = refl

damaged_silent : (m : Message) (b : Begun) (i byte : ℕ) → messages (brings ToDevice b m (replaced (suc i) byte)) ≡ []
damaged_silent m b i byte =
    start_silent b (damage_brings (length (frame ToDevice m)) (suc i) byte) ∙ damage_silent (length (frame ToDevice m)) (suc i) byte

cut_silent : (m : Message) (b : Begun) (n : ℕ) → messages (brings ToDevice b m (cut (suc n))) ≡ []
cut_silent m b n = ap messages (sym (append-nil (start_brings b))) ∙ start_silent b []

-- with its own begun, a try brings the command itself or nothing
try_own : (m : Message) (a : Arrival) (b : Begun) → OwnBegun m b → (messages (brings ToDevice b m a) ≡ []) ⊎ (messages (brings ToDevice b m a) ≡ m ∷ [])
try_own m whole b o = inr (start_silent b (heard m ∷ []))
try_own m (replaced zero byte) clear o = inl refl
try_own m (replaced zero byte) (begun n count) o =
    ⊎_elim (λ e. inl e) (λ e. inr (e ∙ ap (λ z. z ∷ []) o)) (lost_hears (begun n count) byte)
try_own m (replaced (suc i) byte) b o = inl (damaged_silent m b i byte)
try_own m (cut zero) b o = inl refl
try_own m (cut (suc n)) b o = inl (cut_silent m b n)

-- the tries of one command, where those behind it are a part of the list
module _ (m : Message) (cs : List Sent) (others : (b : Begun) (before : Before) → Sublistᴰ (new_behind before (all_heard b cs)) (new_begun before b ++ commands cs)) where
  abbrev rest : List Arrival → Begun → List Message
  rest tries b = tries_heard b m tries ++ all_heard (tries_leave b m tries) cs

  abbrev heard_then : List Message → List Arrival → Begun → List Message
  heard_then ms tries b = (ms ++ tries_heard b m tries) ++ all_heard (tries_leave b m tries) cs

  abbrev Part : List Message → Before → Type 0
  Part ms before = Sublistᴰ (new_behind before ms) (new_of before m ++ commands cs)

  hear-own : (ms : List Message) → ((before : Before) → Part ms before) → (before : Before) → Part (m ∷ ms) before
  hear-own ms part before = go (repeats before m) refl
    where
      now : Before
      now = was m.seq m.code []

      go : (r : Bool) → repeats before m ≡ r → Sublistᴰ (new_behind before (m ∷ ms)) (cond r [] (m ∷ []) ++ commands cs)
      go true e =
          subst (λ z. Sublistᴰ z (commands cs)) (sym (same_behind before m ms e))
          (subst (λ r. Sublistᴰ (new_behind before ms) (cond r [] (m ∷ []) ++ commands cs)) e (part before))
      go false e =
          subst (λ z. Sublistᴰ z (m ∷ commands cs)) (sym (other_behind before m ms [] e))
          (Sublistᴰ.cons-cons refl (subst (λ r. Sublistᴰ (new_behind now ms) (cond r [] (m ∷ []) ++ commands cs)) (same m) (part now)))

  skip-own : (before : Before) → Sublistᴰ (commands cs) (new_of before m ++ commands cs)
  skip-own before = go (repeats before m)
    where
      go : (r : Bool) → Sublistᴰ (commands cs) (cond r [] (m ∷ []) ++ commands cs)
      go true = Sublistᴰ.refl (commands cs)
      go false = Sublistᴰ.cons (Sublistᴰ.refl (commands cs))

  own-wide : (before : Before) → Sublistᴰ (new_of before m ++ commands cs) (m ∷ commands cs)
  own-wide before = go (repeats before m)
    where
      go : (r : Bool) → Sublistᴰ (cond r [] (m ∷ []) ++ commands cs) (m ∷ commands cs)
      go true = Sublistᴰ.cons (Sublistᴰ.refl (commands cs))
      go false = Sublistᴰ.refl (m ∷ commands cs)

  -- behind a try of which something arrived
  later : (tries : List Arrival) (b : Begun) → OwnBegun m b → (before : Before) → Part (rest tries b) before
  later [] clear o before = Sublistᴰ.trans (others clear before) (skip-own before)
  later [] (begun n count) o before =
      subst (λ z. Sublistᴰ (new_behind before (all_heard (begun n count) cs)) (new_of before z ++ commands cs)) o (others (begun n count) before)
  later (a ∷ tries) b o before =
      let next = leaves ToDevice b m a in
      let on = later tries next (still_own m a b o) in
      ⊎_elim
      (λ e. subst (λ ms. Part (heard_then ms tries next) before) (sym e) (on before))
      (λ e. subst (λ ms. Part (heard_then ms tries next) before) (sym e) (hear-own (rest tries next) on before))
      (try_own m a b o)

  -- before it, the frame begun before may be heard first
  abbrev Whole : List Message → Before → Begun → Type 0
  Whole ms before b = Sublistᴰ (new_behind before ms) (new_begun before b ++ m ∷ commands cs)

  wider : (before : Before) (b : Begun) (ms : List Message) → Part ms before → Whole ms before b
  wider before b ms part =
      Sublistᴰ.trans part (Sublistᴰ.trans (own-wide before) (Sublistᴰ.append (Sublistᴰ.nil-sublist (new_begun before b)) (Sublistᴰ.refl (m ∷ commands cs))))

  hear-older : (n : Message) (ms : List Message) → ((before : Before) → Part ms before) → (before : Before) → Sublistᴰ (new_behind before (n ∷ ms)) (new_of before n ++ m ∷ commands cs)
  hear-older n ms part before = go (repeats before n) refl
    where
      now : Before
      now = was n.seq n.code []

      go : (r : Bool) → repeats before n ≡ r → Sublistᴰ (new_behind before (n ∷ ms)) (cond r [] (n ∷ []) ++ m ∷ commands cs)
      go true e = subst (λ z. Sublistᴰ z (m ∷ commands cs)) (sym (same_behind before n ms e)) (Sublistᴰ.trans (part before) (own-wide before))
      go false e =
          subst (λ z. Sublistᴰ z (n ∷ m ∷ commands cs)) (sym (other_behind before n ms [] e))
          (Sublistᴰ.cons-cons refl (Sublistᴰ.trans (part now) (own-wide now)))

  early : (tries : List Arrival) (b : Begun) (before : Before) → Whole (rest tries b) before b
  early [] b before = Sublistᴰ.trans (others b before) (Sublistᴰ.append (Sublistᴰ.refl (new_begun before b)) (Sublistᴰ.cons (Sublistᴰ.refl (commands cs))))
  early (whole ∷ tries) b before =
      subst (λ ms. Whole (heard_then ms tries clear) before b) (sym (start_silent b (heard m ∷ [])))
      (wider before b (m ∷ rest tries clear) (hear-own (rest tries clear) (later tries clear tt) before))
  early (replaced zero byte ∷ tries) b before =
      let next = leaves ToDevice b m (replaced zero byte) in
      let on = later tries next (damaged_own m zero byte b) in
      ⊎_elim
      (λ e. subst (λ ms. Whole (heard_then ms tries next) before b) (sym e) (wider before b (rest tries next) (on before)))
      (λ e. subst (λ ms. Whole (heard_then ms tries next) before b) (sym e) (older b next on))
      (lost_hears b byte)
    where
      older : (c next : Begun) → ((z : Before) → Part (rest tries next) z) → Whole (heard_then (begun_in c) tries next) before c
      older clear next on = wider before clear (rest tries next) (on before)
      older (begun n count) next on = hear-older n (rest tries next) on before
  early (replaced (suc i) byte ∷ tries) b before =
      let next = leaves ToDevice b m (replaced (suc i) byte) in
      subst (λ ms. Whole (heard_then ms tries next) before b) (sym (damaged_silent m b i byte))
      (wider before b (rest tries next) (later tries next (damaged_own m (suc i) byte b) before))
  early (cut zero ∷ tries) b before = early tries b before
  early (cut (suc n) ∷ tries) b before =
      subst (λ ms. Whole (heard_then ms tries (begun m (suc n))) before b) (sym (cut_silent m b n))
      (wider before b (rest tries (begun m (suc n))) (later tries (begun m (suc n)) refl before))

part_of : (cs : List Sent) (b : Begun) (before : Before) → Sublistᴰ (new_behind before (all_heard b cs)) (new_begun before b ++ commands cs)
part_of [] b none = Sublistᴰ.nil-sublist (new_begun none b ++ [])
part_of [] b (was seq code answer) = Sublistᴰ.nil-sublist (new_begun (was seq code answer) b ++ [])
part_of (c ∷ cs) b before = early c.command cs (part_of cs) c.tries b before

-- the theorem: each command at most once and in order, whatever arrives
pub carries_out_a_part : {B : Type 0} (carry : B → Message → Carried B) (cs : List Sent) → all_may_come cs ≡ true → (store : B)
    → Sublist (session carry (switched_on store) (all_arriving cs)).carried (commands cs)
carries_out_a_part carry cs e store =
    subst (λ ms. Sublist ms (commands cs)) (sym (carries_out_what_is_heard carry cs e store).0) ∣ part_of cs clear none ∣₁
