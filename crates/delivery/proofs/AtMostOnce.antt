-- At most once: what is carried out is what is heard, repeats left out, whatever arrives; and where no try lacks only its last byte, the commands of which a
-- try arrived whole.
use Rattle.std.proofs.lemmas.Bool.{and_parts}
use mathlib.Core.Path.{◌≡◌, refl, sym, ap, ◌∙◌, subst}
use mathlib.Core.Bool.{Bool, true, false, cond, not, ◌&&◌, false≢true}
use mathlib.Core.List.{List, [], ◌∷◌, ◌++◌, append_assoc, append-nil}
use Prim.Native.Nat.{ℕ, zero, suc, ◌+◌}
use native.Mathlib.Omega.{arith}
use lib.Dec.{ltb, eqb}
use lib.ListN.{length}
use borrow.Author.Tests.{eqb-true, ne_eqb, not-true}
use Rattle.wire.specs.Frame.{Message, frame, sendable}
use Rattle.wire.specs.declared.Way.TheVariants.{ToDevice}
use Rattle.reader.specs.Reading.{outside, Event, nothing, broken_frame, heard}
use Rattle.reader.proofs.RoundTrip.{frame_size}
use Rattle.line.specs.Turns.{Before, none, was, State, Carried, Turn, Session, switched_on, repeats, session}
use Rattle.tries.specs.Tries.{Arrival, whole, replaced, cut, may_arrive, arriving, Begun, clear, begun, leaves, start_brings, lost_start_brings, damage_brings, brings}
use Rattle.delivery.specs.Delivery.{is_whole, Sent, all, any, may_come, differs_from, commands, tries_arriving, all_arriving, tries_leave, carry_all}
use Rattle.delivery.specs.AtMostOnce.{all_may_come, messages, tries_heard, all_heard, new_after, without_repeats, lacks_last, none_lacks_last, arrived_whole, neighbours_differ}
use Rattle.tries.specs.TryRead.{stands_at, Fits}
use Rattle.tries.proofs.Trying.{try_read}
use Rattle.delivery.proofs.Sessions.{device, Reaction, ending_at, behind, session_append, on_frame, frame_again_lem, frame_new, reacts}
use Rattle.delivery.proofs.Delivered.{same, New, new_next, new_none, any_try}

-- what is new, behind a frame or none
abbrev pub new_behind : Before → List Message → List Message
new_behind none ms = without_repeats ms
new_behind (was seq code answer) [] = []
new_behind (was seq code answer) (n ∷ ns) = cond (eqb seq n.seq && eqb code n.code) [] (n ∷ []) ++ new_after n ns

not_cond : (t : Bool) (m : Message) → cond (not t) (m ∷ []) [] ≡ cond t [] (m ∷ [])
not_cond true m = refl
not_cond false m = refl

new_behind_lem : (m : Message) (answer : List ℕ) (ms : List Message) → new_after m ms ≡ new_behind (was m.seq m.code answer) ms
new_behind_lem m answer [] = refl
new_behind_lem m answer (n ∷ ns) = ap (λ z. z ++ new_after n ns) (not_cond (eqb m.seq n.seq && eqb m.code n.code) n)

-- a repeat has the SEQ and CMD of the frame before: behind it the same is new
pub same_behind : (before : Before) (n : Message) (ns : List Message) → repeats before n ≡ true → new_behind before (n ∷ ns) ≡ new_behind before ns
same_behind none n ns e = absurd (false≢true e)
same_behind (was seq code answer) n ns e =
    let two = and_parts (eqb seq n.seq) (eqb code n.code) e in
    ap (λ t. cond t [] (n ∷ []) ++ new_after n ns) e
    ∙ new_behind_lem n answer ns
    ∙ (λ i. new_behind (was (sym (eqb-true seq n.seq two.0) i) (sym (eqb-true code n.code two.1) i) answer) ns)

pub other_behind : (before : Before) (n : Message) (ns : List Message) (answer : List ℕ) → repeats before n ≡ false
    → new_behind before (n ∷ ns) ≡ n ∷ new_behind (was n.seq n.code answer) ns
other_behind none n ns answer e = ap (λ z. n ∷ z) (new_behind_lem n answer ns)
other_behind (was seq code last) n ns answer e =
    ap (λ t. cond t [] (n ∷ []) ++ new_after n ns) e ∙ ap (λ z. n ∷ z) (new_behind_lem n answer ns)

messages_append : (xs ys : List Event) → messages (xs ++ ys) ≡ messages xs ++ messages ys
messages_append [] ys = refl
messages_append (nothing ∷ xs) ys = messages_append xs ys
messages_append (broken_frame ∷ xs) ys = messages_append xs ys
messages_append (heard m ∷ xs) ys = ap (λ z. m ∷ z) (messages_append xs ys)

-- what all tries bring, and leave begun
abbrev tries_brought : Begun → Message → List Arrival → List Event
tries_brought b m [] = []
tries_brought b m (a ∷ rest) = brings ToDevice b m a ++ tries_brought (leaves ToDevice b m a) m rest

abbrev all_brought : Begun → List Sent → List Event
all_brought b [] = []
all_brought b (c ∷ cs) = tries_brought b c.command c.tries ++ all_brought (tries_leave b c.command c.tries) cs

abbrev all_leave : Begun → List Sent → Begun
all_leave b [] = b
all_leave b (c ∷ cs) = all_leave (tries_leave b c.command c.tries) cs

tries_heard_lem : (tries : List Arrival) (b : Begun) (m : Message) → messages (tries_brought b m tries) ≡ tries_heard b m tries
tries_heard_lem [] b m = refl
tries_heard_lem (a ∷ rest) b m =
    messages_append (brings ToDevice b m a) (tries_brought (leaves ToDevice b m a) m rest)
    ∙ ap (λ z. messages (brings ToDevice b m a) ++ z) (tries_heard_lem rest (leaves ToDevice b m a) m)

all_heard_lem : (cs : List Sent) (b : Begun) → messages (all_brought b cs) ≡ all_heard b cs
all_heard_lem [] b = refl
all_heard_lem (c ∷ cs) b =
    let m = c.command in
    let next = tries_leave b m c.tries in
    messages_append (tries_brought b m c.tries) (all_brought next cs)
    ∙ ap (λ z. z ++ messages (all_brought next cs)) (tries_heard_lem c.tries b m)
    ∙ ap (λ z. tries_heard b m c.tries ++ z) (all_heard_lem cs next)

module _ {B : Type 0} (carry : B → Message → Carried B) where
  reacts-append : (xs ys : List Event) (before : Before) (store : B)
      → reacts carry before store (xs ++ ys)
      ≡ (let r = reacts carry before store xs in
      behind r.gives r.carried (reacts carry r.before r.store ys))
  reacts-append [] ys before store = refl
  reacts-append (nothing ∷ xs) ys before store = reacts-append xs ys before store
  reacts-append (broken_frame ∷ xs) ys before store = ap (behind (0x15 ∷ []) []) (reacts-append xs ys before store)
  reacts-append (heard m ∷ xs) ys before store =
      let t = on_frame carry before store m in
      let first = reacts carry t.state.before t.state.store xs in
      let second = reacts carry first.before first.store ys in
      let gives = append_assoc t.gives first.gives second.gives in
      let carried = append_assoc t.carried first.carried second.carried in
      ap (behind t.gives t.carried) (reacts-append xs ys t.state.before t.state.store)
      ∙ (λ i. record { gives = sym gives i; carried = sym carried i; before = second.before; store = second.store })

  -- bytes that are answered as these events, and leave that begun
  abbrev Brought : Begun → List ℕ → List Event → Begun → Type 0
  Brought b bytes es next =
      (before : Before) (store : B) → session carry (device (stands_at ToDevice b) before store) bytes ≡ ending_at (stands_at ToDevice next) (reacts carry before store es)

  brought-append : (b mid next : Begun) (xs ys : List ℕ) (es fs : List Event) → Brought b xs es mid → Brought mid ys fs next → Brought b (xs ++ ys) (es ++ fs) next
  brought-append b mid next xs ys es fs one two before store =
      let s : State B = device (stands_at ToDevice b) before store in
      let r = reacts carry before store es in
      session_append carry s xs ys
      ∙ ap (λ (z : Session B). record {
        gives = z.gives ++ (session carry z.state ys).gives;
        carried = z.carried ++ (session carry z.state ys).carried;
        state = (session carry z.state ys).state;
      }) (one before store)
      ∙ ap (λ (z : Session B). record { gives = r.gives ++ z.gives; carried = r.carried ++ z.carried; state = z.state }) (two r.before r.store)
      ∙ ap (ending_at (stands_at ToDevice next)) (sym (reacts-append es fs before store))

  tries-brought : (m : Message) → sendable ToDevice m ≡ true → (tries : List Arrival) → all (may_arrive (frame ToDevice m)) tries ≡ true → (b : Begun) → Fits ToDevice b
      → Brought b (tries_arriving (frame ToDevice m) tries) (tries_brought b m tries) (tries_leave b m tries) × Fits ToDevice (tries_leave b m tries)
  tries-brought m can [] e b f = ((λ before store. refl), f)
  tries-brought m can (a ∷ rest) e b f =
      let sent = frame ToDevice m in
      let two = and_parts (may_arrive sent a) (all (may_arrive sent) rest) e in
      let mid = leaves ToDevice b m a in
      let others = tries-brought m can rest two.1 mid (try_read ToDevice m can a two.0 b f).fits in (
        brought-append b mid (tries_leave mid m rest) (arriving sent a) (tries_arriving sent rest) (brings ToDevice b m a) (tries_brought mid m rest)
            (any_try carry m can a two.0 b f) others.0,
        others.1,
      )

  all-brought : (cs : List Sent) → all_may_come cs ≡ true → (b : Begun) → Fits ToDevice b → Brought b (all_arriving cs) (all_brought b cs) (all_leave b cs)
  all-brought [] e b f = λ before store. refl
  all-brought (c ∷ cs) e b f =
      let m = c.command in
      let sent = frame ToDevice m in
      let two = and_parts (may_come c) (all_may_come cs) e in
      let own = and_parts (sendable ToDevice m) (all (may_arrive sent) c.tries) two.0 in
      let first = tries-brought m own.0 c.tries own.1 b f in
      let mid = tries_leave b m c.tries in
      brought-append b mid (all_leave mid cs) (tries_arriving sent c.tries) (all_arriving cs) (tries_brought b m c.tries) (all_brought mid cs)
      first.0 (all-brought cs two.1 mid first.1)

  -- events are carried out as the messages among them, those left out that repeat the one before
  abbrev Carries : Reaction B → B → List Message → Type 0
  Carries r store new = (r.carried ≡ new) × (r.store ≡ carry_all carry store new)

  abbrev turn_then : List Event → Turn B → Reaction B
  turn_then es t = behind t.gives t.carried (reacts carry t.state.before t.state.store es)

  heard-new : (es : List Event) → ((before : Before) (store : B) → Carries (reacts carry before store es) store (new_behind before (messages es)))
      → (before : Before) (store : B) (m : Message) (r : Bool) → repeats before m ≡ r
      → Carries (turn_then es (on_frame carry before store m)) store (new_behind before (m ∷ messages es))
  heard-new es rest before store m true e =
      subst (λ (t : Turn B). Carries (turn_then es t) store (new_behind before (m ∷ messages es))) (sym (frame_again_lem carry before store m e))
      (subst (λ ms. Carries (reacts carry before store es) store ms) (sym (same_behind before m (messages es) e)) (rest before store))
  heard-new es rest before store m false e =
      let answer = (carry store m).answer in
      let others = rest (was m.seq m.code answer) (carry store m).store in
      let turned : Turn B = record { number = (carry store m).number; gives = (carry store m).lead ++ answer; carried = m ∷ []; state = device outside (was m.seq m.code answer) (carry store m).store } in
      subst (λ (t : Turn B). Carries (turn_then es t) store (new_behind before (m ∷ messages es))) (sym (frame_new carry before store m e))
      (subst (λ ms. Carries (turn_then es turned) store ms) (sym (other_behind before m (messages es) answer e)) (ap (λ ms. m ∷ ms) others.0, others.1))

  reacts-new : (es : List Event) (before : Before) (store : B) → Carries (reacts carry before store es) store (new_behind before (messages es))
  reacts-new [] none store = (refl, refl)
  reacts-new [] (was seq code answer) store = (refl, refl)
  reacts-new (nothing ∷ es) before store = reacts-new es before store
  reacts-new (broken_frame ∷ es) before store = reacts-new es before store
  reacts-new (heard m ∷ es) before store = heard-new es (reacts-new es) before store m (repeats before m) refl

  -- the theorem: what is carried out is what is heard, told from the tries alone, repeats left out
  pub carries_out_what_is_heard : (cs : List Sent) → all_may_come cs ≡ true → (store : B)
      → ((session carry (switched_on store) (all_arriving cs)).carried ≡ without_repeats (all_heard clear cs))
      × ((session carry (switched_on store) (all_arriving cs)).state.store ≡ carry_all carry store (without_repeats (all_heard clear cs)))
  carries_out_what_is_heard cs e store =
      let brought = all-brought cs e clear tt none store in
      let new = reacts-new (all_brought clear cs) none store in
      let told = ap without_repeats (all_heard_lem cs clear) in (
        ap (λ (z : Session B). z.carried) brought ∙ new.0 ∙ told,
        ap (λ (z : Session B). z.state.store) brought ∙ new.1 ∙ ap (carry_all carry store) told,
      )

-- where no try lacks only its last byte, exactly the whole ones are heard
abbrev wholes : Message → List Arrival → List Message
wholes m [] = []
wholes m (a ∷ rest) = cond (is_whole a) (m ∷ []) [] ++ wholes m rest

abbrev all_wholes : List Sent → List Message
all_wholes [] = []
all_wholes (c ∷ cs) = wholes c.command c.tries ++ all_wholes cs

abbrev LacksMore : Begun → Type 0
LacksMore clear = Unit {0}
LacksMore (begun n count) = eqb (count + 1) (length (frame ToDevice n)) ≡ false

pub start_silent : (b : Begun) (es : List Event) → messages (start_brings b ++ es) ≡ messages es
start_silent clear es = refl
start_silent (begun n count) es = go (ltb 1 count)
  where
    go : (t : Bool) → messages (cond t (broken_frame ∷ []) [] ++ es) ≡ messages es
    go true = refl
    go false = refl

pub damage_silent : (size at byte : ℕ) → messages (damage_brings size at byte) ≡ []
damage_silent size at byte = go (eqb byte 0x01 && (ltb 1 at && ltb (at + 1) size))
  where
    go : (t : Bool) → messages (cond t (broken_frame ∷ broken_frame ∷ []) (broken_frame ∷ [])) ≡ []
    go true = refl
    go false = refl

lost_silent : (b : Begun) (byte : ℕ) → LacksMore b → messages (lost_start_brings ToDevice b byte) ≡ []
lost_silent clear byte l = refl
lost_silent (begun n count) byte l = go (eqb byte 0x03) (eqb (count + 1) (length (frame ToDevice n))) l
  where
    go : (s t : Bool) → t ≡ false → messages (cond (s && t) (heard n ∷ []) (broken_frame ∷ [])) ≡ []
    go true true e = absurd (false≢true (sym e))
    go true false e = refl
    go false t e = refl

try_heard : (m : Message) (a : Arrival) (b : Begun) → LacksMore b → messages (brings ToDevice b m a) ≡ cond (is_whole a) (m ∷ []) []
try_heard m whole b l = start_silent b (heard m ∷ [])
try_heard m (replaced zero byte) b l = lost_silent b byte l
try_heard m (replaced (suc i) byte) b l =
    start_silent b (damage_brings (length (frame ToDevice m)) (suc i) byte) ∙ damage_silent (length (frame ToDevice m)) (suc i) byte
try_heard m (cut zero) b l = refl
try_heard m (cut (suc n)) b l = ap messages (sym (append-nil (start_brings b))) ∙ start_silent b []

try_lacks : (m : Message) → sendable ToDevice m ≡ true → (a : Arrival) → not (lacks_last m a) ≡ true → (b : Begun) → LacksMore b → LacksMore (leaves ToDevice b m a)
try_lacks m can whole e b l = tt
try_lacks m can (replaced at byte) e b l = go (eqb byte 0x01 && eqb (at + 1) (length (frame ToDevice m)))
  where
    go : (t : Bool) → LacksMore (cond t (begun m 1) clear)
    go true = ne_eqb (1 + 1) (length (frame ToDevice m)) (λ q. omega (arith, (frame_size ToDevice m can).0))
    go false = tt
try_lacks m can (cut zero) e b l = l
try_lacks m can (cut (suc n)) e b l = not-true (eqb (suc n + 1) (length (frame ToDevice m))) e

tries_whole : (m : Message) → sendable ToDevice m ≡ true → (tries : List Arrival) → all (λ a. not (lacks_last m a)) tries ≡ true → (b : Begun) → LacksMore b
    → (tries_heard b m tries ≡ wholes m tries) × LacksMore (tries_leave b m tries)
tries_whole m can [] e b l = (refl, l)
tries_whole m can (a ∷ rest) e b l =
    let two = and_parts (not (lacks_last m a)) (all (λ a. not (lacks_last m a)) rest) e in
    let others = tries_whole m can rest two.1 (leaves ToDevice b m a) (try_lacks m can a two.0 b l) in (
      ap (λ z. z ++ tries_heard (leaves ToDevice b m a) m rest) (try_heard m a b l) ∙ ap (λ z. cond (is_whole a) (m ∷ []) [] ++ z) others.0,
      others.1,
    )

all_whole : (cs : List Sent) → all_may_come cs ≡ true → none_lacks_last cs ≡ true → (b : Begun) → LacksMore b → all_heard b cs ≡ all_wholes cs
all_whole [] e f b l = refl
all_whole (c ∷ cs) e f b l =
    let m = c.command in
    let may = and_parts (may_come c) (all_may_come cs) e in
    let can = and_parts (sendable ToDevice m) (all (may_arrive (frame ToDevice m)) c.tries) may.0 in
    let two = and_parts (all (λ a. not (lacks_last m a)) c.tries) (none_lacks_last cs) f in
    let own = tries_whole m can.0 c.tries two.0 b l in
    ap (λ z. z ++ all_heard (tries_leave b m c.tries) cs) own.0
    ∙ ap (λ z. wholes m c.tries ++ z) (all_whole cs may.1 two.1 (tries_leave b m c.tries) own.1)

-- of the whole tries of one command the first is new, and no other
again_old : (m : Message) (tries : List Arrival) (rest : List Message) → new_after m (wholes m tries ++ rest) ≡ new_after m rest
again_old m [] rest = refl
again_old m (whole ∷ tries) rest =
    ap (λ t. cond (not t) (m ∷ []) [] ++ new_after m (wholes m tries ++ rest)) (same m) ∙ again_old m tries rest
again_old m (replaced at byte ∷ tries) rest = again_old m tries rest
again_old m (cut count ∷ tries) rest = again_old m tries rest

first_new : (before : Before) (m : Message) → repeats before m ≡ false → (tries : List Arrival) (rest : List Message)
    → new_behind before (wholes m tries ++ rest) ≡ cond (any is_whole tries) (m ∷ new_after m rest) (new_behind before rest)
first_new before m d [] rest = refl
first_new before m d (whole ∷ tries) rest =
    other_behind before m (wholes m tries ++ rest) [] d ∙ ap (λ z. m ∷ z) (sym (new_behind_lem m [] (wholes m tries ++ rest)) ∙ again_old m tries rest)
first_new before m d (replaced at byte ∷ tries) rest = first_new before m d tries rest
first_new before m d (cut count ∷ tries) rest = first_new before m d tries rest

none_whole : (m : Message) (tries : List Arrival) → any is_whole tries ≡ false → wholes m tries ≡ []
none_whole m [] e = refl
none_whole m (whole ∷ tries) e = absurd (false≢true (sym e))
none_whole m (replaced at byte ∷ tries) e = none_whole m tries e
none_whole m (cut count ∷ tries) e = none_whole m tries e

whole_new : (cs : List Sent) (before : Before) → New before (arrived_whole cs) → neighbours_differ (arrived_whole cs) ≡ true
    → new_behind before (all_wholes cs) ≡ commands (arrived_whole cs)
whole_new [] none n e = refl
whole_new [] (was seq code answer) n e = refl
whole_new (c ∷ cs) before n e = go (any is_whole c.tries) refl n e (whole_new cs)
  where
    m : Message
    m = c.command

    here : Bool → List Sent
    here t = cond t (c ∷ []) [] ++ arrived_whole cs

    go : (t : Bool) → any is_whole c.tries ≡ t → New before (here t) → neighbours_differ (here t) ≡ true
        → ((last : Before) → New last (arrived_whole cs) → neighbours_differ (arrived_whole cs) ≡ true → new_behind last (all_wholes cs) ≡ commands (arrived_whole cs))
        → new_behind before (wholes m c.tries ++ all_wholes cs) ≡ commands (here t)
    go true w n e rest =
        let two = and_parts (differs_from m (arrived_whole cs)) (neighbours_differ (arrived_whole cs)) e in
        first_new before m n c.tries (all_wholes cs)
        ∙ ap (λ t. cond t (m ∷ new_after m (all_wholes cs)) (new_behind before (all_wholes cs))) w
        ∙ ap (λ z. m ∷ z) (new_behind_lem m [] (all_wholes cs) ∙ rest (was m.seq m.code []) (new_next m [] (arrived_whole cs) two.0) two.1)
    go false w n e rest = ap (λ z. new_behind before (z ++ all_wholes cs)) (none_whole m c.tries w) ∙ rest before n e

-- the theorem in the customer's words: the device carries out exactly those commands of which a try arrived whole, each once and in order
pub carries_out_those_whole : {B : Type 0} (carry : B → Message → Carried B) (cs : List Sent) → all_may_come cs ≡ true → none_lacks_last cs ≡ true
    → neighbours_differ (arrived_whole cs) ≡ true → (store : B)
    → ((session carry (switched_on store) (all_arriving cs)).carried ≡ commands (arrived_whole cs))
    × ((session carry (switched_on store) (all_arriving cs)).state.store ≡ carry_all carry store (commands (arrived_whole cs)))
carries_out_those_whole carry cs e f d store =
    let heard-so = carries_out_what_is_heard carry cs e store in
    let those = ap without_repeats (all_whole cs e f clear tt) ∙ whole_new cs none (new_none (arrived_whole cs)) d in
    (heard-so.0 ∙ those, heard-so.1 ∙ ap (carry_all carry store) those)
