-- The theorem of demand 3: the list that was sent is the list that is carried out, each command once and in order; and what each try brings.
use Rattle.std.proofs.lemmas.Bool.{and_parts}
use mathlib.Core.Path.{◌≡◌, refl, sym, ap, ◌∙◌, subst}
use mathlib.Core.Bool.{Bool, true, false, cond, not, ◌&&◌, ◌||◌, or-true, or-false, false≢true}
use mathlib.Core.Logic.{◌⊎◌, ⊎_elim, inl, inr}
use mathlib.Core.List.{List, [], ◌∷◌, ◌++◌, append-nil}
use Prim.Native.Nat.{ℕ, zero, suc, ◌+◌}
use lib.Dec.{ltb, eqb}
use lib.ListN.{length}
use borrow.Author.Tests.{eq-eqb, not-true}
use Rattle.wire.specs.Frame.{Message, frame, sendable}
use Rattle.wire.specs.declared.Way.TheVariants.{ToDevice}
use Rattle.reader.specs.Reading.{Event, nothing, broken_frame, heard, run}
use Rattle.line.specs.Turns.{Before, none, was, State, Carried, Turn, Session, switched_on, repeats, last_answer, session}
use Rattle.tries.specs.Tries.{Arrival, whole, replaced, cut, may_arrive, arriving, Begun, clear, begun, leaves, start_brings, lost_start_brings, damage_brings, brings}
use Rattle.delivery.specs.Delivery.{is_whole, Sent, all, any, tried, differ, differs_from, delivery, commands, tries_arriving, all_arriving, tries_leave, given_back, heard_in, carried_in, carry_all, TriesBring, AllBring}
use Rattle.tries.specs.TryRead.{news, stands_at, Fits}
use Rattle.tries.proofs.Trying.{try_read}
use Rattle.delivery.proofs.Sessions.{device, Reaction, ending_at, behind, session_append, session_news, frame_again_lem, frame_new, reacts}

-- a command is its own repeat
pub same : (m : Message) → eqb m.seq m.seq && eqb m.code m.code ≡ true
same m = rw (eq-eqb m.seq m.seq refl, eq-eqb m.code m.code refl)

or_more : (d h r : Bool) → d || r ≡ true → (d || h) || r ≡ true
or_more true h r e = refl
or_more false true r e = refl
or_more false false r e = e

-- with one try or with the others, but once
once : (m : Message) (d h : Bool) → carried_in m d h ++ carried_in m (d || h) true ≡ carried_in m d true
once m true h = refl
once m false true = refl
once m false false = refl

-- the first command is no repeat of the frame before
abbrev pub New : Before → List Sent → Type 0
New before [] = Unit {0}
New before (c ∷ cs) = repeats before c.command ≡ false

pub new_next : (m : Message) (answer : List ℕ) (cs : List Sent) → differs_from m cs ≡ true → New (was m.seq m.code answer) cs
new_next m answer [] e = tt
new_next m answer (c ∷ cs) e = not-true (eqb m.seq c.command.seq && eqb m.code c.command.code) e

pub new_none : (cs : List Sent) → New none cs
new_none [] = tt
new_none (c ∷ cs) = refl

module _ {B : Type 0} (carry : B → Message → Carried B) where
  -- any try, at any device: what it brings, answered
  pub any_try : (m : Message) → sendable ToDevice m ≡ true → (a : Arrival) → may_arrive (frame ToDevice m) a ≡ true → (b : Begun) → Fits ToDevice b → (before : Before) (store : B)
      → session carry (device (stands_at ToDevice b) before store) (arriving (frame ToDevice m) a)
      ≡ ending_at (stands_at ToDevice (leaves ToDevice b m a)) (reacts carry before store (brings ToDevice b m a))
  any_try m can a e b f before store =
      let r = try_read ToDevice m can a e b f in
      let bytes = arriving (frame ToDevice m) a in
      let heard-so : Reaction B = reacts carry before store (news (run ToDevice (stands_at ToDevice b) bytes).events) in
      session_news carry bytes (stands_at ToDevice b) before store
      ∙ ap (λ p. ending_at p heard-so) r.place_is
      ∙ ap (λ es. ending_at (stands_at ToDevice (leaves ToDevice b m a)) (reacts carry before store es)) r.news_are

  -- one command, from the frame before and the store that it finds; `done` says whether it was carried out
  module _ (m : Message) (can : sendable ToDevice m ≡ true) (first : Before) (new : repeats first m ≡ false) (store : B) where
    abbrev k : Carried B
    k = carry store m

    abbrev before_at : Bool → Before
    before_at false = first
    before_at true = was m.seq m.code k.answer

    abbrev store_at : Bool → B
    store_at false = store
    store_at true = k.store

    -- a frame that may be heard: the command's own, or, as long as that was not, the one before once more
    record Older (done : Bool) (n : Message) : Type 0 where
      not_yet : done ≡ false
      other : differ n m ≡ true
      again : repeats first n ≡ true

    abbrev Known : Bool → List Event → Type 0
    Known done [] = Unit {0}
    Known done (nothing ∷ es) = Known done es
    Known done (broken_frame ∷ es) = Known done es
    Known done (heard n ∷ es) = ((n ≡ m) × Known true es) ⊎ (Older done n × Known done es)

    -- what such events bring
    abbrev Told : Bool → List Event → Reaction B
    Told done es = record {
      gives = given_back m (last_answer first) k done es;
      carried = carried_in m done (heard_in m es);
      before = before_at (done || heard_in m es);
      store = store_at (done || heard_in m es);
    }

    -- with one frame more in front, of another command or of this one
    abbrev ToldWith : (another done : Bool) → List Event → Reaction B
    ToldWith another done es = record {
      gives = cond another (last_answer first) (cond done [] k.lead ++ k.answer) ++ given_back m (last_answer first) k (done || not another) es;
      carried = carried_in m done (not another || heard_in m es);
      before = before_at (done || (not another || heard_in m es));
      store = store_at (done || (not another || heard_in m es));
    }

    abbrev turn_then : List Event → Turn B → Reaction B
    turn_then es t = behind t.gives t.carried (reacts carry t.state.before t.state.store es)

    -- the command itself is heard: carried out, or answered again
    own : (done : Bool) (es : List Event) → reacts carry (before_at true) (store_at true) es ≡ Told true es
        → reacts carry (before_at done) (store_at done) (heard m ∷ es) ≡ Told done (heard m ∷ es)
    own true es rest =
        ap (turn_then es) (frame_again_lem carry (before_at true) (store_at true) m (same m)) ∙ ap (behind k.answer []) rest ∙ ap (λ z. ToldWith (not z) true es) (sym (same m))
    own false es rest =
        ap (turn_then es) (frame_new carry first store m new) ∙ ap (behind (k.lead ++ k.answer) (m ∷ [])) rest ∙ ap (λ z. ToldWith (not z) false es) (sym (same m))

    -- the frame before is heard once more
    older : (done : Bool) (n : Message) (es : List Event) → Older done n → reacts carry (before_at done) (store_at done) es ≡ Told done es
        → reacts carry (before_at done) (store_at done) (heard n ∷ es) ≡ Told done (heard n ∷ es)
    older true n es o rest = absurd (false≢true (sym o.not_yet))
    older false n es o rest =
        ap (turn_then es) (frame_again_lem carry first store n o.again) ∙ ap (behind (last_answer first) []) rest ∙ ap (λ z. ToldWith z false es) (sym o.other)

    reacting : (es : List Event) (done : Bool) → Known done es → reacts carry (before_at done) (store_at done) es ≡ Told done es
    reacting [] true h = refl
    reacting [] false h = refl
    reacting (nothing ∷ es) done h = reacting es done h
    reacting (broken_frame ∷ es) done h = ap (behind (0x15 ∷ []) []) (reacting es done h)
    reacting (heard n ∷ es) done h =
        ⊎_elim
        (λ c. subst (λ z. reacts carry (before_at done) (store_at done) (heard z ∷ es) ≡ Told done (heard z ∷ es)) (sym c.0) (own done es (reacting es true c.1)))
        (λ c. older done n es c.0 (reacting es done c.1))
        h

    -- what stands begun is this command, or the one before
    abbrev Ours : Bool → Begun → Type 0
    Ours done clear = Unit {0}
    Ours done (begun n count) = (n ≡ m) ⊎ Older done n

    known_start : (b : Begun) (done : Bool) (es : List Event) → Known done es → Known done (start_brings b ++ es)
    known_start clear done es h = h
    known_start (begun n count) done es h = go (ltb 1 count)
      where
        go : (t : Bool) → Known done (cond t (broken_frame ∷ []) [] ++ es)
        go true = h
        go false = h

    known-lost : (byte : ℕ) (b : Begun) (done : Bool) → Ours done b → Known done (lost_start_brings ToDevice b byte)
    known-lost byte clear done h = tt
    known-lost byte (begun n count) done h = go (eqb byte 0x03 && eqb (count + 1) (length (frame ToDevice n)))
      where
        go : (t : Bool) → Known done (cond t (heard n ∷ []) (broken_frame ∷ []))
        go true = ⊎_elim (λ e. inl (e, tt)) (λ o. inr (o, tt)) h
        go false = tt

    known-damage : (size at byte : ℕ) (done : Bool) → Known done (damage_brings size at byte)
    known-damage size at byte done = go (eqb byte 0x01 && (ltb 1 at && ltb (at + 1) size))
      where
        go : (t : Bool) → Known done (cond t (broken_frame ∷ broken_frame ∷ []) (broken_frame ∷ []))
        go true = tt
        go false = tt

    known : (a : Arrival) (b : Begun) (done : Bool) → Ours done b → Known done (brings ToDevice b m a)
    known whole b done h = known_start b done (heard m ∷ []) (inl (refl, tt))
    known (replaced zero byte) b done h = known-lost byte b done h
    known (replaced (suc i) byte) b done h = known_start b done _ (known-damage (length (frame ToDevice m)) (suc i) byte done)
    known (cut zero) b done h = tt
    known (cut (suc c)) b done h = subst (Known done) (append-nil (start_brings b)) (known_start b done [] tt)

    ours : (a : Arrival) (b : Begun) (done : Bool) → Ours done b → Ours (done || heard_in m (brings ToDevice b m a)) (leaves ToDevice b m a)
    ours whole b done h = tt
    ours (replaced at byte) b done h = go (eqb byte 0x01 && eqb (at + 1) (length (frame ToDevice m)))
      where
        go : (t : Bool) → Ours (done || heard_in m (brings ToDevice b m (replaced at byte))) (cond t (begun m 1) clear)
        go true = inl refl
        go false = tt
    ours (cut zero) b done h = subst (λ d. Ours d b) (sym (or-false done)) h
    ours (cut (suc c)) b done h = inl refl

    -- the device between two tries
    abbrev at : Begun → Bool → State B
    at b done = device (stands_at ToDevice b) (before_at done) (store_at done)

    one-try : (a : Arrival) → may_arrive (frame ToDevice m) a ≡ true → (b : Begun) → Fits ToDevice b → (done : Bool) → Ours done b
        → session carry (at b done) (arriving (frame ToDevice m) a) ≡ ending_at (stands_at ToDevice (leaves ToDevice b m a)) (Told done (brings ToDevice b m a))
    one-try a e b f done h =
        any_try m can a e b f (before_at done) (store_at done)
        ∙ ap (ending_at (stands_at ToDevice (leaves ToDevice b m a))) (reacting (brings ToDevice b m a) done (known a b done h))

    -- a whole try is heard
    hears-whole : (b : Begun) → heard_in m (brings ToDevice b m whole) ≡ true
    hears-whole clear = ap (λ z. not (not z) || false) (same m)
    hears-whole (begun n count) = go (ltb 1 count)
      where
        go : (t : Bool) → heard_in m (cond t (broken_frame ∷ []) [] ++ heard m ∷ []) ≡ true
        go true = ap (λ z. not (not z) || false) (same m)
        go false = ap (λ z. not (not z) || false) (same m)

    still : (a : Arrival) (b : Begun) (done rest : Bool) → done || (is_whole a || rest) ≡ true → (done || heard_in m (brings ToDevice b m a)) || rest ≡ true
    still whole b done rest e = ap (λ h. (done || h) || rest) (hears-whole b) ∙ ap (λ z. z || rest) (or-true done)
    still (replaced i byte) b done rest e = or_more done (heard_in m (brings ToDevice b m (replaced i byte))) rest e
    still (cut count) b done rest e = or_more done (heard_in m (brings ToDevice b m (cut count))) rest e

    -- all the tries, at least one whole
    record Outcome (b : Begun) (done : Bool) (tries : List Arrival) : Type 0 where
      carried : (session carry (at b done) (tries_arriving (frame ToDevice m) tries)).carried ≡ carried_in m done true
      state : (session carry (at b done) (tries_arriving (frame ToDevice m) tries)).state ≡ at (tries_leave b m tries) true
      bring : TriesBring carry (at b done) b m done (last_answer first) k tries
      fits : Fits ToDevice (tries_leave b m tries)
      left : Ours true (tries_leave b m tries)

    tries-bring : (tries : List Arrival) → all (may_arrive (frame ToDevice m)) tries ≡ true → (b : Begun) → Fits ToDevice b → (done : Bool) → Ours done b
        → done || any is_whole tries ≡ true → Outcome b done tries
    tries-bring [] e b f true h some = record { carried = refl; state = refl; bring = tt; fits = f; left = h }
    tries-bring [] e b f false h some = absurd (false≢true some)
    tries-bring (a ∷ rest) e b f done h some =
        let sent = frame ToDevice m in
        let two = and_parts (may_arrive sent a) (all (may_arrive sent) rest) e in
        let brought : List Event = brings ToDevice b m a in
        let now = one-try a two.0 b f done h in
        let next = leaves ToDevice b m a in
        let o = tries-bring rest two.1 next (try_read ToDevice m can a two.0 b f).fits (done || heard_in m brought) (ours a b done h) (still a b done (any is_whole rest) some) in
        let parts = session_append carry (at b done) (arriving sent a) (tries_arriving sent rest) in
        let state = ap (λ (z : Session B). z.state) now in
        record {
          carried = ap (λ (z : Session B). z.carried) parts
              ∙ ap (λ (z : Session B). z.carried ++ (session carry z.state (tries_arriving sent rest)).carried) now
              ∙ ap (λ ms. carried_in m done (heard_in m brought) ++ ms) o.carried
              ∙ once m done (heard_in m brought);
          state = ap (λ (z : Session B). z.state) parts ∙ ap (λ (z : State B). (session carry z (tries_arriving sent rest)).state) state ∙ o.state;
          bring = (
            record { gives = ap (λ (z : Session B). z.gives) now; carried = ap (λ (z : Session B). z.carried) now },
            subst (λ (z : State B). TriesBring carry z next m (done || heard_in m brought) (last_answer first) k rest) (sym state) o.bring,
          );
          fits = o.fits;
          left = o.left;
        }

  -- what stands begun between two commands is the frame before
  abbrev Left : Before → List Sent → Begun → Type 0
  Left before cs clear = Unit {0}
  Left before cs (begun n count) = (repeats before n ≡ true) × (differs_from n cs ≡ true)

  left-ours : (c : Sent) (cs : List Sent) (can : sendable ToDevice c.command ≡ true) (before : Before) (new : repeats before c.command ≡ false) (store : B) (b : Begun)
      → Left before (c ∷ cs) b → Ours c.command can before new store false b
  left-ours c cs can before new store clear l = tt
  left-ours c cs can before new store (begun n count) l = inr (record { not_yet = refl; other = l.1; again = l.0 })

  ours-left : (m : Message) (can : sendable ToDevice m ≡ true) (before : Before) (new : repeats before m ≡ false) (store : B) (cs : List Sent) → differs_from m cs ≡ true → (b : Begun)
      → Ours m can before new store true b → Left (was m.seq m.code (carry store m).answer) cs b
  ours-left m can before new store cs e clear o = tt
  ours-left m can before new store cs e (begun n count) o =
      ⊎_elim
      (λ q. subst (λ z. Left (was m.seq m.code (carry store m).answer) cs (begun z count)) (sym q) (same m, e))
      (λ older. absurd (false≢true (sym older.not_yet)))
      o

  record Delivered (s : State B) (b : Begun) (store : B) (last : List ℕ) (cs : List Sent) : Type 0 where
    carried : (session carry s (all_arriving cs)).carried ≡ commands cs
    store_after : (session carry s (all_arriving cs)).state.store ≡ carry_all carry store (commands cs)
    bring : AllBring carry s b store last cs

  delivered-from : (cs : List Sent) → delivery cs ≡ true → (before : Before) → New before cs → (b : Begun) → Fits ToDevice b → Left before cs b → (store : B)
      → Delivered (device (stands_at ToDevice b) before store) b store (last_answer before) cs
  delivered-from [] e before new b f l store = record { carried = refl; store_after = refl; bring = tt }
  delivered-from (c ∷ cs) e before new b f l store =
      let m = c.command in
      let sent = frame ToDevice m in
      let two = and_parts (tried c && differs_from m cs) (delivery cs) e in
      let own = and_parts (tried c) (differs_from m cs) two.0 in
      let may = and_parts (sendable ToDevice m && all (may_arrive sent) c.tries) (any is_whole c.tries) own.0 in
      let can = and_parts (sendable ToDevice m) (all (may_arrive sent) c.tries) may.0 in
      let o = tries-bring m can.0 before new store c.tries can.1 b f false (left-ours c cs can.0 before new store b l) may.1 in
      let k = carry store m in
      let next = tries_leave b m c.tries in
      let rest = delivered-from cs two.1 (was m.seq m.code k.answer) (new_next m k.answer cs own.1) next o.fits
      (ours-left m can.0 before new store cs own.1 next o.left) (carry store m).store in
      let s : State B = device (stands_at ToDevice b) before store in
      let bytes = tries_arriving sent c.tries in
      let parts = session_append carry s bytes (all_arriving cs) in
      record {
        carried = ap (λ (z : Session B). z.carried) parts
            ∙ ap (λ ms. ms ++ (session carry (session carry s bytes).state (all_arriving cs)).carried) o.carried
            ∙ ap (λ (z : State B). m ∷ (session carry z (all_arriving cs)).carried) o.state
            ∙ ap (λ ms. m ∷ ms) rest.carried;
        store_after = ap (λ (z : Session B). z.state.store) parts ∙ ap (λ (z : State B). (session carry z (all_arriving cs)).state.store) o.state ∙ rest.store_after;
        bring = (o.bring, subst (λ (z : State B). AllBring carry z next k.store k.answer cs) (sym o.state) rest.bring);
      }

  delivered : (cs : List Sent) → delivery cs ≡ true → (store : B) → Delivered (switched_on store) clear store [] cs
  delivered cs e store = delivered-from cs e none (new_none cs) clear tt tt store

  -- "Then the device carries out that very list, each command once and in order."
  pub carries_out_that_very_list : (cs : List Sent) → delivery cs ≡ true → (store : B)
      → ((session carry (switched_on store) (all_arriving cs)).carried ≡ commands cs)
      × ((session carry (switched_on store) (all_arriving cs)).state.store ≡ carry_all carry store (commands cs))
  carries_out_that_very_list cs e store = ((delivered cs e store).carried, (delivered cs e store).store_after)

  -- what each try brings: the bytes given back, and with which try the command is carried out
  pub brings_for_each_try : (cs : List Sent) → delivery cs ≡ true → (store : B) → AllBring carry (switched_on store) clear store [] cs
  brings_for_each_try cs e store = (delivered cs e store).bring

-- a device that does nothing but hear
abbrev pub hears_only : Unit {0} → Message → Carried (Unit {0})
hears_only store m = record { number = 0; store = tt; lead = []; answer = [] }

-- "So two different lists never arrive as the same bytes."
pub same_bytes_same_list : (cs ds : List Sent) → delivery cs ≡ true → delivery ds ≡ true → all_arriving cs ≡ all_arriving ds → commands cs ≡ commands ds
same_bytes_same_list cs ds ec ed e =
    sym (carries_out_that_very_list hears_only cs ec tt).0
    ∙ ap (λ bs. (session hears_only (switched_on tt) bs).carried) e
    ∙ (carries_out_that_very_list hears_only ds ed tt).0
