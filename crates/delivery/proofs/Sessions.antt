-- What the device makes of a run of bytes: its answers to what reading brings, one after the other.
use mathlib.Core.Path.{◌≡◌, refl, sym, ap, ◌∙◌}
use mathlib.Core.Bool.{Bool, true, false, cond}
use mathlib.Core.List.{List, [], ◌∷◌, ◌++◌, append_assoc}
use Prim.Native.Nat.{ℕ}
use Rattle.wire.specs.Frame.{Message}
use Rattle.wire.specs.declared.Way.TheVariants.{ToDevice}
use Rattle.reader.specs.Reading.{Place, outside, Event, nothing, broken_frame, heard, read, run}
use Rattle.line.specs.Turns.{Before, was, State, Carried, Turn, Session, repeats, last_answer, on_whole, on_event, turn, session}
use Rattle.tries.specs.TryRead.{news}

-- a device, part by part
abbrev pub device : {B : Type 0} → Place → Before → B → State B
device p before store = record { place = p; before = before; store = store }

-- what events bring to a device, wherever it reads
pub record Reaction (B : Type 0) : Type 0 where
  pub gives : List ℕ
  pub carried : List Message
  pub before : Before
  pub store : B

-- a session that ends at this place
abbrev pub ending_at : {B : Type 0} → Place → Reaction B → Session B
ending_at p r = record { gives = r.gives; carried = r.carried; state = device p r.before r.store }

-- one more before it
abbrev pub behind : {B : Type 0} → List ℕ → List Message → Reaction B → Reaction B
behind gives carried r = record { gives = gives ++ r.gives; carried = carried ++ r.carried; before = r.before; store = r.store }

module _ {B : Type 0} (carry : B → Message → Carried B) where
  -- a session in two parts
  pub session_append : (s : State B) (xs ys : List ℕ)
      → session carry s (xs ++ ys)
      ≡ record {
        gives = (session carry s xs).gives ++ (session carry (session carry s xs).state ys).gives;
        carried = (session carry s xs).carried ++ (session carry (session carry s xs).state ys).carried;
        state = (session carry (session carry s xs).state ys).state;
      }
  session_append s [] ys = refl
  session_append s (x ∷ xs) ys =
      let t = turn carry s x in
      let first = session carry t.state xs in
      let second = session carry first.state ys in
      let gives = append_assoc t.gives first.gives second.gives in
      let carried = append_assoc t.carried first.carried second.carried in
      ap (λ (z : Session B). record { gives = t.gives ++ z.gives; carried = t.carried ++ z.carried; state = z.state }) (session_append t.state xs ys)
      ∙ (λ i. record { gives = sym gives i; carried = sym carried i; state = second.state })

  -- a frame heard, by whether it is a repeat
  abbrev pub on_frame : Before → B → Message → Turn B
  on_frame before store m = on_whole carry (device outside before store) outside m

  pub frame_again_lem : (before : Before) (store : B) (m : Message) → repeats before m ≡ true
      → on_frame before store m ≡ record { number = 6; gives = last_answer before; carried = []; state = device outside before store }
  frame_again_lem before store m e = rw e

  pub frame_new : (before : Before) (store : B) (m : Message) → repeats before m ≡ false
      → on_frame before store m
      ≡ record {
        number = (carry store m).number;
        gives = (carry store m).lead ++ (carry store m).answer;
        carried = m ∷ [];
        state = device outside (was m.seq m.code (carry store m).answer) (carry store m).store;
      }
  frame_new before store m e = rw e

  abbrev pub reacts : Before → B → List Event → Reaction B
  reacts before store [] = record { gives = []; carried = []; before = before; store = store }
  reacts before store (nothing ∷ es) = reacts before store es
  reacts before store (broken_frame ∷ es) = behind (0x15 ∷ []) [] (reacts before store es)
  reacts before store (heard m ∷ es) =
      let t = on_frame before store m in
      behind t.gives t.carried (reacts t.state.before t.state.store es)

  reacts-news : (es : List Event) (before : Before) (store : B) → reacts before store (news es) ≡ reacts before store es
  reacts-news [] before store = refl
  reacts-news (nothing ∷ es) before store = reacts-news es before store
  reacts-news (broken_frame ∷ es) before store = ap (behind (0x15 ∷ []) []) (reacts-news es before store)
  reacts-news (heard m ∷ es) before store =
      let t = on_frame before store m in
      ap (behind t.gives t.carried) (reacts-news es t.state.before t.state.store)

  -- where reading stands changes nothing of what a frame brings
  pub frame_anywhere : (s : State B) (next : Place) (m : Message)
      → on_whole carry s next m
      ≡ (let t = on_frame s.before s.store m in
      record { number = t.number; gives = t.gives; carried = t.carried; state = device next t.state.before t.state.store })
  frame_anywhere s next m = go (repeats s.before m)
    where
      answer : List ℕ
      answer = (carry s.store m).answer

      either : Bool → Place → Turn B
      either r p =
          cond r
          (record { number = 6; gives = last_answer s.before; carried = []; state = device p s.before s.store })
          (record { number = (carry s.store m).number; gives = (carry s.store m).lead ++ answer; carried = m ∷ []; state = device p (was m.seq m.code answer) (carry s.store m).store })

      go : (r : Bool) → either r next
          ≡ record { number = (either r outside).number; gives = (either r outside).gives; carried = (either r outside).carried; state = device next (either r outside).state.before (either r outside).state.store }
      go true = refl
      go false = refl

  -- the law: a session is what its events bring, and ends where reading stands
  session-run : (bs : List ℕ) (s : State B)
      → session carry s bs ≡ ending_at (run ToDevice s.place bs).place (reacts s.before s.store (run ToDevice s.place bs).events)
  session-run [] s = refl
  session-run (b ∷ bs) s = go (read ToDevice s.place b).event (session-run bs)
    where
      next : Place
      next = (read ToDevice s.place b).place

      then : Turn B → Session B
      then t = record {
        gives = t.gives ++ (session carry t.state bs).gives;
        carried = t.carried ++ (session carry t.state bs).carried;
        state = (session carry t.state bs).state;
      }

      end : Place
      end = (run ToDevice next bs).place

      es : List Event
      es = (run ToDevice next bs).events

      go : (e : Event) → ((z : State B) → session carry z bs ≡ ending_at (run ToDevice z.place bs).place (reacts z.before z.store (run ToDevice z.place bs).events))
          → then (on_event carry s next e) ≡ ending_at end (reacts s.before s.store (e ∷ es))
      go nothing rest = rest (device next s.before s.store)
      go broken_frame rest =
          ap (λ (z : Session B). record { gives = 0x15 ∷ z.gives; carried = z.carried; state = z.state }) (rest (device next s.before s.store))
      go (heard m) rest =
          let t = on_frame s.before s.store m in
          ap then (frame_anywhere s next m)
          ∙ ap (λ (z : Session B). record { gives = t.gives ++ z.gives; carried = t.carried ++ z.carried; state = z.state }) (rest (device next t.state.before t.state.store))

  pub session_news : (bs : List ℕ) (p : Place) (before : Before) (store : B)
      → session carry (device p before store) bs ≡ ending_at (run ToDevice p bs).place (reacts before store (news (run ToDevice p bs).events))
  session_news bs p before store =
      session-run bs (device p before store)
      ∙ ap (ending_at (run ToDevice p bs).place) (sym (reacts-news (run ToDevice p bs).events before store))
