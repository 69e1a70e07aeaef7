-- A call of the device: its promise in two halves, and what it leaves to the rest of a session.
use mathlib.Core.Path.{◌≡◌, refl, sym, ap, ◌∙◌, subst}
use mathlib.Core.Bool.{Bool, true, false, cond}
use mathlib.Core.List.{List, [], ◌∷◌, ◌++◌}
use Prim.Native.Nat.{ℕ, ◌+◌, ◌≤◌, ◌<◌}
use native.Mathlib.Numerals.{add-one}
use native.Mathlib.Omega.{arith}
use lib.ListN.{length, take, drop}
use lib.Seq.{length-sets}
use Rattle.text.proofs.Laws.{empty}
use Rattle.wire.specs.Frame.{Message, command_of}
use Rattle.wire.specs.declared.Way.TheVariants.{ToDevice}
use Rattle.reader.specs.Reading.{Place, outside, Event, nothing, broken_frame, heard, Read, read}
use Rattle.reader.specs.Fields.{place_of, reader_of, kept_in}
use Rattle.reader.proofs.Running.{bytes_of, place_back, read_room, kept_length}
use Rattle.reader.proofs.Holding.{Underway, underway_few, underway_read}
use Rattle.line.specs.Turns.{Before, was, State, Turn, turn, on_event, Session, session, repeats, last_answer}
use Rattle.line.specs.Calls.{before_of, is_repeat, is_quiet, call_of, called_of}
use Rattle.line.specs.Listening.{frame_after, listened_to, frame_behind}
use Rattle.line.specs.declared.Call.{Call}
use Rattle.line.specs.declared.Call.TheVariants.{Quiet, Again, Order}
use Rattle.line.specs.declared.Port.{Port}
use Rattle.line.specs.declared.Listened.{Listened}
use Rattle.sheet.specs.declared.Line.{Line}
use Rattle.books.specs.declared.Books.{Books}
use Rattle.guard.specs.declared.Guard.{Guard}
use Rattle.store.specs.Store.{Store}
use Rattle.display.specs.Display.{display_of, displayed}
use Rattle.carrying.specs.Carrying.{carry, texts_of}
use Rattle.machine.specs.Device.{Lent, enough, Machine, store_of, After, state_of, machine_after, taken, not_taken, previous_after, last_after}
use Rattle.machine.specs.Answering.{answering}
use Rattle.machine.specs.Hearing.{PartHeard, one_more, hearing, after_part, carried_by}
use Rattle.machine.specs.Beginning.{texts_by}
use Rattle.machine.proofs.Working.{front_stands, again_few}
use Rattle.machine.proofs.Turning.{Standing-in, heard_whole, same_repeat, byte_is, byte_quiet, quiet_is, again_turn, order_turn, call_at}

-- what is listened to, then what it asks for
module _ (b : Books) (g : Guard) (last : List ℕ) (sheet : List Line) (lent : Lent) where
  abbrev pub at : Port → List ℕ → Machine
  at l frame = record { device = record { line = l; books = b; guard = g }; frame = frame; last = last; sheet = sheet }

  abbrev pub halves : Listened → List ℕ → PartHeard
  halves x frame = record { after = answering x.call (at x.line frame) lent; call = x.call; taken = x.taken }

  pub two_halves : (bytes : List ℕ) (l : Port) (frame : List ℕ) → halves (listened_to l frame bytes) (frame_behind l frame bytes) ≡ hearing (at l frame) lent bytes
  two_halves [] l frame = refl
  two_halves (x ∷ xs) l frame = go (is_quiet (call_at m lent x)) refl (two_halves xs next kept)
    where
      m : Machine
      m = at l frame

      next : Port
      next = (called_of l frame x).line

      kept : List ℕ
      kept = frame_after l frame x

      later : Listened
      later = listened_to next kept xs

      a : After
      a = taken m lent (turn carry (state_of m) x)

      go : (q : Bool) → is_quiet (call_at m lent x) ≡ q → halves later (frame_behind next kept xs) ≡ hearing (at next kept) lent xs
          → halves (cond q (record { line = later.line; call = later.call; taken = later.taken + 1 }) (record { line = next; call = call_at m lent x; taken = 1 })) (cond q (frame_behind next kept xs) kept)
          ≡ cond q (one_more (hearing a.machine a.lent xs)) (record { after = a; call = call_at m lent x; taken = 1 })
      go true e rest = ap one_more rest ∙ ap (λ (z : After). one_more (hearing z.machine z.lent xs)) (byte_quiet m lent x e)
      go false e rest = ap (λ z. record { after = z; call = call_at m lent x; taken = 1 }) (byte_is m lent x)

module _ (m : Machine) (lent : Lent) (bytes : List ℕ) where
  pub part_long : enough lent ≡ true → hearing m lent bytes ≡ after_part m lent bytes
  part_long h = sym (ap (λ z. cond z (hearing m lent bytes) (record { after = not_taken m lent; call = Quiet; taken = 0 })) h)

-- what a turn leaves in the fields and arrays says the state that it leads to
module _ (m : Machine) (lasts : length m.last ≡ 217) where
  abbrev none : Lent
  none = record { buffer = []; lines = 0; display = [] }

  -- a whole frame, by whether it is a repeat
  abbrev whole : Place → Message → Bool → Turn Store
  whole next n repeat = cond repeat (again_turn m none next) (order_turn m none next n)

  kept-before : (next : Place) (n : Message) (repeat : Bool) → length (last_answer (whole next n repeat).state.before) ≤ 217
      → before_of (previous_after m.device.line.previous (whole next n repeat).carried (whole next n repeat).state.before) (last_after m.last (whole next n repeat).carried (whole next n repeat).state.before)
      ≡ (whole next n repeat).state.before
  kept-before next n true h = refl
  kept-before next n false h = ap (was n.seq n.code) (front_stands m.last (carry (store_of m) n).answer (omega (arith, lasts, h)))

  before_back : (next : Place) (e : Event) → length (last_answer (on_event carry (state_of m) next e).state.before) ≤ 217
      → before_of (previous_after m.device.line.previous (on_event carry (state_of m) next e).carried (on_event carry (state_of m) next e).state.before)
      (last_after m.last (on_event carry (state_of m) next e).carried (on_event carry (state_of m) next e).state.before)
      ≡ (on_event carry (state_of m) next e).state.before
  before_back next nothing h = refl
  before_back next broken_frame h = refl
  before_back next (heard n) h = kept-before next n (repeats (before_of m.device.line.previous m.last) n) h

  pub place_kept : (next : Place) (e : Event) → (on_event carry (state_of m) next e).state.place ≡ next
  place_kept next nothing = refl
  place_kept next broken_frame = refl
  place_kept next (heard n) = go (repeats (before_of m.device.line.previous m.last) n)
    where
      go : (repeat : Bool) → (whole next n repeat).state.place ≡ next
      go true = refl
      go false = refl

  pub one_at_most : (next : Place) (e : Event) → length (on_event carry (state_of m) next e).carried ≤ 1
  one_at_most next nothing = omega arith
  one_at_most next broken_frame = omega arith
  one_at_most next (heard n) = go (repeats (before_of m.device.line.previous m.last) n)
    where
      go : (repeat : Bool) → length (whole next n repeat).carried ≤ 1
      go true = omega arith
      go false = omega arith

  -- and the command carried out is the call's
  call-carried : (next : Place) (e : Event) → ((n : Message) → e ≡ heard n → (next ≡ outside) × Standing-in m.frame n) → (frame' : List ℕ) → frame' ≡ kept_in m.frame next
      → (on_event carry (state_of m) next e).carried ≡ carried_by (call_of m.device.line.previous e) frame'
  call-carried next nothing k frame' ef = refl
  call-carried next broken_frame k frame' ef = refl
  call-carried next (heard n) k frame' ef =
      let same : frame' ≡ m.frame = ef ∙ ap (kept_in m.frame) (k n refl).0 in
      ap (λ z. (whole next n z).carried) (same_repeat m.device.line.previous m.last n) ∙ go (is_repeat m.device.line.previous n.seq n.code) same
    where
      go : (repeat : Bool) → frame' ≡ m.frame → (whole next n repeat).carried ≡ carried_by (cond repeat Again (Order n.seq n.code (length n.content))) frame'
      go true same = refl
      go false same =
          ap (λ z. z ∷ []) (k n refl).1 ∙ ap (λ z. command_of n.seq n.code (take (length n.content) (drop 3 z)) ∷ []) (sym same)

  -- an answer that is kept is given back whole, with its lead before it or without
  answer_few : (next : Place) (e : Event) → length (on_event carry (state_of m) next e).gives ≤ 217 → length (last_answer (on_event carry (state_of m) next e).state.before) ≤ 217
  answer_few next nothing h = again_few m.device.line.previous m.last lasts
  answer_few next broken_frame h = again_few m.device.line.previous m.last lasts
  answer_few next (heard n) h = go (repeats (before_of m.device.line.previous m.last) n) h
    where
      go : (repeat : Bool) → length (whole next n repeat).gives ≤ 217 → length (last_answer (whole next n repeat).state.before) ≤ 217
      go true few = few
      go false few = few

  pub state_back : (byte : ℕ) → length (bytes_of (place_of m.device.line.reader m.frame)) < 256 → length m.frame ≡ 256 → length (turn carry (state_of m) byte).gives ≤ 217
      → state_of (machine_after m (turn carry (state_of m) byte)) ≡ (turn carry (state_of m) byte).state
  state_back byte small size few =
      let frame = m.frame in
      let t : Turn Store = turn carry (state_of m) byte in
      let here = place_of m.device.line.reader frame in
      let at : Read = read ToDevice here byte in
      let kept = place_kept at.place at.event in
      let back : place_of (reader_of at.place) (kept_in frame at.place) ≡ at.place = place_back frame at.place (omega (arith, read_room ToDevice here byte, small, size)) in
      let held : Before = (state_of (machine_after m t)).before in
      ap (λ z. record { place = place_of (reader_of z) (kept_in frame z); before = held; store = t.state.store }) kept
      ∙ ap (λ z. record { place = z; before = held; store = t.state.store }) (back ∙ sym kept)
      ∙ ap (λ z. record { place = t.state.place; before = z; store = t.state.store }) (before_back at.place at.event (answer_few at.place at.event few))

-- a session with what came before it
abbrev pub behind : List ℕ → List Message → Session Store → Session Store
behind gives carried r = record { gives = gives ++ r.gives; carried = carried ++ r.carried; state = r.state }

-- a call on bytes that wait: what it gives back, and that the session goes on behind it
pub record Part (m : Machine) (lent : Lent) (bytes : List ℕ) (h : PartHeard) : Type 0 where
  pub gives : List ℕ
  pub given_is : take h.after.count h.after.lent.buffer ≡ gives
  pub frames : length h.after.machine.frame ≡ 256
  pub lasts : length h.after.machine.last ≡ 217
  pub room : length h.after.lent.buffer ≡ length lent.buffer
  pub held : Underway ToDevice (state_of h.after.machine).place
  -- PROTOCOL 5.17: what its command shows, and nothing else
  pub shows_is : h.after.shows ≡ display_of (texts_by h.call h.after.machine.frame)
  pub display_is : h.after.lent.display ≡ displayed lent.display (texts_by h.call h.after.machine.frame)
  pub goes_on : session carry (state_of m) bytes
      ≡ behind gives (carried_by h.call h.after.machine.frame) (session carry (state_of h.after.machine) (drop h.taken bytes))

pub part_is : (bytes : List ℕ) (m : Machine) (lent : Lent) → length m.frame ≡ 256 → length m.last ≡ 217 → 217 ≤ length lent.buffer
    → Underway ToDevice (state_of m).place → (hearing m lent bytes).after.count ≤ 217 → Part m lent bytes (hearing m lent bytes)
part_is [] m lent frames lasts room held few = record { gives = []; given_is = refl; frames = frames; lasts = lasts; room = refl; held = held; shows_is = refl; display_is = refl; goes_on = refl }
part_is (x ∷ xs) m lent frames lasts room held few = go (is_quiet call) refl few (part_is xs)
  where
    call : Call
    call = call_at m lent x

    t : Turn Store
    t = turn carry (state_of m) x

    a : After
    a = taken m lent t

    at : Read
    at = read ToDevice (state_of m).place x

    rest : PartHeard
    rest = hearing a.machine a.lent xs

    last-length : (ms : List Message) → length (last_after m.last ms t.state.before) ≡ length m.last
    last-length [] = refl
    last-length (n ∷ ns) = length-sets m.last 0 (last_answer t.state.before)

    frames' : length a.machine.frame ≡ 256
    frames' = kept_length m.frame t.state.place ∙ frames

    lasts' : length a.machine.last ≡ 217
    lasts' = last-length t.carried ∙ lasts

    back : length t.gives ≤ 217 → state_of a.machine ≡ t.state
    back f = state_back m lasts x (underway_few ToDevice (state_of m).place held) frames f

    held' : length t.gives ≤ 217 → Underway ToDevice (state_of a.machine).place
    held' f = subst (Underway ToDevice) (sym (ap (λ (s : State Store). s.place) (back f) ∙ place_kept m lasts at.place at.event)) (underway_read ToDevice (state_of m).place x held)

    now-carried : t.carried ≡ carried_by call a.machine.frame
    now-carried =
        call-carried m lasts at.place at.event (heard_whole m.device.line.reader m.frame x) a.machine.frame (ap (kept_in m.frame) (place_kept m lasts at.place at.event))

    either : Bool → PartHeard
    either q = cond q (one_more rest) (record { after = a; call = call; taken = 1 })

    go : (q : Bool) → is_quiet call ≡ q → (either q).after.count ≤ 217
        → ((n : Machine) (given : Lent) → length n.frame ≡ 256 → length n.last ≡ 217 → 217 ≤ length given.buffer
        → Underway ToDevice (state_of n).place → (hearing n given xs).after.count ≤ 217 → Part n given xs (hearing n given xs))
        → Part m lent (x ∷ xs) (either q)
    go true e few below =
        let same = byte_quiet m lent x e in
        let none : t.gives ≡ [] = empty t.gives (sym (ap (λ (z : After). z.count) same)) in
        let idle : t.carried ≡ [] = now-carried ∙ ap (λ z. carried_by z a.machine.frame) (quiet_is call e) in
        let little : length t.gives ≤ 217 = omega (arith, ap length none) in
        let p = below a.machine a.lent frames' lasts' (omega (arith, room, length-sets lent.buffer 0 t.gives)) (held' little) few in
        let r : Session Store = session carry (state_of a.machine) xs in
        record {
          gives = p.gives;
          given_is = p.given_is;
          frames = p.frames;
          lasts = p.lasts;
          room = p.room ∙ length-sets lent.buffer 0 t.gives;
          held = p.held;
          shows_is = p.shows_is;
          display_is = p.display_is ∙ ap (λ z. displayed (displayed lent.display (texts_of z)) (texts_by rest.call rest.after.machine.frame)) idle;
          goes_on =
              ap (λ (z : State Store). behind t.gives t.carried (session carry z xs)) (sym (back little))
              ∙ ap (λ z. behind z t.carried r) none ∙ ap (λ z. behind [] z r) idle ∙ p.goes_on
              ∙ ap (λ k. behind p.gives (carried_by rest.call rest.after.machine.frame) (session carry (state_of rest.after.machine) (drop k (x ∷ xs)))) (sym (add-one rest.taken));
        }
    go false e few below =
        record {
          gives = t.gives;
          given_is = front_stands lent.buffer t.gives (omega (arith, few, room));
          frames = frames';
          lasts = lasts';
          room = length-sets lent.buffer 0 t.gives;
          held = held' few;
          shows_is = ap (λ z. display_of (texts_of z)) now-carried;
          display_is = ap (λ z. displayed lent.display (texts_of z)) now-carried;
          goes_on =
              ap (λ (z : State Store). behind t.gives t.carried (session carry z xs)) (sym (back few))
              ∙ ap (λ z. behind t.gives z (session carry (state_of a.machine) xs)) now-carried;
        }
