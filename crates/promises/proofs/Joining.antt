-- Turn by turn, whatever the buffers lent: what an answer shows is what the command did.
use mathlib.Core.Path.{◌≡◌, refl, sym, ap, ◌∙◌, subst}
use mathlib.Core.Bool.{Bool, true, false, cond}
use mathlib.Core.List.{List, [], ◌∷◌, ◌++◌, append_assoc}
use Prim.Native.Nat.{ℕ, ◌+◌, ◌-◌}
use native.Mathlib.Omega.{arith}
use lib.ListN.{length, take, drop, length-append}
use lib.Seq.{take_at}
use Rattle.text.specs.Digits.{digits, number}
use Rattle.text.proofs.Laws.{length_digits}
use Rattle.wire.specs.Frame.{Message, answer_of, total, bcc, counted, frame}
use Rattle.wire.specs.declared.Way.TheVariants as way
use Rattle.reader.specs.Reading.{Place, Event, nothing, broken_frame, heard, read}
use Rattle.kinds.specs.declared.Command.{Command}
use Rattle.kinds.specs.declared.Command.TheVariants.{Drawer}
use Rattle.kinds.specs.Fields.{Parsed}
use Rattle.std.specs.Prelude.{Ok}
use Rattle.kinds.specs.declared.Service.{Service}
use Rattle.command.specs.Commands.{parsed_of}
use Rattle.sheet.specs.Searches.{place_of, match_of}
use Rattle.books.specs.declared.Books.{Books}
use Rattle.books.specs.declared.Shown.{Shown}
use Rattle.books.specs.declared.Shown.TheVariants as shown
use Rattle.answers.specs.Contents.{comma_each, content_of}
use Rattle.answers.specs.Status.{status_of}
use Rattle.answers.proofs.Shown.{field_shows}
use Rattle.deeds.specs.declared.Deed.{Deed}
use Rattle.line.specs.Turns.{was, State, Turn, Session, repeats, on_event, turn, session}
use Rattle.guard.specs.Guard.{judged_by}
use Rattle.store.specs.Store.{Store, with_guard}
use Rattle.store.specs.Commands.{left_by}
use Rattle.machine.specs.Device.{Lent, enough, lent_turn}
use Rattle.carrying.specs.Carrying.{search_in, deed_for, answer_to, carry}
use Rattle.history.specs.Entries.{Entry, entry_of}
use Rattle.history.specs.Reached.{Reached}
use Rattle.history.proofs.Digits.{digits_fit}
use Rattle.history.proofs.Laws.{seventy_shows_the_drawer}
use Rattle.promises.specs.Demand2.{Moment, comes, on_anew, always_lent, on_turn, turn_by, turns_of, device_after, all_given, all_carried, data_in, cash_in}
use Rattle.promises.proofs.Demand1.{deed_stays}
use Rattle.promises.proofs.DeviceRows.{again, short7}

-- the data stands in an answer's frame where it is read from
module _ (content behind frame-end bcc-part : List ℕ) where
  one-tail : content ++ behind ++ frame-end ++ bcc-part ++ (0x03 ∷ []) ≡ content ++ (behind ++ (frame-end ++ (bcc-part ++ (0x03 ∷ []))))
  one-tail =
      append_assoc (content ++ behind ++ frame-end) bcc-part (0x03 ∷ [])
      ∙ append_assoc (content ++ behind) frame-end (bcc-part ++ (0x03 ∷ []))
      ∙ append_assoc content behind (frame-end ++ (bcc-part ++ (0x03 ∷ [])))

data_read : (seq code : ℕ) (content status : List ℕ) → length status ≡ 6 → data_in (frame way.ToTill (answer_of seq code content status)) ≡ content
data_read seq code content status six =
    let check : List ℕ = bcc (total (counted seq code (content ++ 0x04 ∷ status))) in
    let tail : List ℕ = (0x04 ∷ status) ++ ((0x05 ∷ []) ++ (check ++ (0x03 ∷ []))) in
    let whole : List ℕ = frame way.ToTill (answer_of seq code content status) in
    let split : drop 4 whole ≡ content ++ tail = one-tail content (0x04 ∷ status) (0x05 ∷ []) check in
    let long : length (drop 4 whole) ≡ length content + 13 = ap length split ∙ length-append content tail ∙ omega (arith, six, length-append (0x04 ∷ status) ((0x05 ∷ []) ++ (check ++ (0x03 ∷ [])))) in
    let size : length content ≡ length whole - 17 = omega (arith, long) in
    ap (take (length whole - 17)) split ∙ take_at content tail (length whole - 17) size

-- a deed's answer, read back as the entry it makes
pub told_as_done : (b : Books) (seq code : ℕ) (c : Command) (d : Deed) → ◌≡◌ {A = Entry} (record { command = c; number = d.number; shown = data_in (frame way.ToTill (answer_to b seq code d)) }) (entry_of b c d)
told_as_done b seq code c d =
    ap (λ (z : List ℕ). record { command = c; number = d.number; shown = z }) (data_read seq code (content_of d.shown b.day d.books) (status_of d.number d.books) refl)

-- the three ways of a turn: nothing carried out, a repeat, and a frame read in some way and carried out
module _ (s : State Store) (next : Place) (m : Message) where
  abbrev deed_as : Parsed → Deed
  deed_as x = deed_for s.store.books (match_of s.store.sheet (search_in s.store.books x)) (judged_by s.store.guard x m.content).passes x

  abbrev pub store_as : Parsed → Store
  store_as x = with_guard (left_by s.store (place_of s.store.sheet (search_in s.store.books x)) (deed_as x)) (judged_by s.store.guard x m.content).guard

  abbrev answer_as : Parsed → List ℕ
  answer_as x = frame way.ToTill (answer_to s.store.books m.seq m.code (deed_as x))

  abbrev pub order_as : Parsed → Turn Store
  order_as x =
      record {
        number = (deed_as x).number;
        gives = answer_as x;
        carried = m ∷ [];
        state = record { place = next; before = was m.seq m.code (answer_as x); store = store_as x };
      }

  abbrev pub order : Turn Store
  order = order_as (parsed_of m.code m.content)

-- what holds of every turn that carries out nothing and leaves all that is remembered, and of every one that carries out its frame, holds of every byte's
pub byte_turn : (P : Turn Store → Type 0) (s : State Store)
    → ((t : Turn Store) → t.carried ≡ [] → t.state.store ≡ s.store → P t) → ((next : Place) (m : Message) → P (order s next m)) → (lent : Lent) (byte : ℕ) → P (lent_turn lent s byte)
byte_turn P s quiet carries lent byte = go (enough lent)
  where
    whole : (next : Place) (m : Message) (repeat : Bool) → P (cond repeat (again s next) (order s next m))
    whole next m true = quiet (again s next) refl refl
    whole next m false = carries next m

    event : (next : Place) (e : Event) → P (on_event carry s next e)
    event next nothing = quiet (on_event carry s next nothing) refl refl
    event next broken_frame = quiet (on_event carry s next broken_frame) refl refl
    event next (heard m) = whole next m (repeats s.before m)

    go : (long : Bool) → P (cond long (turn carry s byte) (short7 s))
    go true = event (read way.ToDevice s.place byte).place (read way.ToDevice s.place byte).event
    go false = quiet (short7 s) refl refl

-- and with switching on anew of every moment's
pub every_turn : (P : Turn Store → Type 0) (s : State Store)
    → ((t : Turn Store) → t.carried ≡ [] → t.state.store ≡ s.store → P t) → P (on_turn s) → ((next : Place) (m : Message) → P (order s next m)) → (a : Moment) → P (turn_by s a)
every_turn P s quiet on carries (comes lent byte) = byte_turn P s quiet carries lent byte
every_turn P s quiet on carries on_anew = on

-- one byte more
pub device_after_one : (s : State Store) (arrived : List Moment) (a : Moment) → device_after s (arrived ++ a ∷ []) ≡ (turn_by (device_after s arrived) a).state
device_after_one s [] a = refl
device_after_one s (x ∷ more) a = device_after_one (turn_by s x).state more a

-- a recording is a history with 217 bytes lent each time
abbrev pub turns_together : State Store → List Moment → Session Store
turns_together s arrived = record { gives = all_given (turns_of s arrived); carried = all_carried (turns_of s arrived); state = device_after s arrived }

pub session_turns : (s : State Store) (bytes : List ℕ) → session carry s bytes ≡ turns_together s (always_lent bytes)
session_turns s [] = refl
session_turns s (b ∷ bs) =
    let t : Turn Store = turn carry s b in
    ap (λ (z : Session Store). record { gives = t.gives ++ z.gives; carried = t.carried ++ z.carried; state = z.state }) (session_turns t.state bs)

-- 70: the field of an answer that shows the drawer is its cash
cash_shown : (s : Shown) (day : List ℕ) (b : Books) → s ≡ shown.InDrawer → Reached b → cash_in (content_of s day b) ≡ b.drawer.cash
cash_shown s day b e r =
    ap (λ z. cash_in (content_of z day b)) e
    ∙ ap (number 0) (take_at (digits 12 b.drawer.cash) (comma_each (digits 12 b.drawer.put ∷ digits 12 b.drawer.taken ∷ [])) 12 (length_digits 12 b.drawer.cash))
    ∙ (field_shows 12 b.drawer.cash).0 (digits_fit b r).cash

module _ (s : State Store) (r : Reached s.store.books) (m : Message) (service : Service) (is70 : parsed_of m.code m.content ≡ Ok (Drawer service)) where
  abbrev Shows : Turn Store → Type 0
  Shows t = t.carried ≡ m ∷ [] → t.number ≡ 0 → cash_in (data_in t.gives) ≡ t.state.store.books.drawer.cash

  shows : (next : Place) (n : Message) (x : Parsed) → x ≡ Ok (Drawer service) → (order_as s next n x).number ≡ 0 → cash_in (data_in (answer_as s next n x)) ≡ (deed_as s next n x).books.drawer.cash
  shows next n x e z =
      let d = deed_as s next n x in
      let none = match_of s.store.sheet (search_in s.store.books (Ok (Drawer service))) in
      let drawer : d.shown ≡ shown.InDrawer = ap (λ y. (deed_as s next n y).shown) e ∙ seventy_shows_the_drawer s.store.books none service (sym (ap (λ y. (deed_as s next n y).number) e) ∙ z) in
      ap cash_in (data_read n.seq n.code (content_of d.shown s.store.books.day d.books) (status_of d.number d.books) refl)
      ∙ cash_shown d.shown s.store.books.day d.books drawer (deed_stays s.store.books (match_of s.store.sheet (search_in s.store.books x)) (judged_by s.store.guard x n.content).passes x r)

  pub cash_in_answer : (a : Moment) → Shows (turn_by s a)
  cash_in_answer =
      every_turn Shows s (λ t none same one. let z : ◌≡◌ {A = ℕ} 0 1 = cc in absurd (omega arith)) (λ one. let z : ◌≡◌ {A = ℕ} 0 1 = cc in absurd (omega arith))
      (λ next n one z.
      let same : m ≡ n = cc in
      shows next n (parsed_of n.code n.content) (subst (λ (y : Message). parsed_of y.code y.content ≡ Ok (Drawer service)) same is70) z)
