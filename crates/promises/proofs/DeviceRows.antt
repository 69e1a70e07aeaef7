-- Demand 1 at the device: a row of the table for every byte, and no other reply by the table. `table_turn` is what the rows say, as a function; the device's own
-- turn is the same.
use mathlib.Core.Path.{◌≡◌, refl, sym, ap, ◌∙◌, subst}
use mathlib.Core.Bool.{Bool, true, false, cond, not, ◌||◌, false≢true}
use mathlib.Core.List.{List, [], ◌∷◌, ◌++◌, append-nil}
use mathlib.Core.Logic.{◌⊎◌, inl, inr}
use Prim.Native.Nat.{ℕ}
use Rattle.wire.specs.Frame.{Message}
use Rattle.wire.specs.declared.Way.TheVariants.{ToDevice}
use Rattle.reader.specs.Reading.{Place, Event, nothing, broken_frame, heard, read}
use Rattle.kinds.specs.declared.Command as kinds
use Rattle.kinds.specs.Fields.{Parsed}
use Rattle.std.specs.Prelude.{Ok, Err}
use Rattle.kinds.specs.declared.Unread.TheVariants.{Syntax, Unknown}
use Rattle.display.specs.Display.{shown_by}
use Rattle.kinds.specs.declared.Command.TheVariants.{OpenText, CloseText, PrintText, Open, Sell, Subtotal, Pay, Close, Cancel, Sums, Closing, Drawer, Status, Rates, ShowText, ChangePassword, ChangeName}
use Rattle.command.specs.Commands.{parsed_of}
use Rattle.command.proofs.Marks.{shown_or_not}
use Rattle.sheet.specs.Searches.{place_of, match_of}
use Rattle.guard.specs.Guard.{trial_of, passes, changed_by, with_count, count_after, guard_after, judged_by}
use Rattle.guard.specs.declared.Guard.{Guard}
use Rattle.guard.specs.declared.Verdict.{Verdict}
use Rattle.deeds.specs.Deeds.{refused_with, done_with, carried_out}
use Rattle.deeds.specs.declared.Deed.{Deed}
use Rattle.line.specs.Turns.{was, State, Carried, Turn, repeats, last_answer, on_event, turn}
use Rattle.carrying.specs.Carrying.{search_in, deed_for, carried_as, carry, texts_of}
use Rattle.store.specs.Store.{Store}
use Rattle.store.specs.Commands.{match_for, rule_for}
use Rattle.rules.specs.Views.{view_of}
use Rattle.machine.specs.Device.{Lent, enough, lent_turn}
use Rattle.promises.specs.AtDevice.{FromDevice, shows, reads, verdict, three, four, leaves_of, counted, NewFrame, NewCommand, ByDevice, row_0_taken, row_0_done, row_1, row_2, row_3, row_4, row_5, row_6, row_7}
use Rattle.promises.specs.Ends.{of_device}
use Rattle.promises.proofs.Verdicts.{Right, syntax, no_kind, is_read_lem, parsed_right}

-- what a whole frame asks of books and sheet, by the reasons for 3 and for 4
abbrev by_these : Store → kinds.Command → Bool → Bool → Deed
by_these s c for3 for4 =
    let r = rule_for s c in
    cond for3 (refused_with 3 s.books) (cond for4 (refused_with 4 s.books) (done_with r.after r.shows r.note))

abbrev pub table_deed : Store → Parsed → Deed
table_deed s (Ok c) = by_these s c (three s c) (four s c)
table_deed s (Err Syntax) = refused_with 1 s.books
table_deed s (Err Unknown) = refused_with 2 s.books

-- and what it makes of the guard
abbrev guard_these : Store → kinds.Command → (content : List ℕ) → Bool → Bool → Guard
guard_these s c content for3 for4 = cond for3 (counted s c).guard (cond for4 (counted s c).guard (leaves_of s c content).guard)

abbrev pub table_guard : Store → Parsed → (content : List ℕ) → Guard
table_guard s (Ok c) content = guard_these s c content (three s c) (four s c)
table_guard s (Err why) content = s.guard

abbrev pub table_place : Store → Parsed → ℕ
table_place s p = place_of s.sheet (search_in s.books p)

abbrev pub table_carry : Store → Message → Carried Store
table_carry s m =
    let p = parsed_of m.code m.content in
    carried_as s m.seq m.code (table_place s p) (table_guard s p m.content) (table_deed s p)

-- what a command shows, by how it is read: nothing where it is refused
abbrev is_read : Parsed → Bool
is_read (Ok c) = true
is_read (Err why) = false

not_syntax : Err Syntax ≡ Ok ShowText → ⊥
not_syntax e = false≢true (ap is_read e)

not_unknown : Err Unknown ≡ Ok ShowText → ⊥
not_unknown e = false≢true (ap is_read e)

abbrev command_in : Parsed → kinds.Command
command_in (Ok c) = c
command_in (Err why) = ShowText

none_shown : (m : Message) (p : Parsed) → parsed_of m.code m.content ≡ p → (p ≡ Ok ShowText → ⊥) → texts_of (m ∷ []) ≡ []
none_shown m p e other = append-nil (shown_by m.code m.content) ∙ go (shown_or_not m.code m.content)
  where
    go : (shown_by m.code m.content ≡ []) ⊎ (parsed_of m.code m.content ≡ Ok ShowText) → shown_by m.code m.content ≡ []
    go (inl f) = f
    go (inr f) = absurd (other (sym e ∙ f))

not_three : (s : Store) (c : kinds.Command) → three s c ≡ true → ◌≡◌ {A = Parsed} (Ok c) (Ok ShowText) → ⊥
not_three s c e f = false≢true (sym (ap (λ p. three s (command_in p)) f) ∙ e)

not_four : (s : Store) (c : kinds.Command) → four s c ≡ true → ◌≡◌ {A = Parsed} (Ok c) (Ok ShowText) → ⊥
not_four s c e f = false≢true (sym (ap (λ p. four s (command_in p)) f) ∙ e)

module _ (s : State Store) where
  -- turns, with all that decides them as arguments
  abbrev pub short7 : Turn Store
  short7 = record { number = 7; gives = []; carried = []; state = s }

  abbrev pub again : Place → Turn Store
  again next = record { number = 6; gives = last_answer s.before; carried = []; state = record { place = next; before = s.before; store = s.store } }

  abbrev pub ordered : Place → Message → Carried Store → Turn Store
  ordered next m k =
      record { number = k.number; gives = k.lead ++ k.answer; carried = m ∷ []; state = record { place = next; before = was m.seq m.code k.answer; store = k.store } }

  abbrev pub order : Place → Message → Parsed → Guard → Deed → Turn Store
  order next m p g d = ordered next m (carried_as s.store m.seq m.code (table_place s.store p) g d)

  abbrev reasoned : Place → Message → kinds.Command → Bool → Bool → Turn Store
  reasoned next m c for3 for4 = order next m (Ok c) (guard_these s.store c m.content for3 for4) (by_these s.store c for3 for4)

  -- data of no form, and an unknown command
  abbrev refused : Place → Message → Parsed → Turn Store
  refused next m p = order next m p (table_guard s.store p m.content) (table_deed s.store p)

  abbrev pub table_turn : Lent → ℕ → Turn Store
  table_turn lent byte = cond (enough lent) (turn table_carry s byte) short7

  module _ (lent : Lent) (byte : ℕ) where
    abbrev next : Place
    next = (reads s byte).place

    -- a reply by the table is this one
    abbrev at_length : Bool → FromDevice
    at_length long = of_device lent (cond long (turn table_carry s byte) short7)

    abbrev at_event : Event → FromDevice
    at_event e = of_device lent (on_event table_carry s next e)

    abbrev at_repeat : Message → Bool → FromDevice
    at_repeat m repeat = of_device lent (cond repeat (again next) (ordered next m (table_carry s.store m)))

    abbrev at_kind : Message → Parsed → FromDevice
    at_kind m p = of_device lent (refused next m p)

    -- a turn with the texts that it shows
    abbrev showing : Turn Store → List (List ℕ) → FromDevice
    showing t texts = shows t.number t.gives texts lent t.state

    long : enough lent ≡ true → (e : Event) → (reads s byte).event ≡ e → at_length (enough lent) ≡ at_event e
    long room e f = ap at_length room ∙ ap at_event f

    framed : (m : Message) → NewFrame s lent byte m → (p : Parsed) → parsed_of m.code m.content ≡ p → at_length (enough lent) ≡ at_kind m p
    framed m n p f = long n.room (heard m) n.whole ∙ ap (at_repeat m) n.new ∙ ap (at_kind m) f

    commanded : (m : Message) (c : kinds.Command) → NewCommand s lent byte m c → (for3 for4 : Bool) → three s.store c ≡ for3 → four s.store c ≡ for4
        → at_length (enough lent) ≡ of_device lent (reasoned next m c for3 for4)
    commanded m c n for3 for4 e3 e4 =
        framed m n.frame (Ok c) n.kind
        ∙ ap (λ z. of_device lent (reasoned next m c z (four s.store c))) e3
        ∙ ap (λ z. of_device lent (reasoned next m c for3 z)) e4

    pub only_row : (r : FromDevice) → ByDevice s lent byte r → r ≡ of_device lent (table_turn lent byte)
    only_row r (row_0_taken room e) = sym (long room nothing e)
    only_row r (row_0_done m c n e3 e4) =
        sym (commanded m c n false false e3 e4 ∙ ap (showing (reasoned next m c false false)) (append-nil (shown_by m.code m.content)))
    only_row r (row_1 m n e) = sym (framed m n (Err Syntax) e ∙ ap (showing (refused next m (Err Syntax))) (none_shown m (Err Syntax) e not_syntax))
    only_row r (row_2 m n e) = sym (framed m n (Err Unknown) e ∙ ap (showing (refused next m (Err Unknown))) (none_shown m (Err Unknown) e not_unknown))
    only_row r (row_3 m c n e3) =
        sym (commanded m c n true (four s.store c) e3 refl ∙ ap (showing (reasoned next m c true (four s.store c))) (none_shown m (Ok c) n.kind (not_three s.store c e3)))
    only_row r (row_4 m c n e3 e4) =
        sym (commanded m c n false true e3 e4 ∙ ap (showing (reasoned next m c false true)) (none_shown m (Ok c) n.kind (not_four s.store c e4)))
    only_row r (row_5 room e) = sym (long room broken_frame e)
    only_row r (row_6 m room e f) = sym (long room (heard m) e ∙ ap (at_repeat m) f)
    only_row r (row_7 short) = sym (ap at_length short)

    -- and every byte has its row
    by-reasons : (m : Message) (c : kinds.Command) → NewCommand s lent byte m c → (for3 for4 : Bool) → three s.store c ≡ for3 → four s.store c ≡ for4
        → ByDevice s lent byte (of_device lent (reasoned next m c for3 for4))
    by-reasons m c n true for4 e3 e4 =
        subst (λ z. ByDevice s lent byte (showing (reasoned next m c true for4) z)) (sym (none_shown m (Ok c) n.kind (not_three s.store c e3))) (row_3 m c n e3)
    by-reasons m c n false true e3 e4 =
        subst (λ z. ByDevice s lent byte (showing (reasoned next m c false true) z)) (sym (none_shown m (Ok c) n.kind (not_four s.store c e4))) (row_4 m c n e3 e4)
    by-reasons m c n false false e3 e4 =
        subst (λ z. ByDevice s lent byte (showing (reasoned next m c false false) z)) (sym (append-nil (shown_by m.code m.content))) (row_0_done m c n e3 e4)

    by_kind : (m : Message) → NewFrame s lent byte m → (p : Parsed) → parsed_of m.code m.content ≡ p
        → ByDevice s lent byte (of_device lent (refused next m p))
    by_kind m n (Err Syntax) e =
        subst (λ z. ByDevice s lent byte (showing (refused next m (Err Syntax)) z)) (sym (none_shown m (Err Syntax) e not_syntax)) (row_1 m n e)
    by_kind m n (Err Unknown) e =
        subst (λ z. ByDevice s lent byte (showing (refused next m (Err Unknown)) z)) (sym (none_shown m (Err Unknown) e not_unknown)) (row_2 m n e)
    by_kind m n (Ok c) e = by-reasons m c (record { frame = n; kind = e }) (three s.store c) (four s.store c) refl refl

    by-event : enough lent ≡ true → (e : Event) → (reads s byte).event ≡ e → ByDevice s lent byte (of_device lent (on_event table_carry s next e))
    by-event room nothing e = row_0_taken room e
    by-event room broken_frame e = row_5 room e
    by-event room (heard m) e = go (repeats s.before m) refl
      where
        go : (repeat : Bool) → repeats s.before m ≡ repeat → ByDevice s lent byte (of_device lent (cond repeat (again next) (ordered next m (table_carry s.store m))))
        go true f = row_6 m room e f
        go false f = by_kind m (record { room = room; whole = e; new = f }) (parsed_of m.code m.content) refl

    pub has_its_row : ByDevice s lent byte (of_device lent (table_turn lent byte))
    has_its_row = go (enough lent) refl
      where
        go : (long : Bool) → enough lent ≡ long → ByDevice s lent byte (of_device lent (cond long (turn table_carry s byte) short7))
        go true e = by-event e (reads s byte).event refl
        go false e = row_7 e

-- the device's own turn is the same
by_passing : (s : Store) (c : kinds.Command) → (rule_for s c).one ≡ false → (let-pass : Bool)
    → cond let-pass (carried_out s.books (match_for s (view_of c)) c) (refused_with 3 s.books) ≡ by_these s c (not let-pass || (rule_for s c).three) (four s c)
by_passing s c one true = ap (λ z. cond z (refused_with 1 s.books) (by_these s c (rule_for s c).three (four s c))) one
by_passing s c one false = refl

carried_by_lem : (s : Store) (p : Parsed) (content : List ℕ) → Right p
    → deed_for s.books (match_of s.sheet (search_in s.books p)) (judged_by s.guard p content).passes p ≡ table_deed s p
carried_by_lem s (Err Syntax) content syntax = refl
carried_by_lem s (Err Unknown) content no_kind = refl
carried_by_lem s (Ok c) content (is_read_lem r) = by_passing s c (r.one s.books (match_for s (view_of c))) (passes (verdict s c))

-- 101 and 102 have no reason but the guard's: whatever else is refused changes neither passwords nor names
no_reason_changes : (s : Store) (c : kinds.Command) (content : List ℕ) → (rule_for s c).three || four s c ≡ true → changed_by s.guard (trial_of c) content ≡ s.guard
no_reason_changes s (ChangePassword op old new) content e = absurd (false≢true e)
no_reason_changes s (ChangeName op password) content e = absurd (false≢true e)
no_reason_changes s (Open op password till) content e = refl
no_reason_changes s OpenText content e = refl
no_reason_changes s CloseText content e = refl
no_reason_changes s PrintText content e = refl
no_reason_changes s (Sell x) content e = refl
no_reason_changes s (Subtotal print show adjust) content e = refl
no_reason_changes s (Pay p) content e = refl
no_reason_changes s Close content e = refl
no_reason_changes s Cancel content e = refl
no_reason_changes s (Sums taxes) content e = refl
no_reason_changes s (Closing clears) content e = refl
no_reason_changes s (Drawer x) content e = refl
no_reason_changes s Status content e = refl
no_reason_changes s Rates content e = refl
no_reason_changes s ShowText content e = refl

guarded_by : (s : Store) (c : kinds.Command) (content : List ℕ) (v : Verdict) (for3 for4 : Bool) → (rule_for s c).three ≡ for3 → four s c ≡ for4
    → guard_after s.guard v (trial_of c) content
    ≡ cond (not (passes v) || for3) (with_count s.guard (count_after s.guard v)) (cond for4 (with_count s.guard (count_after s.guard v)) (guard_after s.guard v (trial_of c) content))
guarded_by s c content v for3 for4 e3 e4 = go (passes v) for3 for4 e3 e4
  where
    left : Bool → Guard
    left let-pass = with_count (cond let-pass (changed_by s.guard (trial_of c) content) s.guard) (count_after s.guard v)

    stays : Guard
    stays = with_count s.guard (count_after s.guard v)

    go : (let-pass for3 for4 : Bool) → (rule_for s c).three ≡ for3 → four s c ≡ for4 → left let-pass ≡ cond (not let-pass || for3) stays (cond for4 stays (left let-pass))
    go false for3 for4 e3 e4 = refl
    go true true for4 e3 e4 = ap (λ g. with_count g (count_after s.guard v)) (no_reason_changes s c content (ap (λ z. z || four s c) e3))
    go true false true e3 e4 = ap (λ g. with_count g (count_after s.guard v)) (no_reason_changes s c content (ap (λ z. z || four s c) e3 ∙ e4))
    go true false false e3 e4 = refl

guarded : (s : Store) (p : Parsed) (content : List ℕ) → (judged_by s.guard p content).guard ≡ table_guard s p content
guarded s (Ok c) content = guarded_by s c content (verdict s c) (rule_for s c).three (four s c) refl refl
guarded s (Err why) content = refl

same_carry : (s : Store) (m : Message) → carry s m ≡ table_carry s m
same_carry s m =
    let p = parsed_of m.code m.content in
    ap (λ g. carried_as s m.seq m.code (table_place s p) g (deed_for s.books (match_of s.sheet (search_in s.books p)) (judged_by s.guard p m.content).passes p)) (guarded s p m.content)
    ∙ ap (carried_as s m.seq m.code (table_place s p) (table_guard s p m.content)) (carried_by_lem s p m.content (parsed_right m.code m.content))

module _ (s : State Store) where
  same-event : (next : Place) (x : Event) → on_event carry s next x ≡ on_event table_carry s next x
  same-event next nothing = refl
  same-event next broken_frame = refl
  same-event next (heard m) = ap (λ k. cond (repeats s.before m) (again s next) (ordered s next m k)) (same_carry s.store m)

  pub as_the_table : (lent : Lent) (byte : ℕ) → lent_turn lent s byte ≡ table_turn s lent byte
  as_the_table lent byte = ap (λ z. cond (enough lent) z (short7 s)) (same-event (read ToDevice s.place byte).place (read ToDevice s.place byte).event)
