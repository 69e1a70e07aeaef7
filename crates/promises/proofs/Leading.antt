-- What the turns of any history tell leads to what the device remembers; so its books can be reached, and agree with the entries.
use mathlib.Core.Path.{◌≡◌, sym, subst}
use mathlib.Core.Bool.{Bool, true, false, cond}
use mathlib.Core.List.{List, [], ◌∷◌}
use Prim.Native.Nat.{◌≤◌}
use lib.ListN.{length}
use Rattle.wire.specs.Frame.{Message, frame}
use Rattle.wire.specs.declared.Way.TheVariants as way
use Rattle.reader.specs.Reading.{Place}
use Rattle.kinds.specs.declared.Command.{Command}
use Rattle.kinds.specs.Fields.{Parsed}
use Rattle.std.specs.Prelude.{Ok, Err}
use Rattle.kinds.specs.declared.Unread.TheVariants.{Syntax, Unknown}
use Rattle.command.specs.Commands.{parsed_of}
use Rattle.sheet.specs.declared.Line.{Line}
use Rattle.deeds.specs.Deeds.{refused_with}
use Rattle.deeds.specs.declared.Deed.{Deed}
use Rattle.line.specs.Turns.{State, Turn}
use Rattle.guard.specs.Guard.{calmed, trial_of, judged_of}
use Rattle.store.specs.Store.{Store}
use Rattle.store.specs.Commands.{place_for, deed_on, left_by, left_on}
use Rattle.rules.specs.Views.{view_of}
use Rattle.carrying.specs.Carrying.{answer_to}
use Rattle.history.specs.Agrees.{Agrees, LeadsTo, fresh, next, barred, guarded}
use Rattle.history.specs.Entries.{Entry}
use Rattle.history.specs.Digits.{Given}
use Rattle.history.specs.Reached.{Reached}
use Rattle.history.proofs.Histories.{history_reached, history_agrees}
use Rattle.promises.specs.Demand2.{Moment, turn_by, turns_of, device_after, data_in, with_read, with_turn, told_by, fresh_device, entries_of, store_after, books_after}
use Rattle.promises.proofs.Joining.{told_as_done, store_as, order_as, every_turn}
use Rattle.promises.proofs.Verdicts.{Right, syntax, no_kind, is_read_lem, parsed_right}

-- a turn more
module _ (es : List Entry) (s : State Store) (h : LeadsTo es s.store) where
  abbrev Leads : Turn Store → Type 0
  Leads t = LeadsTo (with_turn t t.carried es) t.state.store

  -- a command that the guard lets pass, and one that it does not
  by_passing : (m : Message) (c : Command) → Given (view_of c) → (let-pass : Bool)
      → let d : Deed = cond let-pass (deed_on s.store (view_of c)) (refused_with 3 s.store.books) in
      LeadsTo (record { command = c; number = d.number; shown = data_in (frame way.ToTill (answer_to s.store.books m.seq m.code d)) } ∷ es) (left_by s.store (place_for s.store (view_of c)) d)
  by_passing m c k true =
      subst (λ e. LeadsTo (e ∷ es) (left_on s.store (view_of c))) (sym (told_as_done s.store.books m.seq m.code c (deed_on s.store (view_of c)))) (next c k h)
  by_passing m c k false =
      subst (λ e. LeadsTo (e ∷ es) s.store) (sym (told_as_done s.store.books m.seq m.code c (refused_with 3 s.store.books))) (barred c h)

  read-leads : (place : Place) (m : Message) (x : Parsed) → Right x → LeadsTo (with_read (order_as s place m x) x es) (store_as s place m x)
  read-leads place m (Ok c) (is_read_lem k) =
      guarded (judged_of s.store.guard (trial_of c) m.content).guard (by_passing m c k (judged_of s.store.guard (trial_of c) m.content).passes)
  read-leads place m (Err Syntax) syntax = guarded s.store.guard h
  read-leads place m (Err Unknown) no_kind = guarded s.store.guard h

  turn-leads : (a : Moment) → Leads (turn_by s a)
  turn-leads =
      every_turn Leads s quiet (guarded (calmed s.store.guard) h) (λ place m. read-leads place m (parsed_of m.code m.content) (parsed_right m.code m.content))
    where
      quiet : (t : Turn Store) → t.carried ≡ [] → t.state.store ≡ s.store → Leads t
      quiet t none same = subst (λ ms. LeadsTo (with_turn t ms es) t.state.store) (sym none) (subst (LeadsTo es) (sym same) h)

history_leads : (es : List Entry) (s : State Store) (arrived : List Moment) → LeadsTo es s.store → LeadsTo (told_by es (turns_of s arrived)) (device_after s arrived).store
history_leads es s [] h = h
history_leads es s (a ∷ more) h = history_leads (with_turn (turn_by s a) (turn_by s a).carried es) (turn_by s a).state more (turn-leads es s h a)

module _ (sheet : List Line) (room : 512 ≤ length sheet) (arrived : List Moment) where
  pub any_history_leads : LeadsTo (entries_of sheet arrived) (store_after sheet arrived)
  any_history_leads = history_leads [] (fresh_device sheet) arrived (fresh sheet room)

  -- so its books can be reached, and agree with the entries
  pub any_history_reached : Reached (books_after sheet arrived)
  any_history_reached = history_reached any_history_leads

  pub any_history_agrees : Agrees (entries_of sheet arrived) (store_after sheet arrived)
  any_history_agrees = history_agrees any_history_leads
