-- Demand 2: "Frames, answers, sums and status bytes are those of the protocol papers as document 01 condenses them, built and read alike. Cash
-- equals all that was put in less all that was taken out, over the whole history."
use mathlib.Core.Path.{◌≡◌, refl, sym, ap, ◌∙◌}
use mathlib.Core.Bool.{Bool, true, false}
use mathlib.Core.List.{List, [], ◌∷◌, ◌++◌}
use Prim.Native.Nat.{ℕ, ◌+◌, ◌-◌, ◌^◌, ◌≤◌, ◌<◌}
use native.Mathlib.Omega.{arith}
use lib.ListN.{length, replicate}
use Rattle.wire.specs.Frame.{Message, frame, inner, sendable}
use Rattle.wire.specs.declared.Way.{Way}
use Rattle.wire.specs.declared.Way.TheVariants.{ToDevice, ToTill}
use Rattle.reader.specs.Reading.{Place, outside, nothing, heard, starts_anew, read, run}
use Rattle.reader.proofs.RoundTrip.{read_what_was_built, parts}
use Rattle.reader.proofs.History.{built_is_all_that_is_read}
use Rattle.kinds.specs.declared.Command.TheVariants.{Sell, Drawer}
use Rattle.kinds.specs.Fields.{Parsed}
use Rattle.std.specs.Prelude.{Ok, Err, Option}
use Rattle.kinds.specs.declared.Unread.TheVariants.{Syntax, Unknown}
use Rattle.kinds.specs.declared.Sale.{Sale}
use Rattle.kinds.specs.declared.Service.{Service}
use Rattle.command.specs.Commands.{parsed_of}
use Rattle.sheet.specs.Searches.{match_of}
use Rattle.sheet.specs.declared.Line.{Line}
use Rattle.books.specs.Groups.{at}
use Rattle.rules.specs.declared.views.View.TheVariants.{Sells}
use Rattle.store.specs.Commands.{deed_on}
use Rattle.guard.specs.Guard.{judged_by}
use Rattle.store.specs.Store.{Store}
use Rattle.answers.proofs.Shown.{shown_sendable}
use Rattle.history.specs.Agrees.{Agrees, told_books}
use Rattle.history.specs.Digits.{InDigits, left_of}
use Rattle.history.specs.History.{receipt_total, paid_sum, put_in, taken_out}
use Rattle.history.proofs.Digits.{digits_fit, rest_and_change_fit}
use Rattle.history.specs.Entries.{entry_of}
use Rattle.history.specs.TakingBack.{lines_in, TookBack, standing, worth_of, discounts_in, surcharges_in, lines_added, lines_off}
use Rattle.history.proofs.Histories.{never_overpaid, agreed_is_told}
use Rattle.history.proofs.TakingBack.{a_line_off_takes_back_one_sold, each_takes_one_back, the_groups_are_what_stands}
use Rattle.line.specs.Turns.{State, Session}
use Rattle.deeds.specs.declared.Deed.{Deed}
use Rattle.carrying.specs.Carrying.{search_in, deed_for, answer_to, carry}
use Rattle.machine.specs.Device.{store_of}
use Rattle.recorder.specs.Recording.{recording}
use Rattle.till.specs.Turns as turns
use Rattle.attempts.specs.History.{history, heard_bytes, words, behind}
use Rattle.attempts.specs.History as till
use Rattle.till.specs.declared.Word.TheVariants.{Waiting, Answered}
use Rattle.attempts.proofs.Frames.{answer_heard}
use Rattle.promises.specs.Coded.{Machines, Fresh, HeardThrough}
use Rattle.promises.specs.Demand2.{Moment, always_lent, turn_by, turns_of, device_after, all_given, all_carried, data_in, fresh_device, entries_of, store_after, books_after, cash_in}
use Rattle.promises.proofs.Through.{the_calls_are_the_recording}
use Rattle.promises.proofs.Demand1.{deed_stays}
use Rattle.promises.proofs.Leading.{any_history_leads, any_history_reached, any_history_agrees}
use Rattle.promises.proofs.Joining.{device_after_one, session_turns, cash_in_answer}
use Rattle.promises.proofs.Verdicts.{Right, syntax, no_kind, is_read_lem, parsed_right}

-- "built and read alike": the frame of whatever can be sent, read from any place, is heard as exactly that
pub what_is_built_is_read : (k : Way) (m : Message) → sendable k m ≡ true → (p : Place)
    → run k p (frame k m) ≡ record { place = outside; events = starts_anew p ∷ (replicate (length (inner k m) + 8) nothing ++ heard m ∷ []) }
what_is_built_is_read = read_what_was_built

-- and whatever is heard as whole, after any bytes, is the frame of what was heard
pub what_is_read_was_built : (k : Way) (bytes : List ℕ) (b : ℕ) (m : Message) → (read k (run k outside bytes).place b).event ≡ heard m
    → (sendable k m ≡ true) × ((before : List ℕ) × (bytes ++ b ∷ [] ≡ before ++ frame k m))
what_is_read_was_built = built_is_all_that_is_read

-- a fresh device, whatever the sheet of 512 lines or more held that it is lent
module _ (sheet : List Line) (lines : 512 ≤ length sheet) where
  -- what it makes of a command, after any bytes
  abbrev deed_to : List Moment → Message → Deed
  deed_to arrived m =
      let p = parsed_of m.code m.content in
      let s = store_after sheet arrived in
      deed_for s.books (match_of s.sheet (search_in s.books p)) (judged_by s.guard p m.content).passes p

  -- every answer of a device that was fresh, to whatever can be sent, is an answer that can be sent
  pub every_answer_can_be_sent : (arrived : List Moment) (m : Message) → sendable ToDevice m ≡ true
      → sendable ToTill (answer_to (books_after sheet arrived) m.seq m.code (deed_to arrived m)) ≡ true
  every_answer_can_be_sent arrived m e =
      let s = store_after sheet arrived in
      let p = parsed_of m.code m.content in
      let d = deed_to arrived m in
      let before = any_history_reached sheet lines arrived in
      let after = deed_stays s.books (match_of s.sheet (search_in s.books p)) (judged_by s.guard p m.content).passes p before in
      let marks = parts ToDevice m e in
      shown_sendable m.seq m.code d.number d.shown s.books.day d.books marks.seq marks.code before.eight_sums after.eight_sums after.receipt.eight_groups

  -- and a till end that waits for it, wherever its reading stands, says Waiting up to its last byte and then Answered, with its data and status
  pub both_ends_speak_alike : (arrived : List Moment) (m : Message) → sendable ToDevice m ≡ true
      → (s : turns.State) (sent : List ℕ) (tries : ℕ) (ear : turns.Ear) → s.pending ≡ turns.waits m.seq m.code sent tries ear
      → let a = answer_to (books_after sheet arrived) m.seq m.code (deed_to arrived m) in
      let heard-bytes = heard_bytes (carry (store_after sheet arrived) m).answer in
      (words (history s heard-bytes) ≡ replicate (length (frame ToTill a) - 1) (Waiting 0) ++ Answered (length (a.content ++ a.status)) ∷ [])
      × ((till.puts_of (history s heard-bytes) ≡ replicate (length (frame ToTill a) - 1) [] ++ (a.content ++ a.status) ∷ [])
      × (behind s heard-bytes ≡ record { next = s.next; pending = turns.idle }))
  both_ends_speak_alike arrived m e s sent tries ear waiting =
      answer_heard s m.seq m.code sent tries ear waiting (answer_to (books_after sheet arrived) m.seq m.code (deed_to arrived m)) (every_answer_can_be_sent arrived m e) refl refl

  -- a recording is a history in which 217 bytes and 512 lines are lent each time: all it gives back and carries out is what the turns do
  pub a_recording_is_its_turns : (bytes : List ℕ)
      → recording sheet bytes
      ≡ record {
        gives = all_given (turns_of (fresh_device sheet) (always_lent bytes));
        carried = all_carried (turns_of (fresh_device sheet) (always_lent bytes));
        state = device_after (fresh_device sheet) (always_lent bytes);
      }
  a_recording_is_its_turns bytes = session_turns (fresh_device sheet) bytes

  -- cash, for all bytes that arrive at a fresh device, whatever is lent with each, however often it is switched on anew
  pub cash_is_put_in_less_taken_out : (arrived : List Moment)
      → ((books_after sheet arrived).drawer.cash ≡ put_in (entries_of sheet arrived) - taken_out (entries_of sheet arrived))
      × (taken_out (entries_of sheet arrived) ≤ put_in (entries_of sheet arrived))
  cash_is_put_in_less_taken_out arrived =
      let d = (any_history_agrees sheet lines arrived).books.drawer in
      (d.cash, d.covered)

  -- and it can be seen: the Cash field of every answer to a 70 that is done, read back as a number
  pub cash_is_seen : (arrived : List Moment) (a : Moment) → let t = turn_by (device_after (fresh_device sheet) arrived) a in
      (m : Message) (s : Service) → t.carried ≡ m ∷ [] → parsed_of m.code m.content ≡ Ok (Drawer s) → t.number ≡ 0
      → cash_in (data_in t.gives) ≡ put_in (entries_of sheet (arrived ++ a ∷ [])) - taken_out (entries_of sheet (arrived ++ a ∷ []))
  cash_is_seen arrived a m s one is70 zero =
      cash_in_answer (device_after (fresh_device sheet) arrived) (any_history_reached sheet lines arrived) m s is70 a one zero
      ∙ ap (λ (z : State Store). z.store.books.drawer.cash) (sym (device_after_one (fresh_device sheet) arrived a))
      ∙ (any_history_agrees sheet lines (arrived ++ a ∷ [])).books.drawer.cash

  -- and every other figure (PROTOCOL 8.3): the open receipt, its lines, whether a 53 was done and whether it is paid in full, day sums, registers, service sums,
  -- counters, closings and FM; and the sheet has the lines of the open receipt
  pub every_figure_follows : (arrived : List Moment) → Agrees (entries_of sheet arrived) (store_after sheet arrived)
  every_figure_follows = any_history_agrees sheet lines

  -- what is due is never cut off at zero
  pub no_more_paid_than_due : (arrived : List Moment) → paid_sum (entries_of sheet arrived) ≤ receipt_total (entries_of sheet arrived)
  no_more_paid_than_due arrived = never_overpaid (entries_of sheet arrived) (store_after sheet arrived) (any_history_reached sheet lines arrived) (any_history_agrees sheet lines arrived)

  -- so the entries alone tell the books, no field left out
  pub the_entries_tell_the_books : (arrived : List Moment) → books_after sheet arrived ≡ told_books (entries_of sheet arrived)
  the_entries_tell_the_books arrived = agreed_is_told (entries_of sheet arrived) (store_after sheet arrived) (any_history_reached sheet lines arrived) (any_history_agrees sheet lines arrived)

  pub and_those_of_a_recording : (bytes : List ℕ) → (recording sheet bytes).state.store.books ≡ told_books (entries_of sheet (always_lent bytes))
  and_those_of_a_recording bytes =
      ap (λ (z : Session Store). z.state.store.books) (a_recording_is_its_turns bytes) ∙ the_entries_tell_the_books (always_lent bytes)

  -- requests 2026-01 and 2026-06: each of the eight groups of the open receipt is its lines that stand, with its shares of what 51 added and took off, all told
  -- from the entries
  pub the_groups_are_the_lines_that_stand : (arrived : List Moment) (g : ℕ) → g < 8 → let es = entries_of sheet arrived in
      at (books_after sheet arrived).receipt.groups g + discounts_in g es ≡ worth_of g (lines_in es) + surcharges_in g es
  the_groups_are_the_lines_that_stand arrived = the_groups_are_what_stands (any_history_leads sheet lines arrived)

  -- "no line is taken back twice": the lines that stand and those done with `-` are together as many as were sold
  pub each_line_is_taken_back_once : (arrived : List Moment) → let es = entries_of sheet arrived in standing (lines_in es) + lines_off es ≡ lines_added es
  each_line_is_taken_back_once arrived = each_takes_one_back (any_history_leads sheet lines arrived)

  -- and whatever line is done with `-` takes back one that was really sold on this receipt, its finished amount, once
  pub a_line_off_was_really_sold : (arrived : List Moment) (x : Sale) → let s = store_after sheet arrived in
      (deed_on s (Sells x)).number ≡ 0 → x.minus ≡ true
      → TookBack x (entries_of sheet arrived) (entry_of s.books (Sell x) (deed_on s (Sells x)) ∷ entries_of sheet arrived)
  a_line_off_was_really_sold arrived x done minus =
      a_line_off_takes_back_one_sold (entries_of sheet arrived) (store_after sheet arrived) x (any_history_reached sheet lines arrived) (any_history_agrees sheet lines arrived) done minus

  -- "No field shown ever passes its digits."
  pub every_field_fits : (arrived : List Moment) → InDigits (books_after sheet arrived)
  every_field_fits arrived = digits_fit (books_after sheet arrived) (any_history_reached sheet lines arrived)

  pub rest_and_change_fit_too : (arrived : List Moment) (code : ℕ) (content : List ℕ) (m : Option ℕ) (let-pass : Bool)
      → left_of (deed_for (books_after sheet arrived) m let-pass (parsed_of code content)).shown < 10 ^ 10
  rest_and_change_fit_too arrived code content m let-pass = go let-pass (parsed_of code content) (parsed_right code content)
    where
      go : (let-pass : Bool) (x : Parsed) → Right x → left_of (deed_for (books_after sheet arrived) m let-pass x).shown < 10 ^ 10
      go true (Ok c) (is_read_lem r) = rest_and_change_fit (books_after sheet arrived) m c (any_history_reached sheet lines arrived) r
      go false (Ok c) (is_read_lem r) = omega arith
      go let-pass (Err Syntax) syntax = omega arith
      go let-pass (Err Unknown) no_kind = omega arith

-- and the books behind all calls of the running code, in whatever parts and with whatever buffers it hears the bytes
pub and_those_of_the_calls : (f g : Machines) → Fresh f → (bytes gives : List ℕ) (texts : List (List ℕ)) → HeardThrough f bytes gives texts g
    → (store_of g.device).books ≡ told_books (entries_of f.device.sheet (always_lent bytes))
and_those_of_the_calls f g fresh bytes gives texts h =
    ap (λ (z : Store). z.books) (the_calls_are_the_recording f g fresh bytes gives texts h).1.0 ∙ and_those_of_a_recording f.device.sheet fresh.sheet bytes
