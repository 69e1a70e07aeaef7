-- Demand 1: every event in every history of fresh ends has a reply by the table, and a reply by the table is that reply.
use mathlib.Core.Path.{◌≡◌, refl, sym, ap, ◌∙◌, subst}
use mathlib.Core.Bool.{Bool, true, false, cond}
use mathlib.Core.List.{List, [], ◌∷◌}
use Prim.Native.Nat.{ℕ, ◌≤◌, ◌<◌}
use native.Mathlib.Omega.{arith}
use lib.Dec.{ltb}
use lib.ListN.{length}
use borrow.Author.Tests.{ltb-true}
use Rattle.wire.specs.Frame.{command_of, sendable}
use Rattle.wire.specs.declared.Way.TheVariants.{ToDevice}
use Rattle.reader.specs.Reading.{Place, Event, nothing, broken_frame, heard, read}
use Rattle.sheet.specs.declared.Line.{Line}
use Rattle.std.specs.Prelude.{Option, Ok, Err}
use Rattle.books.specs.declared.Books.{Books}
use Rattle.kinds.specs.Fields.{Parsed}
use Rattle.command.specs.Commands.{parsed_of}
use Rattle.history.specs.Reached.{Reached}
use Rattle.history.proofs.Reaching.{fresh_reached, reached_stays}
use Rattle.line.specs.Turns as line
use Rattle.sheet.specs.Searches.{match_of}
use Rattle.carrying.specs.Carrying.{search_in, deed_for, carry}
use Rattle.guard.specs.Guard.{judged_by}
use Rattle.store.specs.Store.{Store}
use Rattle.machine.specs.Device.{Lent, enough, lent_turn}
use Rattle.till.specs.Turns as till
use Rattle.till.specs.declared.Word.TheVariants.{Unfinished, TooShort, NotSent}
use Rattle.till.proofs.Turning.{fails_by}
use Rattle.promises.specs.AtDevice.{ByDevice, anew}
use Rattle.promises.specs.AtTill.{replies, fails, none_waits, row_9}
use Rattle.promises.specs.Demand1.{Bench, fresh_bench, Comes, at_device, at_till, switching, Outcome, from_device, from_till, switched, bench_after, ByTheTable, at_device_lem, at_till_lem, at_switching, AllByTheTable, no_more, then}
use Rattle.promises.specs.Ends.{of_device, of_till, outcome_of, outcomes_of}
use Rattle.promises.proofs.DeviceRows as device-rows
use Rattle.promises.proofs.TillRows as till-rows

-- uniqueness, from any state: the rows as a function
abbrev table_reply : Bench → Comes → Outcome
table_reply s (at_device lent byte) = from_device (of_device lent (device-rows.table_turn s.device lent byte))
table_reply s (at_till buffer h) = from_till (of_till buffer (till.hears (length buffer) s.till h))
table_reply s switching = switched (anew s.device)

only_this : (s : Bench) (c : Comes) (r : Outcome) → ByTheTable s c r → r ≡ table_reply s c
only_this s c r (at_device_lem {lent = lent} {byte = byte} {r = x} b) = ap from_device (device-rows.only_row s.device lent byte x b)
only_this s c r (at_till_lem {buffer = buffer} {h = h} {r = x} b) = ap from_till (till-rows.only_row s.till buffer h x b)
only_this s c r at_switching = refl

pub the_reply_is_the_only_one : (s : Bench) (c : Comes) (r other : Outcome) → ByTheTable s c r → ByTheTable s c other → r ≡ other
the_reply_is_the_only_one s c r other b d = only_this s c r b ∙ sym (only_this s c other d)

abbrev table_replies : Bench → List Comes → List Outcome
table_replies s [] = []
table_replies s (c ∷ cs) = table_reply s c ∷ table_replies (bench_after s (table_reply s c)) cs

only_these : (s : Bench) (cs : List Comes) (rs : List Outcome) → AllByTheTable s cs rs → rs ≡ table_replies s cs
only_these s cs rs no_more = refl
only_these s cs rs (then {c = c} {r = r} {cs = later} {rs = rest} b all) =
    let same : r ≡ table_reply s c = only_this s c r b in
    ap (λ z. r ∷ z) (only_these (bench_after s r) later rest all) ∙ ap (λ z. z ∷ table_replies (bench_after s z) later) same

-- and so of a whole history: exactly one list of replies is by the table
pub the_replies_are_the_only_ones : (s : Bench) (cs : List Comes) (rs others : List Outcome) → AllByTheTable s cs rs → AllByTheTable s cs others → rs ≡ others
the_replies_are_the_only_ones s cs rs others a b = only_these s cs rs a ∙ sym (only_these s cs others b)

-- existence: at the device in any state, at the till end where at most five tries were made
pub by_the_device : (s : Bench) (lent : Lent) (byte : ℕ) → ByTheTable s (at_device lent byte) (outcome_of s (at_device lent byte))
by_the_device s lent byte =
    at_device_lem
    (subst (λ t. ByDevice s.device lent byte (of_device lent t)) (sym (device-rows.as_the_table s.device lent byte)) (device-rows.has_its_row s.device lent byte))

pub by_the_till_end : (s : Bench) → till-rows.tries_of s.till.pending ≤ 5 → (buffer : List ℕ) (h : till.Happening)
    → ByTheTable s (at_till buffer h) (outcome_of s (at_till buffer h))
by_the_till_end s few buffer h = at_till_lem (till-rows.has_its_row s.till buffer h few)

-- which every event leaves: the books are such as a fresh device comes to
pub deed_stays : (b : Books) (m : Option ℕ) (let-pass : Bool) (p : Parsed) → Reached b → Reached (deed_for b m let-pass p).books
deed_stays b m true (Ok c) r = reached_stays b m c r
deed_stays b m false (Ok c) r = r
deed_stays b m let-pass (Err why) r = r

pub event_stays : (s : line.State Store) (next : Place) (e : Event) → Reached s.store.books → Reached (line.on_event carry s next e).state.store.books
event_stays s next nothing r = r
event_stays s next broken_frame r = r
event_stays s next (heard m) r = go (line.repeats s.before m)
  where
    go : (repeat : Bool) → Reached (cond repeat (device-rows.again s next) (device-rows.ordered s next m (carry s.store m))).state.store.books
    go true = r
    go false =
        let p = parsed_of m.code m.content in
        deed_stays s.store.books (match_of s.store.sheet (search_in s.store.books p)) (judged_by s.store.guard p m.content).passes p r

pub turn_stays : (lent : Lent) (s : line.State Store) (byte : ℕ) → Reached s.store.books → Reached (lent_turn lent s byte).state.store.books
turn_stays lent s byte r = go (enough lent)
  where
    go : (long : Bool) → Reached (cond long (line.turn carry s byte) (device-rows.short7 s)).state.store.books
    go true = event_stays s (read ToDevice s.place byte).place (read ToDevice s.place byte).event r
    go false = r

-- and the tries stay at five at most
abbrev Few : till.Turn → Type 0
Few t = till-rows.tries_of t.state.pending ≤ 5

few_failed : (next seq code : ℕ) (bytes : List ℕ) (tries : ℕ) → Few (till.fails_try next seq code bytes tries)
few_failed next seq code bytes tries = go (ltb tries 5) refl
  where
    go : (early : Bool) → ltb tries 5 ≡ early → Few (fails_by next seq code bytes tries early)
    go true e = let low : tries < 5 = ltb-true tries 5 e in omega arith
    go false e = omega arith

few_meant : (next seq code : ℕ) (bytes : List ℕ) (tries : ℕ) (x : till.Meaning) → tries ≤ 5 → Few (till.on_meaning next seq code bytes tries x)
few_meant next seq code bytes tries till.failed h = few_failed next seq code bytes tries
few_meant next seq code bytes tries (till.goes_on q) h = h
few_meant next seq code bytes tries (till.answers m) h = omega arith

few_taken : (next : ℕ) (p : till.Pending) (h : till.Happening) → till-rows.tries_of p ≤ 5 → Few (till.takes (record { next = next; pending = p }) h)
few_taken next till.idle (till.command code content) few = go (sendable ToDevice (command_of next code content))
  where
    go : (can : Bool) → Few (cond can (till.sent next (command_of next code content)) (till.stays NotSent (record { next = next; pending = till.idle })))
    go true = omega arith
    go false = few
few_taken next till.idle (till.byte b) few = few
few_taken next till.idle till.timeout few = few
few_taken next (till.waits seq code bytes tries ear) (till.command other content) few = few
few_taken next (till.waits seq code bytes tries ear) (till.byte b) few = few_meant next seq code bytes tries (till.byte_means seq code ear b) few
few_taken next (till.waits seq code bytes tries ear) till.timeout few = few_failed next seq code bytes tries

pub tries_stay : (lent : ℕ) (s : till.State) (h : till.Happening) → till-rows.tries_of s.pending ≤ 5 → Few (till.hears lent s h)
tries_stay lent s h few = go (ltb lent 210)
  where
    go : (short : Bool) → Few (cond short (till.stays TooShort s) (till.takes s h))
    go true = few
    go false = few_taken s.next s.pending h few

-- both, at a moment of a history of fresh ends
pub record Proper (s : Bench) : Type 0 where
  pub books : Reached s.device.store.books
  pub tries : till-rows.tries_of s.till.pending ≤ 5

pub fresh_proper : (sheet : List Line) → Proper (fresh_bench sheet)
fresh_proper sheet = record { books = fresh_reached; tries = omega arith }

pub proper_stays : (s : Bench) → Proper s → (c : Comes) → Proper (bench_after s (outcome_of s c))
proper_stays s p (at_device lent byte) = record { books = turn_stays lent s.device byte p.books; tries = p.tries }
proper_stays s p (at_till buffer h) = record { books = p.books; tries = tries_stay (length buffer) s.till h p.tries }
proper_stays s p switching = record { books = p.books; tries = p.tries }

by_both : (s : Bench) → Proper s → (c : Comes) → ByTheTable s c (outcome_of s c)
by_both s p (at_device lent byte) = by_the_device s lent byte
by_both s p (at_till buffer h) = by_the_till_end s p.tries buffer h
by_both s p switching = at_switching

from_proper : (s : Bench) → Proper s → (cs : List Comes) → AllByTheTable s cs (outcomes_of s cs)
from_proper s p [] = no_more
from_proper s p (c ∷ cs) = then (by_both s p c) (from_proper (bench_after s (outcome_of s c)) (proper_stays s p c) cs)

-- the theorem: over every history of fresh ends each event has its reply by the table, the one that the ends give
pub every_event_has_its_reply : (sheet : List Line) (cs : List Comes) → AllByTheTable (fresh_bench sheet) cs (outcomes_of (fresh_bench sheet) cs)
every_event_has_its_reply sheet cs = from_proper (fresh_bench sheet) (fresh_proper sheet) cs

-- so that whatever is by the table is what the ends give
pub no_other_replies : (sheet : List Line) (cs : List Comes) (rs : List Outcome) → AllByTheTable (fresh_bench sheet) cs rs → rs ≡ outcomes_of (fresh_bench sheet) cs
no_other_replies sheet cs rs all = the_replies_are_the_only_ones (fresh_bench sheet) cs rs (outcomes_of (fresh_bench sheet) cs) all (every_event_has_its_reply sheet cs)

-- "After the fifth failed try the till end says Unfinished, never an answer": the table leaves it no other reply
pub the_fifth_failed_try : (s : Bench) (buffer : List ℕ) (h : till.Happening) (seq code : ℕ) (bytes : List ℕ) (ear : till.Ear) → 210 ≤ length buffer
    → s.till.pending ≡ till.waits seq code bytes 5 ear → fails seq code ear h ≡ true
    → (r : Outcome) → ByTheTable s (at_till buffer h) r → r ≡ from_till (replies 9 (Unfinished 5) 5 [] buffer (none_waits s.till))
the_fifth_failed_try s buffer h seq code bytes ear room e f r b =
    the_reply_is_the_only_one s (at_till buffer h) r (from_till (replies 9 (Unfinished 5) 5 [] buffer (none_waits s.till))) b (at_till_lem (row_9 seq code bytes ear room e f))
