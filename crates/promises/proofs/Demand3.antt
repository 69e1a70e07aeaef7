-- Demand 3: "A fresh device, always lent its 217 bytes, hears a list of sendable commands, neighbours differing in sequence number or code. Each
-- is tried one or more times with one and the same frame; each try arrives whole or with exactly one byte replaced by another, at least one
-- whole; no byte is lost or added. Then the device carries out that very list, each command once and in order, by demand 2's rules. So two
-- different lists never arrive as the same bytes." Request 2026-11: "a try may also arrive as any beginning of its frame, from nothing to all but
-- the last byte, with the rest lost." (`line/specs/Delivery.antt` says this of a list with its tries: `delivery`, `all_arriving`; `tries/specs/Tries.antt` of one try.)
use Rattle.std.proofs.lemmas.Bool.{and_parts, and_from}
use mathlib.Core.Path.{◌≡◌, refl, sym, ap, ◌∙◌, subst}
use mathlib.Core.Bool.{Bool, true, false, cond, not, ◌&&◌, false≢true}
use mathlib.Core.Logic.{◌⊎◌, inl, inr}
use mathlib.Core.List.{List, [], ◌∷◌, ◌++◌, Sublist, append-nil}
use Prim.Native.Nat.{ℕ, zero, suc, ◌+◌}
use lib.Dec.{ltb, eqb}
use lib.ListN.{length, replicate}
use lib.Seq.{sets}
use borrow.Author.Tests.{ne_eqb}
use Rattle.wire.specs.Frame.{Message, frame, sendable}
use Rattle.wire.specs.declared.Way.TheVariants.{ToDevice}
use Rattle.reader.specs.Reading.{Event, outside, broken_frame}
use Rattle.display.specs.Display.{shown_by}
use Rattle.sheet.specs.declared.Line.{Line}
use Rattle.store.specs.Store.{Store, fresh_store, store_anew}
use Rattle.line.specs.Turns.{State, Carried, Before, switched_on, session}
use Rattle.tries.specs.Tries.{Arrival, cut, may_arrive, arriving, Begun, clear, begun, brings}
use Rattle.delivery.specs.Delivery.{is_whole, Sent, all, any, tried, differs_from, delivery, commands, tries_arriving, all_arriving, given_back, heard_in, carry_all, TryBrings, AllBring, EndedByTheNext}
use Rattle.delivery.specs.AtMostOnce.{all_may_come, all_heard, without_repeats, none_lacks_last, arrived_whole, neighbours_differ}
use Rattle.delivery.proofs.Delivered.{carries_out_that_very_list, brings_for_each_try, same_bytes_same_list}
use Rattle.delivery.proofs.AtMostOnce.{carries_out_what_is_heard, carries_out_those_whole}
use Rattle.delivery.proofs.PartOf.{carries_out_a_part}
use Rattle.delivery.proofs.Ended.{ended_by_the_next}
use Rattle.attempts.specs.History.{LentEvent, seq_of}
use Rattle.attempts.specs.Handed.{Handed, handed_in, AllInPlace}
use Rattle.attempts.proofs.Handing.{seqs_differ, frames_are_tries}
use Rattle.carrying.specs.Carrying.{carry, texts_of}
use Rattle.machine.specs.Device.{store_of}
use Rattle.tape.specs.Noting.{listing}
use Rattle.recorder.specs.Recording.{recording, told_in}
use Rattle.promises.specs.Coded.{Machines, Fresh, CodeCall, switch_on, handed_on, handed_through, HeardThrough}
use Rattle.promises.specs.Demand3.{each_arrives, all_arrive, each_one_whole, frames_arriving, bytes_arriving, taken_commands, over_the_line}
use Rattle.promises.proofs.Through.{the_calls_are_the_session, the_calls_are_the_recording}
use Rattle.promises.proofs.Coded.{ok_anew, ok_behind, fresh_ok}

-- the list is carried out, each command once and in order, and books and sheet are those of carrying it out by demand 2's rules (`carry`), whatever the
-- sheet held that the fresh device is lent
pub carries_out_the_list : (sheet : List Line) (cs : List Sent) → delivery cs ≡ true
    → ((recording sheet (all_arriving cs)).carried ≡ commands cs)
    × ((recording sheet (all_arriving cs)).state.store ≡ carry_all carry (fresh_store sheet) (commands cs))
carries_out_the_list sheet cs e = carries_out_that_very_list carry cs e (fresh_store sheet)

-- the same of a device that remembers anything and has no frame before
pub carries_out_the_list_from : (store : Store) (cs : List Sent) → delivery cs ≡ true
    → ((session carry (switched_on store) (all_arriving cs)).carried ≡ commands cs)
    × ((session carry (switched_on store) (all_arriving cs)).state.store ≡ carry_all carry store (commands cs))
carries_out_the_list_from store cs e = carries_out_that_very_list carry cs e store

-- try by try, to the byte: what is given back during it, and with which try a command is carried out
pub each_try_brings : (store : Store) (cs : List Sent) → delivery cs ≡ true → AllBring carry (switched_on store) clear store [] cs
each_try_brings store cs e = brings_for_each_try carry cs e store

-- so a cut try is answered with nothing or with one NAK
pub a_cut_try_is_answered : (m : Message) (b : Begun) (last : List ℕ) (k : Carried Store) (done : Bool) (count : ℕ)
    → (given_back m last k done (brings ToDevice b m (cut count)) ≡ []) ⊎ (given_back m last k done (brings ToDevice b m (cut count)) ≡ 0x15 ∷ [])
a_cut_try_is_answered m b last k done zero = inl refl
a_cut_try_is_answered m clear last k done (suc count) = inl refl
a_cut_try_is_answered m (begun n came) last k done (suc count) = go (ltb 1 came)
  where
    go : (t : Bool) → (given_back m last k done (cond t (broken_frame ∷ []) []) ≡ []) ⊎ (given_back m last k done (cond t (broken_frame ∷ []) []) ≡ 0x15 ∷ [])
    go true = inr refl
    go false = inl refl

-- "the try that lacks only its last byte when the next one's first byte has become 03h": with that byte the command whose frame lacked it is
-- carried out, or answered again if it is a repeat; of the next try nothing is
pub ended_by_the_next_try : (m n : Message) → sendable ToDevice m ≡ true → sendable ToDevice n ≡ true → (before : Before) (store : Store)
    → (count : ℕ) → count + 1 ≡ length (frame ToDevice m) → EndedByTheNext carry (record { place = outside; before = before; store = store }) m n count
ended_by_the_next_try = ended_by_the_next carry

-- "So two different lists never arrive as the same bytes."
pub different_lists_differ : (cs ds : List Sent) → delivery cs ≡ true → delivery ds ≡ true → all_arriving cs ≡ all_arriving ds → commands cs ≡ commands ds
different_lists_differ = same_bytes_same_list

-- the running code: whatever buffers are lent to `device::hear`, and in whatever parts the bytes are heard, as `printer` hears them: the books behind the
-- calls are those of the list, all that was given back is what these theorems speak of, and the texts that were shown are the list's
pub the_calls_carry_out_the_list : (f g : Machines) → Fresh f → (cs : List Sent) → delivery cs ≡ true → (gives : List ℕ) (texts : List (List ℕ)) → HeardThrough f (all_arriving cs) gives texts g
    → (store_of g.device ≡ carry_all carry (fresh_store f.device.sheet) (commands cs)) × ((gives ≡ (recording f.device.sheet (all_arriving cs)).gives)
    × (texts ≡ texts_of (commands cs)))
the_calls_carry_out_the_list f g fresh cs e gives texts h =
    let same = the_calls_are_the_recording f g fresh (all_arriving cs) gives texts h in
    let done = carries_out_the_list f.device.sheet cs e in
    (same.1.0 ∙ done.1, (same.0, same.1.1 ∙ ap texts_of done.0))

-- request 2026-04: "demand 3 holds from one switching on to the next": whatever calls came before, from fresh fields on, and whatever books, sheet and guard
-- they left, once the device is switched on anew
pub the_calls_carry_out_the_list_from : (f g : Machines) → Fresh f → (calls : List CodeCall) (cs : List Sent) → delivery cs ≡ true → (gives : List ℕ) (texts : List (List ℕ))
    → HeardThrough (handed_on (handed_through f calls) switch_on) (all_arriving cs) gives texts g
    → let store = store_anew (store_of (handed_through f calls).device) in
    (store_of g.device ≡ carry_all carry store (commands cs)) × ((gives ≡ (session carry (switched_on store) (all_arriving cs)).gives) × (texts ≡ texts_of (commands cs)))
the_calls_carry_out_the_list_from f g fresh calls cs e gives texts h =
    let before : Machines = handed_through f calls in
    let store = store_anew (store_of before.device) in
    let ok = ok_anew before.device (ok_behind f (fresh_ok f fresh) calls).device in
    let same = the_calls_are_the_session (handed_on before switch_on) g ok store refl (all_arriving cs) gives texts h in
    let done = carries_out_the_list_from store cs e in
    (same.1.0 ∙ done.1, (same.0, same.1.1 ∙ ap texts_of done.0))

-- PROTOCOL 5.17: and so the display shows the texts of that very list, each once and in order, and nothing else: no try that is damaged, cut short or repeated
-- shows any
pub shows_the_list_s_texts : (store : Store) (cs : List Sent) → delivery cs ≡ true → texts_of (session carry (switched_on store) (all_arriving cs)).carried ≡ texts_of (commands cs)
shows_the_list_s_texts store cs e = ap texts_of (carries_out_that_very_list carry cs e store).0

-- try by try (`each_try_brings`): the text of a command is shown with the try that carries it out, and a try that carries out none shows none
pub a_try_shows : {s : State Store} {m : Message} {done : Bool} {last : List ℕ} {k : Carried Store} {a : Arrival} {brought : List Event} → TryBrings carry s m done last k a brought
    → texts_of (session carry s (arriving (frame ToDevice m) a)).carried ≡ cond (not done && heard_in m brought) (shown_by m.code m.content) []
a_try_shows {m = m} {done = done} {brought = brought} t = ap texts_of t.carried ∙ go (not done && heard_in m brought)
  where
    go : (now : Bool) → texts_of (cond now (m ∷ []) []) ≡ cond now (shown_by m.code m.content) []
    go true = append-nil (shown_by m.code m.content)
    go false = refl

-- and `recorder::hear_all` promises `told_in` of the recording, so that the list it lists and the books it hands back are these
pub the_code_tells_the_list : (sheet : List Line) (cs : List Sent) → delivery cs ≡ true → (out orders : List ℕ)
    → ((told_in out orders (recording sheet (all_arriving cs))).recorded.books ≡ (carry_all carry (fresh_store sheet) (commands cs)).books)
    × ((told_in out orders (recording sheet (all_arriving cs))).orders ≡ sets orders 0 (listing (commands cs)))
the_code_tells_the_list sheet cs e out orders =
    let and_parts = carries_out_the_list sheet cs e in
    (ap (λ (z : Store). z.books) and_parts.1, ap (λ z. sets orders 0 (listing z)) and_parts.0)

-- at most once, without "at least one whole": whatever tries arrive, and in whatever of the ways, what is carried out is what is heard, told from the tries
-- alone, repeats left out
pub carries_out_what_was_heard : (cs : List Sent) → all_may_come cs ≡ true → (store : Store)
    → ((session carry (switched_on store) (all_arriving cs)).carried ≡ without_repeats (all_heard clear cs))
    × ((session carry (switched_on store) (all_arriving cs)).state.store ≡ carry_all carry store (without_repeats (all_heard clear cs)))
carries_out_what_was_heard = carries_out_what_is_heard carry

-- and it is the list with some left out: each command at most once, and in order
pub carries_out_at_most_once : (cs : List Sent) → all_may_come cs ≡ true → (store : Store) → Sublist (session carry (switched_on store) (all_arriving cs)).carried (commands cs)
carries_out_at_most_once = carries_out_a_part carry

-- as long as no cut try lacks only its last byte (PROTOCOL 9.5), exactly those commands of which a try arrived whole, where these neighbours differ
pub carries_out_those_that_arrived : (cs : List Sent) → all_may_come cs ≡ true → none_lacks_last cs ≡ true → neighbours_differ (arrived_whole cs) ≡ true → (store : Store)
    → ((session carry (switched_on store) (all_arriving cs)).carried ≡ commands (arrived_whole cs))
    × ((session carry (switched_on store) (all_arriving cs)).state.store ≡ carry_all carry store (commands (arrived_whole cs)))
carries_out_those_that_arrived = carries_out_those_whole carry

-- from the till end: its frames, whatever the line does to each, are such a list
same_frames : (n : ℕ) (f : List ℕ) (ways : List Arrival) → each_arrives (replicate n f) ways ≡ true
    → (all (may_arrive f) ways ≡ true) × (frames_arriving (replicate n f) ways ≡ tries_arriving f ways)
same_frames zero f [] e = (refl, refl)
same_frames zero f (a ∷ ways) e = absurd (false≢true e)
same_frames (suc n) f [] e = absurd (false≢true e)
same_frames (suc n) f (a ∷ ways) e =
    let two = and_parts (may_arrive f a) (each_arrives (replicate n f) ways) e in
    let rest = same_frames n f ways two.1 in
    (and_from (may_arrive f a) (all (may_arrive f) ways) two.0 rest.0, ap (λ z. arriving f a ++ z) rest.1)

-- neighbours differ by the till end's own SEQ
seq_differs : (place : ℕ) (m : Message) → m.seq ≡ seq_of place → (hs : List Handed) (rest : List (List Arrival)) → AllInPlace (place + 1) hs
    → differs_from m (over_the_line hs rest) ≡ true
seq_differs place m e [] rest p = refl
seq_differs place m e (h ∷ hs) [] p = refl
seq_differs place m e (h ∷ hs) (ways ∷ rest) p =
    ap (λ t. not (t && eqb m.code h.command.code))
    (ne_eqb m.seq h.command.seq (λ q. seqs_differ place (sym e ∙ q ∙ p.0.seq)))

-- what crosses the line: the bytes and the commands are the till end's, and each try is one of its command's
record Crosses (hs : List Handed) (rest : List (List Arrival)) : Type 0 where
  may_come : all_may_come (over_the_line hs rest) ≡ true
  same_bytes : bytes_arriving hs rest ≡ all_arriving (over_the_line hs rest)
  same_commands : commands (over_the_line hs rest) ≡ taken_commands hs
  is_delivery : each_one_whole rest ≡ true → delivery (over_the_line hs rest) ≡ true

crosses : (hs : List Handed) (place : ℕ) → AllInPlace place hs → (rest : List (List Arrival)) → all_arrive hs rest ≡ true → Crosses hs rest
crosses [] place p [] e = record { may_come = refl; same_bytes = refl; same_commands = refl; is_delivery = λ w. refl }
crosses [] place p (ways ∷ rest) e = absurd (false≢true e)
crosses (h ∷ hs) place p [] e = absurd (false≢true e)
crosses (h ∷ hs) place p (ways ∷ rest) e =
    let m = h.command in
    let f = frame ToDevice m in
    let two = and_parts (each_arrives h.frames ways) (all_arrive hs rest) e in
    let own = p.0.tried in
    let n = length h.frames in
    let tries = same_frames n f ways (sym (ap (λ z. each_arrives z ways) own.same) ∙ two.0) in
    let others = crosses hs (place + 1) p.1 rest two.1 in
    let may = and_from (sendable ToDevice m) (all (may_arrive f) ways) own.can tries.0 in
    let cs = over_the_line hs rest in
    record {
      may_come = and_from (sendable ToDevice m && all (may_arrive f) ways) (all_may_come cs) may others.may_come;
      same_bytes = ap (λ z. z ++ bytes_arriving hs rest) (ap (λ z. frames_arriving z ways) own.same ∙ tries.1)
          ∙ ap (λ z. tries_arriving f ways ++ z) others.same_bytes;
      same_commands = ap (λ z. m ∷ z) others.same_commands;
      is_delivery = λ w.
          let whole = and_parts (any is_whole ways) (each_one_whole rest) w in
          and_from (tried (record { command = m; tries = ways }) && differs_from m cs) (delivery cs)
          (and_from (tried (record { command = m; tries = ways })) (differs_from m cs)
          (and_from (sendable ToDevice m && all (may_arrive f) ways) (any is_whole ways) may whole.0)
          (seq_differs place m p.0.seq hs rest p.1))
          (others.is_delivery whole.1);
    }

-- whatever happens at a fresh till end, and whatever the line does to each frame that it hands out, at least one of each command arriving whole: the device
-- carries out the commands that the till end took, each once and in order
pub the_till_s_commands_are_carried_out : (sheet : List Line) (ls : List LentEvent) (ways : List (List Arrival)) → all_arrive (handed_in ls) ways ≡ true → each_one_whole ways ≡ true
    → (delivery (over_the_line (handed_in ls) ways) ≡ true)
    × ((recording sheet (bytes_arriving (handed_in ls) ways)).carried ≡ taken_commands (handed_in ls))
    × ((recording sheet (bytes_arriving (handed_in ls) ways)).state.store ≡ carry_all carry (fresh_store sheet) (taken_commands (handed_in ls)))
the_till_s_commands_are_carried_out sheet ls ways e w =
    let x = crosses (handed_in ls) 0 (frames_are_tries ls) ways e in
    let d = x.is_delivery w in
    let all_done = carries_out_the_list sheet (over_the_line (handed_in ls) ways) d in (
      d,
      ap (λ bytes. (recording sheet bytes).carried) x.same_bytes ∙ all_done.0 ∙ x.same_commands,
      ap (λ bytes. (recording sheet bytes).state.store) x.same_bytes ∙ all_done.1 ∙ ap (carry_all carry (fresh_store sheet)) x.same_commands,
    )

-- and each at most once and in order, if whole ones are missing
pub the_till_s_commands_at_most_once : (sheet : List Line) (ls : List LentEvent) (ways : List (List Arrival)) → all_arrive (handed_in ls) ways ≡ true
    → let heard-of = without_repeats (all_heard clear (over_the_line (handed_in ls) ways)) in
    ((recording sheet (bytes_arriving (handed_in ls) ways)).carried ≡ heard-of)
    × ((recording sheet (bytes_arriving (handed_in ls) ways)).state.store ≡ carry_all carry (fresh_store sheet) heard-of)
    × Sublist (recording sheet (bytes_arriving (handed_in ls) ways)).carried (taken_commands (handed_in ls))
the_till_s_commands_at_most_once sheet ls ways e =
    let x = crosses (handed_in ls) 0 (frames_are_tries ls) ways e in
    let cs = over_the_line (handed_in ls) ways in
    let heard-so = carries_out_what_is_heard carry cs x.may_come (fresh_store sheet) in (
      ap (λ bytes. (recording sheet bytes).carried) x.same_bytes ∙ heard-so.0,
      ap (λ bytes. (recording sheet bytes).state.store) x.same_bytes ∙ heard-so.1,
      subst (λ ms. Sublist (recording sheet (bytes_arriving (handed_in ls) ways)).carried ms) x.same_commands
          (subst (λ bytes. Sublist (recording sheet bytes).carried (commands cs)) (sym x.same_bytes) (carries_out_a_part carry cs x.may_come (fresh_store sheet))),
    )

-- exactly those of which a frame arrived whole, where no cut one lacks only its last byte and these neighbours differ: the till end's SEQ comes again
-- after 224 commands
pub the_till_s_commands_that_arrived : (sheet : List Line) (ls : List LentEvent) (ways : List (List Arrival)) → all_arrive (handed_in ls) ways ≡ true
    → none_lacks_last (over_the_line (handed_in ls) ways) ≡ true → neighbours_differ (arrived_whole (over_the_line (handed_in ls) ways)) ≡ true
    → (recording sheet (bytes_arriving (handed_in ls) ways)).carried ≡ commands (arrived_whole (over_the_line (handed_in ls) ways))
the_till_s_commands_that_arrived sheet ls ways e f d =
    let x = crosses (handed_in ls) 0 (frames_are_tries ls) ways e in
    ap (λ bytes. (recording sheet bytes).carried) x.same_bytes
    ∙ (carries_out_those_that_arrived (over_the_line (handed_in ls) ways) x.may_come f d (fresh_store sheet)).0
