-- A run heard to its end: what the calls so far brought, and what the rest brings to the device as it stands, is what the whole session brings.
use mathlib.Core.Path.{◌≡◌, refl, sym, ap, ◌∙◌, subst}
use mathlib.Core.Bool.{Bool, true, false, cond, ◌&&◌}
use mathlib.Core.List.{List, []}
use Prim.Native.Nat.{ℕ, zero, suc, ◌+◌, ◌-◌, ◌≤◌, ◌<◌, min}
use native.Mathlib.Nat.{zero-add}
use native.Mathlib.Omega.{arith}
use lib.Dec.{ltb}
use lib.ListN.{length, take, drop, replicate, length-drop, length-replicate, drop_of_length-le}
use lib.Seq.{sets, length-sets, drop-drop}
use borrow.Author.Tests.{ltb-true, ltb-false, le-leb, lt-ltb}
use Rattle.wire.specs.declared.Way.TheVariants.{ToDevice}
use Rattle.reader.proofs.Holding.{Underway}
use Rattle.line.specs.Turns.{Session, session}
use Rattle.store.specs.Store.{Store}
use Rattle.carrying.specs.Carrying.{carry}
use Rattle.carrying.proofs.Eights.{Eights}
use Rattle.sheet.specs.Sheet.{blank}
use Rattle.sheet.specs.declared.Line.{Line}
use Rattle.kept.specs.declared.Kept.{Kept}
use Rattle.machine.specs.Device.{fresh_fields, enough, state_of}
use Rattle.machine.specs.Hearing.{PartHeard, hearing, after_part, carried_by}
use Rattle.machine.specs.Beginning.{texts_by}
use Rattle.machine.proofs.Room.{long_so, shown_length}
use Rattle.machine.proofs.Parts.{behind, part_is, part_long}
use Rattle.machine.proofs.Parts as parts
use Rattle.machine.proofs.Taking.{part_within, part_some}
use Rattle.machine.proofs.Fitting.{Fits, heard_fits}
use Rattle.recorder.specs.Recording.{recording, Told, told_in}
use Rattle.tape.specs.Noting.{listing, place_after, start_of}
use Rattle.runs.specs.Running.{Running, machine_in, lent_in, one_call, calls_left, heard_through}
use Rattle.recorder.specs.Parts.{PartLeft, part_left, part_heard}
use Rattle.recorder.specs.declared.Part.{Part}
use Rattle.recorder.proofs.Listening.{onto, onto_behind}
use Rattle.runs.proofs.Calling.{fewer_left, run_turn, run_done}

-- what holds between two calls; all of it comes to `target`
pub record Head (bytes : List ℕ) (target : Told) (s : Running) : Type 0 where
  pub within : s.run.place ≤ length bytes
  pub more : s.run.more ≡ ltb s.run.place (length bytes)
  pub frames : length s.frame ≡ 256
  pub lasts : length s.last ≡ 217
  pub room : 217 ≤ length s.buffer
  pub lines : 512 ≤ length s.sheet
  pub display : 40 ≤ length s.display
  pub held : Underway ToDevice (state_of (machine_in s)).place
  pub eights : Eights s.run.device.books
  pub given_in_lem : s.run.given ≤ length s.out
  pub listed_in : s.run.listed ≤ length s.orders
  pub told : target ≡ onto s.out s.orders s.run.given s.run.listed (session carry (state_of (machine_in s)) (drop s.run.place bytes))

module _ (bytes : List ℕ) (target : Told) (s : Running) (h : Head bytes target s) (more : s.run.more ≡ true) where
  abbrev rest : List ℕ
  rest = drop s.run.place bytes

  abbrev p : PartHeard
  p = after_part (machine_in s) (lent_in s) rest

  long : enough (lent_in s) ≡ true
  long = long_so (lent_in s) (record { room = h.room; lines = h.lines; display = h.display })

  is-heard : hearing (machine_in s) (lent_in s) rest ≡ p
  is-heard = part_long (machine_in s) (lent_in s) rest long

  left : s.run.place < length bytes
  left = ltb-true s.run.place (length bytes) (sym h.more ∙ more)

  some : 0 < p.taken
  some = part_some (machine_in s) (lent_in s) rest long (omega (arith, length-drop s.run.place bytes, left))

  fits : p.taken ≤ length bytes - s.run.place
  fits = omega (arith, part_within (machine_in s) (lent_in s) rest, length-drop s.run.place bytes)

  place_is : place_after s.run.place p.taken (length bytes) ≡ s.run.place + p.taken
  place_is = ap (λ z. cond z (s.run.place + p.taken) (length bytes)) (le-leb p.taken (length bytes - s.run.place) fits)

  small : Fits (machine_in s) p
  small = subst (Fits (machine_in s)) is-heard (heard_fits rest (machine_in s) (lent_in s) h.lasts h.eights)

  part : parts.Part (machine_in s) (lent_in s) rest p
  part =
      subst (parts.Part (machine_in s) (lent_in s) rest) is-heard
      (part_is rest (machine_in s) (lent_in s) h.frames h.lasts h.room h.held (subst (λ (z : PartHeard). z.after.count ≤ 217) (sym is-heard) small.few))

  turned : Head bytes target (one_call bytes s)
  turned =
      let gives = take p.after.count p.after.lent.buffer in
      let carried = carried_by p.call p.after.machine.frame in
      let goes : Session Store = session carry (state_of p.after.machine) (drop p.taken rest) in
      let same_place = place_is in
      record {
        within = omega (arith, same_place, fits, left);
        more = ap (λ z. z && ltb (one_call bytes s).run.place (length bytes)) (lt-ltb 0 p.taken some);
        frames = part.frames;
        lasts = part.lasts;
        room = omega (arith, part.room, h.room);
        lines = omega (arith, small.lines, h.lines);
        display = omega (arith, shown_length s.display (texts_by p.call p.after.machine.frame), ap length part.display_is, h.display);
        held = part.held;
        eights = small.eights;
        given_in_lem = omega (arith, length-sets s.out s.run.given gives);
        listed_in = omega (arith, length-sets s.orders s.run.listed (listing carried));
        told =
            h.told ∙ ap (onto s.out s.orders s.run.given s.run.listed) part.goes_on
            ∙ ap (λ z. onto s.out s.orders s.run.given s.run.listed (behind z carried goes)) (sym part.given_is)
            ∙ onto_behind s.out s.orders s.run.given s.run.listed gives carried goes
            ∙ ap (λ z. onto (sets s.out s.run.given gives) (sets s.orders s.run.listed (listing carried)) (min (s.run.given + length gives) (length s.out)) (min (s.run.listed + length (listing carried)) (length s.orders)) (session carry (state_of p.after.machine) z)) (drop-drop p.taken s.run.place bytes ∙ ap (λ i. drop i bytes) (sym same_place));
      }

-- all calls
pub record Ended (bytes : List ℕ) (target : Told) (s : Running) : Type 0 where
  pub head : Head bytes target s
  pub over : s.run.more ≡ false

ends : (n : ℕ) (bytes : List ℕ) (target : Told) (s : Running) → calls_left bytes s ≤ n → Head bytes target s → Ended bytes target (heard_through bytes s)
ends zero bytes target s few h = go s.run.more refl
  where
    go : (more : Bool) → s.run.more ≡ more → Ended bytes target (heard_through bytes s)
    go false e = subst (Ended bytes target) (sym (run_done bytes s e)) (record { head = h; over = e })
    go true e = absurd (omega (arith, few, fewer_left bytes s e))
ends (suc n) bytes target s few h = go (ends n bytes target (one_call bytes s)) s.run.more refl
  where
    go : (calls_left bytes (one_call bytes s) ≤ n → Head bytes target (one_call bytes s) → Ended bytes target (heard_through bytes (one_call bytes s)))
        → (more : Bool) → s.run.more ≡ more → Ended bytes target (heard_through bytes s)
    go below false e = subst (Ended bytes target) (sym (run_done bytes s e)) (record { head = h; over = e })
    go below true e = subst (Ended bytes target) (sym (run_turn bytes s e)) (below (omega (arith, few, fewer_left bytes s e)) (turned bytes target s h e))

-- the run's end tells the whole
pub told_at_the_end : (bytes : List ℕ) (target : Told) (s : Running) → Head bytes target s
    → let f = heard_through bytes s in
    record { recorded = record { books = f.run.device.books; given = f.run.given; listed = f.run.listed }; out = f.out; orders = f.orders } ≡ target
told_at_the_end bytes target s h =
    let e = ends (calls_left bytes s) bytes target s (omega arith) h in
    let f : Running = heard_through bytes s in
    let k : Head bytes target f = e.head in
    let none : drop f.run.place bytes ≡ [] = drop_of_length-le bytes (ltb-false f.run.place (length bytes) (sym k.more ∙ e.over)) in
    let all-given : min (f.run.given + 0) (length f.out) ≡ f.run.given = omega (arith, k.given_in_lem) in
    let all_listed : min (f.run.listed + 0) (length f.orders) ≡ f.run.listed = omega (arith, k.listed_in) in
    sym (
    k.told ∙ ap (λ z. onto f.out f.orders f.run.given f.run.listed (session carry (state_of (machine_in f)) z)) none
    ∙ ap (λ z. record { recorded = record { books = f.run.device.books; given = z; listed = min (f.run.listed + 0) (length f.orders) }; out = f.out; orders = f.orders }) all-given
    ∙ ap (λ z. record { recorded = record { books = f.run.device.books; given = f.run.given; listed = z }; out = f.out; orders = f.orders }) all_listed)

-- a fresh device, with arrays and a sheet of these contents
abbrev pub fresh_run : (frame last buffer display : List ℕ) → List Line → (bytes out orders : List ℕ) → Running
fresh_run frame last buffer display sheet bytes out orders =
    record { run = start_of fresh_fields (length bytes); frame = frame; last = last; buffer = buffer; display = display; sheet = sheet; out = out; orders = orders }

pub fresh_head : (frame last buffer display : List ℕ) (sheet : List Line) (bytes out orders : List ℕ) → length frame ≡ 256 → length last ≡ 217 → 217 ≤ length buffer → 40 ≤ length display → 512 ≤ length sheet
    → Head bytes (told_in out orders (recording sheet bytes)) (fresh_run frame last buffer display sheet bytes out orders)
fresh_head frame last buffer display sheet bytes out orders frames lasts room shown lines =
    record {
      within = omega arith;
      more = refl;
      frames = frames;
      lasts = lasts;
      room = room;
      lines = lines;
      display = shown;
      held = tt;
      eights = record { day = refl; groups = refl };
      given_in_lem = omega arith;
      listed_in = omega arith;
      told = simp zero-add;
    }

-- heard with the sheet by value
pub all_told : (k : Kept) (frame last buffer display bytes out orders : List ℕ) (r : Part) (frame' last' buffer' display' out' orders' : List ℕ) → k ≡ record { device = fresh_fields; sheet = replicate 512 blank }
    → length frame ≡ 256 → length last ≡ 217 → 217 ≤ length buffer → 40 ≤ length display
    → part_left r frame' last' buffer' display' out' orders' ≡ part_heard k frame last buffer display bytes out orders
    → record { recorded = record { books = r.kept.device.books; given = r.given; listed = r.listed }; out = out'; orders = orders' } ≡ told_in out orders (recording (replicate 512 blank) bytes)
all_told k frame last buffer display bytes out orders r frame' last' buffer' display' out' orders' ek frames lasts room shown e =
    let lines : length (replicate 512 blank) ≡ 512 = length-replicate {A = Line} 512 blank in
    ap (λ (z : PartLeft). record { recorded = record { books = z.part.kept.device.books; given = z.part.given; listed = z.part.listed }; out = z.out; orders = z.orders })
    (e ∙ ap (λ (z : Kept). part_heard z frame last buffer display bytes out orders) ek)
    ∙ told_at_the_end bytes (told_in out orders (recording (replicate 512 blank) bytes)) (fresh_run frame last buffer display (replicate 512 blank) bytes out orders)
    (fresh_head frame last buffer display (replicate 512 blank) bytes out orders frames lasts room shown (omega (arith, lines)))
