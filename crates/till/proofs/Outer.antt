-- Laws of the public functions: refusals, Idle, and what their private ones say.
use mathlib.Core.Path.{◌≡◌, refl, sym, ap, ◌∙◌}
use mathlib.Core.Bool.{Bool, true, false, cond}
use mathlib.Core.List.{List}
use Prim.Native.Nat.{ℕ, ◌≤◌, ◌<◌}
use native.Mathlib.Omega.{arith}
use lib.Dec.{ltb}
use lib.ListN.{length, take}
use lib.Seq.{sets, sets-eq, take_at}
use borrow.Author.Tests.{lt-ltb, le-ltb}
use Rattle.std.proofs.Common.{Option, Some, None, Result, Ok, Err}
use Rattle.text.proofs.Laws.{sets_same}
use Rattle.wire.specs.Frame.{Message, command_of, frame, sendable}
use Rattle.wire.specs.Replies.{Reply, reply_of, building}
use Rattle.wire.specs.declared.Unbuilt.{Unbuilt}
use Rattle.wire.specs.declared.Unbuilt.TheVariants.{Short, Unsendable}
use Rattle.wire.specs.declared.Way.TheVariants.{ToDevice}
use Rattle.wire.proofs.Building.{can, cannot}
use Rattle.reader.specs.Reading.{outside, inside}
use Rattle.reader.proofs.RoundTrip.{frame_size}
use Rattle.reader.specs.Fields.{place_of, kept_in}
use Rattle.reader.specs.declared.Reader.{Reader}
use Rattle.till.specs.Words.{number_of}
use Rattle.till.specs.Turns.{fresh_ear, idle, Turn, Happening, command, byte, timeout, Meaning, failed, goes_on, answers, stays, on_meaning, on_byte, on_timeout, on_command, sent, seq_after, takes}
use Rattle.till.specs.Fields.{ear_of, pending_of, state_of, framed, held_in, refused, said_of, turn_of}
use Rattle.till.specs.Private.{spoken, failed_by, heard_by, sent_by}
use Rattle.till.proofs.Turning.{fails_by}
use Rattle.till.specs.declared.Attempt.{Attempt}
use Rattle.till.specs.declared.Ear.{Ear as EarFields}
use Rattle.till.specs.declared.Said.{Said}
use Rattle.till.specs.declared.Till.{Till}
use Rattle.till.specs.declared.Word.TheVariants.{Idle, Waiting, TooShort, NotSent}

-- what the arrays hold already is what they hold
kept_same : (r : Reader) (answer : List ℕ) → answer ≡ kept_in answer (place_of r answer)
kept_same r answer = go r.inside
  where
    go : (within : Bool) → answer ≡ kept_in answer (cond within (inside r.sum (take r.count answer)) outside)
    go true = sym (sets_same 0 r.count answer)
    go false = refl

pub read_same : (s : Option Attempt) (frame answer : List ℕ) → answer ≡ held_in answer (pending_of s frame answer)
read_same None frame answer = refl
read_same (Some a) frame answer = kept_same a.ear.reader answer

pub framed_same : (s : Option Attempt) (frame answer : List ℕ) → frame ≡ framed frame (pending_of s frame answer)
framed_same None frame answer = refl
framed_same (Some a) frame answer = sym (sets_same 0 a.count frame)

-- the turn: 7 first, then by what waits
module _ (t : Till) (frame answer buf : List ℕ) where
  pub too_short : (h : Happening) → length buf < 210 → turn_of t frame answer buf h ≡ stays TooShort (state_of t frame answer)
  too_short h e = ap (λ c. cond c (stays TooShort (state_of t frame answer)) (takes (state_of t frame answer) h)) (lt-ltb (length buf) 210 e)

  module _ (room : 210 ≤ length buf) where
    taken : (h : Happening) → turn_of t frame answer buf h ≡ takes (state_of t frame answer) h
    taken h = ap (λ c. cond c (stays TooShort (state_of t frame answer)) (takes (state_of t frame answer) h)) (le-ltb (length buf) 210 room)

    pub byte_idle : (b : ℕ) → t.slot ≡ None → turn_of t frame answer buf (byte b) ≡ stays Idle (state_of t frame answer)
    byte_idle b e = taken (byte b) ∙ ap (λ z. on_byte (state_of t frame answer) (pending_of z frame answer) b) e

    pub byte_held : (b : ℕ) (a : Attempt) → t.slot ≡ Some a → turn_of t frame answer buf (byte b) ≡ heard_by t.next a frame answer b
    byte_held b a e = taken (byte b) ∙ ap (λ z. on_byte (state_of t frame answer) (pending_of z frame answer) b) e

    pub timeout_idle : t.slot ≡ None → turn_of t frame answer buf timeout ≡ stays Idle (state_of t frame answer)
    timeout_idle e = taken timeout ∙ ap (λ z. on_timeout (state_of t frame answer) (pending_of z frame answer)) e

    pub timeout_held : (a : Attempt) → t.slot ≡ Some a → turn_of t frame answer buf timeout ≡ failed_by t.next a frame
    timeout_held a e = taken timeout ∙ ap (λ z. on_timeout (state_of t frame answer) (pending_of z frame answer)) e

    pub command_held : (code : ℕ) (content : List ℕ) (a : Attempt) → t.slot ≡ Some a → turn_of t frame answer buf (command code content) ≡ stays NotSent (state_of t frame answer)
    command_held code content a e = taken (command code content) ∙ ap (λ z. on_command (state_of t frame answer) (pending_of z frame answer) code content) e

    pub command_free : (code : ℕ) (content : List ℕ) → t.slot ≡ None → turn_of t frame answer buf (command code content) ≡ sent_by t.next code content
    command_free code content e =
        taken (command code content)
        ∙ ap (λ z. on_command (record { next = t.next; pending = pending_of z frame answer }) (pending_of z frame answer) code content) e

-- a command that waits is never refused
pub not_refused : (next seq code : ℕ) (bytes : List ℕ) (tries : ℕ) (m : Meaning) → refused (number_of (on_meaning next seq code bytes tries m).word) ≡ false
not_refused next seq code bytes tries failed = go (ltb tries 5)
  where
    go : (early : Bool) → refused (number_of (fails_by next seq code bytes tries early).word) ≡ false
    go true = refl
    go false = refl
not_refused next seq code bytes tries (goes_on ear) = refl
not_refused next seq code bytes tries (answers m) = refl

-- and one that is sent, or is not
abbrev by_sendable : ℕ → Message → Bool → Turn
by_sendable next m s = cond s (sent next m) (stays NotSent (record { next = next; pending = idle }))

-- what a public function says, from its turn
module _ (t : Till) (buf buf' : List ℕ) (r : Said) (x y : Turn) (e : x ≡ y) where
  pub says : r ≡ said_of t y → r ≡ said_of t x
  says p = p ∙ ap (said_of t) (sym e)

  pub puts : buf' ≡ sets buf 0 y.puts → buf' ≡ sets buf 0 x.puts
  puts q = q ∙ ap (λ (z : Turn). sets buf 0 z.puts) (sym e)

  pub reads_in : (array array' : List ℕ) → array' ≡ held_in array y.state.pending → array' ≡ held_in array x.state.pending
  reads_in array array' q = q ∙ ap (λ (z : Turn). held_in array z.state.pending) (sym e)

  pub frames_in_lem : (array array' : List ℕ) → array' ≡ framed array y.state.pending → array' ≡ framed array x.state.pending
  frames_in_lem array array' q = q ∙ ap (λ (z : Turn). framed array z.state.pending) (sym e)

-- a command built in its array
module _ (next code : ℕ) (content array : List ℕ) (size : length array ≡ 256) where
  abbrev m : Message
  m = command_of next code content

  built-as : (s : Bool) → sendable ToDevice m ≡ s
      → building ToDevice array m
      ≡ cond s (record { number = 0; count = length (frame ToDevice m); buffer = sets array 0 (frame ToDevice m) }) (record { number = 8; count = 0; buffer = array })
  built-as true e = can ToDevice array m (omega arith) e
  built-as false e = cannot ToDevice array m (omega arith) e

  pub built_frame : (r : Result ℕ Unbuilt) (after : List ℕ) (n : ℕ) → r ≡ Ok n → reply_of r after ≡ building ToDevice array m
      → (sendable ToDevice m ≡ true) × ((n ≡ length (frame ToDevice m)) × (after ≡ sets array 0 (frame ToDevice m)))
  built_frame r after n is e = go (sendable ToDevice m) refl
    where
      go : (s : Bool) → sendable ToDevice m ≡ s → (sendable ToDevice m ≡ true) × ((n ≡ length (frame ToDevice m)) × (after ≡ sets array 0 (frame ToDevice m)))
      go true es =
          let all = ap (λ z. reply_of z after) (sym is) ∙ e ∙ built-as true es in
          (es, (ap (λ (z : Reply). z.count) all, ap (λ (z : Reply). z.buffer) all))
      go false es =
          let all = ap (λ z. reply_of z after) (sym is) ∙ e ∙ built-as false es in
          absurd (omega (arith, ap (λ (z : Reply). z.number) all))

  -- the array is long enough, so that no frame says that it can't be sent
  pub built_none : (r : Result ℕ Unbuilt) (after : List ℕ) → ((n : ℕ) → r ≡ Ok n → ⊥) → reply_of r after ≡ building ToDevice array m
      → (sendable ToDevice m ≡ false) × (after ≡ array)
  built_none r after no-frame e = go r (sendable ToDevice m) refl no-frame e
    where
      go : (z : Result ℕ Unbuilt) (s : Bool) → sendable ToDevice m ≡ s → ((n : ℕ) → z ≡ Ok n → ⊥) → reply_of z after ≡ building ToDevice array m
          → (sendable ToDevice m ≡ false) × (after ≡ array)
      go (Ok n) s es o h = absurd (o n refl)
      go (Err Short) true es o h = absurd (omega (arith, ap (λ (z : Reply). z.number) (h ∙ built-as true es)))
      go (Err Short) false es o h = absurd (omega (arith, ap (λ (z : Reply). z.number) (h ∙ built-as false es)))
      go (Err Unsendable) true es o h = absurd (omega (arith, ap (λ (z : Reply). z.number) (h ∙ built-as true es)))
      go (Err Unsendable) false es o h = (es, ap (λ (z : Reply). z.buffer) (h ∙ built-as false es))

  -- sent: the frame that is handed out is the one that is held
  pub says_sent : sendable ToDevice m ≡ true → (n : ℕ) → n ≡ length (frame ToDevice m) → (after buf buf' : List ℕ) → after ≡ sets array 0 (frame ToDevice m)
      → buf' ≡ sets buf 0 (take n after) → (up : ℕ) → up ≡ seq_after next → (start : EarFields) → start ≡ ear_of fresh_ear
      → (record { till = record { next = up; slot = Some (record { seq = next; code = code; tries = 1; count = n; ear = start }) }; word = Waiting n } ≡ spoken (sent_by next code content))
      × ((after ≡ framed array (sent_by next code content).state.pending) × (buf' ≡ sets buf 0 (sent_by next code content).puts))
  says_sent e n count after buf buf' ea eb up eu start es =
      let turn : sent_by next code content ≡ sent next m = ap (by_sendable next m) e in
      let fits = (frame_size ToDevice m e).1 in
      let held : take n after ≡ frame ToDevice m =
      ap (take n) (ea ∙ sets-eq (frame ToDevice m) array 0 (omega arith)) ∙ take_at (frame ToDevice m) _ n (sym count) in (
        (λ i. record {
          till = record { next = eu i; slot = Some (record { seq = next; code = code; tries = 1; count = count i; ear = es i }) };
          word = Waiting (count i);
        }) ∙ ap spoken (sym turn),
        (ea ∙ ap (λ (z : Turn). framed array z.state.pending) (sym turn), eb ∙ ap (sets buf 0) held ∙ ap (λ (z : Turn). sets buf 0 z.puts) (sym turn)),
      )
