-- DECISIONS 32, 54: what a call brought, noted down in two lent buffers, as far as they reach.
use Rattle.std.specs.Prelude.{ℕ, ◌+◌, ◌%◌, min, ◌-◌, List, [], ◌∷◌, ◌++◌, length, take, cond, ◌&&◌, leb, ltb}
use Rattle.std.proofs.lemmas.List.Edits.{sets}
use Rattle.wire.specs.Frame.{Message}
use Rattle.machine.specs.Hearing.{carried_by}
use Rattle.machine.specs.declared.Device.{Device}
use Rattle.machine.specs.declared.Hearing.{Hearing}
use Rattle.tape.specs.declared.Run.{Run}

-- DECISIONS 32: a command in the list of those carried out: SEQ, CMD, the number of its data bytes, the data. PROTOCOL 1.2: there are at most 200, so that one
-- byte holds the number.
abbrev pub listed : Message → List ℕ
listed m = m.seq ∷ m.code ∷ (length m.content % 256) ∷ m.content

abbrev pub listing : List Message → List ℕ
listing [] = []
listing (m ∷ ms) = listed m ++ listing ms

-- what one call adds to the two buffers, and how far the part is heard then
pub record NotedDown : Type 0 where
  pub run : Run
  pub out : List ℕ
  pub orders : List ℕ

-- the next byte's place; past the part's end it is the end
abbrev pub place_after : (place taken total : ℕ) → ℕ
place_after place taken total = cond (leb taken (total - place)) (place + taken) total

abbrev pub noted_down : Run → Hearing → (frame buffer : List ℕ) → (total : ℕ) → (out orders : List ℕ) → NotedDown
noted_down run h frame buffer total out orders =
    let gives = take h.given.count buffer in
    let carried = listing (carried_by h.call frame) in
    let place = place_after run.place h.taken total in
    record {
      run = record {
        device = h.given.device;
        place = place;
        given = min (run.given + length gives) (length out);
        listed = min (run.listed + length carried) (length orders);
        more = ltb 0 h.taken && ltb place total;
      };
      out = sets out run.given gives;
      orders = sets orders run.listed carried;
    }

-- a run begins at the part's first byte
abbrev pub start_of : Device → (total : ℕ) → Run
start_of d total = record { device = d; place = 0; given = 0; listed = 0; more = ltb 0 total }
