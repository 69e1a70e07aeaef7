-- PROTOCOL 1.1: a recording, all the bytes that a fresh device heard; it is always lent its 217 bytes, 40 for the display, and the same sheet of 512 lines, whatever these held.
use Rattle.std.specs.Prelude.{ℕ, min, List, length}
use Rattle.std.proofs.lemmas.List.Edits.{sets}
use Rattle.line.specs.Turns.{Session, session, switched_on}
use Rattle.sheet.specs.declared.Line.{Line}
use Rattle.store.specs.Store.{Store, fresh_store}
use Rattle.carrying.specs.Carrying.{carry}
use Rattle.tape.specs.Noting.{listing}
use Rattle.recorder.specs.declared.Recorded.{Recorded}

abbrev pub recording : List Line → List ℕ → Session Store
recording sheet bytes = session carry (switched_on (fresh_store sheet)) bytes

-- DECISIONS 32: what is told of it: the books at the end, and in two lent buffers, as far as they reach, all that was given back and the commands carried out
pub record Told : Type 0 where
  pub recorded : Recorded
  pub out : List ℕ
  pub orders : List ℕ

abbrev pub told_in : List ℕ → List ℕ → Session Store → Told
told_in out orders s =
    record {
      recorded = record { books = s.state.store.books; given = min (length s.gives) (length out); listed = min (length (listing s.carried)) (length orders) };
      out = sets out 0 s.gives;
      orders = sets orders 0 (listing s.carried);
    }
