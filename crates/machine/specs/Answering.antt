-- What a call on the line makes of the device: the second half of a byte, which alone moves what commands work on.
use Rattle.std.specs.Prelude.{ℕ, List, [], ◌∷◌, ◌++◌, length, take, drop, None}
use Rattle.std.proofs.lemmas.List.Edits.{sets}
use Rattle.wire.specs.Frame.{command_of}
use Rattle.line.specs.Turns.{Carried, last_answer}
use Rattle.line.specs.Calls.{before_of, call_number}
use Rattle.line.specs.declared.Call.{Call}
use Rattle.line.specs.declared.Call.TheVariants.{Quiet, Nak, Again, Order}
use Rattle.line.specs.declared.Previous.TheVariants.{Frame}
use Rattle.store.specs.Store.{Store}
use Rattle.display.specs.Display.{display_of, displayed}
use Rattle.carrying.specs.Carrying.{carry, texts_of}
use Rattle.machine.specs.Device.{Lent, Machine, store_of, After}

-- PROTOCOL 2.5: the bytes given back for a call stand at the front of the lent buffer; with them its number
abbrev pub gives : Call → List ℕ → Machine → Lent → After
gives call bytes m lent =
    record {
      machine = m;
      lent = record { buffer = sets lent.buffer 0 bytes; lines = lent.lines; display = lent.display };
      number = call_number call 0;
      count = length bytes;
      shows = None;
    }

-- PROTOCOL 1.11: a command carried out is the frame before from now on, with its answer; 5.17: and what it shows is told
abbrev pub orders : ℕ → ℕ → Carried Store → (texts : List (List ℕ)) → Machine → Lent → After
orders seq code k texts m lent =
    record {
      machine = record {
        device = record {
          line = record { reader = m.device.line.reader; previous = Frame seq code (length k.answer) };
          books = k.store.books;
          guard = k.store.guard;
        };
        frame = m.frame;
        last = sets m.last 0 k.answer;
        sheet = k.store.sheet;
      };
      lent = record { buffer = sets lent.buffer 0 (k.lead ++ k.answer); lines = lent.lines; display = displayed lent.display texts };
      number = call_number (Order seq code 0) k.number;
      count = length (k.lead ++ k.answer);
      shows = display_of texts;
    }

-- PROTOCOL 2.1: 0, 5 and 6, and a whole frame carried out; an order's data stands in the frame from its fourth byte on
abbrev pub answering : Call → Machine → Lent → After
answering Quiet m lent = gives Quiet [] m lent
answering Nak m lent = gives Nak (0x15 ∷ []) m lent
answering Again m lent = gives Again (last_answer (before_of m.device.line.previous m.last)) m lent
answering (Order seq code n) m lent =
    let c = command_of seq code (take n (drop 3 m.frame)) in
    orders seq code (carry (store_of m) c) (texts_of (c ∷ [])) m lent
