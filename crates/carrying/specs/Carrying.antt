-- PROTOCOL 1.11: a whole frame carried out. Its command is judged and answered, one that is refused (1 to 4) too.
use Rattle.std.specs.Prelude.{ℕ, Bool, cond, List, [], ◌∷◌, ◌++◌, Option, Ok, Err}
use Rattle.wire.specs.Frame.{Message, answer_of, frame}
use Rattle.wire.specs.declared.Way.TheVariants.{ToTill}
use Rattle.display.specs.Display.{shown_by}
use Rattle.kinds.specs.Fields.{parsed_number, Parsed}
use Rattle.command.specs.Commands.{parsed_of}
use Rattle.books.specs.declared.Books.{Books}
use Rattle.sheet.specs.Searches.{no_search, place_of, match_of}
use Rattle.sheet.specs.declared.Search.{Search}
use Rattle.rules.specs.Searches.{search_for}
use Rattle.rules.specs.Views.{view_of}
use Rattle.deeds.specs.Deeds.{refused_with, carried_out}
use Rattle.deeds.specs.declared.Deed.{Deed}
use Rattle.answers.specs.Contents.{content_of}
use Rattle.answers.specs.Status.{status_of}
use Rattle.line.specs.Turns.{Carried}
use Rattle.guard.specs.Guard.{judged_by}
use Rattle.guard.specs.declared.Guard.{Guard}
use Rattle.store.specs.Store.{Store, with_guard}
use Rattle.store.specs.Commands.{left_by}

-- PROTOCOL 5.4: what is looked for in the sheet
abbrev pub search_in : Books → Parsed → Search
search_in b (Ok c) = search_for b (view_of c)
search_in b (Err why) = no_search

-- PROTOCOL 2.2: 2 and 1 are told before books and sheet are asked for 3 and 4; 5.20: what the guard does not let pass is 3
abbrev pub deed_for : Books → Option ℕ → (passes : Bool) → Parsed → Deed
deed_for b m passes (Ok c) = cond passes (carried_out b m c) (refused_with 3 b)
deed_for b m passes (Err why) = refused_with (parsed_number (Err why)) b

-- PROTOCOL 1.2: the answer bears the SEQ and CMD of its command; 5.1, 3.1: the data of a command done, or none, and the status after it
abbrev pub answer_to : Books → ℕ → ℕ → Deed → Message
answer_to b seq code d = answer_of seq code (content_of d.shown b.day d.books) (status_of d.number d.books)

abbrev pub answer_bytes : Books → ℕ → ℕ → Deed → List ℕ
answer_bytes b seq code d = frame ToTill (answer_to b seq code d)

-- DECISIONS 63: no answer has a lead
abbrev pub lead_of : Deed → List ℕ
lead_of d = []

abbrev pub carried_as : Store → ℕ → ℕ → (at : ℕ) → Guard → Deed → Carried Store
carried_as s seq code at g d =
    record {
      number = d.number;
      store = with_guard (left_by s at d) g;
      lead = lead_of d;
      answer = answer_bytes s.books seq code d;
    }

-- PROTOCOL 5.4, 5.20: the sheet is searched and the guard asked first, and what they say is among the reasons
abbrev pub carry_read : Store → ℕ → ℕ → (content : List ℕ) → Parsed → Carried Store
carry_read s seq code content p =
    let q = search_in s.books p in
    let j = judged_by s.guard p content in
    carried_as s seq code (place_of s.sheet q) j.guard (deed_for s.books (match_of s.sheet q) j.passes p)

-- PROTOCOL 1.11: a command carried out on what a device remembers
abbrev pub carry : Store → Message → Carried Store
carry s m = carry_read s m.seq m.code m.content (parsed_of m.code m.content)

-- PROTOCOL 5.17: the texts that commands carried out show, in their order
abbrev pub texts_of : List Message → List (List ℕ)
texts_of [] = []
texts_of (m ∷ ms) = shown_by m.code m.content ++ texts_of ms
