-- EXPLAIN 2: what is told of a call of the device, and at the end of the recording.
use Rattle.std.specs.Prelude.{ℕ, ◌-◌, Bool, cond, List, [], ◌++◌, eqb, length, take, drop, get_or, Option}
use Rattle.line.specs.declared.Call.{Call}
use Rattle.line.specs.declared.Call.TheVariants.{Quiet, Nak, Again, Order}
use Rattle.reasons.specs.declared.Reason.{Reason}
use Rattle.reader.specs.Fields.{place_of}
use Rattle.expecting.specs.Expecting.{expected_at}
use Rattle.trail.specs.Trails.{followed}
use Rattle.trail.specs.declared.Trail.{Trail}
use Rattle.items.specs.Items.{kind_of, broken_items, cut_items}
use Rattle.items.specs.declared.Item.{Item}
use Rattle.items.specs.declared.Kind.{Kind}
use Rattle.items.specs.declared.Kind.TheVariants.{Broken, Repeat, Cut}
use Rattle.pages.specs.Pages.{headed, ended}
use Rattle.entries.specs.Entries.{four_text}
use Rattle.unfolding.specs.Answers.{given_text, answer_text}
use Rattle.passages.specs.Passages.{skipped_text, frame_text, whole_text, asked_text, reply_text, reason_text, shown_text}

-- PROTOCOL 1.8: a frame that is not whole: the bytes that came, and what was expected
abbrev pub part_text : (html : Bool) → Kind → Trail → (shadow : List ℕ) → List (Option Item) → List ℕ
part_text html kind trail shadow items =
    skipped_text html trail.start trail.skipped
    ++ headed html kind trail.start []
    ++ frame_text html shadow trail.reader.count []
    ++ four_text html items

-- PROTOCOL 1.8: a byte broke the frame
abbrev pub broken_text : (html : Bool) → Trail → (shadow : List ℕ) → (byte number : ℕ) → List ℕ
broken_text html trail shadow byte number =
    part_text html Broken trail shadow (broken_items trail.reader.count byte (expected_at (place_of trail.reader shadow)))
    ++ reply_text html number
    ++ ended html

-- PROTOCOL 1.10: a repeat, and the last answer once more
abbrev pub repeated_text : (html : Bool) → Trail → (shadow : List ℕ) → (byte number : ℕ) → (given : List ℕ) → List ℕ
repeated_text html trail shadow byte number given =
    whole_text html Repeat trail shadow byte ++ reply_text html number ++ given_text html given ++ ended html

-- PROTOCOL 1.11: an order with so many bytes of data: what was asked; the reply, and of a refusal the reason; the display; the answer
abbrev pub order_text : (html : Bool) → Trail → (shadow : List ℕ) → (byte count number : ℕ) → Reason → (given : List ℕ) → Option ℕ → (display : List ℕ) → List ℕ
order_text html trail shadow byte count number reason given shows display =
    whole_text html (kind_of (Order (get_or shadow 1 0) (get_or shadow 2 0) count) number) trail shadow byte
    ++ asked_text html (get_or shadow 2 0) (take count (drop 3 shadow))
    ++ reply_text html number
    ++ reason_text html number reason
    ++ shown_text html shows display
    ++ answer_text html (get_or shadow 2 0) given
    ++ ended html

-- PROTOCOL 1.8 to 1.11: by what the last byte brought, with the trail up to it
abbrev pub told_text : (html : Bool) → Trail → (shadow : List ℕ) → (byte : ℕ) → Call → (number : ℕ) → Reason → (given : List ℕ) → Option ℕ → (display : List ℕ) → List ℕ
told_text html trail shadow byte Quiet number reason given shows display = []
told_text html trail shadow byte Nak number reason given shows display = broken_text html trail shadow byte number
told_text html trail shadow byte Again number reason given shows display = repeated_text html trail shadow byte number given
told_text html trail shadow byte (Order seq code count) number reason given shows display =
    order_text html trail shadow byte count number reason given shows display

-- EXPLAIN 2: a call took these bytes behind those of the trail, and the last of them brought it
abbrev pub call_text : (html : Bool) → Trail → (shadow taken : List ℕ) → Call → (number : ℕ) → Reason → (given : List ℕ) → Option ℕ → (display : List ℕ) → List ℕ
call_text html trail shadow taken call number reason given shows display =
    let before = followed trail shadow (take (length taken - 1) taken) in
    cond (eqb (length taken) 0) []
    (told_text html before.trail before.array (get_or taken (length taken - 1) 0) call number reason given shows display)

-- EXPLAIN 2: the recording ends: bytes outside frames, or a frame that it ends in
abbrev pub ends_text : (html : Bool) → Trail → (shadow : List ℕ) → List ℕ
ends_text html trail shadow =
    cond trail.reader.inside
    (part_text html Cut trail shadow (cut_items trail.reader.count (expected_at (place_of trail.reader shadow))) ++ ended html)
    (skipped_text html trail.offset trail.skipped)
