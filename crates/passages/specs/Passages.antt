-- EXPLAIN 2: the parts of what is told of a frame.
use Rattle.std.specs.Prelude.{ℕ, ◌-◌, Bool, cond, List, [], ◌∷◌, ◌++◌, eqb, take, get_or, Option, Some, None}
use Rattle.letters.specs.Letters.{bytes}
use Rattle.reasons.specs.declared.Reason.{Reason}
use Rattle.trail.specs.declared.Trail.{Trail}
use Rattle.command.specs.Commands.{parsed_of, first_text, second_text}
use Rattle.words.specs.Names.{command_word, reply_word, reason_word}
use Rattle.items.specs.Items.{labelled}
use Rattle.items.specs.Asked.{asked_of}
use Rattle.items.specs.declared.Kind.{Kind}
use Rattle.items.specs.declared.Kind.TheVariants as kind
use Rattle.items.specs.declared.Label.TheVariants as label
use Rattle.items.specs.declared.Value.TheVariants as value
use Rattle.captions.specs.Captions.{label_word}
use Rattle.pages.specs.Pages.{headed, ended}
use Rattle.entries.specs.Entries.{item_text, four_text, bytes_text, letters_text, some_text, said_text}

-- EXPLAIN 2: the bytes outside frames that end at an offset; nothing where there are none
abbrev pub skipped_text : (html : Bool) → (end count : ℕ) → List ℕ
skipped_text html end count =
    cond (eqb count 0) [] (headed html kind.Skipped (end - count) [] ++ item_text html (labelled label.Skipped (value.Number count)) ++ ended html)

-- PROTOCOL 1.2: 01h, the bytes behind it, and the last one
abbrev pub frame_text : (html : Bool) → (shadow : List ℕ) → (count : ℕ) → (last : List ℕ) → List ℕ
frame_text html shadow count last = bytes_text html label.Frame (0x01 ∷ []) (take count shadow) last

-- PROTOCOL 1.2: SEQ and CMD behind LEN
abbrev pub names_text : (html : Bool) → (seq code : ℕ) → List ℕ
names_text html seq code = item_text html (labelled label.Seq (value.Byte seq)) ++ item_text html (labelled label.Cmd (value.Number code))

-- EXPLAIN 2: a whole frame: its offset, its command and what became of it; its bytes, SEQ and CMD
abbrev pub whole_text : (html : Bool) → Kind → Trail → (shadow : List ℕ) → (byte : ℕ) → List ℕ
whole_text html kind trail shadow byte =
    skipped_text html trail.start trail.skipped
    ++ headed html kind trail.start (command_word (get_or shadow 2 0))
    ++ frame_text html shadow trail.reader.count (byte ∷ [])
    ++ names_text html (get_or shadow 1 0) (get_or shadow 2 0)

-- EXPLAIN 2: the data, its texts, and what else it is read as
abbrev pub asked_text : (html : Bool) → (code : ℕ) → (content : List ℕ) → List ℕ
asked_text html code content =
    some_text html label.Data content
    ++ some_text html label.Text (first_text code content)
    ++ some_text html label.SecondText (second_text code content)
    ++ four_text html (asked_of (parsed_of code content))

-- PROTOCOL 2.1: the reply number, and of a refusal the first reason
abbrev pub reply_text : (html : Bool) → (number : ℕ) → List ℕ
reply_text html number = said_text html label.Reply (bytes " #, ~") (reply_word number) (number ∷ [])

abbrev pub reason_text : (html : Bool) → (number : ℕ) → Reason → List ℕ
reason_text html number reason = cond (eqb number 0) [] (said_text html label.Reason (bytes " ~") (reason_word reason) [])

-- PROTOCOL 5.17: the text at the front of the display's buffer, where one is shown; it can have no bytes
abbrev pub shown_text : (html : Bool) → Option ℕ → (display : List ℕ) → List ℕ
shown_text html None text = []
shown_text html (Some n) text = letters_text html (label_word label.OnDisplay) (take n text)
