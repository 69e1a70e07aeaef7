-- SCRIPTS 1: a line and its line feed, in the parts in which it is read.
use Rattle.std.specs.Prelude.{ℕ, ◌+◌, min, ◌≤◌, ◌≡◌, true, false, cond, List, leb, length, take, Option, IfSome, MatchOption, option_map, Result, Ok, Err}
use Rattle.std.proofs.lemmas.List.Edits.{sets}
use Rattle.text.specs.Parts.{first_at, has}
use Rattle.script.specs.Script.{act_of, content_of}
use Rattle.writing.specs.Words.{behind}
use Rattle.script.specs.declared.Act.{Act}
use Rattle.script.specs.declared.Mistake.{Mistake}
use Rattle.script.specs.declared.Mistake.TheVariants.{TooLong}
use Rattle.lines.specs.declared.Gathered.{Gathered}
use Rattle.lines.specs.declared.input.Next.{Next}

-- a count stops at the largest number of 64 bits
abbrev pub most : ℕ
most = 18446744073709551615

-- with a line feed in the part the line is whole, and the line feed is taken too; without one all of the part is taken
abbrev pub gathered : (count : ℕ) → (part : List ℕ) → Gathered
gathered count part =
    let end = first_at 10 part in
    cond (has 10 part)
    (record { count = min (count + end) most; taken = end + 1; whole = true })
    (record { count = min (count + end) most; taken = end; whole = false })

-- the next line of the input, for whatever the system answers: it says the line's bytes, at most one too many, and they go to the front of the room lent
pub record LineRead (before after : List ℕ) (r : Option ℕ) : Type 0 where
  pub bytes : List ℕ
  pub most : length bytes ≤ 1201
  pub count : IfSome r (λ n. n ≡ length bytes)
  pub stands : after ≡ sets before 0 bytes

-- SCRIPTS 6: what it says; of more than 1,200 bytes, that it is too long
abbrev pub act_in : (count : ℕ) → (line content : List ℕ) → Result Act Mistake
act_in count line content = cond (leb count 1200) (act_of (take count line) (length content)) (Err TooLong)

abbrev pub content_in : (count : ℕ) → (line content : List ℕ) → List ℕ
content_in count line content =
    cond (leb count 1200) (sets content 0 (content_of (act_of (take count line) (length content)) (behind (take count line)))) content

-- SCRIPTS 1, 6: a line, what it says, and its data in the room for it; where there is none, nothing is read into that room
pub record ActRead (line line_after content content_after : List ℕ) (r : Option Next) : Type 0 where
  pub typed : LineRead line line_after (option_map (λ next. next.count) r)
  pub act : IfSome r (λ next. next.act ≡ act_in next.count line_after content)
  pub read : MatchOption r (content_after ≡ content) (λ next. content_after ≡ content_in next.count line_after content)

-- SCRIPTS 1: of a line, and of what came where there is none
abbrev pub told : {A : Type 0} → Result A A → A
told (Ok x) = x
told (Err x) = x

-- SCRIPTS 1: what came of the next line, whether there is one or not: its bytes, at most one too many, go to the front of the room lent
pub record BytesCame (before after : List ℕ) (count : ℕ) : Type 0 where
  pub bytes : List ℕ
  pub most : length bytes ≤ 1201
  pub size : count ≡ length bytes
  pub stands : after ≡ sets before 0 bytes

-- SCRIPTS 6: what these bytes say, and their data in the room for it, whether there is a line or not
pub record ActCame (line line_after content content_after : List ℕ) (r : Next) : Type 0 where
  pub typed : BytesCame line line_after r.count
  pub act : r.act ≡ act_in r.count line_after content
  pub read : content_after ≡ content_in r.count line_after content
