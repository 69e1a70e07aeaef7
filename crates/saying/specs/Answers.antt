-- SCRIPTS 7, 8: what is told of the till end's word, and of an answer.
use Rattle.std.specs.Prelude.{ℕ, zero, suc, ◌+◌, ◌-◌, ◌/◌, ◌%◌, Bool, true, false, cond, ◌||◌, List, [], ◌∷◌, ◌++◌, eqb, ltb, length, take, drop, get_or}
use Rattle.letters.specs.Letters.{bytes}
use Rattle.till.specs.Words.{count_of}
use Rattle.till.specs.declared.Word.{Word}
use Rattle.till.specs.declared.Word.TheVariants.{Idle, Waiting, SendAgain, Answered, Unfinished, TooShort, NotSent}
use Rattle.verdict.specs.Verdict.{verdict_in}
use Rattle.words.specs.Names.{reply_word, status_word}
use Rattle.writing.specs.Words.{is}
use Rattle.sentences.specs.Filled.{filled}
use Rattle.phrases.specs.Sentences.{line_end, answered, answered_brief, content, send_again, send_again_brief, unfinished, unfinished_brief, not_sent, not_sent_brief, nothing, nothing_brief}

-- PROTOCOL 3.1: what a set bit says: nothing where it has no word, or is always set
abbrev pub named_text : List ℕ → List ℕ
named_text word = cond (eqb (length word) 0 || is "always" word) [] (bytes ", " ++ word)

abbrev pub flag_text : (place bit : ℕ) → List ℕ
flag_text place bit = named_text (status_word place bit)

-- PROTOCOL 3.1: so many bits of a status byte, from one on, the lowest first
unfoldable pub bits_text : (more bit place above : ℕ) → List ℕ
bits_text zero bit place above = []
bits_text (suc more) bit place above = cond (eqb (above % 2) 1) (flag_text place bit) [] ++ bits_text more (bit + 1) place (above / 2)

-- PROTOCOL 3.1: status bytes from a place on; bit 7 of each is always set
unfoldable pub status_text : (place : ℕ) → List ℕ → List ℕ
status_text place [] = []
status_text place (b ∷ bs) = bits_text 7 0 place b ++ status_text (place + 1) bs

-- the number that an answer tells, and its data; briefly the number in words too
abbrev pub opening_text : (brief : Bool) → (number : ℕ) → (data' : List ℕ) → List ℕ
opening_text brief number data' =
    cond brief (filled answered_brief (reply_word number) (number ∷ []) ++ filled content data' []) (filled answered data' (number ∷ []))

-- PROTOCOL 7.5: an answer as the till end hands it over: its data, and behind it six status bytes, of which the first two tell the number
abbrev pub answer_at : (brief : Bool) → (end : ℕ) → List ℕ → List ℕ
answer_at brief end all =
    opening_text brief (verdict_in (get_or all end 0) (get_or all (end + 1) 0)) (take end all) ++ status_text 0 (drop end all) ++ filled line_end [] []

abbrev pub answer_text : (brief : Bool) → List ℕ → List ℕ
answer_text brief all = cond (ltb (length all) 6) [] (answer_at brief (length all - 6) all)

abbrev pub is_answered : Word → Bool
is_answered Idle = false
is_answered (Waiting count) = false
is_answered (SendAgain count) = false
is_answered (Answered count) = true
is_answered (Unfinished tries) = false
is_answered TooShort = false
is_answered NotSent = false

-- PROTOCOL 7.1: any other word
abbrev pub say_of : (brief : Bool) → Word → List ℕ
say_of brief Idle = cond brief nothing_brief nothing
say_of brief (Waiting count) = cond brief nothing_brief nothing
say_of brief (SendAgain count) = cond brief send_again_brief send_again
say_of brief (Answered count) = cond brief nothing_brief nothing
say_of brief (Unfinished tries) = cond brief unfinished_brief unfinished
say_of brief TooShort = cond brief nothing_brief nothing
say_of brief NotSent = cond brief not_sent_brief not_sent

abbrev pub says_text : (brief : Bool) → Word → (got : List ℕ) → List ℕ
says_text brief word got = cond (is_answered word) (answer_text brief (take (count_of word) got)) (filled (say_of brief word) [] [])
