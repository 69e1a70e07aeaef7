-- SCRIPTS 7, 8: what is told of a command, of a try on its way, and of what the device makes of it.
use Rattle.std.specs.Prelude.{ℕ, Bool, cond, List, [], ◌∷◌, ◌++◌, eqb, take, Option, Some, None}
use Rattle.faults.specs.declared.Fault.{Fault}
use Rattle.faults.specs.declared.Fault.TheVariants as faults
use Rattle.line.specs.declared.Call.{Call}
use Rattle.line.specs.declared.Call.TheVariants.{Quiet, Nak, Again, Order}
use Rattle.reasons.specs.declared.Reason.{Reason}
use Rattle.words.specs.Names.{command_word, reply_word, reason_word}
use Rattle.sentences.specs.Filled.{filled}
use Rattle.phrases.specs.Sentences.{heading_long, heading_brief, try_one, try_many, answer_one, answer_many, whole, becomes, lost, quiet, broken, repeated, carried_out, because, line_end, displays}

-- SCRIPTS 7: the line as it stands in the script, and the command's word in brackets
abbrev pub heading_text : (brief : Bool) → (code : ℕ) → (line : List ℕ) → List ℕ
heading_text brief code line = line ++ filled (cond brief heading_brief heading_long) (command_word code) []

-- PROTOCOL 9.1: whole, a byte of it becomes another one, or nothing arrives; numbers without a hole are not told
abbrev pub fate_text : Fault → List ℕ
fate_text faults.Nothing = filled whole [] (0 ∷ 0 ∷ [])
fate_text (faults.Becomes place byte) = filled becomes [] (place ∷ byte ∷ [])
fate_text faults.Lost = filled lost [] (0 ∷ 0 ∷ [])

-- the number of the try, and how many bytes it or its answer has
abbrev pub way_of : (answer one : Bool) → List ℕ
way_of answer one = cond answer (cond one answer_one answer_many) (cond one try_one try_many)

abbrev pub way_text : (answer : Bool) → (n count : ℕ) → Fault → List ℕ
way_text answer n count fault = filled (way_of answer (eqb count 1)) [] (n ∷ count ∷ []) ++ fate_text fault

-- PROTOCOL 2.1: the reply number in words, and where it is not 0 the reason
abbrev pub why_text : (number : ℕ) → Reason → List ℕ
why_text number reason = cond (eqb number 0) (filled line_end [] []) (filled because (reason_word reason) [])

abbrev pub done_text : (number : ℕ) → Reason → List ℕ
done_text number reason = filled carried_out (reply_word number) (number ∷ []) ++ why_text number reason

abbrev pub call_text : Call → (number taken : ℕ) → Reason → List ℕ
call_text Quiet number taken reason = filled quiet [] (taken ∷ [])
call_text Nak number taken reason = filled broken [] (taken ∷ [])
call_text Again number taken reason = filled repeated [] (taken ∷ [])
call_text (Order seq code count) number taken reason = done_text number reason

-- PROTOCOL 5.17: the text at the front of the display's buffer, where one is shown
abbrev pub shows_text : Option ℕ → (display : List ℕ) → List ℕ
shows_text None display = []
shows_text (Some n) display = filled displays (take n display) []
