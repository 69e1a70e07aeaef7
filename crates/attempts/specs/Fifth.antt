-- PROTOCOL 7.6: the fifth failed try of a command, told from the events: what comes before it, and what follows.
use Rattle.std.specs.Prelude.{ℕ, ◌≡◌, false, cond, List, [], ◌∷◌, ◌++◌, ◌⊎◌, ltb}
use Rattle.till.specs.Turns.{State, fresh_state, Happening, command, byte, timeout, Turn, stays}
use Rattle.attempts.specs.History.{LentEvent, says, behind, took, marks_of, marks, ends, failures}
use Rattle.till.specs.declared.Word.{Word}
use Rattle.till.specs.declared.Word.TheVariants.{Idle, Waiting, TooShort, NotSent}

-- `before`: any events; `taken`: a command that says Waiting; `during`: four tries fail, and the command does not end; `fifth`: one more fails
pub record FifthFails (before : List LentEvent) (taken : LentEvent) (during : List LentEvent) (fifth : LentEvent) : Type 0 where
  pub code : ℕ
  pub content : List ℕ
  pub count : ℕ
  pub is_command : taken.happens ≡ command code content
  pub is_taken : (says (behind fresh_state before) taken).word ≡ Waiting count
  pub not_ended : ends (marks (behind fresh_state (before ++ taken ∷ [])) during) ≡ false
  pub four_failed : failures (behind fresh_state (before ++ taken ∷ [])) during ≡ 4
  pub one_more_fails : failures (behind fresh_state (before ++ taken ∷ during)) (fifth ∷ []) ≡ 1

-- PROTOCOL 7.4: where nothing waits, bytes and timeouts say Idle; 7.2: a command that is not taken says 8; 2.4: too short a buffer says 7 before all else
abbrev pub rest_word : Happening → Word
rest_word (command code content) = NotSent
rest_word (byte b) = Idle
rest_word timeout = Idle

abbrev pub at_rest : State → LentEvent → Turn
at_rest s l = stays (cond (ltb l.size 210) TooShort (rest_word l.happens)) s

-- PROTOCOL 7.4: event after event puts no byte and changes nothing, until the next command is taken
abbrev pub RestsUntilTaken : State → List LentEvent → Type 0
RestsUntilTaken s [] = Unit {0}
RestsUntilTaken s (l ∷ ls) = ((says s l ≡ at_rest s l) × RestsUntilTaken s ls) ⊎ (marks_of l.happens (says s l).word ≡ took ∷ [])
