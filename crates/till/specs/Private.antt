-- What the private functions of the till end give each other. No promise to a caller rests on it.
use Rattle.std.specs.Prelude.{ℕ, Bool, cond, ◌&&◌, List, eqb, take}
use Rattle.reader.specs.declared.Heard.{Heard}
use Rattle.reader.specs.declared.Heard.TheVariants.{Nothing, Broken, Whole}
use Rattle.till.specs.Turns.{idle, Turn, fails_try, byte_means, on_meaning, on_command}
use Rattle.till.specs.Fields.{ear_in, till_of}
use Rattle.till.specs.declared.Attempt.{Attempt}
use Rattle.till.specs.declared.Said.{Said}
use Rattle.till.specs.declared.Verdict.{Verdict}
use Rattle.till.specs.declared.Verdict.TheVariants.{Fails, GoesOn, Answers}

-- a turn as the fields say it
abbrev pub spoken : Turn → Said
spoken turn = record { till = till_of turn.state; word = turn.word }

-- a failed try, and a byte, to a command that waits; a command, where none waits
abbrev pub failed_by : ℕ → Attempt → List ℕ → Turn
failed_by next a frame = fails_try next a.seq a.code (take a.count frame) a.tries

abbrev pub heard_by : ℕ → Attempt → (frame answer : List ℕ) → ℕ → Turn
heard_by next a frame answer b =
    on_meaning next a.seq a.code (take a.count frame) a.tries (byte_means a.seq a.code (ear_in a.ear answer) b)

-- what a byte is, by what the reader tells of it
abbrev pub judged_read : (seq code b : ℕ) → Heard → Verdict
judged_read seq code b Nothing = GoesOn
judged_read seq code b Broken = cond (eqb b 0x01) GoesOn Fails
judged_read seq code b (Whole s c n) = cond (eqb s seq && eqb c code) (Answers n) Fails

abbrev pub judged : (nak : Bool) (seq code b : ℕ) → Heard → Verdict
judged nak seq code b heard = cond nak Fails (judged_read seq code b heard)

abbrev pub sent_by : ℕ → ℕ → List ℕ → Turn
sent_by next code content = on_command (record { next = next; pending = idle }) idle code content
