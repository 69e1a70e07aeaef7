-- LINE 5.1: the reads of a try, one behind the other; and tries on a line that is silent.
use Rattle.std.specs.Prelude.{ℕ, zero, suc, cond, List, [], ◌∷◌}
use Rattle.exchange.specs.Exchange.{Heard}
use Rattle.clerk.specs.declared.Clerk.{Clerk}
use Rattle.clerk.specs.Clerk.{is_hearing, written_by, read_by, heard_by}

-- what each read brings is heard, as long as bytes are to be read
abbrev pub listened : (frame : List ℕ) → Clerk → (answer buffer : List ℕ) → (parts : List (List ℕ)) → Clerk
listened frame c answer buffer [] = c
listened frame c answer buffer (part ∷ parts) =
    let h : Heard = read_by c frame answer buffer part in
    cond (is_hearing c.phase) (listened frame (heard_by c h.said) h.answer h.buffer parts) c

-- a frame is written, and a read gives nothing
abbrev pub silence : (frame : List ℕ) → Clerk → (answer buffer : List ℕ) → Heard
silence frame c answer buffer = read_by (written_by c) frame answer buffer []

abbrev pub unheard : (frame : List ℕ) → Clerk → (answer buffer : List ℕ) → Clerk
unheard frame c answer buffer = heard_by (written_by c) (silence frame c answer buffer).said

-- so often
abbrev pub unheard_times : ℕ → (frame : List ℕ) → Clerk → (answer buffer : List ℕ) → Clerk
unheard_times zero frame c answer buffer = c
unheard_times (suc n) frame c answer buffer =
    let h : Heard = silence frame c answer buffer in
    unheard_times n frame (unheard frame c answer buffer) h.answer h.buffer
