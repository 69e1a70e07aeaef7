-- LINE 1.1, 2.1: the numbers of what `printer` holds open.
use Rattle.std.specs.Prelude.{ℕ, ◌+◌, ◌-◌, Bool, false, Option, Some, None, is_some, option_map, cond, eqb, ltb, ℤ, pos}
use Rattle.options.specs.declared.Asked.{Asked}
use Rattle.options.specs.declared.Ends.{Ends}
use Rattle.options.specs.declared.Recordings.{Recordings}

abbrev pub place_before : Option Recordings → ℕ
place_before None = 0
place_before (Some named) = named.first - 1

-- the program's own name, which has place 0, is no recording
abbrev pub last_of : Option Recordings → Option ℕ
last_of None = None
last_of (Some named) = cond (eqb named.last 0) None (Some named.last)

-- a LINE, or standard input, 0, and standard output, 1; the last recording, or none. The first comes next
abbrev pub ends_of : Asked → (line newest tape : ℤ) → Ends
ends_of asked line newest tape =
    let online = is_some asked.line in
    let last = last_of asked.recordings in
    record {
      input = cond online line (pos 0);
      output = cond online line (pos 1);
      old = None;
      newest = option_map (λ n. newest) last;
      tape = option_map (λ n. tape) last;
      place = place_before asked.recordings;
      last = last;
      online = online;
    }

-- LINE 2.1: a recording that is kept is replayed first
abbrev pub replays : Ends → Bool
replays ends = is_some ends.last

-- LINE 2.1: recordings stand behind each other
abbrev pub is_before : (place : ℕ) → Option ℕ → Bool
is_before place None = false
is_before place (Some last) = ltb place last

abbrev pub names_left : Ends → Bool
names_left ends = is_before ends.place ends.last

-- the last one is open from the start
abbrev pub next_place : Ends → Option ℕ
next_place ends = cond (is_before (ends.place + 1) ends.last) (Some (ends.place + 1)) None

abbrev pub next_at : Ends → (old : Option ℤ) → Ends
next_at ends old =
    record {
      input = ends.input;
      output = ends.output;
      old = old;
      newest = ends.newest;
      tape = ends.tape;
      place = ends.place + 1;
      last = ends.last;
      online = ends.online;
    }

abbrev pub next_of : Ends → (old : ℤ) → Ends
next_of ends old = cond (names_left ends) (next_at ends (cond (is_some (next_place ends)) (Some old) ends.newest)) ends
