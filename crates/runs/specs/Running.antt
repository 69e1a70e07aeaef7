-- DECISIONS 32, 54: the bytes of a part heard call by call, each with the same arrays, buffers and sheet lent; what the calls give back and carry out is noted
-- down.
use Rattle.std.specs.Prelude.{ℕ, zero, suc, ◌-◌, cond, List, length, drop}
use Rattle.sheet.specs.declared.Line.{Line}
use Rattle.machine.specs.Device.{Lent, Machine}
use Rattle.machine.specs.Hearing.{PartHeard, after_part}
use Rattle.tape.specs.Noting.{noted_down}
use Rattle.tape.specs.declared.Run.{Run}

-- where all stands between two calls
pub record Running : Type 0 where
  pub run : Run
  pub frame : List ℕ
  pub last : List ℕ
  pub buffer : List ℕ
  pub display : List ℕ
  pub sheet : List Line
  pub out : List ℕ
  pub orders : List ℕ

abbrev pub machine_in : Running → Machine
machine_in s = record { device = s.run.device; frame = s.frame; last = s.last; sheet = s.sheet }

abbrev pub lent_in : Running → Lent
lent_in s = record { buffer = s.buffer; lines = length s.sheet; display = s.display }

-- one call more
abbrev pub behind_call : Running → (total : ℕ) → PartHeard → Running
behind_call s total p =
    let a = p.after in
    let n = noted_down s.run (record { given = record { device = a.machine.device; number = a.number; count = a.count; shows = a.shows }; call = p.call; taken = p.taken }) a.machine.frame a.lent.buffer total s.out s.orders in
    record {
      run = n.run;
      frame = a.machine.frame;
      last = a.machine.last;
      buffer = a.lent.buffer;
      display = a.lent.display;
      sheet = a.machine.sheet;
      out = n.out;
      orders = n.orders;
    }

abbrev pub one_call : List ℕ → Running → Running
one_call bytes s = behind_call s (length bytes) (after_part (machine_in s) (lent_in s) (drop s.run.place bytes))

-- how many calls there can be at most: one a byte
abbrev pub calls_left : List ℕ → Running → ℕ
calls_left bytes s = cond s.run.more (suc (length bytes - s.run.place)) 0

unfoldable pub running : ℕ → List ℕ → Running → Running
running zero bytes s = s
running (suc n) bytes s = cond s.run.more (running n bytes (one_call bytes s)) s

-- all calls, until all is heard, or nothing more is
abbrev pub heard_through : List ℕ → Running → Running
heard_through bytes s = running (calls_left bytes s) bytes s
