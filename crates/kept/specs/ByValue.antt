-- DECISIONS 72: a device with its sheet by value.
use Rattle.std.specs.Prelude.{ℕ, List, replicate}
use Rattle.sheet.specs.Sheet.{blank}
use Rattle.machine.specs.Device.{Machine, fresh_fields, fields_anew}
use Rattle.machine.specs.Hearing.{PartHeard}
use Rattle.kept.specs.declared.Kept.{Kept}
use Rattle.kept.specs.declared.Next.{Next}

-- PROTOCOL 8.4, 8.8: a fresh one, with a sheet on which nothing stands
abbrev pub fresh_kept : Kept
fresh_kept = record { device = fresh_fields; sheet = replicate 512 blank }

-- PROTOCOL 8.9: switched on anew
abbrev pub kept_anew : Kept → Kept
kept_anew k = record { device = fields_anew k.device; sheet = k.sheet }

-- PROTOCOL 8.3, 8.8: the device that it is, with its own two arrays
abbrev pub machine_of : Kept → (frame last : List ℕ) → Machine
machine_of k frame last = record { device = k.device; frame = frame; last = last; sheet = k.sheet }

-- what a call brought, as the code has it: what it hands back, and the arrays and the buffers behind the call, with as many lines lent
abbrev pub next_with : Next → (frame last buffer display : List ℕ) → (lines : ℕ) → PartHeard
next_with n frame last buffer display lines =
    record {
      after = record {
        machine = machine_of n.kept frame last;
        lent = record { buffer = buffer; lines = lines; display = display };
        number = n.number;
        count = n.count;
        shows = n.shows;
      };
      call = n.call;
      taken = n.taken;
    }

-- PROTOCOL 8.8: all lines are lent
abbrev pub next_of : Next → (frame last buffer display : List ℕ) → PartHeard
next_of n frame last buffer display = next_with n frame last buffer display 512
