-- DECISIONS 54: bytes of a lent part, heard up to and including the first that asks for something, or to its end: one call of `hear`.
use Rattle.std.specs.Prelude.{ℕ, ◌+◌, cond, List, [], ◌∷◌, take, drop, None}
use Rattle.wire.specs.Frame.{Message, command_of}
use Rattle.line.specs.Turns.{turn}
use Rattle.line.specs.Calls.{is_quiet, called_of}
use Rattle.line.specs.declared.Call.{Call}
use Rattle.line.specs.declared.Call.TheVariants.{Quiet, Nak, Again, Order}
use Rattle.sheet.specs.declared.Line.{Line}
use Rattle.carrying.specs.Carrying.{carry}
use Rattle.machine.specs.Device.{Lent, enough, Machine, After, state_of, taken, not_taken}
use Rattle.machine.specs.declared.Given.{Given}
use Rattle.machine.specs.declared.Hearing.{Hearing}

-- what a call brought: the device and what was lent behind it, what the last byte taken asked for, and how many bytes were taken
pub record PartHeard : Type 0 where
  pub after : After
  pub call : Call
  pub taken : ℕ

-- the same as the code has it: what it hands back, and the arrays, the buffers and the sheet behind the call
abbrev pub after_of : Given → (frame last buffer display : List ℕ) → (sheet : List Line) → (lines : ℕ) → After
after_of g frame last buffer display sheet lines =
    record {
      machine = record { device = g.device; frame = frame; last = last; sheet = sheet };
      lent = record { buffer = buffer; lines = lines; display = display };
      number = g.number;
      count = g.count;
      shows = g.shows;
    }

abbrev pub part_of : Hearing → (frame last buffer display : List ℕ) → (sheet : List Line) → (lines : ℕ) → PartHeard
part_of h frame last buffer display sheet lines =
    record { after = after_of h.given frame last buffer display sheet lines; call = h.call; taken = h.taken }

abbrev pub one_more : PartHeard → PartHeard
one_more h = record { after = h.after; call = h.call; taken = h.taken + 1 }

-- no byte heard: number 0, and all stays
abbrev pub unmoved : Machine → Lent → After
unmoved m lent = record { machine = m; lent = lent; number = 0; count = 0; shows = None }

-- byte after byte, each a turn of the device; the first that asks for something ends the call
abbrev pub hearing : Machine → Lent → List ℕ → PartHeard
hearing m lent [] = record { after = unmoved m lent; call = Quiet; taken = 0 }
hearing m lent (b ∷ bs) =
    let a = taken m lent (turn carry (state_of m) b) in
    let call = (called_of m.device.line m.frame b).call in
    cond (is_quiet call) (one_more (hearing a.machine a.lent bs)) (record { after = a; call = call; taken = 1 })

-- PROTOCOL 2.4: with 7 before all else: no byte is taken
abbrev pub after_part : Machine → Lent → List ℕ → PartHeard
after_part m lent bytes = cond (enough lent) (hearing m lent bytes) (record { after = not_taken m lent; call = Quiet; taken = 0 })

-- PROTOCOL 1.11: the command that a call carries out: its data stands in the frame from its fourth byte on
abbrev pub carried_by : Call → List ℕ → List Message
carried_by Quiet frame = []
carried_by Nak frame = []
carried_by Again frame = []
carried_by (Order seq code n) frame = command_of seq code (take n (drop 3 frame)) ∷ []
