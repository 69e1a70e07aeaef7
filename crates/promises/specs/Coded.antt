-- The code, call by call: any list of calls of the device's `hear` and `switch_on` and of the till end's `command`, `byte` and `timeout`, with any bytes and any lent buffers,
-- on the fields and arrays that each call hands to the next. What the functions promise of a call is what the table says of the events in it.
use Rattle.std.specs.Prelude.{ℕ, ◌+◌, ◌≤◌, ◌≡◌, Bool, true, false, List, [], ◌∷◌, ◌++◌, length, take, drop}
use Rattle.std.proofs.lemmas.List.Edits.{sets}
use Rattle.reader.specs.Reading.{Event, nothing, broken_frame, heard}
use Rattle.display.specs.Display.{display_of, texts_in}
use Rattle.machine.specs.Device as device
use Rattle.machine.specs.Hearing.{PartHeard, after_part}
use Rattle.till.specs.Turns as till
use Rattle.till.specs.Fields as fields
use Rattle.till.specs.Words.{number_of, count_of}
use Rattle.till.specs.declared.Till.{Till}
use Rattle.till.specs.declared.Word.{Word}
use Rattle.till.specs.declared.Word.TheVariants.{Idle, Waiting, SendAgain, Answered, Unfinished, TooShort, NotSent}
use Rattle.promises.specs.AtDevice.{FromDevice, tells, reads, anew}
use Rattle.promises.specs.AtTill.{FromTill}
use Rattle.promises.specs.Demand1.{Bench, at_device, at_till, from_device, from_till, switched, bench_after, ByTheTable}

-- what is handed from call to call: the device's fields, two arrays and sheet, the till end's fields and two arrays
pub record Machines : Type 0 where
  pub device : device.Machine
  pub till : Till
  pub sent : List ℕ
  pub answer : List ℕ

-- PROTOCOL 8.4, 8.5, 8.8: as `machine::fresh` and `till::fresh` give them, with arrays and a sheet of any contents
pub record Fresh (f : Machines) : Type 0 where
  pub device : f.device.device ≡ device.fresh_fields
  pub frame : length f.device.frame ≡ 256
  pub last : length f.device.last ≡ 217
  pub sheet : 512 ≤ length f.device.sheet
  pub till : f.till ≡ fields.till_of till.fresh_state
  pub sent : length f.sent ≡ 256
  pub answer : length f.answer ≡ 256

-- the state of both ends that they say
abbrev pub bench_of : Machines → Bench
bench_of f = record { device = device.state_of f.device; till = fields.state_of f.till f.sent f.answer }

pub data CodeCall : Type 0 where
  hear : (lent : device.Lent) (bytes : List ℕ) → CodeCall
  happens : (buffer : List ℕ) (h : till.Happening) → CodeCall
  switch_on : CodeCall

-- what the promises say of a call
abbrev pub part_after : Machines → device.Lent → List ℕ → PartHeard
part_after f lent bytes = after_part f.device lent bytes

abbrev pub turn_after : Machines → List ℕ → till.Happening → till.Turn
turn_after f buffer h = fields.turn_of f.till f.sent f.answer buffer h

-- the till end's arrays: `command` is lent the one for the frame to write, `byte` the one for the answer; no other call writes in them
abbrev pub sent_after : Machines → List ℕ → till.Happening → List ℕ
sent_after f buffer (till.command code content) = fields.framed f.sent (turn_after f buffer (till.command code content)).state.pending
sent_after f buffer (till.byte b) = f.sent
sent_after f buffer till.timeout = f.sent

abbrev pub answer_after : Machines → List ℕ → till.Happening → List ℕ
answer_after f buffer (till.command code content) = f.answer
answer_after f buffer (till.byte b) = fields.held_in f.answer (turn_after f buffer (till.byte b)).state.pending
answer_after f buffer till.timeout = f.answer

abbrev pub handed_on : Machines → CodeCall → Machines
handed_on f (hear lent bytes) = record { device = (part_after f lent bytes).after.machine; till = f.till; sent = f.sent; answer = f.answer }
handed_on f (happens buffer h) =
    record {
      device = f.device;
      till = (fields.said_of f.till (turn_after f buffer h)).till;
      sent = sent_after f buffer h;
      answer = answer_after f buffer h;
    }
handed_on f switch_on = record { device = device.machine_anew f.device; till = f.till; sent = f.sent; answer = f.answer }

-- all of a list of calls
abbrev pub handed_through : Machines → List CodeCall → Machines
handed_through f [] = f
handed_through f (call ∷ calls) = handed_through (handed_on f call) calls

-- the result of a device's call is a reply: number, count, the bytes given back, what the display is told and the text in its buffer, every byte of what was
-- lent, and the state that its fields and arrays say
pub record DeviceResult (a : device.After) (r : FromDevice) : Type 0 where
  pub number : a.number ≡ r.number
  pub count : a.count ≡ r.count
  pub bytes : take a.count a.lent.buffer ≡ r.bytes
  pub told : a.shows ≡ display_of r.shows
  pub texts : texts_in a.shows a.lent.display ≡ r.shows
  pub lent : a.lent ≡ r.lent
  pub state : device.state_of a.machine ≡ r.device

-- PROTOCOL 7.1: how many bytes a word says are given back; of 9 its number is that of the tries
abbrev pub given_in : Word → ℕ
given_in Idle = 0
given_in (Waiting count) = count
given_in (SendAgain count) = count
given_in (Answered count) = count
given_in (Unfinished tries) = 0
given_in TooShort = 0
given_in NotSent = 0

-- and so of the till end's
pub record TillResult (f : Machines) (lent : List ℕ) (h : till.Happening) (r : FromTill) : Type 0 where
  pub word : (fields.said_of f.till (turn_after f lent h)).word ≡ r.word
  pub number : number_of (turn_after f lent h).word ≡ r.number
  pub count : count_of (turn_after f lent h).word ≡ r.count
  pub bytes : take (given_in (turn_after f lent h).word) (sets lent 0 (turn_after f lent h).puts) ≡ r.bytes
  pub buffer : sets lent 0 (turn_after f lent h).puts ≡ r.buffer
  pub state : (bench_of (handed_on f (happens lent h))).till ≡ r.till

-- PROTOCOL 1.1: a byte that breaks a frame or ends one asks for something: what is given back on any other is nothing
abbrev pub is_asking : Event → Bool
is_asking nothing = false
is_asking broken_frame = true
is_asking (heard m) = true

-- a part of bytes by the table, with how many of them are taken and the reply to the last of these: every byte before it is taken with nothing given back
pub data PartByTheTable (lent : device.Lent) : Bench → List ℕ → ℕ → FromDevice → Type 0 where
  -- PROTOCOL 2.4: 7 before all else: no byte is taken, whichever comes
  not_taken_lem : {s : Bench} {bytes : List ℕ} {r : FromDevice} → device.enough lent ≡ false → ((byte : ℕ) → ByTheTable s (at_device lent byte) (from_device r))
      → PartByTheTable lent s bytes 0 r
  no_byte : {s : Bench} → device.enough lent ≡ true → PartByTheTable lent s [] 0 (tells 0 [] lent s.device)
  -- the first that asks for something ends the call
  asking_byte : {s : Bench} {byte : ℕ} {bytes : List ℕ} {r : FromDevice} → device.enough lent ≡ true → is_asking (reads s.device byte).event ≡ true
      → ByTheTable s (at_device lent byte) (from_device r) → PartByTheTable lent s (byte ∷ bytes) 1 r
  quiet_byte : {s : Bench} {byte taken : ℕ} {bytes : List ℕ} {after r : FromDevice} → device.enough lent ≡ true → is_asking (reads s.device byte).event ≡ false
      → ByTheTable s (at_device lent byte) (from_device after) → PartByTheTable lent (bench_after s (from_device after)) bytes taken r
      → PartByTheTable lent s (byte ∷ bytes) (taken + 1) r

-- calls one after the other: at both ends as the table leaves them, and on the fields and arrays as the code leaves them
pub data CodeByTheTable : Bench → Machines → List CodeCall → Type 0 where
  no_call : {s : Bench} {f : Machines} → CodeByTheTable s f []
  device_call : {s : Bench} {f : Machines} {lent : device.Lent} {bytes : List ℕ} {calls : List CodeCall} (r : FromDevice)
      → PartByTheTable lent s bytes (part_after f lent bytes).taken r → DeviceResult (part_after f lent bytes).after r
      → CodeByTheTable (bench_after s (from_device r)) (handed_on f (hear lent bytes)) calls → CodeByTheTable s f (hear lent bytes ∷ calls)
  till_call : {s : Bench} {f : Machines} {buffer : List ℕ} {h : till.Happening} {calls : List CodeCall} (r : FromTill)
      → ByTheTable s (at_till buffer h) (from_till r) → TillResult f buffer h r
      → CodeByTheTable (bench_after s (from_till r)) (handed_on f (happens buffer h)) calls → CodeByTheTable s f (happens buffer h ∷ calls)
  switch_call : {s : Bench} {f : Machines} {calls : List CodeCall} → device.state_of (device.machine_anew f.device) ≡ anew s.device
      → CodeByTheTable (bench_after s (switched (anew s.device))) (handed_on f switch_on) calls → CodeByTheTable s f (switch_on ∷ calls)

-- calls of `device::hear`, with anything lent each time, until every byte of the line is taken: each hears a part of what is not taken yet, as `printer`
-- does with all that it reads. What they give back, one after the other, the texts that they show, and the fields and arrays behind them
pub data HeardThrough : Machines → (bytes gives : List ℕ) → (texts : List (List ℕ)) → Machines → Type 0 where
  all_taken : {f : Machines} → HeardThrough f [] [] [] f
  one_call_lem : {f g : Machines} {gives : List ℕ} {texts : List (List ℕ)} (lent : device.Lent) (part rest : List ℕ)
      → HeardThrough (handed_on f (hear lent part)) (drop (part_after f lent part).taken part ++ rest) gives texts g
      → HeardThrough f (part ++ rest) (take (part_after f lent part).after.count (part_after f lent part).after.lent.buffer ++ gives)
      (texts_in (part_after f lent part).after.shows (part_after f lent part).after.lent.display ++ texts) g
