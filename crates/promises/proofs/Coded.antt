-- The code's results, call by call, are the table's replies: by induction over any list of calls from fresh fields.
use mathlib.Core.Path.{◌≡◌, refl, subst}
use mathlib.Core.List.{List, [], ◌∷◌}
use native.Mathlib.Omega.{arith}
use Rattle.history.proofs.Reaching.{fresh_reached}
use Rattle.machine.specs.Device.{Machine, machine_anew}
use Rattle.promises.specs.Demand1.{fresh_bench}
use Rattle.promises.specs.Ends.{of_till}
use Rattle.promises.specs.Coded.{Machines, Fresh, bench_of, CodeCall, hear, happens, switch_on, turn_after, handed_on, handed_through, CodeByTheTable, no_call, device_call, till_call, switch_call}
use Rattle.promises.proofs.Demand1.{by_the_till_end}
use Rattle.promises.proofs.CodedDevice.{DeviceOk, device_called}
use Rattle.promises.proofs.CodedTill.{TillOk, follows, till_result, till_after}

-- any calls
pub record Ok (f : Machines) : Type 0 where
  pub device : DeviceOk f.device
  pub till : TillOk f.till f.sent f.answer

pub ok_anew : (m : Machine) → DeviceOk m → DeviceOk (machine_anew m)
ok_anew m ok = record { frames = ok.frames; lasts = ok.lasts; short = tt; lines = ok.lines; reached = ok.reached }

all_calls : (f : Machines) → Ok f → (calls : List CodeCall) → CodeByTheTable (bench_of f) f calls
all_calls f ok [] = no_call
all_calls f ok (hear lent bytes ∷ calls) =
    let p = device_called (bench_of f).till f.device ok.device lent bytes in
    device_call p.reply p.by p.result
    (subst (λ s. CodeByTheTable (record { device = s; till = (bench_of f).till }) (handed_on f (hear lent bytes)) calls) p.result.state
    (all_calls (handed_on f (hear lent bytes)) (record { device = p.ok; till = ok.till }) calls))
all_calls f ok (happens buffer h ∷ calls) =
    till_call (of_till buffer (turn_after f buffer h)) (by_the_till_end (bench_of f) ok.till.tries buffer h) (till_result f ok.till buffer h)
    (subst (λ s. CodeByTheTable (record { device = (bench_of f).device; till = s }) (handed_on f (happens buffer h)) calls) (follows f ok.till buffer h)
    (all_calls (handed_on f (happens buffer h)) (record { device = ok.device; till = till_after f ok.till buffer h }) calls))
all_calls f ok (switch_on ∷ calls) = switch_call refl (all_calls (handed_on f switch_on) (record { device = ok_anew f.device ok.device; till = ok.till }) calls)

-- and so behind any calls
pub ok_behind : (f : Machines) → Ok f → (calls : List CodeCall) → Ok (handed_through f calls)
ok_behind f ok [] = ok
ok_behind f ok (hear lent bytes ∷ calls) =
    ok_behind (handed_on f (hear lent bytes)) (record { device = (device_called (bench_of f).till f.device ok.device lent bytes).ok; till = ok.till }) calls
ok_behind f ok (happens buffer h ∷ calls) =
    ok_behind (handed_on f (happens buffer h)) (record { device = ok.device; till = till_after f ok.till buffer h }) calls
ok_behind f ok (switch_on ∷ calls) = ok_behind (handed_on f switch_on) (record { device = ok_anew f.device ok.device; till = ok.till }) calls

pub fresh_device_lem : (f : Machines) → Fresh f → DeviceOk f.device
fresh_device_lem f fresh =
    record { frames = fresh.frame; lasts = fresh.last; lines = fresh.sheet; short = rw fresh.device tt; reached = rw fresh.device fresh_reached }

pub fresh_ok : (f : Machines) → Fresh f → Ok f
fresh_ok f fresh =
    record {
      device = fresh_device_lem f fresh;
      till = record {
        small = rw fresh.till tt;
        frames = fresh.sent;
        answers = fresh.answer;
        sized = rw fresh.till tt;
        tries = rw fresh.till (omega arith);
      };
    }

-- the theorem
pub the_code_replies_by_the_table : (f : Machines) → Fresh f → (calls : List CodeCall) → CodeByTheTable (fresh_bench f.device.sheet) f calls
the_code_replies_by_the_table f fresh calls =
    subst (λ s. CodeByTheTable s f calls) says-fresh (all_calls f (fresh_ok f fresh) calls)
  where
    says-fresh : bench_of f ≡ fresh_bench f.device.sheet
    says-fresh = rw (fresh.device, fresh.till)
