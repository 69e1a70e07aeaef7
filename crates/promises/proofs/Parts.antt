-- A part of bytes has one reply by the table, and one number of bytes taken; and each byte before the last is taken with nothing given back.
use mathlib.Core.Path.{◌≡◌, refl, sym, ap, ◌∙◌}
use mathlib.Core.Bool.{Bool, true, false, cond, false≢true}
use mathlib.Core.List.{List, [], ◌∷◌}
use Prim.Native.Nat.{ℕ, ◌+◌}
use Rattle.reader.specs.Reading.{Event, nothing, broken_frame, heard}
use Rattle.machine.specs.Device.{Lent, enough}
use Rattle.promises.specs.AtDevice.{FromDevice, tells, reads, moved, ByDevice, row_0_taken, row_7}
use Rattle.promises.specs.Demand1.{Bench, at_device, from_device, bench_after, ByTheTable, at_device_lem}
use Rattle.promises.specs.Ends.{of_device}
use Rattle.promises.specs.Coded.{is_asking, PartByTheTable, not_taken_lem, no_byte, asking_byte, quiet_byte}
use Rattle.promises.proofs.DeviceRows.{table_turn, only_row}

at_the_device : {s : Bench} {lent : Lent} {byte : ℕ} {r : FromDevice} → ByTheTable s (at_device lent byte) (from_device r) → ByDevice s.device lent byte r
at_the_device (at_device_lem b) = b

same : {s : Bench} {lent : Lent} {byte : ℕ} (r other : FromDevice) → ByTheTable s (at_device lent byte) (from_device r) → ByDevice s.device lent byte other → r ≡ other
same {s} {lent} {byte} r other b d = only_row s.device lent byte r (at_the_device b) ∙ sym (only_row s.device lent byte other d)

is_nothing : (e : Event) → is_asking e ≡ false → e ≡ nothing
is_nothing nothing e = refl
is_nothing broken_frame e = absurd (false≢true (sym e))
is_nothing (heard m) e = absurd (false≢true (sym e))

record Part : Type 0 where
  taken : ℕ
  reply : FromDevice

module _ (lent : Lent) where
  -- the reply to a byte, as a function
  abbrev reply_to : Bench → ℕ → FromDevice
  reply_to s byte = of_device lent (table_turn s.device lent byte)

  abbrev and_one : Part → Part
  and_one p = record { taken = p.taken + 1; reply = p.reply }

  abbrev walk : Bench → List ℕ → Part
  walk s [] = record { taken = 0; reply = tells 0 [] lent s.device }
  walk s (x ∷ xs) =
      cond (is_asking (reads s.device x).event) (record { taken = 1; reply = reply_to s x }) (and_one (walk (bench_after s (from_device (reply_to s x))) xs))

  abbrev part_by : Bool → Bench → List ℕ → Part
  part_by long s bytes = cond long (walk s bytes) (record { taken = 0; reply = tells 7 [] lent s.device })

  only_part : (s : Bench) (bytes : List ℕ) (taken : ℕ) (r : FromDevice) → PartByTheTable lent s bytes taken r
      → record { taken = taken; reply = r } ≡ part_by (enough lent) s bytes
  only_part s bytes taken r (not_taken_lem short any) =
      ap (λ z. record { taken = 0; reply = z }) (same r (tells 7 [] lent s.device) (any 0) (row_7 short)) ∙ sym (ap (λ z. part_by z s bytes) short)
  only_part s bytes taken r (no_byte room) = sym (ap (λ z. part_by z s []) room)
  only_part s bytes taken r (asking_byte {byte = x} {bytes = xs} room asked b) =
      ap (λ z. record { taken = 1; reply = z }) (only_row s.device lent x r (at_the_device b))
      ∙ sym (ap (λ z. part_by z s (x ∷ xs)) room
      ∙ ap (λ z. cond z (record { taken = 1; reply = reply_to s x }) (and_one (walk (bench_after s (from_device (reply_to s x))) xs))) asked)
  only_part s bytes taken r (quiet_byte {byte = x} {taken = n} {bytes = xs} {after = after} room quiet b rest) =
      let later : record { taken = n; reply = r } ≡ walk (bench_after s (from_device after)) xs =
      only_part (bench_after s (from_device after)) xs n r rest ∙ ap (λ z. part_by z (bench_after s (from_device after)) xs) room in
      ap and_one later
      ∙ ap (λ z. and_one (walk (bench_after s (from_device z)) xs)) (only_row s.device lent x after (at_the_device b))
      ∙ sym (ap (λ z. part_by z s (x ∷ xs)) room
      ∙ ap (λ z. cond z (record { taken = 1; reply = reply_to s x }) (and_one (walk (bench_after s (from_device (reply_to s x))) xs))) quiet)

-- the theorem: how many bytes a call takes, and what it replies, is determined
pub the_part_is_the_only_one : (lent : Lent) (s : Bench) (bytes : List ℕ) (taken others : ℕ) (r other : FromDevice)
    → PartByTheTable lent s bytes taken r → PartByTheTable lent s bytes others other → (taken ≡ others) × (r ≡ other)
the_part_is_the_only_one lent s bytes taken others r other a b =
    let both : ◌≡◌ {A = Part} (record { taken = taken; reply = r }) (record { taken = others; reply = other }) = only_part lent s bytes taken r a ∙ sym (only_part lent s bytes others other b) in
    (ap (λ (p : Part). p.taken) both, ap (λ (p : Part). p.reply) both)

-- a byte that asks for nothing gives nothing back, leaves every byte of what is lent, and moves the reading place alone
pub a_quiet_byte : (s : Bench) (lent : Lent) (byte : ℕ) (r : FromDevice) → enough lent ≡ true → is_asking (reads s.device byte).event ≡ false
    → ByTheTable s (at_device lent byte) (from_device r) → r ≡ tells 0 [] lent (moved s.device byte)
a_quiet_byte s lent byte r room quiet b =
    same r (tells 0 [] lent (moved s.device byte)) b (row_0_taken room (is_nothing (reads s.device byte).event quiet))
