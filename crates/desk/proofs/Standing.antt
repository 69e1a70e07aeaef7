-- What comes back on a try, and what the till end makes of it.
use Prim.Native.Nat.{ℕ, zero, suc, ◌+◌, ◌≤◌, min}
use mathlib.Core.Path.{◌≡◌, refl, ap, ◌∙◌}
use mathlib.Core.Bool.{true}
use mathlib.Core.List.{List}
use native.Mathlib.Omega.{arith}
use lib.ListN.{length, take, drop, length-set, length-take}
use lib.Seq.{sets, sets-eq, take_at}
use Rattle.faults.specs.Faults.{replaced, fault_of, arrived_of}
use Rattle.faults.specs.declared.Fault.{Fault}
use Rattle.faults.specs.declared.Fault.TheVariants.{Nothing, Becomes, Lost}
use Rattle.exchange.specs.Exchange.{heard_back}
use Rattle.till.specs.declared.Said.{Said}
use Rattle.desk.specs.declared.Desk.{Desk}
use Rattle.desk.specs.declared.Told.{Told}
use Rattle.desk.specs.Desk.{told, coming}

-- no more arrives than was sent
replaced_length : (place byte : ℕ) (bytes : List ℕ) → length (replaced place byte bytes) ≡ length bytes
replaced_length zero byte bytes = refl
replaced_length (suc before) byte bytes = length-set bytes before byte

arrived_length : (fault : Fault) (bytes : List ℕ) → length (arrived_of fault bytes) ≤ length bytes
arrived_length Nothing bytes = omega arith
arrived_length (Becomes place byte) bytes = omega (arith, replaced_length place byte bytes)
arrived_length Lost bytes = omega arith

-- what comes back of an answer, whole in a room as large as the one that it is taken from
module _ (d : Desk) (back room after bytes came : List ℕ) (fault : Fault) (got : ℕ)
    (f : fault ≡ fault_of d.faults true d.attempt) (b : bytes ≡ take d.given back)
    (g : got ≡ min (length (arrived_of fault bytes)) (length room)) (a : after ≡ sets room 0 (arrived_of fault bytes)) where
  pub comes : length back ≡ length room → came ≡ take got after → came ≡ coming d back
  comes l c =
      let all : List ℕ = arrived_of fault bytes in
      let short : 0 + length all ≤ length room = omega (arith, arrived_length fault bytes, ap length b, length-take d.given back, l) in
      let whole : length all ≡ got = omega (arith, g, short) in
      c ∙ ap (take got) (a ∙ sets-eq all room 0 short) ∙ take_at all (drop (0 + length all) room) got whole
      ∙ ap (λ x. arrived_of x bytes) f ∙ ap (arrived_of (fault_of d.faults true d.attempt)) b

-- what the till end makes of it
module _ (d : Desk) (frame answer out bytes came : List ℕ) (c : bytes ≡ came) (said : Said) (held after : List ℕ) (next : Told)
    (h : record { said = said; answer = held; buffer = after } ≡ heard_back frame d.till answer out bytes) (n : next ≡ told d said) where
  heard : record { said = said; answer = held; buffer = after } ≡ heard_back frame d.till answer out came
  heard = h ∙ ap (heard_back frame d.till answer out) c

  pub brings : (next ≡ told d (heard_back frame d.till answer out came).said)
      × ((held ≡ (heard_back frame d.till answer out came).answer) × (after ≡ (heard_back frame d.till answer out came).buffer))
  brings = (n ∙ ap (λ x. told d x.said) heard, (ap (λ x. x.answer) heard, ap (λ x. x.buffer) heard))
