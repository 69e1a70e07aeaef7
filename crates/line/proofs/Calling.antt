-- Laws of what bytes ask for: the code's branches, and listening as a stretch of reading.
use mathlib.Core.Path.{◌≡◌, refl, sym, ap, ◌∙◌, subst}
use mathlib.Core.Bool.{Bool, true, false, cond}
use mathlib.Core.List.{List, [], ◌∷◌}
use Prim.Native.Nat.{ℕ, ◌+◌, ◌≤◌, ◌<◌}
use native.Mathlib.Omega.{arith}
use lib.ListN.{length}
use Rattle.wire.specs.declared.Way.TheVariants.{ToDevice}
use Rattle.reader.specs.Reading.{read}
use Rattle.reader.specs.Fields.{place_of, heard_of, is_silent}
use Rattle.stretches.specs.Stretches.{Stretched, further, stretched}
use Rattle.reader.specs.declared.Heard.{Heard}
use Rattle.reader.specs.declared.Heard.TheVariants as heards
use Rattle.stretches.specs.declared.Stretch.{Stretch}
use Rattle.line.specs.Calls.{call_for, is_repeat, is_quiet, called_of}
use Rattle.line.specs.Listening.{frame_after, listened_to, frame_behind}
use Rattle.line.specs.declared.Call.{Call}
use Rattle.line.specs.declared.Call.TheVariants.{Again, Order}
use Rattle.line.specs.declared.Port.{Port}
use Rattle.line.specs.declared.Listened.{Listened}
use Rattle.line.specs.declared.Previous.{Previous}

-- a byte that brings nothing asks for nothing
quiet_silent : (p : Previous) (h : Heard) → is_quiet (call_for p h) ≡ is_silent h
quiet_silent p heards.Nothing = refl
quiet_silent p heards.Broken = refl
quiet_silent p (heards.Whole s c n) = go (is_repeat p s c)
  where
    go : (r : Bool) → is_quiet (cond r Again (Order s c n)) ≡ false
    go true = refl
    go false = refl

-- listening is a stretch of reading
abbrev listened_of : Port → Stretch → Listened
listened_of l s = record { line = record { reader = s.reader; previous = l.previous }; call = call_for l.previous s.heard; taken = s.taken }

as_stretch : (bytes : List ℕ) (l : Port) (frame : List ℕ)
    → (listened_to l frame bytes ≡ listened_of l (stretched ToDevice l.reader frame bytes).stretch) × (frame_behind l frame bytes ≡ (stretched ToDevice l.reader frame bytes).array)
as_stretch [] l frame = (refl, refl)
as_stretch (b ∷ bs) l frame = go (is_silent h) (quiet_silent l.previous h) (as_stretch bs now kept)
  where
    h : Heard
    h = heard_of (read ToDevice (place_of l.reader frame) b).event

    now : Port
    now = (called_of l frame b).line

    kept : List ℕ
    kept = frame_after l frame b

    later : Listened
    later = listened_to now kept bs

    rest : Stretched
    rest = stretched ToDevice now.reader kept bs

    Same : Bool → Bool → Type 0
    Same quiet silent =
        (cond {A = Listened} quiet (record { line = later.line; call = later.call; taken = later.taken + 1 }) (record { line = now; call = call_for l.previous h; taken = 1 })
        ≡ listened_of l (cond {A = Stretched} silent (further 1 rest) (record { stretch = record { reader = now.reader; heard = h; taken = 1 }; array = kept })).stretch)
        × (cond quiet (frame_behind now kept bs) kept ≡ (cond {A = Stretched} silent (further 1 rest) (record { stretch = record { reader = now.reader; heard = h; taken = 1 }; array = kept })).array)

    both : (s : Bool) → (later ≡ listened_of now rest.stretch) × (frame_behind now kept bs ≡ rest.array) → Same s s
    both true (e, f) =
        let n : rest.stretch.taken + 1 ≡ 1 + rest.stretch.taken = omega arith in
        (ap (λ (z : Listened). record { line = z.line; call = z.call; taken = z.taken + 1 }) e ∙ ap (λ k. record { line = (listened_of now rest.stretch).line; call = (listened_of now rest.stretch).call; taken = k }) n, f)
    both false e = (refl, refl)

    go : (s : Bool) → is_quiet (call_for l.previous h) ≡ s → (later ≡ listened_of now rest.stretch) × (frame_behind now kept bs ≡ rest.array)
        → Same (is_quiet (call_for l.previous h)) s
    go s q e = subst (λ z. Same z s) (sym q) (both s e)

-- so is what the code gives back
pub listens : (l : Port) (frame bytes : List ℕ) (s : Stretch) (frame' : List ℕ) → record { stretch = s; array = frame' } ≡ stretched ToDevice l.reader frame bytes
    → (c : Call) → c ≡ call_for l.previous s.heard
    → (record { line = record { reader = s.reader; previous = l.previous }; call = c; taken = s.taken } ≡ listened_to l frame bytes) × (frame' ≡ frame_behind l frame bytes)
listens l frame bytes s frame' e c ec =
    let whole = as_stretch bytes l frame in
    let told : record { line = record { reader = s.reader; previous = l.previous }; call = c; taken = s.taken } ≡ listened_of l s =
    ap (λ z. record { line = record { reader = s.reader; previous = l.previous }; call = z; taken = s.taken }) ec in
    (told ∙ ap (λ (z : Stretched). listened_of l z.stretch) e ∙ sym whole.0, ap (λ (z : Stretched). z.array) e ∙ sym whole.1)

-- no more bytes are taken than there are
pub listened_within : (bytes : List ℕ) (l : Port) (frame : List ℕ) → (listened_to l frame bytes).taken ≤ length bytes
listened_within [] l frame = omega arith
listened_within (b ∷ bs) l frame = go (is_quiet (called_of l frame b).call) (listened_within bs (called_of l frame b).line (frame_after l frame b))
  where
    later : Listened
    later = listened_to (called_of l frame b).line (frame_after l frame b) bs

    go : (q : Bool) → later.taken ≤ length bs
        → (cond {A = Listened} q (record { line = later.line; call = later.call; taken = later.taken + 1 }) (record { line = (called_of l frame b).line; call = (called_of l frame b).call; taken = 1 })).taken ≤ length (b ∷ bs)
    go true h = omega (arith, h)
    go false h = omega arith

-- and of some bytes at least one
pub listened_some : (bytes : List ℕ) (l : Port) (frame : List ℕ) → 0 < length bytes → 0 < (listened_to l frame bytes).taken
listened_some [] l frame h = absurd (omega arith)
listened_some (b ∷ bs) l frame h = go (is_quiet (called_of l frame b).call)
  where
    later : Listened
    later = listened_to (called_of l frame b).line (frame_after l frame b) bs

    go : (q : Bool)
        → 0 < (cond {A = Listened} q (record { line = later.line; call = later.call; taken = later.taken + 1 }) (record { line = (called_of l frame b).line; call = (called_of l frame b).call; taken = 1 })).taken
    go true = omega arith
    go false = omega arith
