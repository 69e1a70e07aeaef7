-- The texts that commands carried out show: those of one list and then another, and the text of one command in the display's buffer.
use mathlib.Core.Path.{◌≡◌, refl, sym, ap, ◌∙◌, subst}
use mathlib.Core.List.{List, [], ◌∷◌, ◌++◌, append-nil, append_assoc}
use Prim.Native.Nat.{ℕ, ◌≤◌}
use native.Mathlib.Omega.{arith}
use lib.ListN.{length}
use Rattle.display.specs.Display.{shown_by, display_of, displayed, texts_in}
use Rattle.display.proofs.Laws.{texts_back}
use Rattle.wire.specs.Frame.{Message}
use Rattle.carrying.specs.Carrying.{texts_of}

pub texts_append : (ms ns : List Message) → texts_of (ms ++ ns) ≡ texts_of ms ++ texts_of ns
texts_append [] ns = refl
texts_append (m ∷ ms) ns =
    ap (λ z. shown_by m.code m.content ++ z) (texts_append ms ns) ∙ sym (append_assoc (shown_by m.code m.content) (texts_of ms) (texts_of ns))

abbrev Stands : List ℕ → List (List ℕ) → Type 0
Stands buffer texts = texts_in (display_of texts) (displayed buffer texts) ≡ texts

-- a byte carries out one command at most
pub texts_stand : (ms : List Message) → length ms ≤ 1 → (buffer : List ℕ) → 40 ≤ length buffer → Stands buffer (texts_of ms)
texts_stand [] few buffer long = refl
texts_stand (m ∷ []) few buffer long = subst (Stands buffer) (sym (append-nil (shown_by m.code m.content))) (texts_back buffer m.code m.content long)
texts_stand (m ∷ n ∷ ms) few buffer long = absurd (omega (arith, few))
