-- 10h in the data of a command, a branch of the code each, and what it is in a known command.
use mathlib.Core.Path.{◌≡◌, refl, sym, ap, ◌∙◌}
use mathlib.Core.Bool.{Bool, true, false, cond, not, ◌&&◌}
use mathlib.Core.List.{List, [], ◌∷◌}
use mathlib.Core.Logic.{◌⊎◌, inl, inr}
use Prim.Native.Nat.{ℕ}
use lib.Dec.{eqb}
use borrow.Author.Tests.{eq-eqb, ne_eqb, eqb-true}
use Rattle.text.specs.Parts.{has}
use Rattle.display.specs.Display.{plain_of, can_show, shown_by}
use Rattle.kinds.specs.declared.Command.{Command}
use Rattle.kinds.specs.declared.Command.TheVariants.{ShowText}
use Rattle.kinds.specs.Fields.{Parsed}
use Rattle.std.specs.Prelude.{Ok, Err}
use Rattle.kinds.specs.declared.Unread.{Unread}
use Rattle.kinds.specs.declared.Unread.TheVariants.{Syntax}
use Rattle.command.specs.Commands.{form_of, not_marked, parsed_of}

module _ (code : ℕ) (s : List ℕ) where
  abbrev by : (of100 marked : Bool) → Parsed
  by of100 marked = cond (not of100 && marked) (not_marked (form_of code s)) (form_of code s)

  -- 100's own form judges its 10h
  pub of_100 : code ≡ 100 → form_of code s ≡ parsed_of code s
  of_100 e = sym (ap (λ z. by z (has 0x10 s)) (eq-eqb code 100 e))

  pub unmarked : (code ≡ 100 → ⊥) → has 0x10 s ≡ false → form_of code s ≡ parsed_of code s
  unmarked e f = sym (ap (λ z. by z (has 0x10 s)) (ne_eqb code 100 e) ∙ ap (by false) f)

  -- 10h in data of its command's form
  pub marked : (c : Command) → (code ≡ 100 → ⊥) → has 0x10 s ≡ true → form_of code s ≡ Ok c → Err Syntax ≡ parsed_of code s
  marked c e f r = sym (ap (λ z. by z (has 0x10 s)) (ne_eqb code 100 e) ∙ ap (by false) f ∙ ap not_marked r)

  -- in data of no form, and of no command, it is not looked for
  pub formless : (why : Unread) → form_of code s ≡ Err why → Err why ≡ parsed_of code s
  formless why e = sym (go (not (eqb code 100) && has 0x10 s))
    where
      go : (b : Bool) → cond b (not_marked (form_of code s)) (form_of code s) ≡ Err why
      go true = ap not_marked e
      go false = e

-- a command shows nothing, or it is 100 and is read
pub shown_or_not : (code : ℕ) (s : List ℕ) → (shown_by code s ≡ []) ⊎ (parsed_of code s ≡ Ok ShowText)
shown_or_not code s = go (eqb code 100) refl (can_show s) refl
  where
    read : code ≡ 100 → can_show s ≡ true → parsed_of code s ≡ Ok ShowText
    read e can = ap (λ c. parsed_of c s) e ∙ ap (λ z. cond z (Ok ShowText) (Err Syntax)) can

    go : (is : Bool) → eqb code 100 ≡ is → (can : Bool) → can_show s ≡ can → (shown_by code s ≡ []) ⊎ (parsed_of code s ≡ Ok ShowText)
    go false e can f = inl (ap (λ z. cond (z && can_show s) (plain_of s ∷ []) []) e)
    go true e false f = inl (ap (λ z. cond (z && can_show s) (plain_of s ∷ []) []) e ∙ ap (λ z. cond z (plain_of s ∷ []) []) f)
    go true e true f = inr (read (eqb-true code 100 e) f)
