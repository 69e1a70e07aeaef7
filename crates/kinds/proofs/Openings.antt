-- Laws of the forms of 48, 101 and 102, a branch of the code each.
use Rattle.std.specs.Prelude.{Some, None, Ok, Err}
use mathlib.Core.Path.{◌≡◌, sym, ap, ◌∙◌}
use mathlib.Core.Bool.{true, false, cond, ◌&&◌}
use mathlib.Core.List.{List, []}
use Prim.Native.Nat.{ℕ}
use Rattle.text.specs.Parts.{has, up_to, past}
use Rattle.figures.specs.Numbers.{field_of}
use Rattle.kinds.specs.Fields.{comma}
use Rattle.kinds.specs.Operators.{is_op, secret_of, password_as, open_with, change_with, third_of, with_third, operators_of, name_in}
use Rattle.kinds.specs.declared.Command.TheVariants.{Open, ChangePassword}
use Rattle.kinds.specs.declared.Unread.TheVariants.{Syntax}
use Rattle.kinds.specs.declared.Password.{Password}
use Rattle.kinds.specs.declared.operators.Third.{Third}

-- Op and Pwd
module _ (t : Third) (op pwd last : List ℕ) where
  pub no_op : field_of 1 op ≡ None → Err Syntax ≡ with_third t op pwd last
  no_op e = rw e

  pub no_secret : (o : ℕ) → field_of 1 op ≡ Some o → secret_of pwd ≡ None → Err Syntax ≡ with_third t op pwd last
  no_secret o e f = rw (e, f)

  module _ (o p : ℕ) (e : field_of 1 op ≡ Some o) (f : secret_of pwd ≡ Some p) where
    pub not_eight : is_op o ≡ false → Err Syntax ≡ with_third t op pwd last
    not_eight h = rw (e, f, h)

    pub third_read : (k : Third) → t ≡ k → is_op o ≡ true → third_of k o (password_as pwd p) last ≡ with_third t op pwd last
    third_read k et h = rw (et, e, f, h)

-- and what stands behind them
pub no_till : (op : ℕ) (password : Password) (till : List ℕ) → field_of 5 till ≡ None → Err Syntax ≡ open_with op password till
no_till op password till e = rw e

pub opened : (op : ℕ) (password : Password) (till : List ℕ) (t : ℕ) → field_of 5 till ≡ Some t → Ok (Open op password t) ≡ open_with op password till
opened op password till t e = rw e

pub no_new : (op : ℕ) (old : Password) (new : List ℕ) → secret_of new ≡ None → Err Syntax ≡ change_with op old new
no_new op old new e = rw e

pub changed : (op : ℕ) (old : Password) (new : List ℕ) (p : ℕ) → secret_of new ≡ Some p → Ok (ChangePassword op old (password_as new p)) ≡ change_with op old new
changed op old new p e = rw e

module _ (t : Third) (s : List ℕ) where
  pub no_comma : has comma s ≡ false → Err Syntax ≡ operators_of t s
  no_comma e = rw e

  pub one_comma : (r : List ℕ) → r ≡ past comma s → has comma s ≡ true → has comma r ≡ false → Err Syntax ≡ operators_of t s
  one_comma r er e f = rw (e, ap (has comma) (sym er) ∙ f)

  pub two_commas : (r a b d : List ℕ) → r ≡ past comma s → has comma s ≡ true → has comma r ≡ true → a ≡ up_to comma s → b ≡ up_to comma r → d ≡ past comma r
      → with_third t a b d ≡ operators_of t s
  two_commas r a b d er e f ea eb ed =
      ap (λ z. with_third t z b d) ea ∙ ap (λ z. with_third t (up_to comma s) z d) (eb ∙ ap (up_to comma) er) ∙ ap (with_third t (up_to comma s) (up_to comma (past comma s))) (ed ∙ ap (past comma) er)
      ∙ sym (
      ap (λ z. cond (z && has comma (past comma s)) (with_third t (up_to comma s) (up_to comma (past comma s)) (past comma (past comma s))) (Err Syntax)) e
      ∙ ap (λ z. cond z (with_third t (up_to comma s) (up_to comma (past comma s)) (past comma (past comma s))) (Err Syntax)) (ap (has comma) (sym er) ∙ f))

-- the name of a 102, where a comma is missing and where it stands
module _ (s : List ℕ) where
  pub name_none : [] ≡ past comma s → [] ≡ name_in s
  name_none e = ap (past comma) e

  pub name_at : (r d : List ℕ) → r ≡ past comma s → d ≡ past comma r → d ≡ name_in s
  name_at r d er ed = ed ∙ ap (past comma) er
