-- The arguments, told one by one.
use Rattle.std.proofs.Common.{ℕ, ◌+◌, ◌≡◌, refl, sym, ap, ◌∙◌, Some, List, [], ◌∷◌, ◌++◌, length, length-append, arith}
use Rattle.std.specs.Prelude.{Option}
use Rattle.options.specs.Options.{none_asked, asked_with, asked_of, asked_from}
use Rattle.options.specs.declared.Argument.{Argument}
use Rattle.options.specs.declared.Asked.{Asked}
use Rattle.opening.specs.Opening.{Arguments}

-- what those before a place ask for
pub record Before (asked : Option Asked) (place : ℕ) : Type 0 where
  pub words : List Argument
  pub is : asked ≡ asked_from (Some none_asked) 1 words
  pub at : place ≡ length words + 1

with_last : (asked : Option Asked) (place at : ℕ) (words : List Argument) (a : Argument) → at ≡ length words + place
    → asked_from asked place (words ++ (a ∷ [])) ≡ asked_with (asked_from asked place words) at a
with_last asked place at [] a e = let same : place ≡ at = omega (arith, e) in ap (λ n. asked_with asked n a) same
with_last asked place at (b ∷ words) a e = with_last (asked_with asked place b) (place + 1) at words a (omega (arith, e))

pub none_before : (asked : Option Asked) → asked ≡ Some none_asked → Before asked 1
none_before asked e = record { words = []; is = e; at = refl }

pub one_more_lem : (asked : Option Asked) (place : ℕ) (a : Argument) (r : Option Asked) → Before asked place → r ≡ asked_with asked place a → Before r (place + 1)
one_more_lem asked place a r b e =
    record {
      words = b.words ++ (a ∷ []);
      is = e ∙ ap (λ z. asked_with z place a) b.is ∙ sym (with_last (Some none_asked) 1 place b.words a b.at);
      at = simp length-append (omega (arith, b.at));
    }

pub all_told : (asked : Option Asked) (place : ℕ) (r : Option Asked) → Before asked place → r ≡ asked_of asked place → Arguments r
all_told asked place r b e =
    record { words = b.words; is = e ∙ ap (λ z. asked_of z place) b.is ∙ ap (asked_of (asked_from (Some none_asked) 1 b.words)) b.at }
