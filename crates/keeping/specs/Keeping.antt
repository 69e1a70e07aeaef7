-- LINE 2 and 3: what the keeper of a recording decides.
use Rattle.std.specs.Prelude.{ℕ, suc, Bool, false, Option, Some, None, cond, List, [], ◌∷◌, eqb, ltb}
use Rattle.keeping.specs.declared.Source.{Source}
use Rattle.keeping.specs.declared.Source.TheVariants.{Recording, Input, Line}
use Rattle.keeping.specs.declared.Next.{Next}
use Rattle.keeping.specs.declared.Next.TheVariants.{Silent, Anew, Begin, Answer, Wait, End, Closed, Broken}

-- LINE 2.1, 2.2, 3.2: bytes of the recording give nothing back; those of the line are answered
abbrev pub some_read : Source → Next
some_read Recording = Silent
some_read Input = Answer
some_read Line = Answer

-- LINE 2.1, 3.2, 3.3: no bytes are the end of the recording, and then comes the next one that is named, or the line; the end of standard input; on a
-- terminal only a silence
abbrev pub none_read : Source → (terminal left : Bool) → Next
none_read Recording terminal left = cond left Anew Begin
none_read Input terminal left = End
none_read Line terminal left = cond terminal Wait Closed

-- LINE 3.4: a read that failed ends everything
abbrev pub taken_for : Source → (failed terminal left : Bool) → (count : ℕ) → Next
taken_for source failed terminal left count = cond failed Broken (cond (eqb count 0) (none_read source terminal left) (some_read source))

-- LINE 2.3: a file's length, by the place of its end, where that can be told
abbrev pub size_of : Option ℕ → ℕ
size_of None = 0
size_of (Some end) = end

-- LINE 2.3: the recording holds what was heard, and nothing else stands behind it
abbrev pub is_whole : Option ℕ → (heard : ℕ) → Bool
is_whole None heard = false
is_whole (Some end) heard = eqb end heard

-- LINE 2.4: how many bytes there are up to the last b, that too; 0 where there is none
abbrev pub behind_last : ℕ → List ℕ → ℕ
behind_last b [] = 0
behind_last b (x ∷ xs) =
    let n = behind_last b xs in
    cond (ltb 0 n) (suc n) (cond (eqb x b) 1 0)
