-- PROTOCOL 4.8 and 4.5: a list cut at the first byte of a kind, and how it begins; a test of each of its bytes.
use Rattle.std.specs.Prelude.{ℕ, suc, ◌+◌, Bool, true, false, cond, ◌&&◌, List, [], ◌∷◌, leb, ltb, eqb, length, take, drop}

-- PROTOCOL 4.8: where the first b stands; the length where there is none
abbrev pub first_at : ℕ → List ℕ → ℕ
first_at b [] = 0
first_at b (x ∷ xs) = cond (eqb x b) 0 (suc (first_at b xs))

-- whether there is one
abbrev pub has : ℕ → List ℕ → Bool
has b xs = ltb (first_at b xs) (length xs)

-- PROTOCOL 4.8: the bytes up to the first b: all of them where there is none
abbrev pub up_to : ℕ → List ℕ → List ℕ
up_to b xs = take (first_at b xs) xs

-- PROTOCOL 4.8: the bytes past the first b: none where there is none
abbrev pub past : ℕ → List ℕ → List ℕ
past b xs = drop (first_at b xs + 1) xs

-- PROTOCOL 4.5: whether the first byte is b
abbrev pub begins : ℕ → List ℕ → Bool
begins b [] = false
begins b (x ∷ xs) = eqb x b

-- from the lowest to the highest, both of them too
abbrev pub within : ℕ → ℕ → ℕ → Bool
within lowest highest b = leb lowest b && leb b highest

-- whether each passes the test
abbrev pub every : (ℕ → Bool) → List ℕ → Bool
every test [] = true
every test (b ∷ bs) = test b && every test bs
