-- PROTOCOL 5.6: cash and the four pay registers, by the mode of a payment.
use Rattle.std.specs.Prelude.{ℕ, ◌+◌, cond, ltb, set}
use Rattle.kinds.specs.declared.Mode.{Mode}
use Rattle.kinds.specs.declared.Mode.TheVariants.{Cash, N, C, D, B}
use Rattle.books.specs.Books.{with_drawer, with_registers}
use Rattle.books.specs.Groups.{at}
use Rattle.books.specs.declared.Books.{Books}

-- PROTOCOL 5.6: the place of a mode's register among the four; cash has none
abbrev pub place : Mode → ℕ
place N = 0
place C = 1
place D = 2
place B = 3
place Cash = 4

-- PROTOCOL 5.6: the register of the mode, or cash; and the books with this sum in it
abbrev pub register_of : Books → Mode → ℕ
register_of b m = cond (ltb (place m) 4) (at b.registers (place m)) b.drawer.cash

abbrev pub with_register : Books → Mode → ℕ → Books
with_register b m sum =
    cond (ltb (place m) 4)
    (with_registers b (set b.registers (place m) sum))
    (with_drawer b (record { cash = sum; put = b.drawer.put; taken = b.drawer.taken }))

-- PROTOCOL 5.6: cash is raised, or the register of the mode
abbrev pub raised_by : Books → Mode → ℕ → Books
raised_by b m x = with_register b m (register_of b m + x)
