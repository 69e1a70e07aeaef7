-- Every row of the table, at either end, is met by a history of fresh ends: none of them speaks of nothing.
use mathlib.Core.Path.{◌≡◌, refl}
use mathlib.Core.Bool.{cond, ◌&&◌}
use mathlib.Core.List.{List, [], ◌∷◌, ◌++◌}
use Prim.Native.Nat.{ℕ}
use lib.Dec.{eqb}
use lib.ListN.{replicate}
use Rattle.text.specs.Digits.{digits, number}
use Rattle.wire.specs.Frame.{command_of, frame}
use Rattle.sheet.specs.Sheet.{blank}
use Rattle.wire.specs.declared.Way.TheVariants.{ToDevice}
use Rattle.till.specs.Turns.{Happening, command, byte, timeout}
use Rattle.till.specs.declared.Word.{Word}
use Rattle.till.specs.declared.Word.TheVariants.{Idle, Waiting, SendAgain, Answered, Unfinished, TooShort, NotSent}
use Rattle.promises.specs.Demand1.{fresh_bench, Comes, at_device, at_till, Outcome, from_device, from_till, switched}
use Rattle.promises.specs.Ends.{outcomes_of}

-- bytes to the device, with 217 and 512 lines lent; a command to it; bytes of an answer to the till end, with 210 lent
abbrev heard : List ℕ → List Comes
heard [] = []
heard (b ∷ bs) = at_device (record { buffer = replicate 217 0; lines = 512; display = replicate 40 0 }) b ∷ heard bs

abbrev asks : (seq code : ℕ) → List ℕ → List Comes
asks seq code content = heard (frame ToDevice (command_of seq code content))

abbrev told : Happening → Comes
told h = at_till (replicate 210 0) h

abbrev answering : List ℕ → List Comes
answering [] = []
answering (b ∷ bs) = told (byte b) ∷ answering bs

-- the numbers that the device replies, but for a byte taken with nothing given back; and the words of the till end
abbrev numbers : List Outcome → List ℕ
numbers [] = []
numbers (from_device r ∷ rs) = cond (eqb r.number 0 && eqb r.count 0) (numbers rs) (r.number ∷ numbers rs)
numbers (from_till r ∷ rs) = numbers rs
numbers (switched d ∷ rs) = numbers rs

abbrev words : List Outcome → List Word
words [] = []
words (from_device r ∷ rs) = words rs
words (from_till r ∷ rs) = r.word ∷ words rs
words (switched d ∷ rs) = words rs

-- 74 with data is syntax, and then a repeat; 75 is unknown; 51 needs an open receipt, which 48 opens; `Tab A99999999*2` passes 999999.99
pub every_row_of_the_device_is_met : numbers (outcomes_of (fresh_bench (replicate 512 blank)) (
    (at_device (record { buffer = []; lines = 512; display = replicate 40 0 }) 0x01 ∷ heard (0x01 ∷ 0x02 ∷ []))
    ++ asks 0x20 74 (0x30 ∷ []) ++ asks 0x20 74 (0x30 ∷ []) ++ asks 0x21 75 [] ++ asks 0x22 51 (0x30 ∷ 0x30 ∷ [])
    ++ asks 0x23 48 (0x31 ∷ 0x2C ∷ 0x30 ∷ 0x30 ∷ 0x30 ∷ 0x30 ∷ 0x2C ∷ 0x31 ∷ [])
    ++ asks 0x24 49 (0x09 ∷ 0x41 ∷ 0x39 ∷ 0x39 ∷ 0x39 ∷ 0x39 ∷ 0x39 ∷ 0x39 ∷ 0x39 ∷ 0x39 ∷ 0x2A ∷ 0x32 ∷ [])))
    ≡ 7 ∷ 5 ∷ 1 ∷ 6 ∷ 2 ∷ 3 ∷ 0 ∷ 4 ∷ []
unfolding digits number
every_row_of_the_device_is_met = refl

-- 74 is answered as document 01's case 2 has it; the next one is never answered
pub every_row_of_the_till_end_is_met : words (outcomes_of (fresh_bench (replicate 512 blank)) (
    (at_till [] timeout ∷ told timeout ∷ told (command 74 []) ∷ told (command 74 []) ∷ [])
    ++ answering (0x01 ∷ 0x31 ∷ 0x20 ∷ 0x4A ∷ 0x80 ∷ 0x80 ∷ 0x80 ∷ 0x80 ∷ 0x86 ∷ 0x9A ∷ 0x04 ∷ 0x80 ∷ 0x80 ∷ 0x80 ∷ 0x80 ∷ 0x86 ∷ 0x9A ∷ 0x05 ∷ 0x30 ∷ 0x36 ∷ 0x3E ∷ 0x34 ∷ 0x03 ∷ [])
    ++ told (command 74 []) ∷ replicate 5 (told timeout)))
    ≡ (TooShort ∷ Idle ∷ Waiting 10 ∷ NotSent ∷ []) ++ replicate 22 (Waiting 0) ++ (Answered 12 ∷ Waiting 10 ∷ []) ++ replicate 4 (SendAgain 10) ++ Unfinished 5 ∷ []
unfolding digits number
every_row_of_the_till_end_is_met = refl
