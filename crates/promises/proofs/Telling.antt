-- A short history, told from its turns: buffers too short among the bytes, a frame sent twice, a payment refused.
use mathlib.Core.Path.{◌≡◌, refl}
use mathlib.Core.Bool.{true, false}
use mathlib.Core.List.{List, [], ◌∷◌, ◌++◌, map}
use Prim.Native.Nat.{ℕ}
use lib.ListN.{replicate}
use Rattle.text.specs.Digits.{digits, number}
use Rattle.wire.specs.Frame.{command_of, frame}
use Rattle.wire.specs.declared.Way.TheVariants.{ToDevice}
use Rattle.sheet.specs.Sheet.{blank}
use Rattle.sheet.specs.declared.Line.{Line}
use Rattle.line.specs.Turns.{State}
use Rattle.store.specs.Store.{Store}
use Rattle.history.specs.History.{lines_sold, payment_tried, paid_in_full, put_in}
use Rattle.promises.specs.Demand2.{Moment, comes, turns_of, data_in, fresh_device, all_given, device_after, entries_of, cash_in}

-- a fresh device with a sheet on which nothing stands
abbrev no_lines : List Line
no_lines = replicate 512 blank

abbrev fresh : State Store
fresh = fresh_device no_lines

-- a command, with a buffer of this length lent for each of its bytes
abbrev sent : ℕ → ℕ → ℕ → List ℕ → List Moment
sent room seq code content = map (comes (record { buffer = replicate room 0; lines = 512; display = replicate 40 0 })) (frame ToDevice (command_of seq code content))

-- 49 `Tab B12.67`
abbrev sale : ℕ → List Moment
sale room = sent room 0x21 49 (0x09 ∷ 0x42 ∷ 0x31 ∷ 0x32 ∷ 0x2E ∷ 0x36 ∷ 0x37 ∷ [])

-- 48 `1,0000,1`, then the line with 216 bytes lent, and twice with 217
abbrev sold : List Moment
sold = sent 217 0x20 48 (0x31 ∷ 0x2C ∷ 0x30 ∷ 0x30 ∷ 0x30 ∷ 0x30 ∷ 0x2C ∷ 0x31 ∷ []) ++ sale 216 ++ sale 217 ++ sale 217

-- 53 `Tab N99`, refused with 3, and `Tab P20`
abbrev refused : List Moment
refused = sold ++ sent 217 0x22 53 (0x09 ∷ 0x4E ∷ 0x39 ∷ 0x39 ∷ [])

abbrev paid : List Moment
paid = refused ++ sent 217 0x23 53 (0x09 ∷ 0x50 ∷ 0x32 ∷ 0x30 ∷ [])

-- 56 and 70
abbrev closed : List Moment
closed = paid ++ sent 217 0x24 56 []

abbrev asked : List Moment
asked = sent 217 0x25 70 []

-- 17 bytes, none of them taken
pub seven_each : map (λ t. t.number) (turns_of fresh (sale 216)) ≡ replicate 17 7
seven_each = refl

pub one_line : lines_sold (entries_of no_lines sold) ≡ 1
unfolding digits number
one_line = refl

pub not_tried : payment_tried (entries_of no_lines refused) ≡ false
unfolding digits number
not_tried = refl

pub in_full : paid_in_full (entries_of no_lines paid) ≡ true
unfolding digits number
in_full = refl

-- newest first: 70, 56, 53, the refused 53, 49, 48
pub numbers : map (λ e. e.number) (entries_of no_lines (closed ++ asked)) ≡ 0 ∷ 0 ∷ 0 ∷ 3 ∷ 0 ∷ 0 ∷ []
unfolding digits number
numbers = refl

pub change_left_out : put_in (entries_of no_lines (closed ++ asked)) ≡ 1267
unfolding digits number
change_left_out = refl

-- "70 gives cash 12.67"
pub seen : cash_in (data_in (all_given (turns_of (device_after fresh closed) asked))) ≡ 1267
unfolding digits number
seen = refl
