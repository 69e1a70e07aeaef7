-- PROTOCOL 5.17: texts for the display, worked out by the definitions.
use Rattle.std.specs.Prelude.{Some, None}
use mathlib.Core.Path.{◌≡◌, refl}
use mathlib.Core.Bool.{true, false}
use mathlib.Core.List.{[], ◌∷◌}
use lib.ListN.{length, replicate}
use Rattle.display.specs.Display.{can_show, shown_by, display_of, data_of}

-- 1Bh 4Bh 00h travels as 10h 5Bh 4Bh 10h 40h
paper : shown_by 100 (0x10 ∷ 0x5B ∷ 0x4B ∷ 0x10 ∷ 0x40 ∷ []) ≡ (0x1B ∷ 0x4B ∷ 0x00 ∷ []) ∷ []
paper = refl

paper_back : data_of (0x1B ∷ 0x4B ∷ 0x00 ∷ []) ≡ 0x10 ∷ 0x5B ∷ 0x4B ∷ 0x10 ∷ 0x40 ∷ []
paper_back = refl

-- the empty text is shown; that is another thing than none
empty : shown_by 100 [] ≡ [] ∷ []
empty = refl

empty_told : display_of (shown_by 100 []) ≡ Some 0
empty_told = refl

none_told : display_of (shown_by 101 []) ≡ None
none_told = refl

-- only 100 shows a text
other_code : shown_by 101 (0x41 ∷ []) ≡ []
other_code = refl

-- 10h with nothing behind it, with 3Fh, with 60h; from 40h to 5Fh it stands for 00h to 1Fh
last_mark : shown_by 100 (0x41 ∷ 0x10 ∷ []) ≡ []
last_mark = refl

too_low : shown_by 100 (0x10 ∷ 0x3F ∷ []) ≡ []
too_low = refl

too_high : shown_by 100 (0x10 ∷ 0x60 ∷ []) ≡ []
too_high = refl

lowest_highest : shown_by 100 (0x10 ∷ 0x40 ∷ 0x10 ∷ 0x5F ∷ []) ≡ (0x00 ∷ 0x1F ∷ []) ∷ []
lowest_highest = refl

-- 10h itself; the 50h behind it is no mark, nor is a 10h behind 10h
mark_itself : shown_by 100 (0x10 ∷ 0x50 ∷ 0x41 ∷ []) ≡ (0x10 ∷ 0x41 ∷ []) ∷ []
mark_itself = refl

two_marks : shown_by 100 (0x10 ∷ 0x10 ∷ 0x41 ∷ []) ≡ []
two_marks = refl

-- Tab and line feed stand for themselves too
feeds : shown_by 100 (0x09 ∷ 0x0A ∷ []) ≡ (0x09 ∷ 0x0A ∷ []) ∷ []
feeds = refl

-- 40 bytes are shown, 41 not; plain bytes count, and not the data's
longest : can_show (replicate 40 0x41) ≡ true
longest = refl

too_long_lem : can_show (replicate 41 0x41) ≡ false
too_long_lem = refl

longest_marked : can_show (data_of (replicate 40 0x1B)) ≡ true
longest_marked = refl

marked_length : length (data_of (replicate 40 0x1B)) ≡ 80
marked_length = refl

too_long_marked : can_show (data_of (replicate 41 0x1B)) ≡ false
too_long_marked = refl
