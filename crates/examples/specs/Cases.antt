-- The examples that are proved, under their numbers in document 01, and behind them what later requests ask to see; each cites what it is an example of. SEQ
-- is hexadecimal, CMD decimal.
use Rattle.std.specs.Prelude.{ℕ, List, [], ◌∷◌, ◌++◌, set}
use Rattle.wire.specs.Frame.{command_of, answer_of, frame}
use Rattle.wire.specs.declared.Way.TheVariants.{ToDevice, ToTill}
use Rattle.letters.specs.Letters.{bytes}
use Rattle.examples.specs.Case.{Case, built, talk, Exchange, asks, ends_in, marked}

-- PROTOCOL 1.1: the single byte 15h
abbrev pub NAK : List ℕ
NAK = 0x15 ∷ []

-- PROTOCOL 3.2, 3.3: the status bytes of a command done with no receipt open, of one done with a fiscal receipt open, and of refusals
-- with it open, for syntax and as not permitted
abbrev pub idle : List ℕ
idle = 0x80 ∷ 0x80 ∷ 0x80 ∷ 0x80 ∷ 0x86 ∷ 0x9A ∷ []

abbrev pub fiscal : List ℕ
fiscal = 0x80 ∷ 0x80 ∷ 0x88 ∷ 0x80 ∷ 0x86 ∷ 0x9A ∷ []

abbrev pub syntax_error : List ℕ
syntax_error = 0xA1 ∷ 0x80 ∷ 0x88 ∷ 0x80 ∷ 0x86 ∷ 0x9A ∷ []

abbrev pub barred : List ℕ
barred = 0xA0 ∷ 0x82 ∷ 0x88 ∷ 0x80 ∷ 0x86 ∷ 0x9A ∷ []

-- PROTOCOL 1.6: 74 with SEQ 20h, with this for the last BCC byte
abbrev pub status74 : ℕ → List ℕ
status74 bcc = 0x01 ∷ 0x24 ∷ 0x20 ∷ 0x4A ∷ 0x05 ∷ 0x30 ∷ 0x30 ∷ 0x39 ∷ bcc ∷ 0x03 ∷ []

-- PROTOCOL 1.6: its answer
abbrev pub answer74 : List ℕ
answer74 =
    0x01 ∷ 0x31 ∷ 0x20 ∷ 0x4A ∷ 0x80 ∷ 0x80 ∷ 0x80 ∷ 0x80 ∷ 0x86 ∷ 0x9A ∷ 0x04
    ∷ 0x80 ∷ 0x80 ∷ 0x80 ∷ 0x80 ∷ 0x86 ∷ 0x9A ∷ 0x05 ∷ 0x30 ∷ 0x36 ∷ 0x3E ∷ 0x34 ∷ 0x03 ∷ []

-- PROTOCOL 9.5: 70, SEQ 20h, five leva in: all but the last byte, the first one as given; and the answer on a fresh device
abbrev pub lacking70 : ℕ → List ℕ
lacking70 first = first ∷ 0x25 ∷ 0x20 ∷ 0x46 ∷ 0x35 ∷ 0x05 ∷ 0x30 ∷ 0x30 ∷ 0x3C ∷ 0x35 ∷ []

abbrev pub answer70 : List ℕ
answer70 = frame ToTill (answer_of 0x20 70 (bytes "P,000000000500,000000000500,000000000000") idle)

-- PROTOCOL 5.3: a fiscal receipt opened
abbrev pub opens : Exchange
opens = asks 0x20 48 "1,0000,1" "0001,0001" fiscal

abbrev pub cases : List Case
cases =
    -- PROTOCOL 1.6: the shortest command
    built 1 (command_of 0x20 74 []) (status74 0x33)
    -- PROTOCOL 1.6: a fresh device answers it
    ∷ talk 2 (record { hears = status74 0x33; gives = answer74 } ∷ []) (marked 0x20 74 ∷ [])
    -- PROTOCOL 1.8: the same with 34h as its last BCC byte is a broken frame
    ∷ talk 3 (record { hears = status74 0x34; gives = NAK } ∷ []) []
    -- PROTOCOL 1.10: twice, the second time as a repeat
    ∷ talk 3
    (record { hears = status74 0x33; gives = answer74 } ∷ record { hears = status74 0x33; gives = answer74 } ∷ [])
    (marked 0x20 74 ∷ [])
    -- PROTOCOL 6.2: 1.99 × 0.375 is 0.75
    ∷ talk 4
    (opens
    ∷ asks 0x21 49 "\tB1.99*0.375" "" fiscal
    ∷ asks 0x22 51 "00" "0000000075,0000000000,0000000075,0000000000,0000000000,0000000000,0000000000,0000000000,0000000000" fiscal
    ∷ [])
    (marked 0x20 48 ∷ marked 0x21 49 ∷ marked 0x22 51 ∷ [])
    -- PROTOCOL 6.3: and 0.67 with 10 percent off
    ∷ talk 4
    (opens
    ∷ asks 0x21 49 "\tB1.99*0.375,-10" "" fiscal
    ∷ asks 0x22 51 "00" "0000000067,0000000000,0000000067,0000000000,0000000000,0000000000,0000000000,0000000000,0000000000" fiscal
    ∷ [])
    (marked 0x20 48 ∷ marked 0x21 49 ∷ marked 0x22 51 ∷ [])
    -- PROTOCOL 5.4 to 5.7: that line and 12.00, both in B, come to 12.67; paid with 20.00, 7.33 are given back. PROTOCOL 6.6, 6.7: then 65 with `1` has a tax of
    -- 2.11 for B, and 70 has 12.67 in the drawer
    ∷ talk 5
    (opens
    ∷ asks 0x21 49 "\tB1.99*0.375,-10" "" fiscal
    ∷ asks 0x22 49 "\tB12.00" "" fiscal
    ∷ asks 0x23 51 "00" "0000001267,0000000000,0000001267,0000000000,0000000000,0000000000,0000000000,0000000000,0000000000" fiscal
    ∷ asks 0x24 53 "\tP20" "R0000000733" fiscal
    ∷ asks 0x25 56 "" "0001,0001" idle
    ∷ asks 0x26 65 "1" "000000000000,000000000211,000000000000,000000000000,000000000000,000000000000,000000000000,000000000000" idle
    ∷ asks 0x27 70 "" "P,000000001267,000000000000,000000000000" idle
    ∷ [])
    (marked 0x20 48 ∷ marked 0x21 49 ∷ marked 0x22 49 ∷ marked 0x23 51 ∷ marked 0x24 53 ∷ marked 0x25 56 ∷ marked 0x26 65 ∷ marked 0x27 70 ∷ [])
    -- PROTOCOL 4.6: a PERCENT of 99.00 is taken, 99.01 is not
    ∷ talk 6
    (opens
    ∷ asks 0x21 49 "\tA1.00,99.00" "" fiscal
    ∷ asks 0x22 49 "\tA1.00,99.01" "" syntax_error
    ∷ asks 0x23 51 "00" "0000000199,0000000199,0000000000,0000000000,0000000000,0000000000,0000000000,0000000000,0000000000" fiscal
    ∷ [])
    (marked 0x20 48 ∷ marked 0x21 49 ∷ marked 0x22 49 ∷ marked 0x23 51 ∷ [])
    -- PROTOCOL 1.9: the last byte arrives as 01h, then the command is sent again: it is carried out once
    ∷ talk 8
    (opens
    ∷ record { hears = ends_in 0x01 (frame ToDevice (command_of 0x21 49 (bytes "\tB12.00"))); gives = NAK }
    ∷ asks 0x21 49 "\tB12.00" "" fiscal
    ∷ asks 0x22 51 "00" "0000001200,0000000000,0000001200,0000000000,0000000000,0000000000,0000000000,0000000000,0000000000" fiscal
    ∷ [])
    (marked 0x20 48 ∷ marked 0x21 49 ∷ marked 0x22 51 ∷ [])
    -- PROTOCOL 9.5, request 2026-11: a frame that lacks only its last byte is ended by the next try: of the same command, which is then carried out, and of the
    -- next one, when it is a repeat. The five leva are in the drawer once.
    ∷ talk 202611
    (record { hears = lacking70 0x01; gives = [] }
    ∷ record { hears = lacking70 0x03 ++ 0x03 ∷ []; gives = answer70 }
    ∷ record { hears = lacking70 0x01; gives = [] }
    ∷ record { hears = set (frame ToDevice (command_of 0x21 70 [])) 0 0x03; gives = answer70 }
    ∷ asks 0x21 70 "" "P,000000000500,000000000500,000000000000" idle
    ∷ [])
    (marked 0x20 70 ∷ marked 0x21 70 ∷ [])
    -- PROTOCOL 5.4, 6.4, request 2026-01: a lev less 25 stotinki, and a lev: the newer one is taken back first, then the other's 0.75, and the third time there is
    -- none to take back
    ∷ talk 202601
    (opens
    ∷ asks 0x21 49 "\tB1.00;-0.25" "" fiscal
    ∷ asks 0x22 49 "\tB1" "" fiscal
    ∷ asks 0x23 49 "\tB-1*1.000" "" fiscal
    ∷ asks 0x24 51 "00" "0000000075,0000000000,0000000075,0000000000,0000000000,0000000000,0000000000,0000000000,0000000000" fiscal
    ∷ asks 0x25 49 "\tB-1.0" "" fiscal
    ∷ asks 0x26 49 "\tB-1" "" barred
    ∷ asks 0x27 51 "00" "0000000000,0000000000,0000000000,0000000000,0000000000,0000000000,0000000000,0000000000,0000000000" fiscal
    ∷ [])
    (marked 0x20 48 ∷ marked 0x21 49 ∷ marked 0x22 49 ∷ marked 0x23 49 ∷ marked 0x24 51 ∷ marked 0x25 49 ∷ marked 0x26 49 ∷ marked 0x27 51 ∷ [])
    ∷ []
