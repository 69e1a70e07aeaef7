-- SCRIPTS 6 to 8: the sentences, with their holes: `#` is a number, `$` a sum, `%` a byte, `~` a word, `^` data, `|` a line feed.
use Rattle.std.specs.Prelude.{ℕ, List, [], ◌∷◌}
use Rattle.letters.specs.Letters.{bytes}

-- SCRIPTS 7, 8: a command, and what it is called
abbrev pub heading_long : List ℕ
heading_long = bytes " (~)|"

abbrev pub heading_brief : List ℕ
heading_brief = bytes " (~): "

-- a try on its way, and an answer on its way back
abbrev pub try_one : List ℕ
try_one = bytes "  try #, # byte: "

abbrev pub try_many : List ℕ
try_many = bytes "  try #, # bytes: "

abbrev pub answer_one : List ℕ
answer_one = bytes "  answer #, # byte: "

abbrev pub answer_many : List ℕ
answer_many = bytes "  answer #, # bytes: "

-- PROTOCOL 9.1: what happens to it
abbrev pub whole : List ℕ
whole = bytes "arrives whole|"

abbrev pub becomes : List ℕ
becomes = bytes "byte # becomes %|"

abbrev pub lost : List ℕ
lost = bytes "lost, nothing arrives|"

-- PROTOCOL 2.1: what the device makes of it
abbrev pub hears_nothing : List ℕ
hears_nothing = bytes "  device: hears nothing|"

abbrev pub quiet : List ℕ
quiet = bytes "  device: # bytes, nothing to say|"

abbrev pub broken : List ℕ
broken = bytes "  device: broken frame (5), NAK|"

abbrev pub repeated : List ℕ
repeated = bytes "  device: repeat (6), the last answer again|"

abbrev pub carried_out : List ℕ
carried_out = bytes "  device: carried out: ~ (#)"

abbrev pub because : List ℕ
because = bytes ", ~|"

abbrev pub line_end : List ℕ
line_end = bytes "|"

-- PROTOCOL 5.17: what its display shows
abbrev pub displays : List ℕ
displays = bytes "  display: \"^\"|"

-- PROTOCOL 7.1: what the till end says, at length and briefly
abbrev pub answered : List ℕ
answered = bytes "  till end: Answered # \"^\""

abbrev pub answered_brief : List ℕ
answered_brief = bytes "Answered, ~ (#)"

abbrev pub content : List ℕ
content = bytes " \"^\""

abbrev pub send_again : List ℕ
send_again = bytes "  till end: Send again|"

abbrev pub send_again_brief : List ℕ
send_again_brief = bytes "send again|"

abbrev pub unfinished : List ℕ
unfinished = bytes "  till end: UNFINISHED, no answer in five tries; it may be done all the same|"

abbrev pub unfinished_brief : List ℕ
unfinished_brief = bytes "UNFINISHED: no answer in five tries; it may be done all the same, look before you send it anew|"

abbrev pub not_sent : List ℕ
not_sent = bytes "  till end: cannot be sent (8)|"

abbrev pub not_sent_brief : List ℕ
not_sent_brief = bytes "cannot be sent (8)|"

abbrev pub nothing : List ℕ
nothing = bytes "  till end: nothing|"

abbrev pub nothing_brief : List ℕ
nothing_brief = bytes "nothing|"

-- PROTOCOL 8.4: the books
abbrev pub figures : List ℕ
figures = bytes "books|  drawer: cash $, put in $, taken out $|  day: A $ B $ C $ D $ E $ F $ G $ H $|  registers: N $ C $ D $ B $|  counters: All #, Fiscal #, closings #, FM $|"

abbrev pub none_open : List ℕ
none_open = bytes "  no receipt is open|"

abbrev pub text_open : List ℕ
text_open = bytes "  a non-fiscal receipt is open|"

abbrev pub fiscal_open : List ℕ
fiscal_open = bytes "  a fiscal receipt is open: lines #, total $, paid $|"

-- how the commands ended
abbrev pub ended : List ℕ
ended = bytes "commands: # answered, # unfinished, # not sent; carried out by the device: #|"

abbrev pub sentences : List (List ℕ)
sentences =
    heading_long
    ∷ heading_brief
    ∷ try_one
    ∷ try_many
    ∷ answer_one
    ∷ answer_many
    ∷ whole
    ∷ becomes
    ∷ lost
    ∷ hears_nothing
    ∷ quiet
    ∷ broken
    ∷ repeated
    ∷ carried_out
    ∷ because
    ∷ line_end
    ∷ answered
    ∷ answered_brief
    ∷ content
    ∷ send_again
    ∷ send_again_brief
    ∷ unfinished
    ∷ unfinished_brief
    ∷ not_sent
    ∷ not_sent_brief
    ∷ nothing
    ∷ nothing_brief
    ∷ figures
    ∷ none_open
    ∷ text_open
    ∷ fiscal_open
    ∷ ended
    ∷ displays
    ∷ []

-- SCRIPTS 6: by the number of what is wrong with a line; 6 and 7 are SCRIPTS 8's
abbrev pub wrongs : List (List ℕ)
wrongs =
    bytes "error: line #: it is of no use|"
    ∷ bytes "error: line #: neither a command, which is a number 1 to 255 and its data, nor `try` nor `answer`|"
    ∷ bytes "error: line #: behind `\\` comes t, n, `\\`, or x and two hexadecimal digits|"
    ∷ bytes "error: line #: too long|"
    ∷ bytes "error: line #: a try has a number 1 to 5|"
    ∷ bytes "error: line #: what happens is `lost`, or `byte 7 becomes 00`|"
    ∷ bytes "error: line #: on a real line a script does not say what happens|"
    ∷ bytes "error: line #: UNFINISHED, and what follows is not sent; -k goes on|"
    ∷ []
