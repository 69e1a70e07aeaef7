-- PROTOCOL chapter 5: a command on what a device remembers: what the sheet says to it, its rule, and what it leaves.
use Rattle.std.specs.Prelude.{ℕ, Option}
use Rattle.kinds.specs.declared.Command.{Command}
use Rattle.sheet.specs.Searches.{place_of, match_of}
use Rattle.sheet.specs.Notes.{noted}
use Rattle.rules.specs.Rules.{Rule, rule_of}
use Rattle.rules.specs.Searches.{search_for}
use Rattle.rules.specs.Views.{view_of}
use Rattle.rules.specs.declared.views.View.{View}
use Rattle.deeds.specs.Deeds.{deed_of}
use Rattle.deeds.specs.declared.Deed.{Deed}
use Rattle.store.specs.Store.{Store}

-- PROTOCOL 5.4: where the search of the sheet ends, and what it brings
abbrev pub place_for : Store → View → ℕ
place_for s v = place_of s.sheet (search_for s.books v)

abbrev pub match_for : Store → View → Option ℕ
match_for s v = match_of s.sheet (search_for s.books v)

-- PROTOCOL chapter 5: the rule of a command, and what comes of it
abbrev pub rule_for : Store → Command → Rule
rule_for s c = rule_of s.books (match_for s (view_of c)) (view_of c)

abbrev pub deed_on : Store → View → Deed
deed_on s v = deed_of s.books (match_for s v) v

-- PROTOCOL 5.3, 5.4: the deed's books, and its note in the sheet: `at` is the place of the line found, the next line's is the number of lines before it;
-- the guard is moved apart from them (5.20)
abbrev pub left_by : Store → (at : ℕ) → Deed → Store
left_by s at d = record { books = d.books; sheet = noted s.sheet at s.books.receipt.lines d.note; guard = s.guard }

abbrev pub left_on : Store → View → Store
left_on s v = left_by s (place_for s v) (deed_on s v)
