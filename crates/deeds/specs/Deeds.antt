-- PROTOCOL chapter 5: a command judged by its rule, and done where it has no reason against it.
use Rattle.std.specs.Prelude.{ℕ, cond, Option}
use Rattle.kinds.specs.declared.Command.{Command}
use Rattle.sheet.specs.declared.Note.{Note}
use Rattle.sheet.specs.declared.Note.TheVariants as note
use Rattle.books.specs.declared.Books.{Books}
use Rattle.books.specs.declared.Shown.{Shown}
use Rattle.books.specs.declared.Shown.TheVariants as shown
use Rattle.deeds.specs.declared.Deed.{Deed}
use Rattle.rules.specs.declared.views.View.{View}
use Rattle.rules.specs.Views.{view_of}
use Rattle.rules.specs.Rules.{Rule, rule_of}

-- PROTOCOL 2.3, 5.1: a refusal changes nothing, and its answer has no data
abbrev pub refused_with : ℕ → Books → Deed
refused_with number b = record { number = number; books = b; shown = shown.Nothing; note = note.Nothing }

-- PROTOCOL 2.1: done is number 0. Only a line, and a 48, leave something in the sheet
abbrev pub done_with : Books → Shown → Note → Deed
done_with b s n = record { number = 0; books = b; shown = s; note = n }

abbrev pub done : Books → Shown → Deed
done b s = done_with b s note.Nothing

-- PROTOCOL 2.2: a reason for 1, then one for 3, then one for 4, else it is done
abbrev pub judged : Books → Rule → Deed
judged b r =
    cond r.one (refused_with 1 b)
    (cond r.three (refused_with 3 b)
    (cond r.four (refused_with 4 b)
    (done_with r.after r.shows r.note)))

abbrev pub deed_of : Books → Option ℕ → View → Deed
deed_of b m v = judged b (rule_of b m v)

abbrev pub carried_out : Books → Option ℕ → Command → Deed
carried_out b m c = deed_of b m (view_of c)
