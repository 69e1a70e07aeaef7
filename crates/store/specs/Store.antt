-- PROTOCOL 8.3: what commands work on, and so what a device remembers from one to the next. DECISIONS 63: whatever else commands come to work on is a field
-- here.
use Rattle.std.specs.Prelude.{List}
use Rattle.guard.specs.Guard.{fresh_guard, calmed}
use Rattle.guard.specs.declared.Guard.{Guard}
use Rattle.sheet.specs.declared.Line.{Line}
use Rattle.books.specs.Books.{fresh_books}
use Rattle.books.specs.declared.Books.{Books}

pub record Store : Type 0 where
  pub books : Books
  -- PROTOCOL 8.8: the lines of the newest fiscal receipt
  pub sheet : List Line
  -- PROTOCOL 5.20: passwords and names, and the count of wrong passwords
  pub guard : Guard

-- PROTOCOL 8.4, 8.8: a fresh device's, whatever the sheet held that it is lent
abbrev pub fresh_store : List Line → Store
fresh_store sheet = record { books = fresh_books; sheet = sheet; guard = fresh_guard }

-- the same books and sheet with another guard
abbrev pub with_guard : Store → Guard → Store
with_guard s g = record { books = s.books; sheet = s.sheet; guard = g }

-- PROTOCOL 8.9: switched on anew, it remembers all but the count of wrong passwords, and with it the lock: an open receipt too
abbrev pub store_anew : Store → Store
store_anew s = with_guard s (calmed s.guard)
