-- The loop's invariant: with the rest put here, all is put.
use lib.ListN.{drop}
use Rattle.sentences.proofs.Filling.{Rest}
use Rattle.pages.specs.Pages.{each, page_letter}
use Rattle.pages.proofs.put_page_letters.Given as goal

abbrev pub invariant-loop-b : goal.invariant-loop-b
invariant-loop-b l = Rest l.initial.buf l.at (each page_letter l.bytes) (each page_letter (drop l.b-index l.bytes)) l.buf l.place
