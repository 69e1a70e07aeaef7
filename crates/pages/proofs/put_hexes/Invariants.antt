-- The loop's invariant: with the rest put here, all is put.
use lib.ListN.{drop}
use Rattle.sentences.proofs.Filling.{Rest}
use Rattle.pages.specs.Pages.{each, hex_of}
use Rattle.pages.proofs.put_hexes.Given as goal

abbrev pub invariant-loop-b : goal.invariant-loop-b
invariant-loop-b l = Rest l.initial.buf l.at (each hex_of l.bytes) (each hex_of (drop l.b-index l.bytes)) l.buf l.place
