-- PROTOCOL 2.4: a device that is lent too few lines of its sheet: 7, and no byte is taken.
use Rattle.std.specs.Prelude.{None}
use Rattle.line.specs.declared.Call.TheVariants.{Quiet}
use Rattle.kept.specs.declared.Kept.{Kept}
use Rattle.kept.specs.declared.Next.{Next}

-- everything stays, the sheet too
abbrev pub stayed_as : Kept → Next
stayed_as k = record { kept = k; call = Quiet; number = 7; count = 0; shows = None; taken = 0 }
