use mathlib.Core.Path.{ap, ◌∙◌}
use lib.ListN.{replicate}
use Rattle.machine.specs.Device.{fresh_fields}
use Rattle.kept.proofs.fresh_kept.Goals as goal

pub returns : goal.returns
returns c =
    ap (λ z. record { device = z; sheet = replicate 512 c.blank_line-line.result }) c.fresh-device.ensures
    ∙ ap (λ z. record { device = fresh_fields; sheet = replicate 512 z }) c.blank_line-line.ensures
