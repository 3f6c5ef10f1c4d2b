use Rattle.std.proofs.Common.{eqb, List, ap, ◌∙◌}
use Rattle.std.specs.List.{list_any}
use Rattle.replay.specs.declared.place.Checkpoint.{Checkpoint}
use Rattle.checkpoints.proofs.Lists.{has_any}
use Rattle.checkpoints.proofs.table.Checkpoints.holds.Goals as goal

pub returns : goal.returns
returns c K =
    c.is_among.ensures
    ∙ ap (λ (rows : List Checkpoint). list_any (λ (w : Checkpoint). eqb w.unit c.args.unit) rows) c.as_slice.ensures.value
    ∙ has_any K c.args.unit c.args.self.now.rows.items
