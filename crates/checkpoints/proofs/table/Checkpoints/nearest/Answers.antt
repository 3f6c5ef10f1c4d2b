use Rattle.std.proofs.Common.{true, false, sym, ◌∙◌}
use Rattle.checkpoints.specs.Nearest.{first_or}
use Rattle.checkpoints.specs.Rows.{kept, aim}
use Rattle.checkpoints.proofs.Lists.{one_more}
use Rattle.checkpoints.proofs.table.Checkpoints.nearest.Goals as goal
use Rattle.checkpoints.proofs.table.Checkpoints.nearest.Goals.{then-is_closer, else-is_closer}

pub loop-row-preserved : goal.loop-row-preserved
loop-row-preserved g c K d =
    let more = one_more K g.L.Landmark.marking (aim g.L.Landmark.meaning c.args.target) c.as_slice-rows.result.now c.loop-row.row-index (first_or d (kept K c.args.self.now)) c.loop-row.best.now c.row-item.result in
    elim c.if-is_closer.branch [
      | then-is_closer w ↦ rw w.best-is (more true c.loop-row-test.true c.row-item.is (sym w.if-is_closer.true ∙ c.is_closer.ensures K) (c.loop-row.invariant K d))
      | else-is_closer w ↦ rw w.best-is (more false c.loop-row-test.true c.row-item.is (sym w.if-is_closer.false ∙ c.is_closer.ensures K) (c.loop-row.invariant K d))
    ]
