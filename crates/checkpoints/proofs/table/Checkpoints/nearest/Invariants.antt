use Rattle.std.proofs.Common.{◌≡◌, map, take}
use Rattle.machine.specs.Kinds.{Kind}
use Rattle.replay.specs.Cursors.{held}
use Rattle.replay.specs.Positions.{Position}
use Rattle.checkpoints.specs.Nearest.{nearest, first_or}
use Rattle.checkpoints.specs.Rows.{kept, aim}
use Rattle.checkpoints.proofs.table.Checkpoints.nearest.Given as goal

abbrev pub invariant-loop-row : goal.invariant-loop-row
invariant-loop-row g l =
    (K : Kind) (d : Position) → held K l.best ≡ nearest g.L.Landmark.marking (aim g.L.Landmark.meaning l.target) (first_or d (kept K l.self)) (map (held K) (take l.row-index l.rows))
