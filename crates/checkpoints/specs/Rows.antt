-- The table of checkpoints, as the list of the positions that it holds.
use Rattle.std.specs.Prelude.{cond, List, [], ◌∷◌, ◌++◌, map, length, nat_lt}
use Rattle.machine.specs.Kinds.{Kind}
use Rattle.landmark.specs.declared.Code.{Code}
use Rattle.replay.specs.Positions.{Position}
use Rattle.replay.specs.Cursors.{held}
use Rattle.checkpoints.specs.declared.table.Checkpoints.{Checkpoints}
use Rattle.checkpoints.specs.declared.table.Target.{Target}
use Rattle.checkpoints.specs.declared.table.Target.TheVariants.{Unit as AtUnit, Mark}
use Rattle.checkpoints.specs.Nearest.{Aim, to_unit, to_code}

-- the positions of the rows
abbrev pub kept : Kind → Checkpoints → List Position
kept K t = map (held K) t.rows.items

-- one position more, where there is room
abbrev pub with_position : List Position → Position → List Position
with_position ps p = cond (nat_lt (length ps) 8) (ps ++ (p ∷ [])) ps

-- the aim of a target
abbrev pub aim : {L : Type 0} → (L → Code) → Target L → Aim
aim code (AtUnit v) = to_unit v
aim code (Mark l) = to_code (code l)
