use Rattle.runs.proofs.Lamp.{trails_exact}
use Rattle.runs.proofs.trails_are_exact.Goals as goal

pub returns : goal.returns
returns c = trails_exact
