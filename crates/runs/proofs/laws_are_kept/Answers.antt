use Rattle.runs.proofs.Sample.{laws_kept}
use Rattle.runs.proofs.laws_are_kept.Goals as goal

pub returns : goal.returns
returns c = laws_kept
