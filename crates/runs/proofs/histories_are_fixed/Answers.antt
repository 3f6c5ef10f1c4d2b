use Rattle.runs.proofs.Fixed.{histories_fixed}
use Rattle.runs.proofs.histories_are_fixed.Goals as goal

pub returns : goal.returns
returns c = histories_fixed
