use Rattle.runs.proofs.Verdict.{breaks_found}
use Rattle.runs.proofs.breaks_are_found.Goals as goal

pub returns : goal.returns
returns c = breaks_found
