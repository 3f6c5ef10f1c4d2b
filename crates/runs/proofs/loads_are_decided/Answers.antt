use Rattle.runs.proofs.Verdict.{decided}
use Rattle.runs.proofs.loads_are_decided.Goals as goal

pub returns : goal.returns
returns c = decided
