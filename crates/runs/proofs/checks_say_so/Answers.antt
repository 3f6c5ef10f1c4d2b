use Rattle.runs.proofs.Example.{checks_so}
use Rattle.runs.proofs.checks_say_so.Goals as goal

pub returns : goal.returns
returns c = checks_so
