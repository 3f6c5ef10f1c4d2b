use Rattle.runs.proofs.Example.{calls_so}
use Rattle.runs.proofs.calls_say_so.Goals as goal

pub returns : goal.returns
returns c = calls_so
