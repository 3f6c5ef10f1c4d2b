use Rattle.runs.proofs.TheLaw.{the_law}
use Rattle.runs.proofs.recordings_keep_the_law.Goals as goal

pub returns : goal.returns
returns c = the_law
