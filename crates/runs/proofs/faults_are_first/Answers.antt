use Rattle.runs.proofs.Form.{faults_first}
use Rattle.runs.proofs.faults_are_first.Goals as goal

pub returns : goal.returns
returns c = faults_first
