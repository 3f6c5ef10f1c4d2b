use Rattle.runs.proofs.Naming.{landmarks_told}
use Rattle.runs.proofs.landmarks_are_told.Goals as goal

pub returns : goal.returns
returns c = landmarks_told
