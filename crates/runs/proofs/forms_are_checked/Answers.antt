use Rattle.runs.proofs.Verdict.{forms_checked}
use Rattle.runs.proofs.forms_are_checked.Goals as goal

pub returns : goal.returns
returns c = forms_checked
