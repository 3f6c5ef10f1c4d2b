use Rattle.runs.proofs.Replay.{journals_replay}
use Rattle.runs.proofs.journals_replay_their_runs.Goals as goal

pub returns : goal.returns
returns c = journals_replay
