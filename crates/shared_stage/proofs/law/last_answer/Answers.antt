use Rattle.std.proofs.Common.{[]}
use Rattle.shared_stage.proofs.StoryLemmas.{replays_last}
use Rattle.shared_stage.proofs.law.last_answer.Goals as goal

pub returns : goal.returns
returns c name before e = replays_last name [] before e
