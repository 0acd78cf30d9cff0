use Rattle.std.proofs.Common.{◌∙◌, ap, [], drop}
use Rattle.pipe_nodes.specs.declared.show.Show.{Show}
use Rattle.stage_run.specs.Asked.{prefixes}
use Rattle.pipe_worker.proofs.Working.{asks}
use Rattle.pipe_worker.proofs.begin.stages_of.Goals as goal

pub returns : goal.returns
returns c =
    asks c.args.job.now c.args.pieces.now c.args.regions.now c.in_ok-stages.stages.items c.requires (c.in_ok-stages.ensures ∙ ap (λ (x : Show). prefixes x.level [] c.args.pieces.now (drop 1 c.args.regions.now)) c.show.ensures.show)
