use Rattle.std.proofs.Common.{rules, ◌≡◌, ◌++◌, ◌∷◌, []}
use Rattle.shared_stage.specs.declared.event.StageEvent.TheVariants.{Keep}
use Rattle.shared_stage.proofs.StoryLemmas.{noted}
use Rattle.shared_stage.proofs.stage_state.StageState.keep.Goals as goal

pub invariant_of-self-2 : goal.invariant_of-self-2
invariant_of-self-2 c =
    let s = c.args.stage in
    let e = Keep c.args.worker s.prefix s.plane.area c.in_ok-answer.answer in
    let longer : c.push_reserved.new.self.items ≡ c.self.inside.story.items ++ e ∷ [] = search rules in
    noted c.self.inside.cache c.keep.new.self c.self.inside.story.items c.push_reserved.new.self.items e c.self.invariant c.in_ok-answer.ensures.stages c.in_ok-answer.ensures.answer longer

pub returns-clause-replays : goal.returns-clause-replays
returns-clause-replays c = (invariant_of-self-2 c).replays
