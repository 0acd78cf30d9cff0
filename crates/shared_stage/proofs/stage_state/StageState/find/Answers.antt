use Rattle.std.proofs.Common.{rules, ◌≡◌, ◌++◌, ◌∷◌, [], option_map}
use Rattle.shared_stage.specs.declared.event.StageEvent.TheVariants.{Find}
use Rattle.shared_stage.proofs.StoryLemmas.{noted}
use Rattle.shared_stage.proofs.stage_state.StageState.find.Goals as goal

pub invariant_of-self-2 : goal.invariant_of-self-2
invariant_of-self-2 c =
    let e = Find c.args.worker c.args.list.now (option_map (λ f. f.0) c.in_ok-found.found) in
    let longer : c.push_reserved.new.self.items ≡ c.self.inside.story.items ++ e ∷ [] = search rules in
    noted c.self.inside.cache c.find.new.self c.self.inside.story.items c.push_reserved.new.self.items e c.self.invariant c.in_ok-found.ensures.stages (c.requires.rising, c.in_ok-found.ensures.index) longer

pub returns-clause-replays : goal.returns-clause-replays
returns-clause-replays c = (invariant_of-self-2 c).replays
