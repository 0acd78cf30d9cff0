use Rattle.std.proofs.Common.{rules, List, ◌++◌, ap, ◌∙◌}
use Rattle.turn_lock.specs.Known.{Known}
use Rattle.shared_mips.specs.declared.index.MipName.{MipName}
use Rattle.shared_mips.specs.declared.event.MipEvent.{MipEvent}
use Rattle.shared_mips.specs.Story.{Replays}
use Rattle.shared_mips.specs.Index.{reach_adds}
use Rattle.shared_mips.proofs.TurnLemmas.{goes_on, adds, reach_bears, reach_held, reach_answers}
use Rattle.shared_mips.proofs.turns.reach_turn.Goals as goal

pub give-requires-clause-story : goal.give-requires-clause-story
give-requires-clause-story g c = goes_on c.args.pass.now _ c.take-turn.result c.value.result.now c.reach-answer.new.self _ c.take-turn.ensures.pass c.value.ensures.value c.reach-answer.ensures.story

pub returns-clause-turned : goal.returns-clause-turned
returns-clause-turned g c =
    let kept = c.reach-answer.ensures.story
    ∙ ap (λ (more : List MipEvent). record c.value.result.now { story = c.value.result.now.story ++ more }) (λ i. reach_adds (c.number-worker.ensures.number i) c.args.level c.reach-answer.result) in
    let took = c.take-turn.ensures in
    adds c.args.pass.now _ _ c.take-turn.result c.value.result.now c.reach-answer.new.self (reach_adds c.args.pass.now.number c.args.level c.reach-answer.result) c.requires.lock.waits took.pass took.story took.own took.mark c.give.ensures c.value.ensures.value kept
    (reach_bears c.args.pass.now.number c.args.level c.reach-answer.result)

pub returns-clause-held : goal.returns-clause-held
returns-clause-held g c = reach_held c.args.pass.now.own _ c.args.pass.now.number c.args.level c.reach-answer.result (ap (λ (p : Known MipName MipEvent). p.own) (returns-clause-turned g c).pass) c.requires.bare

pub returns-clause-answer : goal.returns-clause-answer
returns-clause-answer g c =
    let turn = returns-clause-turned g c in
    let replays : Replays c.args.lock.now.name.slots c.give.new.pass.seen = search rules in
    reach_answers c.args.lock.now.name.slots c.args.pass.now.number c.args.level turn.found c.give.new.pass.seen c.reach-answer.result turn.grew replays
