use Rattle.std.proofs.Common.{rules, List, ◌++◌, sym, ap, ◌∙◌}
use Rattle.turn_lock.specs.Known.{Known}
use Rattle.shared_mips.specs.declared.index.MipName.{MipName}
use Rattle.shared_mips.specs.declared.event.MipEvent.{MipEvent}
use Rattle.shared_mips.specs.Story.{Replays}
use Rattle.shared_mips.specs.Index.{evict_adds}
use Rattle.shared_mips.specs.Chosen.{chosen_level}
use Rattle.shared_mips.proofs.TurnLemmas.{goes_on, adds, evict_bears, evict_held, evict_answers}
use Rattle.shared_mips.proofs.turns.evict_turn.Goals as goal

pub give-requires-clause-story : goal.give-requires-clause-story
give-requires-clause-story g c = goes_on c.args.pass.now _ c.take-turn.result c.value.result.now c.evict_one-answer.new.self _ c.take-turn.ensures.pass c.value.ensures.value c.evict_one-answer.ensures.story

pub returns-clause-turned : goal.returns-clause-turned
returns-clause-turned g c =
    let kept = c.evict_one-answer.ensures.story
    ∙ ap (λ (more : List MipEvent). record c.value.result.now { story = c.value.result.now.story ++ more }) (λ i. evict_adds (c.number-worker.ensures.number i) (sym c.of.ensures i)) in
    let took = c.take-turn.ensures in
    adds c.args.pass.now _ _ c.take-turn.result c.value.result.now c.evict_one-answer.new.self (evict_adds c.args.pass.now.number (chosen_level c.of.result)) c.requires.waits took.pass took.story took.own took.mark c.give.ensures c.value.ensures.value kept
    (evict_bears c.args.pass.now.number (chosen_level c.of.result))

pub returns-clause-held : goal.returns-clause-held
returns-clause-held g c = evict_held c.args.pass.now.own _ c.args.pass.now.number (chosen_level c.of.result) (ap (λ (p : Known MipName MipEvent). p.own) (returns-clause-turned g c).pass)

pub returns-clause-answer : goal.returns-clause-answer
returns-clause-answer g c =
    let turn = returns-clause-turned g c in
    let replays : Replays c.args.lock.now.name.slots c.give.new.pass.seen = search rules in
    evict_answers c.args.lock.now.name.slots c.args.pass.now.number turn.found c.give.new.pass.seen (chosen_level c.of.result) turn.grew replays
