use Rattle.std.proofs.Common.{[], ◌∷◌, ◌++◌, refl, ap, ◌∙◌}
use Rattle.turn_lock.specs.Known.{Known}
use Rattle.shared_mips.specs.declared.index.MipName.{MipName}
use Rattle.shared_mips.specs.declared.event.MipEvent.{MipEvent}
use Rattle.shared_mips.specs.declared.event.MipEvent.TheVariants.{Abandon}
use Rattle.shared_mips.proofs.StoryLemmas.{hold_more}
use Rattle.shared_mips.proofs.TurnLemmas.{goes_on, adds}
use Rattle.shared_mips.proofs.turns.abandon_turn.Goals as goal

pub give-requires-clause-story : goal.give-requires-clause-story
give-requires-clause-story g c = goes_on c.args.pass.now _ c.take-turn.result c.value.result.now c.abandon.new.self _ c.take-turn.ensures.pass c.value.ensures.value c.abandon.ensures.story

pub returns-clause-turned : goal.returns-clause-turned
returns-clause-turned g c =
    let kept = c.abandon.ensures.story
    ∙ ap (λ (e : MipEvent). record c.value.result.now { story = c.value.result.now.story ++ e ∷ [] }) (λ i. Abandon (c.number-worker.ensures.number i) (c.spend-level.ensures i)) in
    let took = c.take-turn.ensures in
    adds c.args.pass.now _ _ c.take-turn.result c.value.result.now c.abandon.new.self (Abandon c.args.pass.now.number c.args.ended.level ∷ []) c.requires.lock.waits took.pass took.story took.own took.mark c.give.ensures c.value.ensures.value kept (refl, tt)

pub returns-clause-held : goal.returns-clause-held
returns-clause-held g c = hold_more c.args.pass.now.own _ (Abandon c.args.pass.now.number c.args.ended.level) (ap (λ (p : Known MipName MipEvent). p.own) (returns-clause-turned g c).pass)
