use Rattle.std.proofs.Common.{◌≡◌, List, [], ◌∷◌, ◌++◌, None, ap, ◌∙◌, arith}
use Rattle.level_store.specs.Levels.{reached_answer}
use Rattle.shared_mips.specs.declared.event.MipEvent.{MipEvent}
use Rattle.shared_mips.specs.declared.event.MipEvent.TheVariants.{Reach}
use Rattle.shared_mips.specs.Story.{hold_in}
use Rattle.shared_mips.specs.Index.{Sheet}
use Rattle.shared_mips.proofs.IndexLemmas.{may_reach, index_reached}
use Rattle.shared_mips.proofs.index.MipIndex.reach.Goals as goal

pub reach-requires-clause-other : goal.reach-requires-clause-other
reach-requires-clause-other c =
    let bare : hold_in c.args.worker c.self.inside.story.items ≡ None = ap (λ (s : Sheet). hold_in c.args.worker s.story) c.self.view_is ∙ c.requires.bare in
    may_reach _ _ _ c.args.worker c.args.level c.self.invariant c.requires.worker bare

pub invariant_of-self-2 : goal.invariant_of-self-2
invariant_of-self-2 c =
    let bare : hold_in c.args.worker c.self.inside.story.items ≡ None = ap (λ (s : Sheet). hold_in c.args.worker s.story) c.self.view_is ∙ c.requires.bare in
    let m = c.self.inside.state in
    let told = c.told-answer.ensures ∙ ap reached_answer c.reach.ensures.answer in
    let longer = c.push_reserved.ensures.items ∙ ap (λ (l : List MipEvent). l ++ Reach c.args.worker c.args.level c.told-answer.result ∷ []) c.reserve.ensures.items in
    index_reached m _ c.self.inside.story.items _ _ _ c.args.worker c.args.level c.told-answer.result c.self.invariant c.requires.worker c.requires.level bare told c.reach.ensures.entries longer
    (omega (arith, c.in_ok-reserve.ensures.ok, c.reserve.ensures.len, c.push_reserved.ensures.capacity, c.self.inside.story.ok.0))

pub returns-clause-replays : goal.returns-clause-replays
returns-clause-replays c = (invariant_of-self-2 c).replays
