use Rattle.std.proofs.Common.{List, [], ◌∷◌, ◌++◌, ap, ◌∙◌, arith}
use Rattle.shared_mips.specs.declared.event.MipEvent.{MipEvent}
use Rattle.shared_mips.specs.declared.event.MipEvent.TheVariants.{Evict}
use Rattle.shared_mips.proofs.IndexLemmas.{index_evicted}
use Rattle.shared_mips.proofs.index.MipIndex.evict_one.Goals as goal

pub invariant_of-self-2 : goal.invariant_of-self-2
invariant_of-self-2 c =
    let went = c.evict_one-answer.ensures in
    let longer = c.push_reserved.ensures.items ∙ ap (λ (l : List MipEvent). l ++ Evict c.args.worker c.evict_one-answer.result ∷ []) c.reserve.ensures.items in
    index_evicted c.self.inside.state _ c.self.inside.story.items _ _ _ c.args.worker c.evict_one-answer.result c.self.invariant c.requires went.answer went.entries went.unread went.gone went.others longer
    (omega (arith, c.in_ok-reserve.ensures.ok, c.reserve.ensures.len, c.push_reserved.ensures.capacity, c.self.inside.story.ok.0))

pub returns-clause-replays : goal.returns-clause-replays
returns-clause-replays c = (invariant_of-self-2 c).replays
