use Rattle.std.proofs.Common.{◌≡◌, Some, sym, ap, subst, ◌∙◌, arith}
use Rattle.mip_cache.specs.declared.entry.Held.TheVariants.{Writing}
use Rattle.mip_cache.specs.Mipmaps.{held_at, after_abandon}
use Rattle.mip_cache.specs.Passes.{WritePassSeen}
use Rattle.level_store.specs.declared.hold.Hold.TheVariants.{Writes}
use Rattle.shared_mips.specs.Story.{hold_in}
use Rattle.shared_mips.specs.Index.{Sheet}
use Rattle.shared_mips.proofs.IndexLemmas.{may_write, room_left, index_abandoned}
use Rattle.shared_mips.proofs.index.MipIndex.abandon.Goals as goal

pub abandon-requires : goal.abandon-requires
abandon-requires c =
    let holds : hold_in c.args.worker c.self.inside.story.items ≡ Some (Writes c.args.level) = ap (λ (s : Sheet). hold_in c.args.worker s.story) c.self.view_is ∙ c.requires.holds in
    subst (λ (p : WritePassSeen). held_at p.level c.self.inside.state.entries ≡ Some (Writing p.worker)) (sym c.of.ensures)
    (may_write _ _ _ c.args.worker c.args.level c.self.invariant c.requires.worker holds)

pub push_reserved-requires : goal.push_reserved-requires
push_reserved-requires c =
    let holds : hold_in c.args.worker c.self.inside.story.items ≡ Some (Writes c.args.level) = ap (λ (s : Sheet). hold_in c.args.worker s.story) c.self.view_is ∙ c.requires.holds in
    omega (arith, c.self.inside.story.ok.0, room_left _ _ _ c.args.worker _ c.self.invariant c.requires.worker holds (omega arith))

pub invariant_of-self : goal.invariant_of-self
invariant_of-self c =
    let holds : hold_in c.args.worker c.self.inside.story.items ≡ Some (Writes c.args.level) = ap (λ (s : Sheet). hold_in c.args.worker s.story) c.self.view_is ∙ c.requires.holds in
    let m = c.self.inside.state in
    let now = c.abandon.ensures.entries ∙ ap (λ (p : WritePassSeen). record { slots = m.slots; entries = after_abandon p.level m.entries }) c.of.ensures in
    index_abandoned m _ _ _ _ _ c.args.worker c.args.level c.self.invariant c.requires.worker holds now c.push_reserved.ensures.items c.push_reserved.ensures.capacity

pub returns-clause-replays : goal.returns-clause-replays
returns-clause-replays c = (invariant_of-self c).replays
