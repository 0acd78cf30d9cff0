use Rattle.std.proofs.Common.{ap, arith}
use Rattle.mip_cache.specs.Mipmaps.{Mipmaps}
use Rattle.mip_cache.proofs.HeldLemmas.{held_at-without_same, KeepsOthers-without}
use Rattle.mip_cache.proofs.SlotLemmas.{FitSlots-without}
use Rattle.mip_cache.proofs.mip_state.MipState.abandon.Goals as goal

pub invariant_of-self : goal.invariant_of-self
invariant_of-self c = (
  rw c.take_out.ensures.items (FitSlots-without _ _ _ c.self.invariant.0),
  omega (arith, c.take_out.ensures.capacity, c.self.invariant.1),
)

pub returns-clause-held : goal.returns-clause-held
returns-clause-held c = rw (c.take_out.ensures.items, c.spend.ensures) (held_at-without_same c.args.pass.level c.self.inside.entries.items)

pub returns-clause-others : goal.returns-clause-others
returns-clause-others c =
    let same = ap (λ (m : Mipmaps). m.entries) c.self.view_is in
    rw (c.take_out.ensures.items, c.spend.ensures, ← same) (KeepsOthers-without _ _)
