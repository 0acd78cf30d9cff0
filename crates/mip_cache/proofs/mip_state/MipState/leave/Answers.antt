use Rattle.std.proofs.Common.{◌≡◌, ◌-◌, Option, Some, ap, sym, ◌∙◌, arith}
use Rattle.mip_cache.specs.declared.entry.Held.{Held}
use Rattle.mip_cache.specs.declared.entry.Held.TheVariants.{Ready}
use Rattle.mip_cache.specs.Mipmaps.{Mipmaps, held_at, readers_of}
use Rattle.mip_cache.proofs.HeldLemmas.{held_at-with_held, KeepsOthers-with_held}
use Rattle.mip_cache.proofs.SlotLemmas.{FitSlots-with_held}
use Rattle.mip_cache.proofs.mip_state.MipState.leave.Goals as goal

pub invariant_of-self : goal.invariant_of-self
invariant_of-self c = (
  rw c.set_held.ensures.items (FitSlots-with_held _ _ _ _ c.self.invariant.0),
  omega (arith, c.set_held.ensures.capacity, c.self.invariant.1),
)

pub returns-clause-held : goal.returns-clause-held
returns-clause-held c =
    let same = ap (λ (m : Mipmaps). m.entries) c.self.view_is in
    let told : held_at c.spend-level.result c.self.inside.entries.items ≡ Some (Ready c.in-Some-Ready.readers) = cc (c.deref.ensures.value) in
    let there = rw c.spend-level.ensures at told in
    let there_now = sym (ap (held_at c.args.pass.level) same) ∙ there in
    rw (c.set_held.ensures.items, c.spend-level.ensures) (held_at-with_held c.args.pass.level _ _ c.self.inside.entries.items there ∙ ap (λ (held : Option Held). Some (Ready (readers_of held - 1))) (sym there_now))

pub returns-clause-others : goal.returns-clause-others
returns-clause-others c =
    let same = ap (λ (m : Mipmaps). m.entries) c.self.view_is in
    rw (c.set_held.ensures.items, c.spend-level.ensures, ← same) (KeepsOthers-with_held _ _ _)
