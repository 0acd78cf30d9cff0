use Rattle.std.proofs.Common.{◌≡◌, ◌<◌, length, ap, arith, Some, None}
use Rattle.mip_cache.specs.declared.entry.Held.TheVariants.{Ready}
use Rattle.mip_cache.specs.Mipmaps.{Mipmaps, held_at}
use Rattle.mip_cache.proofs.HeldLemmas.{KeepsOthers-first, KeepsOthers-without}
use Rattle.mip_cache.proofs.SlotLemmas.{FitSlots-front, FitSlots-new, length-without_some}
use Rattle.mip_cache.proofs.mip_state.MipState.reach.Goals as goal

pub put_first-requires : goal.put_first-requires
put_first-requires c =
    let there : held_at c.args.level c.self.inside.entries.items ≡ Some (Ready c.in-Some-Ready.readers) = cc (c.deref.ensures.value) in
    let few = length-without_some c.self.inside.slots c.args.level _ c.self.inside.entries.items c.self.invariant.0 there in
    omega (arith, few, ap length c.take_out.ensures.items, c.take_out.ensures.capacity, c.self.invariant.1)

pub invariant_of-self : goal.invariant_of-self
invariant_of-self c =
    let there : held_at c.args.level c.self.inside.entries.items ≡ Some (Ready c.in-Some-Ready.readers) = cc (c.deref.ensures.value) in (
      rw (c.put_first.ensures.items, c.take_out.ensures.items) (FitSlots-front _ c.args.level _ _ _ (c.requires.some_level, c.requires.few_levels) c.self.invariant.0 there),
      omega (arith, c.put_first.ensures.capacity, c.take_out.ensures.capacity, c.self.invariant.1),
    )

pub invariant_of-self-then-len-self : goal.invariant_of-self-then-len-self
invariant_of-self-then-len-self c =
    let none : held_at c.args.level c.self.inside.entries.items ≡ None = cc (c.deref.ensures.value) in
    let room : length c.self.inside.entries.items < c.self.inside.slots = omega (arith, c.len.ensures, c.if-len-self.true) in (
      rw c.put_first-in-None.ensures.items (FitSlots-new _ c.args.level _ _ (c.requires.some_level, c.requires.few_levels) c.self.invariant.0 none room),
      omega (arith, c.put_first-in-None.ensures.capacity, c.self.invariant.1),
    )

pub returns-in-Some-Ready-clause-others : goal.returns-in-Some-Ready-clause-others
returns-in-Some-Ready-clause-others c =
    let same = ap (λ (m : Mipmaps). m.entries) c.self.view_is in
    rw (c.put_first.ensures.items, c.take_out.ensures.items, ← same) (KeepsOthers-first _ _ _ _ (KeepsOthers-without _ _))
