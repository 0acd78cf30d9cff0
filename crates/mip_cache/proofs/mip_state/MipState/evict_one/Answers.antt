use Rattle.std.proofs.Common.{◌≡◌, Some, None, refl, ap, sym, ◌∙◌, arith}
use Rattle.mip_cache.specs.Mipmaps.{Mipmaps, held_at, evict_answer}
use Rattle.mip_cache.proofs.EntryLemmas.{evict_answer-none}
use Rattle.mip_cache.proofs.HeldLemmas.{held_at-evicted, held_at-without_same, KeepsOthers-without}
use Rattle.mip_cache.proofs.SlotLemmas.{FitSlots-without}
use Rattle.mip_cache.proofs.mip_state.MipState.evict_one.Goals as goal

pub invariant_of-self : goal.invariant_of-self
invariant_of-self c = (
  rw c.take_out.ensures.items (FitSlots-without _ _ _ c.self.invariant.0),
  omega (arith, c.take_out.ensures.capacity, c.self.invariant.1),
)

pub returns-clause-unread : goal.returns-clause-unread
returns-clause-unread c =
    let same = ap (λ (m : Mipmaps). m.entries) c.self.view_is in
    let goes : evict_answer c.self.inside.entries.items ≡ Some c.in_ok-level.level = cc (c.in_ok-level.ensures, ap evict_answer c.deref.ensures.value) in
    sym (ap (held_at c.in_ok-level.level) same) ∙ held_at-evicted _ _ _ c.self.invariant.0 goes

pub returns-clause-gone : goal.returns-clause-gone
returns-clause-gone c = rw c.take_out.ensures.items (held_at-without_same c.in_ok-level.level c.self.inside.entries.items)

pub returns-clause-others : goal.returns-clause-others
returns-clause-others c =
    let same = ap (λ (m : Mipmaps). m.entries) c.self.view_is in
    rw (c.take_out.ensures.items, ← same) (KeepsOthers-without _ _)

pub returns-in_err-level-clause-none : goal.returns-in_err-level-clause-none
returns-in_err-level-clause-none c =
    let none : evict_answer c.args.self.now.entries ≡ None = cc (c.in_err-level.ensures, ap evict_answer c.deref.ensures.value, ap (λ (m : Mipmaps). evict_answer m.entries) c.self.view_is) in
    (λ _. evict_answer-none c.args.self.now.entries none, λ _. rw c.from_residual.ensures refl)
