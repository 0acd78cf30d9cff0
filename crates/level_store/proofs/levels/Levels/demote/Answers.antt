use Rattle.std.proofs.Common.{Some, None, sym, ap, subst, ◌∙◌}
use Rattle.std.specs.Prelude.{slice_set}
use Rattle.std.proofs.lemmas.List.{set-set}
use Rattle.mip_cache.specs.Passes.{ReadPassSeen}
use Rattle.level_store.specs.declared.hold.Hold.TheVariants.{Reads}
use Rattle.level_store.specs.Agreement.{Agree}
use Rattle.level_store.proofs.AgreeLemmas.{agree_demoted}
use Rattle.level_store.proofs.levels.Levels.demote.Goals as goal

pub invariant_of-self : goal.invariant_of-self
invariant_of-self c =
    let holds = c.self.inside.holds in
    let w = c.args.worker in
    let read = c.demote-read.result in
    let pass = c.take_write-pass.result in
    let after = c.put.ensures
    ∙ ap (λ hs. slice_set hs w (Some (Reads read.level))) c.take_write-pass.ensures.bare
    ∙ set-set holds w None (Some (Reads read.level))
    ∙ ap (λ (p : ReadPassSeen). slice_set holds w (Some (Reads p.level))) c.demote-read.ensures.answer in
    subst (Agree c.demote-read.new.self.entries) (sym after)
    (agree_demoted c.self.inside.mips.entries c.demote-read.new.self.entries holds w pass.level c.self.invariant c.take_write-pass.ensures.held c.demote-read.ensures.held c.demote-read.ensures.others)
