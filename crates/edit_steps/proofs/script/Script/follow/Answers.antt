use Rattle.std.proofs.Common.{◌≡◌, ◌<◌, ◌+◌, ℕ, length, get_or, refl, sym, ap, subst, ◌∙◌, arith, Some}
use Rattle.std.specs.Prelude.{slice_get, IfSome}
use Rattle.std.proofs.lemmas.Option.{slice_get_read}
use Rattle.std.proofs.lemmas.Result.{on_ok_weaker, IfOk-weaker}
use Rattle.undo_stack.specs.Undoing.{Undoing}
use Rattle.edit_steps.specs.declared.step.Step.{Step}
use Rattle.edit_steps.specs.Changes.{Histories, histories_behind, change_kind}
use Rattle.edit_steps.specs.Faults.{history_fault}
use Rattle.edit_steps.specs.Script.{Recipe, IsScript, behind, history_at, moment_of}
use Rattle.edit_steps.proofs.KeptLemmas.{behind-present, behind-more, behind-allows}
use Rattle.edit_steps.proofs.script.Script.follow.Goals as goal

-- the step stands at its place
stands : (inside seen : Recipe) (n : ℕ) (step : Step) → inside ≡ seen → n < length seen.steps → step ≡ get_or inside.steps n step → slice_get seen.steps n ≡ Some step
stands inside seen n step is there read =
    let here = subst (λ (r : Recipe). n < length r.steps) (sym is) there in
    subst (λ (r : Recipe). slice_get r.steps n ≡ Some step) is (slice_get_read inside.steps (length inside.steps) n step refl here read)

pub follow-requires : goal.follow-requires
follow-requires c =
    let step = c.index.result.now in
    let at = stands _ c.args.self.now c.args.n step c.self.view_is c.requires.there c.index.ensures in
    ap (λ hs. history_fault hs step) c.requires.before ∙ behind-allows c.args.self.now c.args.n step (subst IsScript c.self.view_is c.self.invariant.script) at

pub returns-clause-behind : goal.returns-clause-behind
returns-clause-behind c =
    let step = c.index.result.now in
    let at = stands _ c.args.self.now c.args.n step c.self.view_is c.requires.there c.index.ensures in
    on_ok_weaker c.follow.result (λ new. new ∙ ap (λ hs. histories_behind hs step) c.requires.before ∙ sym (behind-more c.args.self.now c.args.n step at)) c.follow.ensures.histories

pub returns-clause-present : goal.returns-clause-present
returns-clause-present c =
    let step = c.index.result.now in
    let at = stands _ c.args.self.now c.args.n step c.self.view_is c.requires.there c.index.ensures in
    on_ok_weaker c.follow.result (λ new.
    ap (λ (hs : Histories). hs.present) (new ∙ ap (λ hs. histories_behind hs step) c.requires.before ∙ sym (behind-more c.args.self.now c.args.n step at))
    ∙ behind-present c.args.self.now (c.args.n + 1)) c.follow.ensures.histories

pub returns-clause-kind : goal.returns-clause-kind
returns-clause-kind c =
    let step = c.index.result.now in
    let at = stands _ c.args.self.now c.args.n step c.self.view_is c.requires.there c.index.ensures in
    IfOk-weaker c.follow.result _ _ (λ kind is.
    subst (λ o. IfSome o (λ s. kind ≡ change_kind (behind c.args.self.now c.args.n) s)) (sym at) (is ∙ ap (λ hs. change_kind hs step) c.requires.before)) c.follow.ensures.kind
