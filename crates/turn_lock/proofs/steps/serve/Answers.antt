use Rattle.std.proofs.Common.{rules, arith, ℕ, ◌≡◌, List, ◌∷◌, Some, sym, ap, ◌∙◌, subst}
use Rattle.atomic_table.specs.Table.{rest}
use Rattle.turn_lock.specs.Story.{StartsWith, added, AllBear}
use Rattle.turn_lock.proofs.Turns.{raises, serves}
use Rattle.turn_lock.proofs.steps.serve.Goals as goal

pub fetch_max-requires : goal.fetch_max-requires
fetch_max-requires g c =
    let view = ap (λ m. m.0) c.exchange.ensures.3 in
    let mark = c.mark_now-mark.ensures.mark in (
      search rules,
      search rules,
      raises g.T.Told.name g.T.Told.story g.T.Told.bearer g.T.Told.mark g.T.Told.most _ _ _ _ _ (g.T.Told.name c.args.value)
          (ap (λ v. v.live) view ∙ c.requires.out.0) (ap (λ v. v.out) view ∙ c.requires.out.1)
          (let seen : c.exchange.new.seat.me.0.mark ≡ c.args.seat.now.me.0.mark = ap (λ v. v.mark) view in omega (arith, c.requires.mark, mark))
          (c.requires.name ∙ sym (ap (λ v. v.name) view)) (omega (arith, mark, c.mark_now-mark.ensures.top)),
    )

pub fetch_add-requires : goal.fetch_add-requires
fetch_add-requires g c =
    let exchanged = c.exchange.ensures.3 in
    let raised = c.fetch_max.ensures.2 in
    let seen : c.fetch_max.new.seat.me.0.seen ≡ c.args.seat.now.me.0.seen = ap (λ m. m.0.seen) raised ∙ ap (λ m. m.0.seen) exchanged in
    let number : c.fetch_max.new.seat.me.0.number ≡ c.args.seat.now.me.0.number = ap (λ m. m.0.number) raised ∙ ap (λ m. m.0.number) exchanged in
    let S : List g.row.T-Entry.Denot → Type 0 = StartsWith (g.T.Told.story c.args.value) in
    let B : ℕ × List g.row.T-Entry.Denot → Type 0 = λ z. AllBear g.T.Told.bearer z.0 (added z.1 (g.T.Told.story c.args.value)) in (
      search rules,
      search rules,
      serves g.T.Told.name g.T.Told.story g.T.Told.bearer g.T.Told.mark g.T.Told.most _ _ _ _ c.args.value
          (ap (λ m. m.0.live) raised ∙ (ap (λ m. m.0.live) exchanged ∙ c.requires.out.0))
          (ap (λ m. m.0.out) raised ∙ (ap (λ m. m.0.out) exchanged ∙ c.requires.out.1))
          (ap (λ m. m.1) raised ∙ (ap (λ m. m.1) exchanged ∙ ap (λ l. (0, Some c.args.value) ∷ rest l) c.requires.slot.1))
          (c.requires.name ∙ sym (ap (λ m. m.0.name) raised ∙ ap (λ m. m.0.name) exchanged))
          (sym c.mark_now-mark.ensures.mark ∙ sym (ap (λ m. m.0.mark) raised))
          (subst S (sym seen) c.requires.story) (subst B (λ i. (sym number i, sym seen i)) c.requires.own),
    )
