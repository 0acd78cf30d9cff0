use Rattle.std.proofs.Common.{◌≡◌, sym, ap, ◌∙◌}
use Rattle.std.proofs.lemmas.List.Elements.{All-contains}
use Rattle.turn_lock.specs.Known.{IsIdle}
use Rattle.turn_lock.specs.Passes.{IsResting}
use Rattle.turn_lock.proofs.Gathering.{all_kept, has_all, all_left}
use Rattle.turn_lock.proofs.lock.TurnLock.close.Goals as goal

pub join_all-requires-clause-idle : goal.join_all-requires-clause-idle
join_all-requires-clause-idle g c =
    let here = ap (λ l. l.id) c.self.view_is in
    all_kept (IsResting (record { table = c.self.inside.table.shared.table_id; seats = c.self.inside.seats })) _ _ c.take_first.ensures.kept (λ k d h. let i = c.requires.idle k d h in (i.is_of.lock_is ∙ sym here, i.waits))

pub take_out-requires-clause-all : goal.take_out-requires-clause-all
take_out-requires-clause-all g c =
    let first = c.take_first.ensures in
    let idle = All-contains (IsIdle c.args.self) c.args.passes.items c.take_first.result c.requires.idle first.first in
    let number : c.seat.inside.number ≡ 0 = sym c.seat.invariant.numbered ∙ (ap (λ p. p.number) c.seat.view_is ∙ first.number) in
    let count = ap (λ m. m.0.count) c.join_all.ensures.seat ∙ (c.seat.invariant.count number ∙ (ap (λ p. p.lock.seats) c.seat.view_is ∙ ap (λ l. l.seats) idle.is_of.lock_is)) in
    has_all _ _ c.take_first.result c.join_all.new.seat.me.0 _ first.number (ap (λ m. m.0.kept) c.join_all.ensures.seat) first.others c.args.self.id.seats count c.requires.all

pub returns-clause-passes : goal.returns-clause-passes
returns-clause-passes g c =
    let first = c.take_first.ensures in
    let joined = c.join_all.ensures.seat in
    all_left _ _ c.take_first.result c.join_all.new.seat.me.0 _ first.number (ap (λ m. m.0.kept) joined) first.others g.T.Told.name g.T.Told.story g.T.Told.bearer _ c.take_out.result c.take_out.ensures
    (ap (λ m. m.0.seen) joined ∙ ap (λ p. p.seen) c.seat.view_is) (ap (λ m. m.0.own) joined ∙ ap (λ p. p.own) c.seat.view_is)
