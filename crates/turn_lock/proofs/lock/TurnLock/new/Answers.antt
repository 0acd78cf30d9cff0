use Rattle.std.proofs.Common.{arith, ◌≡◌, ◌-◌, ◌<◌, sym, ap, ◌∙◌, length, map, vec_len, vec_capacity, ◌∷◌, true, false}
use Rattle.std.proofs.lemmas.List.FromFn.{length-map-range_with_len}
use Rattle.std.specs.List.{range_with_len}
use Rattle.turn_lock.specs.Known.{fresh}
use Rattle.turn_lock.specs.Passes.{known_of}
use Rattle.turn_lock.proofs.Joins.{opens}
use Rattle.turn_lock.proofs.Dealing.{all_fresh, at_front}
use Rattle.turn_lock.proofs.lock.TurnLock.new.Goals as goal

pub vacant-requires : goal.vacant-requires
vacant-requires g c = opens g.T.Told.name g.T.Told.story g.T.Told.bearer g.T.Told.mark g.T.Told.most (g.T.Told.name c.args.value)

pub unreachable-requires : goal.unreachable-requires
unreachable-requires g c =
    let n : length c.deal.new.passes.items ≡ c.args.seats - 1 = ap length c.deal.ensures.passes ∙ length-map-range_with_len _ 1 (c.args.seats - 1) in
    let room : vec_len c.deal.new.passes < vec_capacity c.deal.new.passes = omega (arith, n, c.deal.new.passes.ok.0, c.deal.ensures.capacity, c.in_ok-passes.ensures.capacity) in
    let no : false ≡ true = c.in_default.ensures.succeeds room in cc

pub returns-clause-passes : goal.returns-clause-passes
returns-clause-passes g c =
    let n : length c.deal.new.passes.items ≡ c.args.seats - 1 = ap length c.deal.ensures.passes ∙ length-map-range_with_len _ 1 (c.args.seats - 1) in
    let room : vec_len c.deal.new.passes < vec_capacity c.deal.new.passes = omega (arith, n, c.deal.new.passes.ok.0, c.deal.ensures.capacity, c.in_ok-passes.ensures.capacity) in
    let table = c.in_ok-table.ensures in
    at_front c.insert.result _ _ _ (c.insert.ensures.succeeds room) c.insert.ensures.items
    ∙ ((λ i. known_of c.deal.new.seat.table_id c.args.seats c.deal.new.seat.me.0 ∷ c.deal.ensures.passes i)
    ∙ all_fresh c.in_ok-table.table.shared.table_id _ _ c.args.seats _ _ c.begin.ensures.seat.0 c.begin.new.seat.me c.deal.new.seat.me (omega arith) (c.begin.ensures.table ∙ table.2) (c.deal.ensures.table ∙ (c.begin.ensures.table ∙ table.2)) c.begin.ensures.seat.2 c.deal.ensures.seat)
    ∙ ap (λ k. map (fresh (record { id = record { table = c.in_ok-table.table.shared.table_id; seats = c.args.seats }; name = g.T.Told.name k }) (g.T.Told.mark c.args.value)) (range_with_len 0 c.args.seats)) (sym table.5)
