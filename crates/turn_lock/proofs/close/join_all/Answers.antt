use Rattle.std.proofs.Common.{rules, ◌∷◌, Some, ap, ◌∙◌}
use Rattle.std.proofs.lemmas.List.Elements.{All-pop}
use Rattle.turn_lock.specs.Passes.{IsResting}
use Rattle.turn_lock.specs.Ending.{joined_of}
use Rattle.turn_lock.proofs.Joins.{joins}
use Rattle.turn_lock.proofs.Gathering.{kept_more, seat_more}
use Rattle.turn_lock.proofs.close.join_all.Goals as goal

pub join_seat-requires : goal.join_seat-requires
join_seat-requires g c =
    let first = c.loop-pass.invariant.seat in
    let idle = (All-pop (IsResting (record { table = c.args.board.now.table_id; seats = c.args.seats })) _ _ (Some c.in-Some.pass) c.in-Some.ensures.items c.loop-pass.invariant.idle).1 in
    let waits = c.pass.invariant.waiting (ap (λ p. p.out) c.pass.view_is ∙ idle.1) in (
      search rules,
      ap (λ p. p.lock.table) c.pass.view_is ∙ ap (λ l. l.table) idle.0,
      waits.2,
      search rules,
      joins g.T.Told.name g.T.Told.story g.T.Told.bearer g.T.Told.mark g.T.Told.most _ _ _ _ _
          (ap (λ m. m.0.live) first ∙ c.requires.first.live) (ap (λ m. m.0.number) first ∙ c.requires.first.numbered) (ap (λ m. m.0.out) first ∙ c.requires.first.out) c.pass.invariant.live waits.0 waits.1,
    )

pub loop-pass-preserved : goal.loop-pass-preserved
loop-pass-preserved g c =
    let old = c.loop-pass.invariant in
    let joined_now = c.join_seat.ensures.2 in record {
      table = search rules;
      seat = seat_more c.args.seat.now.me c.loop-pass.seat.me c.join_seat.new.seat.me c.pass.inside.seat.me.0 old.seat joined_now;
      kept = kept_more _ _ c.in-Some.pass _ _ _ c.in-Some.ensures.items old.kept (ap (λ m. m.0.kept) joined_now ∙ ap (λ p. joined_of p ∷ c.loop-pass.seat.me.0.kept) c.pass.view_is);
      idle = (All-pop (IsResting (record { table = c.args.board.now.table_id; seats = c.args.seats })) _ _ (Some c.in-Some.pass) c.in-Some.ensures.items old.idle).0;
    }
