use Rattle.std.proofs.Common.{rules, arith, ℕ, ◌+◌, ◌-◌, ◌≡◌, ap, sym, ◌∙◌, length, [], ◌∷◌, ◌++◌, map}
use Rattle.std.proofs.lemmas.List.FromFn.{length-map-range_with_len, map-range_with_len_more}
use Rattle.std.specs.List.{range_with_len}
use Rattle.turn_lock.specs.Known.{Known}
use Rattle.turn_lock.specs.Steps.{dealer}
use Rattle.turn_lock.specs.Passes.{known_of}
use Rattle.turn_lock.proofs.Joins.{deals}
use Rattle.turn_lock.proofs.Dealing.{counted, dealt_known}
use Rattle.turn_lock.proofs.deal.deal.Goals as goal

pub loop-number-init : goal.loop-number-init
loop-number-init g c = record {
  table = search rules;
  seat = counted c.args.seat.now.me 1 c.requires.first.0.count c.requires.first.1;
  passes = c.requires.room.0;
  capacity = search rules;
}

pub split_seat-theirs-requires : goal.split_seat-theirs-requires
split_seat-theirs-requires g c =
    let same = c.loop-number.invariant.seat in
    (search rules, search rules, deals g.T.Told.name g.T.Told.story g.T.Told.bearer g.T.Told.mark g.T.Told.most _ _ _ (ap (λ m. m.0.live) same ∙ c.requires.first.0.live) (ap (λ m. m.0.number) same ∙ c.requires.first.0.numbered))

pub push_reserved-requires : goal.push_reserved-requires
push_reserved-requires g c =
    let n : length c.loop-number.passes.items ≡ c.loop-number.number - 1 = ap length c.loop-number.invariant.passes ∙ length-map-range_with_len _ 1 (c.loop-number.number - 1) in
    omega (arith, n, c.loop-number.passes.ok.0, c.requires.room.1)

pub loop-number-preserved : goal.loop-number-preserved
loop-number-preserved g c =
    let old = c.loop-number.invariant in
    let cut = c.split_seat-theirs.ensures in
    let n = c.loop-number.number in
    let K : Type 0 = Known g.row.T-Name.Denot g.row.T-Entry.Denot in
    let numbered : ℕ → K = λ k. record (known_of c.args.seat.now.table_id c.args.seats c.args.seat.now.me.0) { number = k } in
    let made = dealt_known c.args.seat.now.table_id c.split_seat-theirs.result.table_id c.args.seats n c.args.seat.now.me.0 c.loop-number.seat.me c.split_seat-theirs.result.me c.requires.first.0 (cut.3 ∙ old.table) old.seat cut.4 in
    let next : n - 1 + 1 ≡ n + 1 - 1 = omega arith in
    let after : 1 + (n - 1) ≡ n = omega arith in record {
      table = search rules;
      seat = cut.2 ∙ ap (λ m. (dealer m.0, m.1)) old.seat;
      passes = c.push_reserved.ensures.items ∙ ((λ i. old.passes i ++ made i ∷ []) ∙ (sym (map-range_with_len_more numbered 1 (n - 1) n after) ∙ ap (λ k. map numbered (range_with_len 1 k)) next));
      capacity = search rules;
    }
