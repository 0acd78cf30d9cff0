use Rattle.std.proofs.Common.{◌-◌, ◌/◌, length, arith}
use Rattle.modules_raw.specs.Mapped.{second_in}
use Rattle.modules_raw.proofs.MappedLemmas.{turn_of_groups, turn_with_last}
use Rattle.modules_raw.proofs.in_turn.map_pairs.Goals as goal

pub returns-then-n-eq1 : goal.returns-then-n-eq1
returns-then-n-eq1 g c =
    let n = length c.args.from.now in
    turn_with_last (n / 2) (n - 1) c.change.result (second_in (g.C.ValueMap.makes c.args.first.now) (g.C.ValueMap.makes c.args.second.now)) c.args.from.now c.whole_pairs.new.row
    c.whole_pairs.ensures (omega (arith, c.if-n-eq1.true)) (omega (arith, c.whole_pairs.auto.row, c.requires.len)) (omega (arith, c.if-n-eq1.true)) c.change.ensures.value c.change.ensures.top

pub returns-else-n-eq1 : goal.returns-else-n-eq1
returns-else-n-eq1 g c =
    let n = length c.args.from.now in
    turn_of_groups 2 (n / 2) (second_in (g.C.ValueMap.makes c.args.first.now) (g.C.ValueMap.makes c.args.second.now)) c.args.from.now c.whole_pairs.new.row
    c.whole_pairs.ensures (omega arith) (omega (arith, c.if-n-eq1.false))
