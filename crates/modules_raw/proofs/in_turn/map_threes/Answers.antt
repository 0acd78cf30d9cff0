use Rattle.std.proofs.Common.{◌/◌, length, arith}
use Rattle.modules_raw.specs.Mapped.{third_in}
use Rattle.modules_raw.proofs.MappedLemmas.{turn_of_groups}
use Rattle.modules_raw.proofs.in_turn.map_threes.Goals as goal

pub returns : goal.returns
returns g c =
    turn_of_groups 3 (length c.args.from.now / 3) (third_in (g.C.ValueMap.makes c.args.first.now) (g.C.ValueMap.makes c.args.second.now) (g.C.ValueMap.makes c.args.third.now))
    c.args.from.now c.whole_threes.new.row c.whole_threes.ensures (omega arith) (omega (arith, c.requires.pixels))
