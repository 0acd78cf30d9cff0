use Rattle.std.proofs.Common.{rules, ◌≡◌, replicate, arith}
use Rattle.core_tests.proofs.RowLemmas.{zeros}
use Rattle.core_tests.proofs.stage_cache_tests.row.Goals as goal

pub from_rows-requires : goal.from_rows-requires
from_rows-requires c =
    let items : c.in_ok-values.values.items ≡ replicate 33 0 = search rules in
    rw items record {
      area = search rules;
      inside = search rules;
      wide = omega arith;
      high = omega arith;
      wide_enough = omega arith;
      high_enough = omega arith;
      len = search rules;
      top = zeros 33;
    }
