use Rattle.std.proofs.Common.{◌-◌, ◌*◌, ◌≤◌, arith}
use Rattle.local_modules.proofs.RunningLemmas.{columns_less, columns_hold, columns_more, columns_small}
use Rattle.local_modules.proofs.columns.move_rows.Goals as goal

pub take_row-requires-clause-room : goal.take_row-requires-clause-room
take_row-requires-clause-room c = columns_hold c.args.input.now c.args.lo (c.args.m * 3) c.loop-v.v c.args.b _ _ c.loop-v.invariant (omega arith) c.rgb_row.ensures.same

pub loop-v-preserved : goal.loop-v-preserved
loop-v-preserved c = columns_less c.args.input.now c.args.lo (c.args.m * 3) c.loop-v.v c.args.b c.loop-v.sums c.rgb_row.result.now _ c.loop-v.invariant (omega arith) (omega arith) c.rgb_row.ensures.same c.take_row.ensures

pub add_row-requires-clause-room : goal.add_row-requires-clause-room
add_row-requires-clause-room c i h =
    let was = c.loop-v-2.invariant in
    let small = columns_small c.args.input.now c.args.lo (c.args.m * 3) c.args.c c.loop-v-2.v c.loop-v-2.sums c.rgb_row-in-loop-v-2.ensures.valid was i (omega (arith, was.len)) in
    let value = c.rgb_row-in-loop-v-2.ensures.top i in
    let few : c.loop-v-2.v - c.args.c ≤ 128 = omega arith in
    omega (arith, small, value, few)

pub loop-v-2-preserved : goal.loop-v-2-preserved
loop-v-2-preserved c = columns_more c.args.input.now c.args.lo (c.args.m * 3) c.args.c c.loop-v-2.v c.loop-v-2.sums c.rgb_row-in-loop-v-2.result.now _ c.loop-v-2.invariant (omega arith) (omega arith) c.rgb_row-in-loop-v-2.ensures.same c.add_row.ensures
