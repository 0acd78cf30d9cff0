use Rattle.std.proofs.Common.{◌≡◌, ◌-◌, ◌<◌, ◌≤◌, refl, ◌∙◌, ⊎_elim, arith, get_or-set_other, get_or-set_same}
use Rattle.std.proofs.lemmas.Bool.{cases_lt}
use Rattle.modules_colour.proofs.LineLemmas.{split_more, between_is}
use Rattle.modules_colour.proofs.channel_table.fill_between.Goals as goal

pub loop-v-preserved : goal.loop-v-preserved
loop-v-preserved c =
    let was = c.loop-v.invariant in
    let y_is = between_is c.args.a c.args.b c.loop-v.v c.loop-v.y c.loop-v.left c.requires.order c.requires.first c.requires.second (omega arith) c.loop-v-test.true was.split in
    record {
      split = split_more c.args.a c.args.b c.loop-v.v c.loop-v.y c.loop-v.left c.advance-up.result.0 c.advance-up.result.1
          c.slope_of-s.result.up c.slope_of-s.result.down c.slope_of-s.result.rest (c.args.b.0 - c.args.a.0)
          refl (omega arith) c.loop-v-test.true c.slope_of-s.ensures.slope was.split
          (rw c.slope_of-s.ensures.size at c.advance-up.ensures.whole) (rw c.slope_of-s.ensures.size at c.advance-up.ensures.left);
      here = λ i low high. ⊎_elim
          (λ (old : i < c.loop-v.v). get_or-set_other c.loop-v.table c.loop-v.v i c.loop-v.y 0 (omega arith) ∙ was.here i low old)
          (λ (new : c.loop-v.v ≤ i). let e : i ≡ c.loop-v.v = omega arith in rw e (get_or-set_same c.loop-v.table c.loop-v.v c.loop-v.y 0 (omega arith) ∙ y_is))
          (cases_lt i c.loop-v.v);
      before = λ i h. get_or-set_other c.loop-v.table c.loop-v.v i c.loop-v.y 0 (omega arith) ∙ was.before i h;
    }
