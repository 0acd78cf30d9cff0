use Rattle.std.proofs.Common.{◌∙◌, arith}
use Rattle.std.proofs.lemmas.Grind.{common_steps}
use Rattle.outside.proofs.Told.{if_both}
use Rattle.outside.proofs.FrontLemmas.{longer_is_front}
use Rattle.outside.proofs.front.read_front.Goals as goal

pub loop-front-preserved : goal.loop-front-preserved
loop-front-preserved g c = record {
  wanted = omega arith;
  fits = omega (arith, c.in_ok-count.ensures.longer, c.in_ok-count.ensures.bound, c.min.ensures, c.len-in-loop-front.ensures);
  unchanged = c.in_ok-count.ensures.unchanged ∙ c.loop-front.invariant.unchanged;
  front = if_both _ _ c.loop-front.invariant.unchanged c.loop-front.invariant.front c.in_ok-count.ensures.bytes (λ fs f l. longer_is_front _ _ _ _ f l);
  quiet = c.in_ok-count.ensures.quiet ∙ c.loop-front.invariant.quiet;
  reads = grind (arith, common_steps);
  puts = grind (arith, common_steps);
}
