use Rattle.std.proofs.Common.{ap, sym, ◌∙◌, arith}
use Rattle.stage_cache.specs.Stages.{pixels_of}
use Rattle.stage_cache.proofs.KeepLemmas.{last-counted, total-shed, front-after_shed, few_after_shed, of_after_shed, front-ends, total-no_last}
use Rattle.stage_cache.proofs.entries.shed.Goals as goal

pub overflow_sub-used : goal.overflow_sub-used
overflow_sub-used c =
    last-counted c.loop-used.entries.entries (c.in-Some.field-0-0, c.in-Some.stage) c.pixels.result c.loop-used.used
    (sym c.in-Some.ensures.value) c.loop-used.invariant.used (c.pixels.ensures ∙ ap pixels_of c.region.ensures)

pub unreachable-requires : goal.unreachable-requires
unreachable-requires c =
    let none = total-no_last c.loop-used.entries.entries (sym c.in-None.ensures.value) in
    let used = c.loop-used.invariant.used in
    let more = c.loop-used-test.true in omega arith

pub loop-used-preserved : goal.loop-used-preserved
loop-used-preserved c =
    let es = c.loop-used.entries.entries in
    let inv = c.loop-used.invariant in
    rw c.pop_lru.ensures.entries record {
      used = total-shed es (c.in-Some.field-0-0, c.in-Some.stage) c.pixels.result c.loop-used.used (sym c.in-Some.ensures.value) inv.used (c.pixels.ensures ∙ ap pixels_of c.region.ensures);
      limit = inv.limit;
      few = few_after_shed c.args.entries.now.cap es inv.few;
      front = front-after_shed c.args.entries.now.cap c.args.budget c.loop-used.used es c.loop-used-test.true inv.used ∙ inv.front;
      of = λ source a. of_after_shed source es (inv.of source a);
    }

pub returns-clause-stages : goal.returns-clause-stages
returns-clause-stages c =
    let inv = c.loop-used.invariant in
    front-ends c.args.entries.now.cap c.args.budget c.loop-used.used c.loop-used.entries.entries inv.few inv.used c.loop-used-test.false ∙ inv.front
