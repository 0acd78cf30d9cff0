use Rattle.std.proofs.Common.{◌∙◌}
use Rattle.mip_cache.proofs.EntryLemmas.{with_held-more, held_as-same, held_as-other}
use Rattle.mip_cache.proofs.lists.set_held.Goals as goal
use Rattle.mip_cache.proofs.lists.set_held.Goals.{then-entry-level, else-entry-level}

pub loop-entry-preserved : goal.loop-entry-preserved
loop-entry-preserved c =
    elim c.if-entry-level.branch [
      | then-entry-level w ↦
          let here = held_as-same _ _ _ w.if-entry-level.true in
          w.entry-items-is ∙ with_held-more _ _ _ c.loop-entry.entry-items _ _ _ c.loop-entry-test.true c.loop-entry.auto.entry-items c.loop-entry.invariant here
      | else-entry-level w ↦
          let here = held_as-other _ c.args.held _ w.if-entry-level.false in
          w.entry-items-is ∙ with_held-more _ _ _ c.loop-entry.entry-items _ _ _ c.loop-entry-test.true c.loop-entry.auto.entry-items c.loop-entry.invariant here
    ]
