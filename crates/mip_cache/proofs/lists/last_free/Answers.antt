use Rattle.std.proofs.Common.{sym, ◌∙◌}
use Rattle.mip_cache.proofs.EntryLemmas.{evict_answer-free, evict_answer-other}
use Rattle.mip_cache.proofs.lists.last_free.Goals as goal
use Rattle.mip_cache.proofs.lists.last_free.Goals.{then-is_free, else-is_free}

pub loop-entry-preserved : goal.loop-entry-preserved
loop-entry-preserved c =
    let free = evict_answer-free c.args.entries.now c.loop-entry.entry-index _ c.loop-entry-test.true in
    let other = evict_answer-other c.args.entries.now c.loop-entry.entry-index _ c.loop-entry-test.true in
    elim c.if-is_free.branch [
      | then-is_free w ↦ w.last-is ∙ sym (free (sym c.is_free.ensures ∙ w.if-is_free.true))
      | else-is_free w ↦ w.last-is ∙ c.loop-entry.invariant ∙ sym (other (sym c.is_free.ensures ∙ w.if-is_free.false))
    ]
