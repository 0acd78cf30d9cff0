use Rattle.std.proofs.Common.{rules, subst, sym}
use Rattle.serde_json.specs.View.{view}
use Rattle.params.specs.Seen.{all_seen, all_stated}
use Rattle.params.specs.Table.{old_row_of}
use Rattle.params.specs.Ranges.{IsOldWithin, IsRowKept}
use Rattle.params.proofs.WithinLemmas.{row_kept, old_within}
use Rattle.params.proofs.reading.old_read.Goals as goal

pub old_from-requires : goal.old_from-requires
old_from-requires c =
    rw (← c.row-row.ensures) (row_kept c.row-row.result.now (view c.args.value.now) (all_stated c.in_ok-stated.stated.items) (all_seen c.as_slice-3.result.now) (search rules) (search rules) (search rules))

pub migrate-requires : goal.migrate-requires
migrate-requires c =
    let kept : IsRowKept (old_row_of c.args.old) (all_seen c.as_slice-3.result.now) =
    rw (← c.row-row.ensures) (row_kept c.row-row.result.now (view c.args.value.now) (all_stated c.in_ok-stated.stated.items) (all_seen c.as_slice-3.result.now) (search rules) (search rules) (search rules)) in
    record { within = subst IsOldWithin (sym c.old_from.ensures) (old_within c.args.old (all_seen c.as_slice-3.result.now) kept) }
