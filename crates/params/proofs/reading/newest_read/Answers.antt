use Rattle.std.proofs.Common.{◌≡◌, [], Ok, Err, rules}
use Rattle.std.proofs.lemmas.Result.{err_from_is_err_and}
use Rattle.serde_json.specs.View.{view}
use Rattle.params.specs.Ranges.{params_from}
use Rattle.params.specs.Read.{form_read}
use Rattle.params.specs.Rules.{first_fault}
use Rattle.params.specs.Seen.{all_seen, all_stated}
use Rattle.params.specs.Stated.{row_form, row_entries}
use Rattle.params.proofs.WithinLemmas.{row_kept, row_faulty}
use Rattle.params.proofs.reading.newest_read.Goals as goal

pub params_from-requires : goal.params_from-requires
params_from-requires c =
    rw (← c.cells-row.ensures) (row_kept c.cells-row.result.now (view c.args.value.now) (all_stated c.in_ok-stated.stated.items) (all_seen c.as_slice-3.result.now) (search rules) (search rules) (search rules))

pub returns-in_err-row_fault : goal.returns-in_err-row_fault
returns-in_err-row_fault c =
    let p = err_from_is_err_and c.from_residual-in_err-row_fault.result c.from_residual-in_err-row_fault.ensures.1 in
    let row = c.cells-row.result.now in
    let read : form_read (row_form [] row (view c.args.value.now)) ≡ Ok (all_seen c.in_ok-parts.parts.items) = search rules in
    let fault : first_fault (row_entries row (all_seen c.in_ok-parts.parts.items)) ≡ Err c.in_err-row_fault.field-0.0 = search rules in
    rw (p.1, p.2, ← c.cells-row.ensures) (row_faulty row (params_from c.args.module) (view c.args.value.now) (all_seen c.in_ok-parts.parts.items) c.in_err-row_fault.field-0.0 read fault)
