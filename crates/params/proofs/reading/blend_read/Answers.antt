use Rattle.std.proofs.Common.{rules}
use Rattle.serde_json.specs.View.{view}
use Rattle.params.specs.Seen.{blend_seen}
use Rattle.params.proofs.WithinLemmas.{blend_fits, blend_kept_of}
use Rattle.params.proofs.reading.blend_read.Goals as goal

pub blend_from-requires : goal.blend_from-requires
blend_from-requires c = blend_kept_of (blend_seen c.in-Some.stated) (blend_fits (view c.args.value.now) (blend_seen c.in-Some.stated) (search rules)) (search rules)
