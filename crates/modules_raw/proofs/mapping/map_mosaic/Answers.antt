use Rattle.std.proofs.Common.{slice_index, ap, ◌∙◌}
use Rattle.modules_raw.proofs.MappedLemmas.{turn_of_mosaic}
use Rattle.modules_raw.proofs.mapping.map_mosaic.Goals as goal

pub returns-clause-values : goal.returns-clause-values
returns-clause-values g c i below =
    let makes = g.M.ChannelMap.makes c.args.map.now in
    let v = slice_index c.args.from.now i in
    c.change_pairs.ensures.values i below
    ∙ turn_of_mosaic c.args.cfa c.args.x c.args.y i v makes (makes c.channel-first.result) (makes c.channel-second.result)
    (ap (λ n. makes n v) c.channel-first.ensures.channel) (ap (λ n. makes n v) c.channel-second.ensures.channel)
