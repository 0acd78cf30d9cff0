use Rattle.std.proofs.Common.{◌≡◌, ◌+◌, ◌-◌, min, sym, ap, ◌∙◌, arith}
use Rattle.px.specs.declared.kind.PlaneKind.TheVariants.{Mosaic}
use Rattle.px.specs.Area.{Area}
use Rattle.px.specs.Cut.{value_at}
use Rattle.px.specs.Kind.{least_side}
use Rattle.px.specs.Means.{mean_in}
use Rattle.px.specs.Mosaic.{channel, channel_at}
use Rattle.modules_raw.proofs.CountLemmas.{channel_few, each_colour}
use Rattle.modules_raw.proofs.NineLemmas.{otherwise}
use Rattle.modules_raw.proofs.edges.edge_value.Goals as goal

pub box_mean-requires-clause-some : goal.box_mean-requires-clause-some
box_mean-requires-clause-some c =
    let kind = c.args.input.now.kind in
    let least : least_side kind ≡ 2 = ap least_side c.requires.mosaic in
    let wide : c.window_of.result.w ≡ min (c.args.x + 2) c.args.w - (c.args.x - 1) = ap (λ (a : Area). a.w) c.window_of.ensures.region in
    let high : c.window_of.result.h ≡ min (c.args.y + 2) c.args.h - (c.args.y - 1) = ap (λ (a : Area). a.h) c.window_of.ensures.region in
    each_colour kind (channel c.args.c) c.window_of.result (channel_few c.args.c) (omega arith) (omega arith)

pub returns-clause-value : goal.returns-clause-value
returns-clause-value c =
    let at = value_at c.args.input.now in
    c.box_mean.ensures.mean
    ∙ (ap (λ k. mean_in k at (channel c.args.c) c.window_of.result) c.requires.mosaic
    ∙ (ap (λ (a : Area). mean_in (Mosaic c.args.cfa) at (channel c.args.c) a) c.window_of.ensures.region
    ∙ sym (otherwise (channel_at c.args.cfa c.args.x c.args.y) (channel c.args.c) _ _ (λ e. c.if-channel.false (c.channel.ensures.channel ∙ (e ∙ sym c.channel-2.ensures.channel))))))
