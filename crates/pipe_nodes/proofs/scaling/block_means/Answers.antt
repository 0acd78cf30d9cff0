use Rattle.std.proofs.Common.{ℕ, ◌*◌, ◌<◌, ◌≤◌, ◌≡◌, ap, ◌∙◌, arith}
use Rattle.px.specs.Area.{Area}
use Rattle.px.specs.Cut.{value_at}
use Rattle.pipe_nodes.proofs.ScaleLemmas.{block-some, mean-is, mean-small, three-same, three-top}
use Rattle.pipe_nodes.proofs.scaling.block_means.Goals as goal

pub returns-clause-pixel : goal.returns-clause-pixel
returns-clause-pixel c =
    let p = c.args.plane.now in
    let a : Area = record { x = c.args.x; y = c.args.y; w = c.args.w; h = c.args.h } in
    let sums = c.block_sums-red.ensures in
    let count : c.from.result * c.from-2.result ≡ c.args.h * c.args.w = ap (λ n. n * c.from-2.result) c.from.ensures ∙ ap (λ n. c.args.h * n) c.from-2.ensures in
    three-same _ _ _ _ _ _ (mean-is p.kind (value_at p) 0 a c.block_sums-red.result.0 _ c.requires.rgb sums.red count)
    (mean-is p.kind (value_at p) 1 a c.block_sums-red.result.1 _ c.requires.rgb sums.green count)
    (mean-is p.kind (value_at p) 2 a c.block_sums-red.result.2 _ c.requires.rgb sums.blue count)

pub returns-clause-top : goal.returns-clause-top
returns-clause-top c =
    let sums = c.block_sums-red.ensures.small in
    let count : c.from.result * c.from-2.result ≡ c.args.h * c.args.w = ap (λ n. n * c.from-2.result) c.from.ensures ∙ ap (λ n. c.args.h * n) c.from-2.ensures in
    let some : 0 < c.args.h * c.args.w = block-some c.args.h c.args.w c.requires.fits.high c.requires.fits.wide in
    let small = λ (sum : ℕ). λ (few : sum ≤ (c.args.h * c.args.w) * 1048575). mean-small sum (c.from.result * c.from-2.result) (omega (arith, count, some)) (omega (arith, count, few)) in
    three-top _ _ _ (small c.block_sums-red.result.0 sums.0) (small c.block_sums-red.result.1 sums.1) (small c.block_sums-red.result.2 sums.2)
