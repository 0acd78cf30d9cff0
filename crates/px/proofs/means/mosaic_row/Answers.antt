use Rattle.std.proofs.Common.{◌≡◌, ℕ, ◌+◌, ◌-◌, ◌*◌, ◌/◌, ◌<◌, ◌==◌, slice_index, sym, ap, ◌∙◌, subst, arith}
use Rattle.px.specs.Cut.{value_at}
use Rattle.px.specs.Kind.{channels}
use Rattle.px.specs.Means.{part}
use Rattle.px.specs.Sums.{total}
use Rattle.px.proofs.MeanLemmas.{two_sums}
use Rattle.px.proofs.PixelLemmas.{own_value}
use Rattle.px.proofs.SumLemmas.{row_of_mosaic, count_of_mosaic, halves}
use Rattle.px.proofs.means.mosaic_row.Goals as goal

pub returns-clause-sum : goal.returns-clause-sum
returns-clause-sum c =
    let p = c.args.plane.now in
    let size : channels p.kind ≡ 1 = ap channels c.requires.mosaic in
    let read : (i : ℕ) → i < c.args.n → slice_index c.row-row.result.now i ≡ value_at p (c.args.x + i) c.args.y 0 =
    λ i below. let place : i ≡ i * channels p.kind + 0 = omega (arith, ap (λ s. i * s) size) in
    ap (slice_index c.row-row.result.now) place ∙ own_value p c.args.x c.args.y c.args.n i 0 c.row-row.result.now (record { values = c.row-row.ensures.values; top = c.row-row.ensures.top }) (omega (arith, c.requires.covers.left)) below (omega (arith, size)) in
    subst (λ k. c.alternate-even.result.0 + c.alternate-odd.result.0 ≡ total (λ u. part k (value_at p) c.args.c u c.args.y) c.args.x c.args.n) (sym c.requires.mosaic)
    (two_sums _ _ _ _ _ c.alternate-even.ensures.sum c.alternate-odd.ensures.sum
    (row_of_mosaic c.args.cfa c.args.c (λ x y. value_at p x y 0) c.args.x c.args.y c.args.n (c.args.n - c.args.n / 2) (c.args.n / 2) _ _ c.row-row.result.now
    (ap (λ v. v == c.args.c) c.channel.ensures.channel) (ap (λ v. v == c.args.c) c.channel-2.ensures.channel) read (omega arith) (halves c.args.n)))

pub returns-clause-count : goal.returns-clause-count
returns-clause-count c =
    subst (λ k. c.alternate-even.result.1 + c.alternate-odd.result.1 ≡ total (λ u. part k (λ x y c. 1) c.args.c u c.args.y) c.args.x c.args.n) (sym c.requires.mosaic)
    (two_sums _ _ _ _ _ c.alternate-even.ensures.count c.alternate-odd.ensures.count
    (count_of_mosaic c.args.cfa c.args.c c.args.x c.args.y c.args.n (c.args.n - c.args.n / 2) (c.args.n / 2) _ _
    (ap (λ v. v == c.args.c) c.channel.ensures.channel) (ap (λ v. v == c.args.c) c.channel-2.ensures.channel) (omega arith) (halves c.args.n)))
