use Rattle.std.proofs.Common.{◌≡◌, ℕ, ◌+◌, ◌*◌, ◌<◌, ◌≤◌, slice_index, sym, subst, arith}
use Rattle.px.specs.Area.{HasPixel, whole_of}
use Rattle.px.specs.Cut.{Cut, place}
use Rattle.px.specs.Kind.{channels}
use Rattle.pnm.proofs.RasterLemmas.{row_meant, row_placed, row_within, run_within}
use Rattle.pnm.proofs.ValueLemmas.{values_top}
use Rattle.pnm.proofs.raster.Raster.decode_row.Goals as goal

pub part-bytes-requires : goal.part-bytes-requires
part-bytes-requires c =
    let header = c.self.inside.header in
    let first : HasPixel (whole_of header.w header.h) c.args.x c.args.y = subst (λ (p : Cut). HasPixel p.area c.args.x c.args.y) (sym c.self.view_is) c.requires.first in
    let last : c.args.x + c.args.n ≤ 0 + header.w = subst (λ (p : Cut). c.args.x + c.args.n ≤ p.area.x + p.area.w) (sym c.self.view_is) c.requires.last in
    let fits = run_within c.args.x c.args.y c.args.n header.w header.h (omega (arith, first.bottom)) (omega arith) in
    rw c.sample_len.ensures.len (row_within header.kind header.samples header.top (header.h * header.w) (c.args.y * header.w + c.args.x) c.args.n header.raster.now c.self.invariant.raster_is fits)

pub returns-clause-values : goal.returns-clause-values
returns-clause-values c =
    let header = c.self.inside.header in
    let first : HasPixel (whole_of header.w header.h) c.args.x c.args.y = subst (λ (p : Cut). HasPixel p.area c.args.x c.args.y) (sym c.self.view_is) c.requires.first in
    let last : c.args.x + c.args.n ≤ 0 + header.w = subst (λ (p : Cut). c.args.x + c.args.n ≤ p.area.x + p.area.w) (sym c.self.view_is) c.requires.last in
    let fits = run_within c.args.x c.args.y c.args.n header.w header.h (omega (arith, first.bottom)) (omega arith) in
    let same = rw c.sample_len.ensures.len at c.part-bytes.ensures.same in
    subst (λ (p : Cut). (i : ℕ) → i < c.args.n * channels p.kind → slice_index c.decode.new.values i ≡ slice_index p.values (place p c.args.x c.args.y + i)) c.self.view_is
    (row_placed header.kind header.w header.h header.samples header.top c.args.x c.args.y c.args.n header.raster.now c.decode.new.values
    (row_meant header.kind header.samples header.top (header.h * header.w) (c.args.y * header.w + c.args.x) c.args.n header.raster.now c.part-bytes.result.now c.decode.new.values c.self.invariant.raster_is fits same c.decode.ensures))

pub returns-clause-top : goal.returns-clause-top
returns-clause-top c = values_top _ _ _ _ _ _ c.decode.ensures c.self.invariant.raster_is.some c.self.invariant.raster_is.small
