use Rattle.std.proofs.Common.{◌≡◌, ◌+◌, ◌-◌, ◌*◌, subst, arith}
use Rattle.std.specs.Option.{option_copied}
use Rattle.px.specs.Repainted.{IsEditedRow}
use Rattle.blend.specs.Rows.{CanLay, lays}
use Rattle.blend.proofs.RowLemmas.{edited_part_more}
use borrow.Rule.Slice.PartMut.{put_mid}
use Rattle.blend.proofs.overlay.OverlayRowEditor.edit_row.Goals as goal

pub lay_part-requires-clause-asks : goal.lay_part-requires-clause-asks
lay_part-requires-clause-asks c k below =
    let s = c.args.self.now in
    let column : c.args.x + (c.loop-from.from + k) ≡ c.args.x + c.loop-from.from + k = omega arith in
    subst (λ u. CanLay s.blend.now (option_copied s.cover) s.input.now u c.args.y) column (c.requires.asks (c.loop-from.from + k) (omega arith))

pub loop-from-preserved : goal.loop-from-preserved
loop-from-preserved c =
    let s = c.args.self.now in
    let from = c.loop-from.from in
    let more = c.min-to.result - from in
    let row = put_mid (from * 3) (c.min-to.result * 3 - from * 3) c.loop-from.row c.lay_part.new.row in
    let to : from + more ≡ c.min-to.result = omega arith in
    record {
      edited = subst (λ n. IsEditedRow (lays s.blend.now (option_copied s.cover) s.input.now) c.args.x c.args.y n c.args.row.now row) to
          (edited_part_more (lays s.blend.now (option_copied s.cover) s.input.now) c.args.x c.args.y from more (from * 3) _ c.args.row.now c.loop-from.row c.lay_part.new.row
          c.loop-from.invariant.edited c.lay_part.ensures (omega arith) (omega arith) (omega arith) (omega arith));
      within = omega arith;
    }

pub returns : goal.returns
returns c =
    let all : c.loop-from.from ≡ c.args.n = omega arith in record { row = rw all at c.loop-from.invariant.edited }
