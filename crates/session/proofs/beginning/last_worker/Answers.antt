use Rattle.std.proofs.Common.{◌∙◌, sym}
use Rattle.turn_lock.specs.Known.{fresh}
use Rattle.session.proofs.Listing.{range_last}
use Rattle.session.proofs.beginning.last_worker.Goals as goal

pub returns-clause-worker : goal.returns-clause-worker
returns-clause-worker c =
    let d = range_last (fresh c.args.shared.now.desk 0) c.args.number _ _ (sym c.requires.desk ∙ c.last.ensures) in
    let s = range_last (fresh c.args.shared.now.stage 0) c.args.number _ _ (sym c.requires.stage ∙ c.last-2.ensures) in
    let m = range_last (fresh c.args.shared.now.mips 0) c.args.number _ _ (sym c.requires.mips ∙ c.last-3.ensures) in
    cc

pub returns-clause-rest : goal.returns-clause-rest
returns-clause-rest c = record {
  desk = (range_last (fresh c.args.shared.now.desk 0) c.args.number _ _ (sym c.requires.desk ∙ c.last.ensures)).0;
  stage = (range_last (fresh c.args.shared.now.stage 0) c.args.number _ _ (sym c.requires.stage ∙ c.last-2.ensures)).0;
  mips = (range_last (fresh c.args.shared.now.mips 0) c.args.number _ _ (sym c.requires.mips ∙ c.last-3.ensures)).0;
}
