use Rattle.std.proofs.Common.{ap, sym, ◌∙◌, ◌≡◌, ◌-◌, subst, Some, slice_get, arith}
use Rattle.stage_cache.specs.Stages.{has_cover}
use Rattle.stage_cache.specs.StageCache.{stages_of, IsFound}
use Rattle.stage_cache.proofs.FindLemmas.{found_index-here, covered-found, slice_get-index}
use Rattle.stage_cache.proofs.entries.last_covered.Goals as goal

pub returns-in-Some-clause-index : goal.returns-in-Some-clause-index
returns-in-Some-clause-index c =
    let stages = stages_of c.args.entries.now.entries in
    sym (found_index-here stages c.args.list.now c.loop-i.i c.index-list-i.result c.loop-i-test.true c.loop-i.invariant.within c.loop-i.invariant.none
    (ap (has_cover stages) (sym c.index-list-i.is) ∙ sym c.in-Some.ensures.covers))

pub returns-in-Some-clause-entry : goal.returns-in-Some-clause-entry
returns-in-Some-clause-entry c = λ source of.
    let es = c.args.entries.now.entries in
    let list = c.args.list.now in
    let i = c.loop-i.i - 1 in
    let asked = c.index-list-i.result in
    let at : slice_get list i ≡ Some asked = slice_get-index list i asked (omega arith) ∙ ap Some (sym c.index-list-i.is) in
    subst (IsFound source (stages_of es) list i) (sym c.in_ok-share.ensures)
    (covered-found source es list i asked c.in-Some.stage.now of at c.in-Some.ensures.entry (sym c.in-Some.ensures.covers))
