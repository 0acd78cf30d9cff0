use Rattle.std.proofs.Common.{sym, subst}
use Rattle.px.specs.declared.trace.Trace.{Trace}
use Rattle.geometry.specs.Behind.{IsTraceOf}
use Rattle.geometry.proofs.TraceLemmas.{kept-traces, straight-traces}
use Rattle.geometry.proofs.module_trace.trace_of.Goals as goal

pub returns-in-Crop : goal.returns-in-Crop
returns-in-Crop c = subst (λ (t : Trace). IsTraceOf c.args.params.now (c.args.w, c.args.h) t) (sym c.cropped.ensures) (kept-traces c.args.params.now c.in-Crop.crop (c.args.w, c.args.h) c.in-Crop.is)

pub returns-in_default : goal.returns-in_default
returns-in_default c = subst (λ (t : Trace). IsTraceOf c.args.params.now (c.args.w, c.args.h) t) (sym c.straight.ensures) (straight-traces c.args.params.now (c.args.w, c.args.h) c.in_default.not-Orientation c.in_default.not-Crop)
