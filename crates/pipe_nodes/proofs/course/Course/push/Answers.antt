use Rattle.std.proofs.Common.{◌≤◌, refl, sym, subst}
use Rattle.pipe_nodes.specs.Course.{HasCome}
use Rattle.pipe_nodes.proofs.CourseLemmas.{come-more}
use Rattle.pipe_nodes.proofs.course.Course.push.Goals as goal

pub invariant_of-self : goal.invariant_of-self
invariant_of-self c = record { wide = c.self.invariant.wide; high = c.self.invariant.high; level = subst (λ l. l ≤ 8) (sym c.push.ensures.level) c.self.invariant.level }

pub returns-clause-come : goal.returns-clause-come
returns-clause-come c = λ q level before come.
    come-more q level before c.args.active.now (record { w = c.self.inside.w; h = c.self.inside.h; geometry = c.self.inside.geometry }) _ refl refl c.push.ensures.behind (subst (HasCome q level before) (sym c.self.view_is) come)
