use Rattle.std.proofs.Common.{sym, ◌∙◌}
use Rattle.session.specs.Workers.{number_of}
use Rattle.session.specs.Finished.{Served}
use Rattle.session.proofs.Listing.{zip_from}
use Rattle.session.proofs.threads.serve_all.Goals as goal

pub returns-in-Ok : goal.returns-in-Ok
returns-in-Ok g c =
    zip_from (Served c.args.shared.now.desk) number_of c.args.workers.items c.in-Ok.served.items (sym c.in-Ok.served.ok.0 ∙ (c.in-Ok.ensures.len ∙ c.args.workers.ok.0))
    (λ i d h. let e = c.in-Ok.ensures.each i d h in (e.1.job, e.1.job_is, e.1.call.met))
