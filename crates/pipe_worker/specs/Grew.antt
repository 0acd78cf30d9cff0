-- What passes gain over several turns and looks.
use Rattle.std.specs.Prelude.{◌≡◌, ℕ, ◌+◌, ◌≤◌, true, List, [], ◌++◌}
use Rattle.turn_lock.specs.Known.{Known}
use Rattle.journal.specs.declared.entry.Entry.{Entry}
use Rattle.dev_core.specs.Subject.{SubjectSeen}
use Rattle.dev_core.specs.Jobs.{JobSeen}
use Rattle.pipe_worker.specs.declared.looks.Looked.{Looked}
use Rattle.pipe_worker.specs.declared.looks.Looked.TheVariants as looked
use Rattle.pipe_worker.specs.Job.{is_pipe_job, looked_at}

-- what contracts see of a desk's pass
abbrev pub DeskKnown : Type 0
DeskKnown = Known SubjectSeen Entry

-- the pass gained these elements, in any number of turns
pub record Grew {N E : Type 0} (old new : Known N E) (gain : List E) : Type 0 where
  pub lock : new.lock ≡ old.lock
  pub called : new.name ≡ old.name
  pub out : new.out ≡ old.out
  pub bears : new.number ≡ old.number
  pub own : new.own ≡ old.own ++ gain

-- the desk's pass looked at least so often where the job is a pipe's, and did nothing else
pub record Saw (j : JobSeen) (old new : DeskKnown) (count : ℕ) : Type 0 where
  pub grew : Grew old new []
  pub rises : old.mark ≤ new.mark
  pub more : old.loads ≤ new.loads
  pub looks : is_pipe_job j.name ≡ true → old.loads + count ≤ new.loads

-- what the last look told of the job
abbrev pub Shows : JobSeen → DeskKnown → Looked → Type 0
Shows j p looked.Go = is_pipe_job j.name ≡ true → looked_at j.subject.script j.name j.moment p.loaded ≡ looked.Go
Shows j p (looked.Superseded k) = (is_pipe_job j.name ≡ true) × (p.loaded ≡ k) × (p.mark ≡ k) × (looked_at j.subject.script j.name j.moment k ≡ looked.Superseded k)
