-- What an attempt does.
use Rattle.std.specs.Prelude.{◌≡◌, ℕ, ◌+◌, ◌<◌, ◌≤◌, true, List, [], ◌∷◌, Option, Some, length, ◌⊎◌}
use Rattle.dev_core.specs.Jobs.{JobSeen, frame_of}
use Rattle.shared_stage.specs.declared.event.StageEvent.{StageEvent}
use Rattle.shared_stage.specs.declared.event.StageEvent.TheVariants.{Find}
use Rattle.shared_mips.specs.declared.event.MipEvent.{MipEvent}
use Rattle.pipe_worker.specs.declared.ends.Attempt.{Attempt}
use Rattle.pipe_worker.specs.declared.ends.Attempt.TheVariants as attempt
use Rattle.pipe_worker.specs.declared.passes.Passes.{Passes}
use Rattle.pipe_worker.specs.declared.looks.Looked.TheVariants as looked
use Rattle.pipe_worker.specs.Job.{is_pipe_job, count_for, show_for, stages_for}
use Rattle.pipe_worker.specs.Grew.{DeskKnown, Grew, Saw, Shows}
use Rattle.pipe_worker.specs.Routes.{MipKnown, IsInput}
use Rattle.pipe_worker.specs.Runs.{StageKnown, found_length, AreKeeps, keeps}

-- the find, and the input where nothing was found
pub record Began (j : JobSeen) (first : ℕ) (old new : StageKnown) (mip_old mip_new : MipKnown) : Type 0 where
  pub answer : Option ℕ
  pub first_is : first ≡ found_length answer
  pub stage : Grew old new (Find old.number (stages_for j) answer ∷ [])
  pub gain : List MipEvent
  pub mips : Grew mip_old mip_new gain
  pub none : 0 < first → gain ≡ []
  pub input : first ≡ 0 → IsInput mip_old.number (show_for j).level gain

-- an attempt that was made: one find, then a Keep for each length behind what it found; of the mipmaps exactly one of the six lists
-- where it found nothing; and the looks. `more` counts those beside the looks before the nodes
pub record MadeBy (j : JobSeen) (more : ℕ) (old new : Passes) (gain : List StageEvent) (mip_gain : List MipEvent) : Type 0 where
  pub answer : Option ℕ
  pub rest : List StageEvent
  pub stage : gain ≡ Find old.stage.number (stages_for j) answer ∷ rest
  pub are_keeps : AreKeeps j old.stage.number (found_length answer) (count_for j) rest
  pub none : 0 < found_length answer → mip_gain ≡ []
  pub input : found_length answer ≡ 0 → IsInput old.mips.number (show_for j).level mip_gain
  pub looks : is_pipe_job j.name ≡ true → old.desk.loads + count_for j + more ≤ new.desk.loads + found_length answer
  pub go : Shows j new.desk looked.Go

abbrev pub Tells : JobSeen → ℕ → Passes → Passes → List StageEvent → List MipEvent → Attempt → Type 0
Tells j more old new gain mip_gain (attempt.Made f) = MadeBy j more old new gain mip_gain × (f ≡ frame_of j)
Tells j more old new gain mip_gain (attempt.Superseded k) = Shows j new.desk (looked.Superseded k)
Tells j more old new gain mip_gain attempt.Memory = Unit {0}

abbrev pub spared : Attempt → ℕ
spared (attempt.Made f) = 0
spared (attempt.Superseded k) = 0
spared attempt.Memory = 1

-- any attempt. `cost` is how many commits it may have made; the steps are counted from `before` to `after`
pub record Tried (j : JobSeen) (more cost before after : ℕ) (old new : Passes) (result : Attempt) : Type 0 where
  pub gain : List StageEvent
  pub mip_gain : List MipEvent
  pub stage : Grew old.stage new.stage gain
  pub mips : Grew old.mips new.mips mip_gain
  pub desk : Saw j old.desk new.desk 0
  pub least : before + keeps gain ≤ after
  pub most : after ≤ before + keeps gain + cost + spared result
  pub tells : Tells j more old new gain mip_gain result

-- what the last look and the finish give
abbrev pub Shown : JobSeen → DeskKnown → Attempt → Type 0
Shown j p (attempt.Made f) = Shows j p looked.Go × (f ≡ frame_of j)
Shown j p (attempt.Superseded k) = Shows j p (looked.Superseded k)
Shown j p attempt.Memory = Unit {0}

-- the nodes' last moment is as before, with no steps, or it is the job's
abbrev pub Moved : JobSeen → Option ℕ → Option ℕ → ℕ → ℕ → Attempt → Type 0
Moved j old new before after (attempt.Made f) = new ≡ Some j.moment
Moved j old new before after (attempt.Superseded k) = ((new ≡ old) × (after ≡ before)) ⊎ (new ≡ Some j.moment)
Moved j old new before after attempt.Memory = Unit {0}
