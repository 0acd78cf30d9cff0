-- What a job shows of its subject: the level, the window and the depth.
use Rattle.std.specs.Prelude.{ℕ, zero, suc, ◌+◌, Bool, ◌&&◌, nat_le, if◌then◌else◌, Option, Some, None}
use Rattle.std.specs.Option.{option_map_or}
use Rattle.px.specs.declared.depth.Depth.{Depth}
use Rattle.px.specs.declared.depth.Depth.TheVariants.{Eight}
use Rattle.px.specs.declared.view.View.{View}
use Rattle.px.specs.declared.view.BoxSize.{BoxSize}
use Rattle.outside.specs.declared.job_name.JobName.{JobName}
use Rattle.outside.specs.declared.job_name.JobName.TheVariants as job
use Rattle.outside.specs.declared.job_name.Pipe.{Pipe}
use Rattle.outside.specs.declared.job_name.Pipe.TheVariants.{Full, Preview, Second}
use Rattle.edit_steps.specs.declared.step.Step.{Step}
use Rattle.edit_steps.specs.declared.step.Step.TheVariants as steps
use Rattle.edit_steps.specs.Script.{Recipe, view_at, second_at}
use Rattle.modules_raw.specs.Levels.{level_side}
use Rattle.pipe_nodes.specs.declared.show.Show.{Show}
use Rattle.pipe_nodes.specs.declared.show.Window.{Window}
use Rattle.pipe_nodes.specs.declared.show.Window.TheVariants as window
use Rattle.journal.specs.Tickets.{ask_of}

abbrev pub show : ℕ → Window → Depth → Show
show level window depth = record { level = level; window = window; depth = depth }

-- the first number from l on that passes, or the one behind n of them
abbrev pub first_from : (ℕ → Bool) → ℕ → ℕ → ℕ
first_from passes l zero = l
first_from passes l (suc n) = if passes l then l else first_from passes (l + 1) n

-- the greatest number up to n that passes, or 0
abbrev pub last_to : (ℕ → Bool) → ℕ → ℕ
last_to passes zero = 0
last_to passes (suc n) = if passes (suc n) then suc n else last_to passes n

-- both sides of the level are at most so long
abbrev pub fits_in : ℕ → ℕ → ℕ → ℕ → Bool
fits_in w h most l = nat_le (level_side w l) most && nat_le (level_side h l) most

-- both sides of the level are at least those of the box
abbrev pub fills : ℕ → ℕ → BoxSize → ℕ → Bool
fills w h box l = nat_le box.w (level_side w l) && nat_le box.h (level_side h l)

-- the preview's level of a picture of these sides: the least one whose sides are both at most `side`
abbrev pub preview_level : ℕ → ℕ → ℕ → ℕ
preview_level w h side = first_from (fits_in w h side) 0 8

-- a thumbnail's level: the greatest one whose sides are both at least the box's, or 0 where there is none
abbrev pub thumbnail_level : ℕ → ℕ → BoxSize → ℕ
thumbnail_level w h box = last_to (fills w h box) 8

-- the window of a view, where there is one
abbrev pub view_or_whole : Option View → Window
view_or_whole view = option_map_or window.View view window.Whole

-- the window of a box, where one is given
abbrev pub box_or_whole : Option BoxSize → Window
box_or_whole size = option_map_or window.Fit size window.Whole

-- what a pipe shows at a moment, of a source of these sides
abbrev pub pipe_show : Recipe → ℕ → ℕ → Pipe → ℕ → Show
pipe_show script w h Full m = show 0 (window.View (view_at script m)) Eight
pipe_show script w h Preview m = show (preview_level w h script.settings.preview_side) window.Whole Eight
pipe_show script w h Second m = show 0 (view_or_whole (second_at script m)) Eight

-- what a step asks for
abbrev pub step_show : ℕ → ℕ → Step → Show
step_show w h (steps.Export size depth) = show 0 (box_or_whole size) depth
step_show w h (steps.Thumbnail size) = show (thumbnail_level w h size) (window.Fit size) Eight
step_show w h _ = show 0 window.Whole Eight

-- what a job shows at a moment
abbrev pub job_show : Recipe → ℕ → ℕ → JobName → ℕ → Show
job_show script w h (job.Pipe p) m = pipe_show script w h p m
job_show script w h (job.Ticket t) m = option_map_or (λ a. step_show w h a.step) (ask_of script t) (show 0 window.Whole Eight)
