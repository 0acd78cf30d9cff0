-- subjects, and what a job shows of one
use Rattle.std.specs.Prelude.{ℕ, List}
use Rattle.outside.specs.declared.job_name.JobName.{JobName}
use Rattle.px.specs.Cut.{Cut, picture_of}
use Rattle.px.specs.Picture.{Picture}
use Rattle.pnm.specs.Pnm.{written}
use Rattle.edit_steps.specs.Script.{Recipe, history_at}
use Rattle.pipe_nodes.specs.declared.show.Show.{Show}
use Rattle.pipe_nodes.specs.Actives.{actives_of}
use Rattle.pipe_nodes.specs.Whole.{whole}
use Rattle.pipe_nodes.specs.Windows.{windowed}
use Rattle.dev_core.specs.Shows.{job_show}

-- a source picture, and a script
pub record SubjectSeen : Type 0 where
  pub source : Cut
  pub script : Recipe

-- the whole picture that a script makes of a source at a moment, without regions and without caches
abbrev pub picture_at : Picture → Recipe → ℕ → Picture
picture_at q script m = whole q 0 (actives_of (history_at script m))

-- what a job shows of its subject at a moment
abbrev pub show_of : SubjectSeen → JobName → ℕ → Show
show_of s name m = job_show s.script s.source.w s.source.h name m

-- the picture of a show at a moment: a window of the whole picture that stands then
abbrev pub seen_at : SubjectSeen → Show → ℕ → Picture
seen_at s show m = windowed (whole (picture_of s.source) show.level (actives_of (history_at s.script m))) show.window

-- the bytes of a show at a moment
abbrev pub shown_by : SubjectSeen → Show → ℕ → List ℕ
shown_by s show m = written (seen_at s show m) show.depth

-- the bytes that a job shows at a moment
abbrev pub shown : SubjectSeen → JobName → ℕ → List ℕ
shown s name m = shown_by s (show_of s name m) m
