-- The settings of a script that says none.
use Rattle.std.specs.Prelude.{None}
use Rattle.px.specs.declared.depth.Depth.TheVariants.{Eight}
use Rattle.px.specs.declared.view.View.{View}
use Rattle.edit_steps.specs.declared.settings.Settings.{Settings}

-- the middle of the picture at its full size
abbrev pub start_view : View
start_view = record { factor = 1; cx = 32768; cy = 32768; w = 720; h = 480 }

abbrev pub start_settings : Settings
start_settings = record {
  cfa = None;
  depth = Eight;
  preview_side = 720;
  workers = 2;
  stage_entries = 16;
  stage_pixels = 8388608;
  mip_slots = 4;
  undo_depth = 32;
  view = start_view;
  second = None;
}
