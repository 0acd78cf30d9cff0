-- Lemmas on stages of a run.
use Rattle.std.proofs.Common.{◌≡◌, ℕ, ◌^◌, ◌≤◌, zero, suc, sym, ap, ◌∙◌, refl, arith}
use Rattle.px.specs.Area.{Fits}
use Rattle.px.specs.Cut.{picture_of}
use Rattle.px.specs.Picture.{Picture}
use Rattle.geometry.specs.Sides.{sides_behind}
use Rattle.local_modules.proofs.RadiusLemmas.{two_some}
use Rattle.modules_raw.specs.Levels.{level_side}
use Rattle.modules_raw.proofs.BlockLemmas.{blocks_small, blocks_some}
use Rattle.pipe_nodes.specs.Staged.{StagedSeen, IsRight}
use Rattle.pipe_nodes.specs.Whole.{sides_of, settings_of, input_of, whole}
use Rattle.pipe_nodes.proofs.RunLemmas.{whole-sides}

-- the picture of which a stage is a region
abbrev pub picture_at : StagedSeen → Picture
picture_at s = whole (picture_of s.source) s.prefix.level s.prefix.actives

level_zero : (n : ℕ) → level_side n 0 ≡ n
level_zero n = omega arith

-- the sides of the picture with which a run begins
pub input-sides : (q : Picture) (l : ℕ) → sides_of (input_of q l) ≡ (level_side q.w l, level_side q.h l)
input-sides q zero = ap (λ n. (n, q.h)) (sym (level_zero q.w)) ∙ ap (λ n. (level_side q.w 0, n)) (sym (level_zero q.h))
input-sides q (suc l) = refl

-- a stage's plane has the sides behind its instances
pub stage-sides : (s : StagedSeen) → IsRight s → ◌≡◌ {A = ℕ × ℕ} (s.plane.w, s.plane.h) (sides_behind (settings_of s.prefix.actives) (level_side s.source.w s.prefix.level, level_side s.source.h s.prefix.level))
stage-sides s right =
    ap (λ n. (n, s.plane.h)) right.wide ∙ ap (λ n. ((picture_at s).w, n)) right.high
    ∙ whole-sides (picture_of s.source) s.prefix.level s.prefix.actives ∙ ap (sides_behind (settings_of s.prefix.actives)) (input-sides (picture_of s.source) s.prefix.level)

-- the sides of a level are sides of a picture
pub level-fits : (w h l : ℕ) → Fits 0 0 w h → l ≤ 8 → Fits 0 0 (level_side w l) (level_side h l)
level-fits w h l fits low =
    let two = two_some l low in
    record {
      wide = blocks_some (2 ^ l) w two fits.wide;
      high = blocks_some (2 ^ l) h two fits.high;
      right = omega (arith, blocks_small (2 ^ l) w two, fits.right);
      bottom = omega (arith, blocks_small (2 ^ l) h two, fits.bottom);
    }
