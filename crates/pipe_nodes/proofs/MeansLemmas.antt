-- Lemmas on what modules mean: the kinds and the sides of their outputs.
use Rattle.std.proofs.Common.{◌≡◌, ℕ, refl, ap}
use Rattle.params.specs.declared.settings.Params.{Params}
use Rattle.params.specs.declared.settings.Params.TheVariants as params
use Rattle.px.specs.declared.kind.PlaneKind.{PlaneKind}
use Rattle.px.specs.declared.kind.PlaneKind.TheVariants.{Mosaic, Rgb}
use Rattle.px.specs.Picture.{Picture}
use Rattle.geometry.specs.Sides.{sides_after}
use Rattle.modules_raw.specs.Demosaic.{demosaiced_by, demosaiced_picture}
use Rattle.pipe_nodes.specs.Kinds.{kind_after}
use Rattle.pipe_nodes.specs.Whole.{means}

demosaiced-kind : (k : PlaneKind) (q : Picture) → q.kind ≡ k → (demosaiced_by k q).kind ≡ Rgb
demosaiced-kind (Mosaic cfa) q is = refl
demosaiced-kind Rgb q is = is

demosaiced-sides : (k : PlaneKind) (q : Picture) → ◌≡◌ {A = ℕ × ℕ} ((demosaiced_by k q).w, (demosaiced_by k q).h) (q.w, q.h)
demosaiced-sides (Mosaic cfa) q = refl
demosaiced-sides Rgb q = refl

pub means-kind : (p : Params) (level : ℕ) (q : Picture) → (means p level q).kind ≡ kind_after q.kind p
means-kind params.Demosaic level q = demosaiced-kind q.kind q refl
means-kind _ level q = refl

pub means-sides : (p : Params) (level : ℕ) (q : Picture) → ◌≡◌ {A = ℕ × ℕ} ((means p level q).w, (means p level q).h) (sides_after p (q.w, q.h))
means-sides params.Demosaic level q = demosaiced-sides q.kind q
means-sides _ level q = refl

-- demosaic leaves an RGB picture as it is
pub demosaiced-rgb : (q : Picture) → q.kind ≡ Rgb → demosaiced_picture q ≡ q
demosaiced-rgb q rgb = ap (λ k. demosaiced_by k q) rgb
