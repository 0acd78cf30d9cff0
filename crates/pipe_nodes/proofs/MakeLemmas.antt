-- Lemmas on what a module instance makes: the module's own output, and that output laid over the input.
use Rattle.std.proofs.Common.{◌≡◌, ℕ, List, refl, sym, ap, ◌∙◌, subst, Option, Some, None}
use Rattle.std.specs.Prelude.{unwrap_or, Ok, IsOk}
use Rattle.params.specs.declared.blending.Blend.{Blend}
use Rattle.params.specs.declared.settings.Params.{Params}
use Rattle.params.specs.Ranges.{module_of, check_blend_of, IsBlendFit}
use Rattle.params.proofs.Faults.{fit_tells}
use Rattle.px.specs.declared.kind.PlaneKind.TheVariants.{Rgb}
use Rattle.px.specs.Area.{Area}
use Rattle.px.specs.Cut.{Cut, IsCutOf, picture_of}
use Rattle.px.specs.Picture.{Picture}
use Rattle.pipe_nodes.specs.declared.active.Active.{Active}
use Rattle.pipe_nodes.specs.declared.tracing.Tracing.{Tracing}
use Rattle.pipe_nodes.specs.Active.{IsFit}
use Rattle.pipe_nodes.specs.Applied.{CanApply, HasShape, IsApplied, IsMade, IsTracing}
use Rattle.pipe_nodes.specs.Kinds.{kind_after}
use Rattle.pipe_nodes.specs.Whole.{means, blended}
use Rattle.pipe_nodes.proofs.BlendLemmas.{blends-rgb, blends-kind, blends-sides}
use Rattle.pipe_nodes.proofs.MeansLemmas.{means-kind, means-sides}
use Rattle.pipe_nodes.proofs.RunLemmas.{itself}

-- an instance with a blend blends, and the blend is within its ranges
pub blend_fit : (a : Active) (b : Blend) → IsFit a → a.blend ≡ Some b → IsBlendFit (module_of a.params) (Some b)
blend_fit a b fit e =
    let m = module_of a.params in
    (fit_tells m (Some b) (check_blend_of m (Some b)) refl).0 (subst IsOk (sym (subst (λ o. check_blend_of m o ≡ Ok tt) e fit.blend)) refl)

-- the plane that stands after a module, the new one or else its input, is cut out of the module's output
pub applied-cut : (p : Params) (level : ℕ) (input : Cut) (region : Area) (made : Option Cut) → IsApplied p level input region made → (q : Picture) → IsCutOf q input → IsCutOf (means p level q) (unwrap_or made input)
applied-cut p level input region None applied q part = subst (λ m. IsCutOf m input) (sym (applied.same q part)) part
applied-cut p level input region (Some o) applied q part = applied.cut q part

-- a plane that is cut out of the module's output has its shape
pub cut-shape : (p : Params) (level : ℕ) (input o : Cut) → ((q : Picture) → IsCutOf q input → IsCutOf (means p level q) o) → HasShape p input o
cut-shape p level input o cut =
    let q = picture_of input in
    let seen = cut q (itself input) in
    record { kind = seen.kind ∙ means-kind p level q; sides = ap (λ n. (n, o.h)) seen.wide ∙ ap (λ n. ((means p level q).w, n)) seen.high ∙ means-sides p level q }

-- without a blend it is what the module makes
pub made-plain : (a : Active) (level : ℕ) (t : Tracing) (input : Cut) (region : Area) (made : Option Cut) → a.blend ≡ None → IsApplied a.params level input region made → IsMade a level t input region made
made-plain a level t input region None plain applied = record {
  area = tt;
  shape = tt;
  cut = tt;
  covers = applied.covers;
  same = λ source i before part. ap (λ blend. blended source level before blend i (means a.params level i)) plain ∙ applied.same i part;
}
made-plain a level t input region (Some o) plain applied = record {
  area = applied.area;
  shape = cut-shape a.params level input o applied.cut;
  cut = λ source i before tracing part. subst (λ blend. IsCutOf (blended source level before blend i (means a.params level i)) o) (sym plain) (applied.cut i part);
  covers = tt;
  same = tt;
}

-- what holds of the module's output, where the instance has a blend: it is RGB and has the input's sides
pub record IsLayable (input output : Cut) : Type 0 where
  pub input_rgb : input.kind ≡ Rgb
  pub output_rgb : output.kind ≡ Rgb
  pub wide : input.w ≡ output.w
  pub high : input.h ≡ output.h

pub layable : (a : Active) (b : Blend) (level : ℕ) (input : Cut) (region : Area) (made : Option Cut) (output : Cut) → IsFit a → a.blend ≡ Some b → CanApply a.params input region → IsApplied a.params level input region made
    → ((q : Picture) → IsCutOf q (unwrap_or made input) → IsCutOf q output) → IsLayable input output
layable a b level input region made output fit e can applied copy =
    let does = (blend_fit a b fit e).0 in
    let rgb = blends-rgb a.params input.kind does can.takes in
    let shape = cut-shape a.params level input output (λ q part. copy (means a.params level q) (applied-cut a.params level input region made applied q part)) in
    let sides = shape.sides ∙ blends-sides a.params (input.w, input.h) does in
    record {
      input_rgb = rgb;
      output_rgb = shape.kind ∙ ap (λ k. kind_after k a.params) rgb ∙ blends-kind a.params does;
      wide = sym (ap (λ s. s.0) sides);
      high = sym (ap (λ s. s.1) sides);
    }

-- with one it is that output laid over the input
pub made-laid : (a : Active) (b : Blend) (level : ℕ) (t : Tracing) (input : Cut) (region : Area) (made : Option Cut) (output laid : Cut) → a.blend ≡ Some b → IsApplied a.params level input region made
    → ((q : Picture) → IsCutOf q (unwrap_or made input) → IsCutOf q output) → output.area ≡ region → laid ≡ record output { values = laid.values }
    → ((source i m : Picture) (l : ℕ) (before : List Active) → IsTracing source l before (input.w, input.h) t → IsCutOf i input → IsCutOf m output → IsCutOf (blended source l before (Some b) i m) laid)
    → IsMade a level t input region (Some laid)
made-laid a b level t input region made output laid e applied copy area shape cut =
    let own = λ (q : Picture) (part : IsCutOf q input). copy (means a.params level q) (applied-cut a.params level input region made applied q part) in
    let of_output = cut-shape a.params level input output own in
    record {
      area = ap (λ (p : Cut). p.area) shape ∙ area;
      shape = record { kind = ap (λ (p : Cut). p.kind) shape ∙ of_output.kind; sides = ap (λ (p : Cut). (p.w, p.h)) shape ∙ of_output.sides };
      cut = λ source i before tracing part. subst (λ blend. IsCutOf (blended source level before blend i (means a.params level i)) laid) (sym e) (cut source i (means a.params level i) level before tracing part (own i part));
      covers = tt;
      same = tt;
    }
