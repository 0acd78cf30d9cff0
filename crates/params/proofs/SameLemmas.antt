-- The derived equality of settings and of blends tells sameness.
use Rattle.std.proofs.Common.{◌≡◌, ℕ, ℤ, Bool, true, false, ◌&&◌, nat_eq, List, refl, subst, Option, Some, None}
use Rattle.std.specs.Bool.{Decides}
use Rattle.std.specs.Cmp.{unsigned_Decides, signed_Decides}
use Rattle.std.specs.Cmp.Lexicographic.{pointwise}
use Rattle.std.specs.Option.{option_eq}
use Rattle.std.specs.Ordering.{int_eq}
use Rattle.std.proofs.lemmas.Bool.{false≢true}
use Rattle.std.proofs.lemmas.Slice.Eq.{slice_eq-Decides}
use mathlib.Core.Bool.{beq}
use Rattle.params.specs.Nodes.{same_node, same_nodes}
use Rattle.params.specs.declared.blending.Blend.{Blend}
use Rattle.params.specs.declared.blending.Mode.{Mode}
use Rattle.params.specs.declared.blending.Mode.TheVariants as modes
use Rattle.params.specs.declared.blending.Shape.{Shape}
use Rattle.params.specs.declared.blending.Shape.TheVariants as shapes
use Rattle.params.specs.declared.settings.Params.{Params}
use Rattle.params.specs.declared.settings.Params.TheVariants as params
use Rattle.params.specs.contracts.blending.BlendPartialEq.TheImpl as blend_eq
use Rattle.params.specs.contracts.blending.ModePartialEq.TheImpl as mode_eq
use Rattle.params.specs.contracts.blending.ShapePartialEq.TheImpl as shape_eq
use Rattle.params.specs.contracts.settings.ParamsPartialEq.TheImpl as params_eq

pub both : (a b : Bool) → (a && b) ≡ true → (a ≡ true) × (b ≡ true)
both true b h = (refl, h)
both false b h = absurd (false≢true h)

pub num : (a b : ℕ) → nat_eq a b ≡ true → a ≡ b
num a b = (unsigned_Decides a b).0

int : (a b : ℤ) → int_eq a b ≡ true → a ≡ b
int a b = (signed_Decides a b).0

nums : (xs ys : List ℕ) → pointwise nat_eq xs ys ≡ true → xs ≡ ys
nums xs ys = (slice_eq-Decides unsigned_Decides xs ys (pointwise nat_eq xs ys) refl).0

ints : (xs ys : List ℤ) → pointwise int_eq xs ys ≡ true → xs ≡ ys
ints xs ys = (slice_eq-Decides signed_Decides xs ys (pointwise int_eq xs ys) refl).0

truth : (a b : Bool) → beq a b ≡ true → a ≡ b
truth true true h = refl
truth false false h = refl
truth _ _ h = absurd (false≢true h)

node_same : (a b : ℕ × ℕ) → same_node a b ≡ true → a ≡ b
node_same a b h =
    let s = both (nat_eq a.0 b.0) (nat_eq a.1 b.1) h in
    let first = num a.0 b.0 s.0 in
    let second = num a.1 b.1 s.1 in
    λ i. (first i, second i)

pub same_numbers : (a b : ℕ) → a ≡ b → nat_eq a b ≡ true
same_numbers a b = (unsigned_Decides a b).1

same_node-itself : (a : ℕ × ℕ) → same_node a a ≡ true
same_node-itself a = rw (same_numbers a.0 a.0 refl, same_numbers a.1 a.1 refl) refl

node-Decides : (a b : ℕ × ℕ) → Decides (same_node a b) (a ≡ b)
node-Decides a b = (node_same a b, λ e. subst (λ c. same_node a c ≡ true) e (same_node-itself a))

nodes_same : (xs ys : List (ℕ × ℕ)) → same_nodes xs ys ≡ true → xs ≡ ys
nodes_same xs ys = (slice_eq-Decides node-Decides xs ys (same_nodes xs ys) refl).0

-- equal settings are the same settings
pub params_same : (x y : Params) → (params_eq.ghosts).eq x y ≡ true → x ≡ y
params_same (params.RawPrepare x) (params.RawPrepare y) h =
    let s = both (pointwise nat_eq x.black y.black) (nat_eq x.white y.white) h in
    let black = nums x.black y.black s.0 in
    let white = num x.white y.white s.1 in
    λ i. params.RawPrepare (record { black = black i; white = white i })
params_same (params.Temperature x) (params.Temperature y) h = let mul = nums x.mul y.mul h in λ i. params.Temperature (record { mul = mul i })
params_same params.Demosaic params.Demosaic h = refl
params_same (params.Orientation x) (params.Orientation y) h =
    let s = both (beq x.swap y.swap) (beq x.flip_x y.flip_x && beq x.flip_y y.flip_y) h in
    let t = both (beq x.flip_x y.flip_x) (beq x.flip_y y.flip_y) s.1 in
    let swap = truth x.swap y.swap s.0 in
    let flip_x = truth x.flip_x y.flip_x t.0 in
    let flip_y = truth x.flip_y y.flip_y t.1 in
    λ i. params.Orientation (record { swap = swap i; flip_x = flip_x i; flip_y = flip_y i })
params_same (params.Crop x) (params.Crop y) h =
    let s = both (nat_eq x.left y.left) (nat_eq x.top y.top && (nat_eq x.right y.right && nat_eq x.bottom y.bottom)) h in
    let t = both (nat_eq x.top y.top) (nat_eq x.right y.right && nat_eq x.bottom y.bottom) s.1 in
    let u = both (nat_eq x.right y.right) (nat_eq x.bottom y.bottom) t.1 in
    let left = num x.left y.left s.0 in
    let top = num x.top y.top t.0 in
    let right = num x.right y.right u.0 in
    let bottom = num x.bottom y.bottom u.1 in
    λ i. params.Crop (record { left = left i; top = top i; right = right i; bottom = bottom i })
params_same (params.Exposure x) (params.Exposure y) h =
    let s = both (int_eq x.black y.black) (nat_eq x.gain y.gain && int_eq x.stops y.stops) h in
    let t = both (nat_eq x.gain y.gain) (int_eq x.stops y.stops) s.1 in
    let black = int x.black y.black s.0 in
    let gain = num x.gain y.gain t.0 in
    let stops = int x.stops y.stops t.1 in
    λ i. params.Exposure (record { black = black i; gain = gain i; stops = stops i })
params_same (params.ChannelMixer x) (params.ChannelMixer y) h = let rows = ints x.rows y.rows h in λ i. params.ChannelMixer (record { rows = rows i })
params_same (params.ToneCurve x) (params.ToneCurve y) h =
    let s = both (same_nodes x.red y.red) (same_nodes x.green y.green && same_nodes x.blue y.blue) h in
    let t = both (same_nodes x.green y.green) (same_nodes x.blue y.blue) s.1 in
    let red = nodes_same x.red y.red s.0 in
    let green = nodes_same x.green y.green t.0 in
    let blue = nodes_same x.blue y.blue t.1 in
    λ i. params.ToneCurve (record { red = red i; green = green i; blue = blue i })
params_same (params.BoxBlur x) (params.BoxBlur y) h = let radius = num x.radius y.radius h in λ i. params.BoxBlur (record { radius = radius i })
params_same (params.Sharpen x) (params.Sharpen y) h =
    let s = both (nat_eq x.radius y.radius) (nat_eq x.amount y.amount) h in
    let radius = num x.radius y.radius s.0 in
    let amount = num x.amount y.amount s.1 in
    λ i. params.Sharpen (record { radius = radius i; amount = amount i })
params_same _ _ h = absurd (false≢true h)

mode_same : (x y : Mode) → (mode_eq.ghosts).eq x y ≡ true → x ≡ y
mode_same modes.Normal modes.Normal h = refl
mode_same modes.Multiply modes.Multiply h = refl
mode_same modes.Screen modes.Screen h = refl
mode_same modes.Lighten modes.Lighten h = refl
mode_same modes.Darken modes.Darken h = refl
mode_same modes.Add modes.Add h = refl
mode_same modes.Subtract modes.Subtract h = refl
mode_same modes.Difference modes.Difference h = refl
mode_same modes.Average modes.Average h = refl
mode_same _ _ h = absurd (false≢true h)

shape_same : (x y : Shape) → (shape_eq.ghosts).eq x y ≡ true → x ≡ y
shape_same (shapes.Gradient ax ay dx dy slope) (shapes.Gradient ax' ay' dx' dy' slope') h =
    let s = both (nat_eq ax ax') (nat_eq ay ay' && (int_eq dx dx' && (int_eq dy dy' && nat_eq slope slope'))) h in
    let t = both (nat_eq ay ay') (int_eq dx dx' && (int_eq dy dy' && nat_eq slope slope')) s.1 in
    let u = both (int_eq dx dx') (int_eq dy dy' && nat_eq slope slope') t.1 in
    let v = both (int_eq dy dy') (nat_eq slope slope') u.1 in
    let ax_is = num ax ax' s.0 in
    let ay_is = num ay ay' t.0 in
    let dx_is = int dx dx' u.0 in
    let dy_is = int dy dy' v.0 in
    let slope_is = num slope slope' v.1 in
    λ i. shapes.Gradient (ax_is i) (ay_is i) (dx_is i) (dy_is i) (slope_is i)
shape_same (shapes.Ellipse cx cy ux uy a b feather) (shapes.Ellipse cx' cy' ux' uy' a' b' feather') h =
    let s = both (nat_eq cx cx') (nat_eq cy cy' && (int_eq ux ux' && (int_eq uy uy' && (nat_eq a a' && (nat_eq b b' && nat_eq feather feather'))))) h in
    let t = both (nat_eq cy cy') (int_eq ux ux' && (int_eq uy uy' && (nat_eq a a' && (nat_eq b b' && nat_eq feather feather')))) s.1 in
    let u = both (int_eq ux ux') (int_eq uy uy' && (nat_eq a a' && (nat_eq b b' && nat_eq feather feather'))) t.1 in
    let v = both (int_eq uy uy') (nat_eq a a' && (nat_eq b b' && nat_eq feather feather')) u.1 in
    let w = both (nat_eq a a') (nat_eq b b' && nat_eq feather feather') v.1 in
    let z = both (nat_eq b b') (nat_eq feather feather') w.1 in
    let cx_is = num cx cx' s.0 in
    let cy_is = num cy cy' t.0 in
    let ux_is = int ux ux' u.0 in
    let uy_is = int uy uy' v.0 in
    let a_is = num a a' w.0 in
    let b_is = num b b' z.0 in
    let feather_is = num feather feather' z.1 in
    λ i. shapes.Ellipse (cx_is i) (cy_is i) (ux_is i) (uy_is i) (a_is i) (b_is i) (feather_is i)
shape_same _ _ h = absurd (false≢true h)

mask_same : (x y : Option Shape) → option_eq (shape_eq.ghosts).eq x y ≡ true → x ≡ y
mask_same None None h = refl
mask_same (Some x) (Some y) h = let e = shape_same x y h in λ i. Some (e i)
mask_same _ _ h = absurd (false≢true h)

blend_same : (x y : Blend) → (blend_eq.ghosts).eq x y ≡ true → x ≡ y
blend_same x y h =
    let s = both (nat_eq x.opacity y.opacity) ((mode_eq.ghosts).eq x.mode y.mode && option_eq (shape_eq.ghosts).eq x.mask y.mask) h in
    let t = both ((mode_eq.ghosts).eq x.mode y.mode) (option_eq (shape_eq.ghosts).eq x.mask y.mask) s.1 in
    let opacity = num x.opacity y.opacity s.0 in
    let mode = mode_same x.mode y.mode t.0 in
    let mask = mask_same x.mask y.mask t.1 in
    λ i. record { opacity = opacity i; mode = mode i; mask = mask i }

-- equal blends, or none, are the same
pub blend_of_same : (x y : Option Blend) → option_eq (blend_eq.ghosts).eq x y ≡ true → x ≡ y
blend_of_same None None h = refl
blend_of_same (Some x) (Some y) h = let e = blend_same x y h in λ i. Some (e i)
blend_of_same _ _ h = absurd (false≢true h)
