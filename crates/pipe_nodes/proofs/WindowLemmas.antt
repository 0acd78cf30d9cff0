-- Lemmas on windows.
use Rattle.std.proofs.Common.{◌≡◌, ℕ, ◌+◌, refl, sym, ap, ◌∙◌, subst, zero-add}
use Rattle.std.specs.Prelude.{Result, Ok, Err, IfOk}
use Rattle.px.specs.declared.view.BoxSize.{BoxSize}
use Rattle.px.specs.declared.view.View.{View}
use Rattle.px.specs.Area.{Area, whole_of}
use Rattle.px.specs.Cut.{Cut, IsCutOf, IsWhole, picture_of}
use Rattle.px.specs.Picture.{Picture}
use Rattle.modules_raw.specs.Levels.{blocks}
use Rattle.pipe_nodes.specs.Windows.{fit_factor, part_of, scaled, shown_area}

-- ---- whole planes

pub itself : (p : Cut) → IsCutOf (picture_of p) p
itself p = record { kind = refl; wide = refl; high = refl; same = λ x y c inside channel. refl }

-- a copy of a whole picture's plane is whole
pub all-whole : (p o : Cut) → o.area ≡ whole_of p.w p.h → IsCutOf (picture_of p) o → IsWhole o
all-whole p o area copy = area ∙ ap (λ n. whole_of n p.h) (sym copy.wide) ∙ ap (λ n. whole_of o.w n) (sym copy.high)

-- two facts of a value, where there is one, put together
pub ok_both : {T E : Type 0} (r : Result T E) (P Q S : T → Type 0) → ((x : T) → P x → Q x → S x) → IfOk r P → IfOk r Q → IfOk r S
ok_both (Ok x) P Q S join p q = join x p q
ok_both (Err e) P Q S join p q = tt

-- ---- views

-- a view's part of a plane is that of each picture that the plane is a cut of
pub view-of-part : (v : View) (p : Cut) (q : Picture) (a : Area) (o : Cut) → IsCutOf q p → a ≡ shown_area v p.w p.h → IsCutOf (part_of a (scaled v.factor q)) o → IsCutOf (part_of (shown_area v q.w q.h) (scaled v.factor q)) o
view-of-part v p q a o part is cut =
    subst (λ r. IsCutOf (part_of r (scaled v.factor q)) o) (is ∙ ap (λ n. shown_area v n p.h) part.wide ∙ ap (λ n. shown_area v q.w n) part.high) cut

-- ---- boxes

-- the whole of a picture is the picture
whole-part : (s : Picture) (o : Cut) → IsCutOf (part_of (whole_of s.w s.h) s) o → IsCutOf s o
whole-part s o cut = record {
  kind = cut.kind;
  wide = cut.wide;
  high = cut.high;
  same = λ x y c inside channel. cut.same x y c inside channel ∙ ap (λ n. s.at n (0 + y) c) (zero-add x) ∙ ap (λ n. s.at x n c) (zero-add y);
}

pub fit-of-part : (b : BoxSize) (p : Cut) (q : Picture) (f w h : ℕ) (o : Cut) → IsCutOf q p → f ≡ fit_factor p.w p.h b → w ≡ blocks f p.w → h ≡ blocks f p.h
    → IsCutOf (part_of (record { x = 0; y = 0; w = w; h = h }) (scaled f q)) o → IsCutOf (scaled (fit_factor q.w q.h b) q) o
fit-of-part b p q f w h o part f_is w_is h_is cut =
    let factor : f ≡ fit_factor q.w q.h b = f_is ∙ ap (λ n. fit_factor n p.h b) part.wide ∙ ap (λ n. fit_factor q.w n b) part.high in
    let wide : w ≡ blocks f q.w = w_is ∙ ap (blocks f) part.wide in
    let high : h ≡ blocks f q.h = h_is ∙ ap (blocks f) part.high in
    let area : ◌≡◌ {A = Area} (record { x = 0; y = 0; w = w; h = h }) (whole_of (blocks f q.w) (blocks f q.h)) = λ k. record { x = 0; y = 0; w = wide k; h = high k } in
    subst (λ n. IsCutOf (scaled n q) o) factor (whole-part (scaled f q) o (subst (λ a. IsCutOf (part_of a (scaled f q)) o) area cut))
