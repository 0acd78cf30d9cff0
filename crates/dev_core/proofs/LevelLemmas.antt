-- the level that is found is the one that is meant
use Rattle.std.proofs.Common.{◌≡◌, ℕ, zero, suc, ◌+◌, ◌<◌, ◌≤◌, Bool, true, false, cond, ◌&&◌, refl, sym, ap, ◌∙◌, arith, subst}
use Rattle.std.specs.Prelude.{nat_le}
use Rattle.std.proofs.lemmas.Bool.{leb-true, le-leb}
use Rattle.px.specs.declared.view.BoxSize.{BoxSize}
use Rattle.journal.proofs.SlotLemmas.{by_number}
use Rattle.journal.proofs.DueLemmas.{and_first, and_last, both_on}
use Rattle.modules_raw.specs.Levels.{level_side, FitsIn, IsPreviewLevel, Fills, IsThumbnailLevel}
use Rattle.dev_core.specs.Shows.{first_from, last_to, fits_in, fills, preview_level, thumbnail_level}

on_and_off : (b : Bool) → b ≡ true → b ≡ false → ⊥
on_and_off b on off = let same : true ≡ false = sym on ∙ off in cc

-- no greater than a number, where it isn't greater
at_most : (a b : ℕ) → (b < a → ⊥) → a ≤ b
at_most a b none = omega (arith, none)

-- what holds of a number from a on holds of a, or it is from the next one on
from_next : (a k : ℕ) (G : Type 0) → a ≤ k → (a ≡ k → G) → (a + 1 ≤ k → G) → G
from_next a k G low same more = by_number a k G same (λ differ. more (omega (arith, low, differ)))

record IsFirst (passes : ℕ → Bool) (a n r : ℕ) : Type 0 where
  low : a ≤ r
  high : r ≤ a + n
  before : (k : ℕ) → a ≤ k → k < r → passes k ≡ false
  here : r < a + n → passes r ≡ true

first_later : (passes : ℕ → Bool) (a n r : ℕ) → passes a ≡ false → IsFirst passes (a + 1) n r → IsFirst passes a (suc n) r
first_later passes a n r off h = record {
  low = omega (arith, h.low);
  high = omega (arith, h.high);
  before = λ k low high. from_next a k (passes k ≡ false) low (λ same. subst (λ i. passes i ≡ false) same off) (λ more. h.before k more high);
  here = λ below. h.here (omega arith);
}

first-is : (passes : ℕ → Bool) (a n : ℕ) → IsFirst passes a n (first_from passes a n)
first-is passes a zero = record { low = omega arith; high = omega arith; before = λ k low high. absurd (omega arith); here = λ below. absurd (omega arith) }
first-is passes a (suc n) =
    (elim (passes a) as (λ b. passes a ≡ b → IsFirst passes a (suc n) (cond b a (first_from passes (a + 1) n))) [
      | true ↦ λ on. record { low = omega arith; high = omega arith; before = λ k low high. absurd (omega arith); here = λ below. on }
      | false ↦ λ off. first_later passes a n (first_from passes (a + 1) n) off (first-is passes (a + 1) n)
    ]) refl

record IsLast (passes : ℕ → Bool) (n r : ℕ) : Type 0 where
  high : r ≤ n
  here : 0 < r → passes r ≡ true
  behind : (k : ℕ) → r < k → k ≤ n → passes k ≡ false

last_before : (passes : ℕ → Bool) (n r : ℕ) → passes (suc n) ≡ false → IsLast passes n r → IsLast passes (suc n) r
last_before passes n r off h = record {
  high = omega (arith, h.high);
  here = h.here;
  behind = λ k above low. by_number (suc n) k (passes k ≡ false) (λ same. subst (λ i. passes i ≡ false) same off) (λ differ. h.behind k above (omega (arith, low, differ)));
}

last-is : (passes : ℕ → Bool) (n : ℕ) → IsLast passes n (last_to passes n)
last-is passes zero = record { high = omega arith; here = λ above. absurd (omega arith); behind = λ k above low. absurd (omega arith) }
last-is passes (suc n) =
    (elim (passes (suc n)) as (λ b. passes (suc n) ≡ b → IsLast passes (suc n) (cond b (suc n) (last_to passes n))) [
      | true ↦ λ on. record { high = omega arith; here = λ above. on; behind = λ k above low. absurd (omega arith) }
      | false ↦ λ off. last_before passes n (last_to passes n) off (last-is passes n)
    ]) refl

-- ---- levels

fits_on : (w h most l : ℕ) → FitsIn w h most l → fits_in w h most l ≡ true
fits_on w h most l fits = both_on (le-leb (level_side w l) most fits.wide) (le-leb (level_side h l) most fits.high)

fits_from : (w h most l : ℕ) → fits_in w h most l ≡ true → FitsIn w h most l
fits_from w h most l on = record { wide = leb-true (level_side w l) most (and_first _ _ on); high = leb-true (level_side h l) most (and_last _ _ on) }

pub preview-is : (w h side l : ℕ) → IsPreviewLevel w h side l → l ≤ 8 → l ≡ preview_level w h side
preview-is w h side l is few =
    let r = preview_level w h side in
    let first = first-is (fits_in w h side) 0 8 in
    let low : l ≤ r = at_most l r (λ below. is.least r below (fits_from w h side r (first.here (omega arith)))) in
    let high : r ≤ l = at_most r l (λ below. on_and_off (fits_in w h side l) (fits_on w h side l is.fits) (first.before l (omega arith) below)) in
    omega (arith, low, high)

fills_on : (w h : ℕ) (box : BoxSize) (l : ℕ) → Fills w h box.w box.h l → fills w h box l ≡ true
fills_on w h box l full = both_on (le-leb box.w (level_side w l) full.wide) (le-leb box.h (level_side h l) full.high)

fills_from : (w h : ℕ) (box : BoxSize) (l : ℕ) → fills w h box l ≡ true → Fills w h box.w box.h l
fills_from w h box l on = record { wide = leb-true box.w (level_side w l) (and_first _ _ on); high = leb-true box.h (level_side h l) (and_last _ _ on) }

pub thumbnail-is : (w h : ℕ) (box : BoxSize) (l : ℕ) → IsThumbnailLevel w h box.w box.h l → l ≤ 8 → l ≡ thumbnail_level w h box
thumbnail-is w h box l is few =
    let r = thumbnail_level w h box in
    let last = last-is (fills w h box) 8 in
    let low : r ≤ l = at_most r l (λ below. is.greatest r below last.high (fills_from w h box r (last.here (omega arith)))) in
    let high : l ≤ r = at_most l r (λ below. on_and_off (fills w h box l) (fills_on w h box l (is.fills (omega arith))) (last.behind l below few)) in
    omega (arith, low, high)
