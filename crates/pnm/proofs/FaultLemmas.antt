-- the first check that fails
use Rattle.std.proofs.Common.{◌≡◌, ℕ, ◌-◌, ◌*◌, ◌<◌, ◌≤◌, ◌==◌, ◌||◌, ◌&&◌, nat_lt, Bool, true, false, Some, None, Option, List, length, drop, refl, arith}
use Rattle.std.proofs.lemmas.Bool.{eq-eqb, ne_eqb, lt-ltb, le-ltb}
use Rattle.px.specs.declared.kind.PlaneKind.{PlaneKind}
use Rattle.px.specs.Kind.{least_side}
use Rattle.pnm.specs.declared.fault.PnmFault.{PnmFault}
use Rattle.pnm.specs.declared.fault.PnmKind.{PnmKind}
use Rattle.pnm.specs.declared.fault.PnmKind.TheVariants.{BadMagic, OtherForm, BadHeader, TooLarge, TooSmall, Short}
use Rattle.pnm.specs.Fault.{begins, is_other, is_read, magic_fault, number_fault, number_of, number_text, raster_fault, sides_fault}
use Rattle.pnm.specs.Grammar.{is_decimal, is_white, opens_gap}

abbrev pub told : PnmKind → ℕ → ℕ → Option PnmFault
told kind total left = Some (record { kind = kind; place = total - left })

-- the tests of the first two bytes
abbrev pub other_of : ℕ → ℕ → Bool
other_of a b = a == 80 && (b == 49 || b == 50 || b == 51 || b == 52 || b == 55)

abbrev pub read_of : ℕ → ℕ → Bool
read_of a b = a == 80 && (b == 53 || b == 54)

pub tests_of : (test : ℕ → ℕ → Bool) (a a' b b' : ℕ) (t : Bool) → a ≡ a' → b ≡ b' → test a b ≡ t → test a' b' ≡ t
tests_of test a a' b b' t first second is = rw (← first, ← second) is

pub magic_other : (bytes : List ℕ) → is_other bytes ≡ true → magic_fault bytes ≡ told OtherForm (length bytes) (length bytes)
unfolding magic_fault
magic_other bytes other = rw other refl

pub magic_bad : (bytes : List ℕ) → is_other bytes ≡ false → is_read bytes ≡ false → magic_fault bytes ≡ told BadMagic (length bytes) (length bytes)
unfolding magic_fault
magic_bad bytes other read = rw (other, read) refl

pub magic_none : (bytes : List ℕ) → is_other bytes ≡ false → is_read bytes ≡ true → magic_fault bytes ≡ None
unfolding magic_fault
magic_none bytes other read = rw (other, read) refl

module _ (total : ℕ) (text : List ℕ) (most : ℕ) (zero large : PnmKind) where
  pub number_opens : begins opens_gap text ≡ false → number_fault total text most zero large ≡ told BadHeader total (length text)
  unfolding number_fault
  number_opens opens = rw opens refl

  pub number_starts : begins opens_gap text ≡ true → begins is_decimal (number_text text) ≡ false → number_fault total text most zero large ≡ told BadHeader total (length (number_text text))
  unfolding number_fault
  number_starts opens starts = rw (opens, starts) refl

  pub number_zero : begins opens_gap text ≡ true → begins is_decimal (number_text text) ≡ true → number_of text ≡ 0 → number_fault total text most zero large ≡ told zero total (length (number_text text))
  unfolding number_fault
  number_zero opens starts is = let e = eq-eqb (number_of text) 0 is in rw (opens, starts, e) refl

  pub number_large : begins opens_gap text ≡ true → begins is_decimal (number_text text) ≡ true → 0 < number_of text → most < number_of text → number_fault total text most zero large ≡ told large total (length (number_text text))
  unfolding number_fault
  number_large opens starts some over =
      let e = ne_eqb (number_of text) 0 (λ is. absurd (omega arith)) in
      let l = lt-ltb most (number_of text) over in
      rw (opens, starts, e, l) refl

  pub number_none : begins opens_gap text ≡ true → begins is_decimal (number_text text) ≡ true → 0 < number_of text → number_of text ≤ most → number_fault total text most zero large ≡ None
  unfolding number_fault
  number_none opens starts some under =
      let e = ne_eqb (number_of text) 0 (λ is. absurd (omega arith)) in
      let l = le-ltb most (number_of text) under in
      rw (opens, starts, e, l) refl

module _ (total : ℕ) (kind : PlaneKind) (w h width_left height_left : ℕ) where
  pub sides_large : 25165824 < w * h → sides_fault total kind w h width_left height_left ≡ told TooLarge total height_left
  unfolding sides_fault
  sides_large over = let l = lt-ltb 25165824 (w * h) over in rw l refl

  pub sides_small : w * h ≤ 25165824 → (nat_lt w (least_side kind) || nat_lt h (least_side kind)) ≡ true → sides_fault total kind w h width_left height_left ≡ told TooSmall total width_left
  unfolding sides_fault
  sides_small under small = let l = le-ltb 25165824 (w * h) under in rw (l, small) refl

  pub sides_none : w * h ≤ 25165824 → (nat_lt w (least_side kind) || nat_lt h (least_side kind)) ≡ false → sides_fault total kind w h width_left height_left ≡ None
  unfolding sides_fault
  sides_none under small = let l = le-ltb 25165824 (w * h) under in rw (l, small) refl

module _ (total : ℕ) (text : List ℕ) (need : ℕ) where
  pub raster_white : begins is_white text ≡ false → raster_fault total text need ≡ told BadHeader total (length text)
  unfolding raster_fault
  raster_white white = rw white refl

  pub raster_short : begins is_white text ≡ true → length (drop 1 text) < need → raster_fault total text need ≡ told Short total 0
  unfolding raster_fault
  raster_short white short = let l = lt-ltb (length (drop 1 text)) need short in rw (white, l) refl

  pub raster_none : begins is_white text ≡ true → need ≤ length (drop 1 text) → raster_fault total text need ≡ None
  unfolding raster_fault
  raster_none white enough = let l = le-ltb (length (drop 1 text)) need enough in rw (white, l) refl
