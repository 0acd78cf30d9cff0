-- the planes of the levels that are written
use Rattle.std.proofs.Common.{◌≡◌, ◌≢◌, ℕ, ◌<◌, List, length, refl, sym, ap, subst, ◌∙◌, arith, eqb, true, false, ⊎_elim, Option, Some, None}
use Rattle.std.specs.Prelude.{slice_set, slice_index_or, is_some, IfSome}
use Rattle.std.specs.Borrow.{Bor}
use Rattle.std.specs.Option.{option_copied}
use Rattle.std.proofs.lemmas.Bool.Decides.{eqb_tells}
use Rattle.std.proofs.lemmas.List.{length-set, get_or_default, get_or-set_same, get_or-set_other}
use Rattle.px.specs.Area.{Covers}
use Rattle.px.specs.Cut.{Cut, IsCutOf, IsWhole, picture_of}
use Rattle.px.specs.Picture.{Picture}
use Rattle.modules_raw.specs.Levels.{levelled}
use Rattle.mip_cache.specs.declared.entry.Held.TheVariants.{Writing, Ready}
use Rattle.mip_cache.specs.declared.entry.Entry.{Entry}
use Rattle.mip_cache.specs.Mipmaps.{held_at, after_demote, KeepsOthers}
use Rattle.mip_cache.proofs.HeldLemmas.{held_at-with_held, KeepsOthers-with_held}
use Rattle.level_store.specs.declared.hold.Hold.{Hold}
use Rattle.level_store.specs.declared.hold.Hold.TheVariants.{Reads}
use Rattle.level_store.specs.Levels.{hold_in}
use Rattle.level_store.specs.Agreement.{is_ready, Agree}
use Rattle.level_store.specs.Planes.{IsLevelPlane, PlanesStand, IsOfLevel}
use Rattle.level_store.proofs.AgreeLemmas.{read_range}

-- one level changes, and its plane with it
pub stands_set : (source : Cut) (old new : List Entry) (planes : List (Option Cut)) (level : ℕ) (x : Option Cut) → PlanesStand source old planes → level < length planes
    → KeepsOthers level old new → is_some x ≡ is_ready (held_at level new) → ((p : Cut) → x ≡ Some p → IsLevelPlane source level p)
    → PlanesStand source new (slice_set planes level x)
stands_set source old new planes level x stands within keeps ready is = record {
  places = length-set planes level x ∙ stands.places;
  there = λ l. ⊎_elim
      (λ (here : (eqb l level ≡ true) × (l ≡ level)).
      subst (λ i. is_some (slice_index_or (slice_set planes level x) i None) ≡ is_ready (held_at i new)) (sym here.1)
      (ap is_some (get_or-set_same planes level x None within) ∙ ready))
      (λ (other : (eqb l level ≡ false) × (l ≢ level)).
      ap is_some (get_or-set_other planes level l x None other.1) ∙ stands.there l ∙ ap is_ready (sym (keeps l other.1)))
      (eqb_tells l level);
  planes_of = λ l p at. ⊎_elim
      (λ (here : (eqb l level ≡ true) × (l ≡ level)).
      let now : slice_index_or (slice_set planes level x) level None ≡ Some p = subst (λ i. slice_index_or (slice_set planes level x) i None ≡ Some p) here.1 at in
      subst (λ i. IsLevelPlane source i p) (sym here.1) (is p (sym (get_or-set_same planes level x None within) ∙ now)))
      (λ (other : (eqb l level ≡ false) × (l ≢ level)). stands.planes_of l p (sym (get_or-set_other planes level l x None other.1) ∙ at))
      (eqb_tells l level);
}

-- the plane of the level that is made
pub stands_made : (source : Cut) (old : List Entry) (w : ℕ) (planes : List (Option Cut)) (level : ℕ) (p : Cut) → PlanesStand source old planes → level < length planes
    → held_at level old ≡ Some (Writing w) → IsWhole p → ((q : Picture) → IsCutOf q source → IsCutOf (levelled level q) p)
    → PlanesStand source (after_demote level old) (slice_set planes level (Some p))
stands_made source old w planes level p stands within was whole cut =
    stands_set source old (after_demote level old) planes level (Some p) stands within (KeepsOthers-with_held level (Ready 1) old)
    (sym (ap is_ready (held_at-with_held level (Writing w) (Ready 1) old was)))
    (λ q is. subst (IsLevelPlane source level) (some_is q is) (record { cut = cut (picture_of source) itself; whole = whole }))
  where
    some_is : (q : Cut) → ◌≡◌ {A = Option Cut} (Some p) (Some q) → p ≡ q
    some_is q e = cc

    itself : IsCutOf (picture_of source) source
    itself = record { kind = refl; wide = refl; high = refl; same = λ x y c inside channel. refl }

-- a plane of a level that is read covers each region of it
pub of_level : (source : Cut) (es : List Entry) (holds : List (Option Hold)) (planes : List (Option Cut)) (w level : ℕ) (p : Cut) → Agree es holds → PlanesStand source es planes
    → hold_in holds w ≡ Some (Reads level) → slice_index_or planes level None ≡ Some p → IsOfLevel source level p
of_level source es holds planes w level p a stands own at =
    let range = (read_range es holds w level a own).0 in
    let is = stands.planes_of level p at in
    record {
      low = range.0;
      high = range.1;
      cut = is.cut;
      covers = λ region inside. subst (λ area. Covers area region) (sym is.whole)
          (record { left = omega arith; right = omega (arith, inside.across, is.cut.wide); top = omega arith; bottom = omega (arith, inside.down, is.cut.high) });
    }

-- and it is the one that is found at its place
pub plane_read : (source : Cut) (es : List Entry) (holds : List (Option Hold)) (planes : List (Option Cut)) (w level : ℕ) (item : Option Cut) (found : Option (Bor Cut)) → Agree es holds
    → PlanesStand source es planes → hold_in holds w ≡ Some (Reads level) → item ≡ slice_index_or planes level item → option_copied found ≡ item
    → IfSome found (λ p. (l : ℕ) → hold_in holds w ≡ Some (Reads l) → IsOfLevel source l p.now)
plane_read source es holds planes w level item None a stands own at is = tt
plane_read source es holds planes w level item (Some p) a stands own at is =
    λ l own_now.
    let same : level ≡ l = level_is (sym own ∙ own_now) in
    let within : level < length planes = omega (arith, (read_range es holds w level a own).0.1, stands.places) in
    subst (λ n. IsOfLevel source n p.now) same
    (of_level source es holds planes w level p.now a stands own (get_or_default planes level None item within ∙ sym at ∙ sym is))
  where
    level_is : {l : ℕ} → ◌≡◌ {A = Option Hold} (Some (Reads level)) (Some (Reads l)) → level ≡ l
    level_is {l} e = cc
