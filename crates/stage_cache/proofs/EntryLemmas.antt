-- The entries of the cache, each with its stage, and the same seen as prefixes and regions.
use Rattle.std.proofs.Common.{◌≡◌, ◌+◌, Bool, true, false, cond, List, [], ◌∷◌, Option, Some, None, option_map, refl, arith, ap, ◌∙◌, subst}
use Rattle.std.specs.Option.{option_map_or}
use Rattle.std.specs.Map.{lookup, lookup_entry, remove_entry, keys_of}
use Rattle.lru.specs.LruCache.{promoted}
use Rattle.px.specs.Area.{Area}
use Rattle.px.specs.Cut.{Cut}
use Rattle.pipe_nodes.specs.Prefix.{PrefixSeen}
use Rattle.pipe_nodes.specs.Staged.{StagedSeen}
use Rattle.stage_cache.specs.Stages.{Stage, pixels_of, total_pixels}
use Rattle.stage_cache.specs.StageCache.{stage_of, stages_of, AreOf}

abbrev pub Entry : Type 0
Entry = PrefixSeen × StagedSeen

abbrev pub area_of : StagedSeen → Area
area_of s = s.plane.area

-- the keys are the prefixes
pub keys-stages : (es : List Entry) → keys_of es ≡ keys_of (stages_of es)
keys-stages [] = refl
keys-stages (e ∷ es) = ap (λ l. e.0 ∷ l) (keys-stages es)

module _ (test : PrefixSeen → Bool) where
  pub lookup-stages : (es : List Entry) → lookup test (stages_of es) ≡ option_map area_of (lookup test es)
  lookup-stages [] = refl
  lookup-stages (e ∷ es) = elim (test e.0) as (λ b. cond b (Some (area_of e.1)) (lookup test (stages_of es)) ≡ option_map area_of (cond b (Some e.1) (lookup test es))) [
    | true ↦ refl
    | false ↦ lookup-stages es
  ]

  pub remove-stages : (es : List Entry) → remove_entry test (stages_of es) ≡ stages_of (remove_entry test es)
  remove-stages [] = refl
  remove-stages (e ∷ es) = elim (test e.0) as (λ b. cond b (stages_of es) (stage_of e ∷ remove_entry test (stages_of es)) ≡ stages_of (cond b es (e ∷ remove_entry test es))) [
    | true ↦ refl
    | false ↦ ap (λ l. stage_of e ∷ l) (remove-stages es)
  ]

  lookup_entry-stages : (es : List Entry) → lookup_entry test (stages_of es) ≡ option_map stage_of (lookup_entry test es)
  lookup_entry-stages [] = refl
  lookup_entry-stages (e ∷ es) = elim (test e.0) as (λ b. cond b (Some (stage_of e)) (lookup_entry test (stages_of es)) ≡ option_map stage_of (cond b (Some e) (lookup_entry test es))) [
    | true ↦ refl
    | false ↦ lookup_entry-stages es
  ]

  -- the value that is found is the found entry's
  pub lookup-entry : {V : Type 0} (es : List (PrefixSeen × V)) → lookup test es ≡ option_map (λ e. e.1) (lookup_entry test es)
  lookup-entry [] = refl
  lookup-entry {V} (e ∷ es) = elim (test e.0) as (λ b. cond b (Some e.1) (lookup test es) ≡ option_map (λ (e : PrefixSeen × V). e.1) (cond b (Some e) (lookup_entry test es))) [
    | true ↦ refl
    | false ↦ lookup-entry es
  ]

  -- `promoted`, by the entry that it finds
  abbrev pub promoted_by : {V : Type 0} → List (PrefixSeen × V) → Option (PrefixSeen × V) → List (PrefixSeen × V)
  promoted_by es o = option_map_or (λ e. e ∷ remove_entry test es) o es

  promoted_by-stages : (es : List Entry) (o : Option Entry) → promoted_by (stages_of es) (option_map stage_of o) ≡ stages_of (promoted_by es o)
  promoted_by-stages es None = refl
  promoted_by-stages es (Some e) = ap (λ l. stage_of e ∷ l) (remove-stages es)

  pub promoted-stages : (es : List Entry) → promoted test (stages_of es) ≡ stages_of (promoted test es)
  promoted-stages es = ap (promoted_by (stages_of es)) (lookup_entry-stages es) ∙ promoted_by-stages es (lookup_entry test es)

  pub AreOf-remove : (source : Cut) (es : List Entry) → AreOf source es → AreOf source (remove_entry test es)
  AreOf-remove source [] h = h
  AreOf-remove source (e ∷ es) h = elim (test e.0) as (λ b. AreOf source (cond b es (e ∷ remove_entry test es))) [
    | true ↦ h.1
    | false ↦ (h.0, AreOf-remove source es h.1)
  ]

  -- an entry that is found is one of them
  AreOf-found : (source : Cut) (es : List Entry) (e : Entry) → AreOf source es → lookup_entry test es ≡ Some e → (e.1.prefix ≡ e.0) × (e.1.source ≡ source)
  AreOf-found source [] e h f = cc
  AreOf-found source (d ∷ es) e h f = (elim (test d.0) as (λ b. cond b (Some d) (lookup_entry test es) ≡ Some e → (e.1.prefix ≡ e.0) × (e.1.source ≡ source)) [
    | true ↦ λ g. let same : d ≡ e = cc in subst (λ (x : Entry). (x.1.prefix ≡ x.0) × (x.1.source ≡ source)) same h.0
    | false ↦ λ g. AreOf-found source es e h.1 g
  ]) f

  AreOf-by : (source : Cut) (es : List Entry) (o : Option Entry) → lookup_entry test es ≡ o → AreOf source es → AreOf source (promoted_by es o)
  AreOf-by source es None f h = h
  AreOf-by source es (Some e) f h = (AreOf-found source es e h f, AreOf-remove source es h)

  pub AreOf-promoted : (source : Cut) (es : List Entry) → AreOf source es → AreOf source (promoted test es)
  AreOf-promoted source es h = AreOf-by source es (lookup_entry test es) refl h

  -- the pixels of what is left and of the entry that went
  pub total-remove : (ss : List Stage) → total_pixels (remove_entry test ss) + option_map_or (λ (s : Stage). pixels_of s.1) (lookup_entry test ss) 0 ≡ total_pixels ss
  total-remove [] = refl
  total-remove (s ∷ ss) = elim (test s.0) as (λ b. total_pixels (cond b ss (s ∷ remove_entry test ss)) + option_map_or (λ (s : Stage). pixels_of s.1) (cond b (Some s) (lookup_entry test ss)) 0 ≡ pixels_of s.1 + total_pixels ss) [
    | true ↦ omega arith
    | false ↦ let rest = total-remove ss in omega arith
  ]

  total-by : (ss : List Stage) (o : Option Stage) → lookup_entry test ss ≡ o → total_pixels (promoted_by ss o) ≡ total_pixels ss
  total-by ss None f = refl
  total-by ss (Some s) f = let all = total-remove ss in let parts = rw f at all in omega arith

  -- an entry that goes to the front has the pixels that it had
  pub total-promoted : (ss : List Stage) → total_pixels (promoted test ss) ≡ total_pixels ss
  total-promoted ss = total-by ss (lookup_entry test ss) refl
