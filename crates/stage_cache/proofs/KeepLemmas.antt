-- What `push` and `pop_lru` leave of the entries, and the pixels that leave with them.
use Rattle.std.proofs.Common.{◌≡◌, ℕ, zero, suc, ◌+◌, ◌-◌, ◌<◌, ◌≤◌, Bool, true, false, cond, List, [], ◌∷◌, length, take, slice_get, Option, Some, None, option_map, refl, arith, sym, ap, ◌∙◌, subst}
use Rattle.std.specs.Option.{option_map_or}
use Rattle.std.specs.Map.{lookup_entry, remove_entry}
use Rattle.std.proofs.lemmas.Bool.{le-leb}
use Rattle.std.proofs.lemmas.List.{take-map, length-map}
use Rattle.lru.specs.LruCache.{LruCache, lru_cache, put_entries, displaced, last_entry, IsValid}
use Rattle.lru.proofs.CallerLemmas.{Contains-lookup_entry}
use Rattle.px.specs.Cut.{Cut}
use Rattle.pipe_nodes.specs.Prefix.{PrefixSeen}
use Rattle.pipe_nodes.specs.SamePrefix.{same_prefix}
use Rattle.pipe_nodes.specs.Staged.{StagedSeen}
use Rattle.pipe_nodes.proofs.SameLemmas.{prefix-Decides}
use Rattle.stage_cache.specs.Stages.{Stage, pixels_of, total_pixels, front_within, stages_after_keep, IsLongestFront}
use Rattle.stage_cache.specs.StageCache.{stage_of, stages_of, AreOf, pixels_gone}
use Rattle.stage_cache.proofs.EntryLemmas.{Entry, remove-stages, AreOf-remove, lookup-entry}
use Rattle.stage_cache.proofs.FrontLemmas.{front-all, front-take_less, front-shed, front-longest}

-- the pixels of the first n entries, and of the one behind them, where there is one
total-take : (n : ℕ) (es : List Entry) → length es ≤ suc n → total_pixels (stages_of (take n es)) + option_map_or (λ (e : Entry). pixels_of e.1.plane.area) (slice_get es n) 0 ≡ total_pixels (stages_of es)
total-take zero [] h = refl
total-take zero (e ∷ []) h = omega arith
total-take zero (e ∷ d ∷ es) h = absurd (omega arith)
total-take (suc n) [] h = refl
total-take (suc n) (e ∷ es) h = let rest = total-take n es (omega arith) in omega arith

AreOf-take : (source : Cut) (n : ℕ) (es : List Entry) → AreOf source es → AreOf source (take n es)
AreOf-take source zero es h = tt
AreOf-take source (suc n) [] h = tt
AreOf-take source (suc n) (e ∷ es) h = (h.0, AreOf-take source n es h.1)

length-take_few : (n limit : ℕ) (es : List Entry) → length es ≤ limit → length (take n es) ≤ limit
length-take_few zero limit es h = omega arith
length-take_few (suc n) limit [] h = h
length-take_few (suc n) zero (e ∷ es) h = absurd (omega arith)
length-take_few (suc n) (suc limit) (e ∷ es) h = let rest = length-take_few n limit es (omega arith) in omega arith

-- the pixels that the last entry has
total-last : (es : List Entry) (e : Entry) → last_entry es ≡ Some e → total_pixels (stages_of (take (length es - 1) es)) + pixels_of e.1.plane.area ≡ total_pixels (stages_of es)
total-last es e h = let all = total-take (length es - 1) es (omega arith) in let parts = rw h at all in parts

some_last : (e : Entry) (es : List Entry) (n : ℕ) → n ≡ length es → slice_get (e ∷ es) n ≡ None → ⊥
some_last e [] zero h g = cc
some_last e (d ∷ es) zero h g = cc
some_last e [] (suc n) h g = absurd (omega arith)
some_last e (d ∷ es) (suc n) h g = some_last d es n (omega arith) g

-- without a last entry there are none
pub total-no_last : (es : List Entry) → last_entry es ≡ None → total_pixels (stages_of es) ≡ 0
total-no_last [] h = refl
total-no_last (e ∷ es) h = absurd (some_last e es (length (e ∷ es) - 1) (omega arith) h)

-- one turn of the loop that takes the last entry out: its pixels are among those counted
pub last-counted : (es : List Entry) (e : Entry) (n used : ℕ) → last_entry es ≡ Some e → used ≡ total_pixels (stages_of es) → n ≡ pixels_of e.1.plane.area → n ≤ used
last-counted es e n used h u p = let all = total-last es e h in omega arith

pub total-shed : (es : List Entry) (e : Entry) (n used : ℕ) → last_entry es ≡ Some e → used ≡ total_pixels (stages_of es) → n ≡ pixels_of e.1.plane.area → used - n ≡ total_pixels (stages_of (take (length es - 1) es))
total-shed es e n used h u p = let all = total-last es e h in omega arith

pub front-after_shed : (limit budget used : ℕ) (es : List Entry) → budget < used → used ≡ total_pixels (stages_of es) → front_within limit budget (stages_of (take (length es - 1) es)) ≡ front_within limit budget (stages_of es)
front-after_shed limit budget used es b u =
    ap (front_within limit budget) (sym (take-map stage_of (length es - 1) es) ∙ ap (λ n. take (n - 1) (stages_of es)) (sym (length-map es stage_of))) ∙ front-shed limit budget (stages_of es) (subst (λ n. budget < n) u b)

pub few_after_shed : (limit : ℕ) (es : List Entry) → length es ≤ limit → length (take (length es - 1) es) ≤ limit
few_after_shed limit es h = length-take_few (length es - 1) limit es h

pub of_after_shed : (source : Cut) (es : List Entry) → AreOf source es → AreOf source (take (length es - 1) es)
of_after_shed source es h = AreOf-take source (length es - 1) es h

-- the loop's end
pub front-ends : (limit budget used : ℕ) (es : List Entry) → length es ≤ limit → used ≡ total_pixels (stages_of es) → used ≤ budget → stages_of es ≡ front_within limit budget (stages_of es)
front-ends limit budget used es f u b = sym (front-all limit budget (stages_of es) (subst (λ n. n ≤ limit) (sym (length-map es stage_of)) f) (subst (λ n. n ≤ budget) u b))

remove-none : (test : PrefixSeen → Bool) (es : List Entry) → lookup_entry test es ≡ None → remove_entry test es ≡ es
remove-none test [] h = refl
remove-none test (e ∷ es) h = (elim (test e.0) as (λ b. cond b (Some e) (lookup_entry test es) ≡ None → cond b es (e ∷ remove_entry test es) ≡ e ∷ es) [
  | true ↦ λ g. cc
  | false ↦ λ g. ap (λ l. e ∷ l) (remove-none test es g)
]) h

total-removed : (test : PrefixSeen → Bool) (es : List Entry) (e : Entry) → lookup_entry test es ≡ Some e → total_pixels (stages_of (remove_entry test es)) + pixels_of e.1.plane.area ≡ total_pixels (stages_of es)
total-removed test [] e h = cc
total-removed test (d ∷ es) e h = (elim (test d.0) as (λ b. cond b (Some d) (lookup_entry test es) ≡ Some e → total_pixels (stages_of (cond b es (d ∷ remove_entry test es))) + pixels_of e.1.plane.area ≡ pixels_of d.1.plane.area + total_pixels (stages_of es)) [
  | true ↦ λ g. let same : d ≡ e = cc in let area = ap (λ (x : Entry). pixels_of x.1.plane.area) same in omega arith
  | false ↦ λ g. let rest = total-removed test es e g in omega arith
]) h

-- a stage is put in front of the entries c, under its prefix p
module _ (c : LruCache PrefixSeen StagedSeen) (p : PrefixSeen) (s : StagedSeen) where
  abbrev put_by : Option Entry → List Entry
  put_by o = option_map_or (λ e. (e.0, s) ∷ remove_entry (same_prefix p) c.entries) o ((p, s) ∷ take (c.cap - 1) c.entries)

  same_key : (e : Entry) → same_prefix p e.0 ≡ true → p ≡ e.0
  same_key e t = (prefix-Decides p e.0).0 t

  front_by : (budget : ℕ) (o : Option Entry) → lookup_entry (same_prefix p) c.entries ≡ o → 0 < c.cap → front_within c.cap budget (stages_of (put_by o)) ≡ front_within c.cap budget ((p, s.plane.area) ∷ remove_entry (same_prefix p) (stages_of c.entries))
  front_by budget None h b =
      ap (λ l. front_within c.cap budget ((p, s.plane.area) ∷ l)) (sym (take-map stage_of (c.cap - 1) c.entries))
      ∙ (front-take_less c.cap (c.cap - 1) budget (p, s.plane.area) (stages_of c.entries) (omega arith)
      ∙ ap (λ l. front_within c.cap budget ((p, s.plane.area) ∷ l)) (ap stages_of (sym (remove-none (same_prefix p) c.entries h)) ∙ sym (remove-stages (same_prefix p) c.entries)))
  front_by budget (Some e) h b =
      let key : p ≡ e.0 = same_key e (Contains-lookup_entry (same_prefix p) c.entries e h).1 in
      ap (λ k. front_within c.cap budget ((k, s.plane.area) ∷ stages_of (remove_entry (same_prefix p) c.entries))) (sym key)
      ∙ ap (λ l. front_within c.cap budget ((p, s.plane.area) ∷ l)) (sym (remove-stages (same_prefix p) c.entries))

  -- the front is that of the stage before the entries without its prefix: an entry of the same prefix, or the last of a full cache, makes no difference
  front-put : (budget : ℕ) → IsValid same_prefix c → front_within c.cap budget (stages_of (put_entries same_prefix c p s)) ≡ front_within c.cap budget ((p, s.plane.area) ∷ remove_entry (same_prefix p) (stages_of c.entries))
  front-put budget v = front_by budget (lookup_entry (same_prefix p) c.entries) refl v.2

  of_by : (source : Cut) (o : Option Entry) → lookup_entry (same_prefix p) c.entries ≡ o → s.prefix ≡ p → s.source ≡ source → AreOf source c.entries → AreOf source (put_by o)
  of_by source None h q r a = ((q, r), AreOf-take source (c.cap - 1) c.entries a)
  of_by source (Some e) h q r a = ((q ∙ same_key e (Contains-lookup_entry (same_prefix p) c.entries e h).1, r), AreOf-remove (same_prefix p) source c.entries a)

  AreOf-put : (source : Cut) → s.prefix ≡ p → s.source ≡ source → AreOf source c.entries → AreOf source (put_entries same_prefix c p s)
  AreOf-put source q r a = of_by source (lookup_entry (same_prefix p) c.entries) refl q r a

  abbrev gone_by : Option StagedSeen → Option Entry
  gone_by o = option_map_or (λ old. Some (p, old)) o (slice_get c.entries (c.cap - 1))

  total_by : (o : Option Entry) → lookup_entry (same_prefix p) c.entries ≡ o → IsValid same_prefix c → total_pixels (stages_of (put_by o)) + pixels_gone (gone_by (option_map (λ e. e.1) o)) ≡ pixels_of s.plane.area + total_pixels (stages_of c.entries)
  total_by None h v = let few = v.1 in let some = v.2 in let all = total-take (c.cap - 1) c.entries (omega arith) in omega arith
  total_by (Some e) h v = let all = total-removed (same_prefix p) c.entries e h in omega arith

  -- the pixels that came, and those that left
  total-put : IsValid same_prefix c → total_pixels (stages_of (put_entries same_prefix c p s)) + pixels_gone (displaced same_prefix c p s) ≡ pixels_of s.plane.area + total_pixels (stages_of c.entries)
  total-put v = ap (λ o. total_pixels (stages_of (put_entries same_prefix c p s)) + pixels_gone (gone_by o)) (lookup-entry (same_prefix p) c.entries) ∙ total_by (lookup_entry (same_prefix p) c.entries) refl v

  pub gone-counted : (gone used more : ℕ) → IsValid same_prefix c → gone ≡ pixels_gone (displaced same_prefix c p s) → more ≡ pixels_of s.plane.area → used ≡ total_pixels (stages_of c.entries) → gone ≤ used + more
  gone-counted gone used more v g m u = let all = total-put v in omega arith

  pub total-kept : (gone used more : ℕ) (new : LruCache PrefixSeen StagedSeen) → IsValid same_prefix c → gone ≡ pixels_gone (displaced same_prefix c p s) → more ≡ pixels_of s.plane.area → used ≡ total_pixels (stages_of c.entries) → new ≡ lru_cache (put_entries same_prefix c p s) c.cap → used + more - gone ≡ total_pixels (stages_of new.entries)
  total-kept gone used more new v g m u e = let all = total-put v in let same = ap (λ (n : LruCache PrefixSeen StagedSeen). total_pixels (stages_of n.entries)) e in omega arith

  pub AreOf-kept : (source : Cut) (new : LruCache PrefixSeen StagedSeen) → s.prefix ≡ p → s.source ≡ source → new ≡ lru_cache (put_entries same_prefix c p s) c.cap → AreOf source c.entries → AreOf source new.entries
  AreOf-kept source new q r e a = subst (λ (n : LruCache PrefixSeen StagedSeen). AreOf source n.entries) (sym e) (AreOf-put source q r a)

  -- the entries after the stage was put and the last ones taken out are the longest front
  pub stages-kept : (budget : ℕ) (new after : LruCache PrefixSeen StagedSeen) → IsValid same_prefix c → pixels_of s.plane.area ≤ budget → new ≡ lru_cache (put_entries same_prefix c p s) c.cap → stages_of after.entries ≡ front_within new.cap budget (stages_of new.entries) → stages_of after.entries ≡ stages_after_keep c.cap budget (p, s.plane.area) (stages_of c.entries)
  stages-kept budget new after v b e h =
      h ∙ (ap (λ (n : LruCache PrefixSeen StagedSeen). front_within n.cap budget (stages_of n.entries)) e
      ∙ (front-put budget v ∙ sym (ap (λ t. cond t (front_within c.cap budget ((p, s.plane.area) ∷ remove_entry (same_prefix p) (stages_of c.entries))) (stages_of c.entries)) (le-leb (pixels_of s.plane.area) budget b))))

-- the front that is kept is the longest
pub longest-kept : (limit budget : ℕ) (s : Stage) (old new : List Stage) → pixels_of s.1 ≤ budget → new ≡ stages_after_keep limit budget s old → IsLongestFront limit budget (s ∷ remove_entry (same_prefix s.0) old) new
longest-kept limit budget s old new b e =
    let list = s ∷ remove_entry (same_prefix s.0) old in
    subst (IsLongestFront limit budget list) (sym (e ∙ ap (λ t. cond t (front_within limit budget list) old) (le-leb (pixels_of s.1) budget b))) (front-longest limit budget list)
