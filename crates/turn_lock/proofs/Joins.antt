-- Making the table, dealing seats, joining them and the end keep the rule.
use Rattle.std.proofs.Common.{◌≡◌, ◌≢◌, ℕ, ◌<◌, true, false, List, [], ◌∷◌, ◌++◌, length, set, replicate, refl, sym, ap, ◌∙◌, subst, ◌⊎◌, ⊎_elim, inl, inr, Option, Some, None, length-set, length-append, arith, zero, suc}
use mathlib.Core.Logic.{dite}
use mathlib.Core.Option.{some, some-ne-none, some-injective}
use native.Mathlib.Decide.{ℕ_discrete}
use lib.ListN.{get_elem?}
use Rattle.atomic_table.specs.Table.{State, Splits, Joins, Final, Seen, opening}
use Rattle.atomic_table.proofs.Lists.{at_set, set_here, set_else, at_longer}
use Rattle.turn_lock.specs.declared.view.View.{View}
use Rattle.turn_lock.specs.Story.{StartsWith, borne}
use Rattle.turn_lock.specs.Rule.{Moment, opener, spent, Homes, Joined, HadFits, AllHad, AtHome, IsOut, Kept, Fits}
use Rattle.turn_lock.specs.Steps.{dealer, dealt, joined}
use Rattle.turn_lock.specs.Ending.{Has, IsLast, HasAll, IsLeft}
use Rattle.turn_lock.proofs.Stories.{starts_self, nothing_added}
use Rattle.turn_lock.proofs.Changed.{below_length, same_at, not_spent, tickets_set, had_changed, out_set}

-- what stands in a list with one more: in the list, or at its end
at_new : {A : Type 0} (l : List A) (a b : A) (j : ℕ) → get_elem? (l ++ a ∷ []) j ≡ some b → (get_elem? l j ≡ some b) ⊎ ((j ≡ length l) × (a ≡ b))
at_new [] a b zero e = inr (refl, some-injective a b e)
at_new [] a b (suc j) e = absurd (some-ne-none b (sym e))
at_new (x ∷ xs) a b zero e = inl e
at_new (x ∷ xs) a b (suc j) e = ⊎_elim (λ h. inl h) (λ h. inr (omega (arith, h.0), h.1)) (at_new xs a b j e)

module _ {N E : Type 0} (bearer : E → ℕ) where
  had_longer : (story : List E) (views more : List (View N E)) (ks : List (Joined E)) → AllHad bearer story views ks → AllHad bearer story (views ++ more) ks
  had_longer story views more [] h = tt
  had_longer story views more (k ∷ ks) h = ((h.0.0, h.0.1, at_longer views more k.0 spent h.0.2), had_longer story views more ks h.1)

  -- what was joined before stays where two live seats are joined
  had_joined : (story : List E) (views : List (View N E)) (id other : ℕ) (v w both : View N E) (ks : List (Joined E)) → get_elem? views id ≡ some v → v.live ≡ true → get_elem? views other ≡ some w → w.live ≡ true
      → AllHad bearer story views ks → AllHad bearer story (set (set views id both) other spent) ks
  had_joined story views id other v w both [] at live there lives h = tt
  had_joined story views id other v w both (k ∷ ks) at live there lives h = (
    (h.0.0, h.0.1, set_else (set views id both) other k.0 spent (not_spent views other k.0 w there lives h.0.2) ∙ (set_else views id k.0 both (not_spent views id k.0 v at live h.0.2) ∙ h.0.2)),
    had_joined story views id other v w both ks at live there lives h.1,
  )

module _ {T N E : Type 0} (name_of : T → N) (story_of : T → List E) (bearer : E → ℕ) (mark_of : T → ℕ) (most : N → ℕ) (called : N) where
  abbrev Ru : State (Option T) (View N E) → Type 0
  Ru = Kept name_of story_of bearer mark_of most called

  abbrev Fi : Moment E → Homes T → List (View N E) → ℕ → View N E → Type 0
  Fi = Fits name_of story_of bearer mark_of most called

  -- the table as it is made: the first ticket is drawn, and the slot is empty
  pub opens : Ru (opening (1 ∷ 0 ∷ 0 ∷ []) (replicate 1 None) (opener called))
  opens = record {
    moment = record { story = []; tickets = 1; serving = 0; marked = 0 };
    words = refl;
    small = omega arith;
    order = omega arith;
    top = omega arith;
    each = first_fits;
    unique = λ i j v w k at_v at_w _ _ _ _. only i v at_v ∙ sym (only j w at_w);
    every = λ k from below. let e : 0 ≡ k = omega arith in (0, opener called, refl, refl, ap Some e);
    nobody = λ n long. refl;
    count = λ v at live. ap (λ (u : View N E). u.count) (sym (some-injective (opener called) v at));
    place = inl (None, refl, (λ pos. absurd (omega arith)), λ _. (refl, refl));
  }
    where
      only : (i : ℕ) (v : View N E) → get_elem? (opener called ∷ []) i ≡ some v → i ≡ 0
      only zero v at = refl
      only (suc i) v at = absurd (some-ne-none v (sym at))

      first_fits : (i : ℕ) (v : View N E) → get_elem? (opener called ∷ []) i ≡ some v → v.live ≡ true → Fi (record { story = []; tickets = 1; serving = 0; marked = 0 }) (some None ∷ []) (opener called ∷ []) i v
      first_fits zero v at live = subst (Fi (record { story = []; tickets = 1; serving = 0; marked = 0 }) (some None ∷ []) (opener called ∷ []) 0) (some-injective (opener called) v at) record {
        number = refl;
        name = refl;
        seen = starts_self [];
        own = refl;
        mark = omega arith;
        past = omega arith;
        ticket = λ k has. let e : 0 ≡ k = cc in (omega arith, omega arith);
        out = λ out. let b : false ≡ true = out in cc;
        kept = tt;
      }
      first_fits (suc i) v at live = absurd (some-ne-none v (sym at))

  fits_longer : (m : Moment E) (homes : Homes T) (views more : List (View N E)) (j : ℕ) (u : View N E) → Fi m homes views j u → Fi m homes (views ++ more) j u
  fits_longer m homes views more j u f = record {
    number = f.number;
    name = f.name;
    seen = f.seen;
    own = f.own;
    mark = f.mark;
    past = f.past;
    ticket = f.ticket;
    out = f.out;
    kept = had_longer bearer m.story views more u.kept f.kept;
  }

  -- the first seat deals a new one
  pub deals : (id : ℕ) (v : View N E) → v.live ≡ true → v.number ≡ 0 → Splits Ru id v (dealer v) (dealt v)
  deals id v live zero_is s r at =
      let m = r.moment in
      let f = r.each id v at live in
      let first : id ≡ 0 = sym f.number ∙ zero_is in
      let l : View N E = dealer v in
      let n : View N E = dealt v in
      let mid = set s.views id l in
      let inside = below_length s.views id v at in
      let new_id : length mid ≡ length s.views = length-set s.views id l in
      let counted : v.count ≡ length s.views = r.count v (subst (λ i. get_elem? s.views i ≡ some v) first at) live in
      let stays : (ks : List (Joined E)) → AllHad bearer m.story s.views ks → AllHad bearer m.story mid ks = λ ks. had_changed bearer m.story m.story s.views id v l ks at live (starts_self m.story) (nothing_added bearer m.story id) in
      let had_fits : (j : ℕ) (u : View N E) → get_elem? mid j ≡ some u → u.live ≡ true → Fi m s.homes mid j u = λ j u there lives. ⊎_elim
      (λ (t : (j ≡ id) × (l ≡ u)). subst (λ (z : ℕ × View N E). Fi m s.homes mid z.0 z.1) (λ i. (sym t.0 i, t.1 i)) record {
        number = f.number;
        name = f.name;
        seen = f.seen;
        own = f.own;
        mark = f.mark;
        past = f.past;
        ticket = f.ticket;
        out = f.out;
        kept = stays v.kept f.kept;
      })
      (λ (t : (j ≢ id) × (get_elem? s.views j ≡ some u)). let g = r.each j u t.1 lives in record {
        number = g.number;
        name = g.name;
        seen = g.seen;
        own = g.own;
        mark = g.mark;
        past = g.past;
        ticket = g.ticket;
        out = g.out;
        kept = stays u.kept g.kept;
      })
      (at_set s.views id j l u there) in
      let before : (j : ℕ) (u : View N E) (k : ℕ) → get_elem? (mid ++ n ∷ []) j ≡ some u → u.live ≡ true → u.ticket ≡ Some k → (o : View N E) × (get_elem? s.views j ≡ some o) × (o.live ≡ true) × (o.ticket ≡ Some k) =
      λ j u k there lives has. ⊎_elim
      (λ (old : get_elem? mid j ≡ some u). ⊎_elim
      (λ (t : (j ≡ id) × (l ≡ u)). (v, subst (λ i. get_elem? s.views i ≡ some v) (sym t.0) at, live, ap (λ (x : View N E). x.ticket) t.1 ∙ has))
      (λ (t : (j ≢ id) × (get_elem? s.views j ≡ some u)). (u, t.1, lives, has))
      (at_set s.views id j l u old))
      (λ (t : (j ≡ length mid) × (n ≡ u)). let none_is : None ≡ Some k = ap (λ (x : View N E). x.ticket) t.1 ∙ has in cc)
      (at_new mid n u j there) in record {
        moment = m;
        words = r.words;
        small = r.small;
        order = r.order;
        top = r.top;
        each = λ j u there lives. ⊎_elim
            (λ (old : get_elem? mid j ≡ some u). fits_longer m s.homes mid (n ∷ []) j u (had_fits j u old lives))
            (λ (t : (j ≡ length mid) × (n ≡ u)). subst (λ (z : ℕ × View N E). Fi m s.homes (mid ++ n ∷ []) z.0 z.1) (λ i. (sym t.0 i, t.1 i)) record {
              number = counted ∙ sym new_id;
              name = f.name;
              seen = f.seen;
              own = r.nobody (length mid) (omega arith);
              mark = f.mark;
              past = f.past;
              ticket = λ k has. let none_is : None ≡ Some k = has in cc;
              out = λ out. let b : false ≡ true = out in cc;
              kept = tt;
            })
            (at_new mid n u j there);
        unique = λ i j a b k at_a at_b live_a live_b has_a has_b. let p = before i a k at_a live_a has_a in let q = before j b k at_b live_b has_b in r.unique i j p.0 q.0 k p.1 q.1 p.2 q.2 p.3 q.3;
        every = λ k from below. let h = tickets_set s.views id v l k at live (λ h. h) (r.every k from below) in (h.0, h.1, at_longer mid (n ∷ []) h.0 h.1 h.2, h.3, h.4);
        nobody = λ k long. r.nobody k (omega (arith, length-append mid (n ∷ [])));
        count = λ u there lives. ⊎_elim
            (λ (old : get_elem? mid 0 ≡ some u). ⊎_elim
            (λ (t : (0 ≡ id) × (l ≡ u)). ap (λ (x : View N E). x.count) (sym t.1) ∙ omega (arith, length-append mid (n ∷ [])))
            (λ (t : (0 ≢ id) × (get_elem? s.views 0 ≡ some u)). absurd (t.0 (sym first)))
            (at_set s.views id 0 l u old))
            (λ (t : (0 ≡ length mid) × (n ≡ u)). absurd (omega arith))
            (at_new mid n u 0 there);
        place = ⊎_elim (λ h. inl h) (λ o. let p = out_set s.homes s.views id v l at live (λ out. out) o in inr (p.0, p.1, p.2, at_longer mid (n ∷ []) p.0 p.1 p.3, p.4, p.5)) r.place;
      }

  -- the first seat takes in another, whose turn is not out
  pub joins : (id : ℕ) (v : View N E) (other : ℕ) (w : View N E) → v.live ≡ true → v.number ≡ 0 → v.out ≡ false → w.live ≡ true → w.out ≡ false → w.ticket ≡ None → Joins Ru id v other w (joined v w) spent
  joins id v other w live zero_is idle lives idle_w no_ticket s r at apart there =
      let m = r.moment in
      let f = r.each id v at live in
      let at_w : get_elem? s.views other ≡ some w = sym (set_else s.views id other (joined v w) apart) ∙ there in
      let g = r.each other w at_w lives in
      let first : id ≡ 0 = sym f.number ∙ zero_is in
      let both : View N E = joined v w in
      let mid = set s.views id both in
      let end = set mid other spent in
      let long : length end ≡ length s.views = length-set mid other spent ∙ length-set s.views id both in
      let in_mid : other < length mid = below_length mid other w there in
      let stays : (ks : List (Joined E)) → AllHad bearer m.story s.views ks → AllHad bearer m.story end ks = λ ks. had_joined bearer m.story s.views id other v w both ks at live at_w lives in
      let both_at : get_elem? end id ≡ some both = set_else mid other id spent (λ e. apart (sym e)) ∙ set_here s.views id both (below_length s.views id v at) in
      let kept_at : (i : ℕ) (u : View N E) → i ≢ id → i ≢ other → get_elem? s.views i ≡ some u → get_elem? end i ≡ some u = λ i u not_id not_other old. set_else mid other i spent not_other ∙ (set_else s.views id i both not_id ∙ old) in
      let was : (j : ℕ) (u : View N E) → get_elem? end j ≡ some u → u.live ≡ true → ((j ≡ id) × (both ≡ u)) ⊎ ((j ≢ id) × (get_elem? s.views j ≡ some u)) = λ j u here lives_u. ⊎_elim
      (λ (t : (j ≡ other) × (spent ≡ u)). let b : false ≡ true = ap (λ (x : View N E). x.live) t.1 ∙ lives_u in cc)
      (λ (t : (j ≢ other) × (get_elem? mid j ≡ some u)). at_set s.views id j both u t.1)
      (at_set mid other j spent u here) in
      let before : (j : ℕ) (u : View N E) (k : ℕ) → get_elem? end j ≡ some u → u.live ≡ true → u.ticket ≡ Some k → (o : View N E) × (get_elem? s.views j ≡ some o) × (o.live ≡ true) × (o.ticket ≡ Some k) =
      λ j u k here lives_u has. ⊎_elim
      (λ (t : (j ≡ id) × (both ≡ u)). (v, subst (λ i. get_elem? s.views i ≡ some v) (sym t.0) at, live, ap (λ (x : View N E). x.ticket) t.1 ∙ has))
      (λ (t : (j ≢ id) × (get_elem? s.views j ≡ some u)). (u, t.1, lives_u, has))
      (was j u here lives_u) in record {
        moment = m;
        words = r.words;
        small = r.small;
        order = r.order;
        top = r.top;
        each = λ j u here lives_u. ⊎_elim
            (λ (t : (j ≡ id) × (both ≡ u)). subst (λ (z : ℕ × View N E). Fi m s.homes end z.0 z.1) (λ i. (sym t.0 i, t.1 i)) record {
              number = f.number;
              name = f.name;
              seen = f.seen;
              own = f.own;
              mark = f.mark;
              past = f.past;
              ticket = f.ticket;
              out = f.out;
              kept = ((g.seen, ap (λ n. borne bearer n m.story) g.number ∙ g.own, subst (λ n. get_elem? end n ≡ some spent) (sym g.number) (set_here mid other spent in_mid)), stays v.kept f.kept);
            })
            (λ (t : (j ≢ id) × (get_elem? s.views j ≡ some u)). let h = r.each j u t.1 lives_u in record {
              number = h.number;
              name = h.name;
              seen = h.seen;
              own = h.own;
              mark = h.mark;
              past = h.past;
              ticket = h.ticket;
              out = h.out;
              kept = stays u.kept h.kept;
            })
            (was j u here lives_u);
        unique = λ i j a b k at_a at_b live_a live_b has_a has_b. let p = before i a k at_a live_a has_a in let q = before j b k at_b live_b has_b in r.unique i j p.0 q.0 k p.1 q.1 p.2 q.2 p.3 q.3;
        every = λ k from below. let h = r.every k from below in dite (ℕ_discrete h.0 id)
            (λ is. let e : v ≡ h.1 = same_at s.views id v h.1 at (subst (λ i. get_elem? s.views i ≡ some h.1) is h.2) in (id, both, both_at, live, ap (λ (x : View N E). x.ticket) e ∙ h.4))
            (λ not_id. (
              h.0,
              h.1,
              kept_at h.0 h.1 not_id
                  (λ is. let e : w ≡ h.1 = same_at s.views other w h.1 at_w (subst (λ i. get_elem? s.views i ≡ some h.1) is h.2) in let none_is : None ≡ Some k = sym no_ticket ∙ (ap (λ (x : View N E). x.ticket) e ∙ h.4) in cc) h.2,
              h.3,
              h.4,
            ));
        nobody = λ n above. r.nobody n (omega arith);
        count = λ u here lives_u. ⊎_elim
            (λ (t : (0 ≡ id) × (both ≡ u)). ap (λ (x : View N E). x.count) (sym t.1) ∙ (r.count v (subst (λ i. get_elem? s.views i ≡ some v) (sym t.0) at) live ∙ sym long))
            (λ (t : (0 ≢ id) × (get_elem? s.views 0 ≡ some u)). absurd (t.0 (sym first)))
            (was 0 u here lives_u);
        place = ⊎_elim (λ h. inl h)
            (λ (o : IsOut s.homes s.views). dite (ℕ_discrete o.0 id)
            (λ is. let e : v ≡ o.1 = same_at s.views id v o.1 at (subst (λ i. get_elem? s.views i ≡ some o.1) is o.3) in let b : false ≡ true = sym idle ∙ (ap (λ (x : View N E). x.out) e ∙ o.5) in cc)
            (λ not_id. inr (
              o.0,
              o.1,
              o.2,
              kept_at o.0 o.1 not_id
                  (λ is. let e : w ≡ o.1 = same_at s.views other w o.1 at_w (subst (λ i. get_elem? s.views i ≡ some o.1) is o.3) in let b : false ≡ true = sym idle_w ∙ (ap (λ (x : View N E). x.out) e ∙ o.5) in cc) o.3,
              o.4,
              o.5,
            )))
            r.place;
      }

  had_one : (story : List E) (views : List (View N E)) (x : Joined E) (ks : List (Joined E)) → AllHad bearer story views ks → Has x ks → HadFits bearer story views x
  had_one story views x [] h there = absurd there
  had_one story views x (k ∷ ks) h there = ⊎_elim (λ (e : x ≡ k). subst (HadFits bearer story views) (sym e) h.0) (λ rest. had_one story views x ks h.1 rest) there

  pub ends : (id : ℕ) (v : View N E) (carried : List (ℕ × Option T)) (words : List ℕ) (slots : List (Option T)) → IsLast (v, carried) → HasAll v → Final (Seen Ru id v) words slots
      → (x : T) × (get_elem? slots 0 ≡ some (Some x)) × IsLeft name_of story_of bearer called v x
  ends id v carried words slots last all fin =
      let live = last.live in
      let s = fin.0 in
      let r = fin.1.0 in
      let at = fin.1.1 in
      let m = r.moment in
      let f = r.each id v at live in
      let first : id ≡ 0 = sym f.number ∙ last.numbered in
      let at_0 : get_elem? s.views 0 ≡ some v = subst (λ i. get_elem? s.views i ≡ some v) first at in
      let counted = r.count v at_0 live in
      let past = f.past in
      let some_past = last.past in
      let home : AtHome name_of story_of bearer mark_of most called m s.homes = ⊎_elim (λ h. h)
      (λ (o : IsOut s.homes s.views). absurd (dite (ℕ_discrete o.0 0)
      (λ is. let e : v ≡ o.1 = same_at s.views 0 v o.1 at_0 (subst (λ i. get_elem? s.views i ≡ some o.1) is o.3) in let b : false ≡ true = sym last.out ∙ (ap (λ (x : View N E). x.out) e ∙ o.5) in cc)
      (λ no. let inside = below_length s.views o.0 o.1 o.3 in let x = all o.0 (omega arith) (omega arith) in
      let gone = (had_one m.story s.views x.0 v.kept f.kept x.2).2 in not_spent s.views o.0 x.0.0 o.1 o.3 o.4 gone x.1)))
      r.place in
      let x = home.2 (omega arith) in
      let is : m.story ≡ story_of x.0 = sym x.2.1 in (
        x.0,
        fin.4 0 (Some x.0) (ap (λ h. get_elem? h 0) home.1 ∙ ap (λ (y : Option T). some (some y)) x.1),
        record {
          name = x.2.0;
          seen = subst (λ st. StartsWith st v.seen) is f.seen;
          own = subst (λ st. borne bearer 0 st ≡ v.own) is (ap (λ n. borne bearer n m.story) (sym first) ∙ f.own);
          kept = λ k there. let h = had_one m.story s.views k v.kept f.kept there in subst (λ st. StartsWith st k.1.0 × (borne bearer k.0 st ≡ k.1.1)) is (h.0, h.1);
          others = λ n above. subst (λ st. borne bearer n st ≡ []) is (r.nobody n (omega arith));
        },
      )
