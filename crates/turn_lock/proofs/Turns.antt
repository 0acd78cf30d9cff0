-- The steps of a turn keep the rule.
use Rattle.std.proofs.Common.{◌≡◌, ◌≢◌, ℕ, ◌+◌, ◌%◌, ◌^◌, ◌<◌, ◌≤◌, max, eqb, true, false, List, [], ◌∷◌, ◌++◌, set, get_or, refl, sym, ap, ◌∙◌, subst, ⊎_elim, inl, inr, Option, Some, None, arith}
use mathlib.Core.Logic.{dite}
use mathlib.Core.Option.{none, some}
use native.Mathlib.Decide.{ℕ_discrete}
use lib.ListN.{get_elem?}
use prog.Atomic.{either}
use Rattle.atomic_table.specs.Table.{State, Me, step, Act, keeps, takes, gives, stepped, Allows, Valid, carried_after}
use Rattle.atomic_table.proofs.Lists.{set_here, exchanged}
use Rattle.turn_lock.specs.declared.view.View.{View}
use Rattle.turn_lock.specs.Story.{StartsWith, borne, added, AllBear}
use Rattle.turn_lock.specs.Rule.{Moment, words_of, Homes, AtHome, IsOut, Kept}
use Rattle.turn_lock.specs.Steps.{turns_after, Drawn, LookedFor, Looked, Raised, Served, ReadMark}
use Rattle.turn_lock.proofs.Stories.{starts_self, borne_kept, borne_grown, nothing_added}
use Rattle.turn_lock.proofs.Changed.{below_length, same_at, tickets_set, had_changed, out_set, other_ticket, none_out, fits_other, changed, unmoved}

some_same : {A : Type 0} {o : Option A} {a b : A} → o ≡ Some a → o ≡ Some b → a ≡ b
some_same p q = cc

value_same : {T : Type 0} (a b : T) → ◌≡◌ {A = List (ℕ × Option T)} ((0, Some a) ∷ []) ((0, Some b) ∷ []) → a ≡ b
value_same {T} a b p = let heads : ◌≡◌ {A = ℕ × Option T} (0, Some a) (0, Some b) = cc in some_same refl (ap (λ (q : ℕ × Option T). q.1) heads)

module _ {T N E : Type 0} (name_of : T → N) (story_of : T → List E) (bearer : E → ℕ) (mark_of : T → ℕ) (most : N → ℕ) (called : N) where
  abbrev Ru : State (Option T) (View N E) → Type 0
  Ru = Kept name_of story_of bearer mark_of most called

  -- a seat with no ticket draws one
  pub draws : (slots id old new : ℕ) (me : Me (Option T) (View N E)) → me.0.live ≡ true → me.0.ticket ≡ None → new ≡ old + 1 → new < 2 ^ 64
      → Allows Ru slots id me 0 (λ n. either (eqb n old) new n) (Drawn (step slots 0 old new none) me)
  draws slots id old new me live idle next small s r deep at big =
      let m = r.moment in
      let v = me.0 in
      let w : View N E = record v { ticket = Some old } in
      let Goal : List ℕ → ℕ → Type 0 = λ ws n. (u : View N E) × (a : Act (Option T)) × Valid s.homes me.1 a × Ru (stepped (record { words = ws; homes = s.homes; views = s.views }) 0 n id me.1 u a) × Drawn (step slots 0 old new none) me (get_or ws 0 0) (u, carried_after me.1 a) in
      subst (λ ws. Goal ws (either (eqb (get_or ws 0 0) old) new (get_or ws 0 0))) (sym r.words)
      (exchanged m.tickets old new (Goal (words_of m))
      (λ hit. let m' : Moment E = record m { tickets = new } in (
        w,
        keeps,
        tt,
        changed name_of story_of bearer mark_of most called s r id v w m' (new ∷ m.serving ∷ m.marked ∷ []) s.homes at live live refl refl small (omega (arith, r.order)) r.top
            (λ j u other there lives. fits_other name_of story_of bearer mark_of most called s r id j v w u m' s.homes at live other there lives (starts_self m.story) (nothing_added bearer m.story id) (omega arith) (omega arith)
            (λ k has from below. (from, omega arith)) (r.each j u there lives).out)
            (let f = r.each id v at live in record {
              number = f.number;
              name = f.name;
              seen = f.seen;
              own = f.own;
              mark = f.mark;
              past = f.past;
              ticket = λ k has. let e : k ≡ old = cc in let o = r.order in (omega arith, omega arith);
              out = λ out. let none_is : None ≡ Some m.serving = sym idle ∙ (f.out out).0 in cc;
              kept = had_changed bearer m.story m.story s.views id v w v.kept at live (starts_self m.story) (nothing_added bearer m.story id) f.kept;
            })
            (λ j u k other there lives has mine. let e : k ≡ old = cc in let t = (r.each j u there lives).ticket k has in absurd (omega arith))
            (λ k from below. dite (ℕ_discrete k old)
            (λ is. (id, w, set_here s.views id w (below_length s.views id v at), live, ap Some (sym is)))
            (λ no. tickets_set s.views id v w k at live (λ has. let none_is : None ≡ Some k = sym idle ∙ has in cc) (r.every k from (omega arith))))
            r.nobody
            (⊎_elim (λ h. inl h) (λ o. inr (out_set s.homes s.views id v w at live (λ out. out) o)) r.place),
        ((λ _. ap (λ n. (record v { ticket = Some n }, me.1)) (sym hit)), λ no. absurd (no hit)),
      ))
      (λ miss. (
        v,
        keeps,
        tt,
        subst (λ ws. Ru (stepped (record { words = ws; homes = s.homes; views = s.views }) 0 m.tickets id me.1 v keeps)) r.words (unmoved name_of story_of bearer mark_of most called s r 0 id v me.1 at m.tickets (sym (ap (λ ws. get_or ws 0 0) r.words))),
        ((λ hit. absurd (miss hit)), λ _. refl),
      )))

  -- a waiting seat looks who is served
  pub looks : (slots id : ℕ) (me : Me (Option T) (View N E)) (k : ℕ) → me.0.live ≡ true → me.0.ticket ≡ Some k → me.0.out ≡ false
      → Allows Ru slots id me 1 (λ n. n) (Looked name_of story_of bearer mark_of (step slots 1 0 0 none) me)
  looks slots id me k live has waits s r deep at big =
      let m = r.moment in
      let v = me.0 in
      let f = r.each id v at live in
      let found : get_or s.words 1 0 ≡ m.serving = ap (λ ws. get_or ws 1 0) r.words in
      let Goal : ℕ → Type 0 = λ n. (u : View N E) × (a : Act (Option T)) × Valid s.homes me.1 a × Ru (stepped s 1 n id me.1 u a) × Looked name_of story_of bearer mark_of (step slots 1 0 0 none) me n (u, carried_after me.1 a) in
      let early = (f.ticket k has).0 in
      subst Goal (sym found) (dite (ℕ_discrete m.serving k)
      (λ turn.
      let served : v.ticket ≡ Some m.serving = has ∙ ap Some (sym turn) in
      let home : AtHome name_of story_of bearer mark_of most called m s.homes = ⊎_elim (λ h. h)
      (λ (o : IsOut s.homes s.views). absurd (dite (ℕ_discrete o.0 id)
      (λ is. let e : v ≡ o.1 = same_at s.views id v o.1 at (subst (λ i. get_elem? s.views i ≡ some o.1) is o.3) in let b : false ≡ true = sym waits ∙ (ap (λ (x : View N E). x.out) e ∙ o.5) in cc)
      (λ no. none_out name_of story_of bearer mark_of most called s r id o.0 v o.1 at live served no o.3 o.4 o.5)))
      r.place in
      let y = home.0 in
      let w : View N E = record v { out = true; seen = m.story; mark = m.marked; turns = turns_after v.past v.turns } in
      let homes' : Homes T = set s.homes 0 none in
      let empty : homes' ≡ none ∷ [] = ap (λ h. set h 0 none) home.1 in (
        w,
        takes 0 y,
        ap (λ h. get_elem? h 0) home.1,
        changed name_of story_of bearer mark_of most called s r id v w m (set s.words 1 m.serving) homes' at live live refl (ap (λ ws. set ws 1 m.serving) r.words) r.small r.order r.top
            (λ j u other there lives. fits_other name_of story_of bearer mark_of most called s r id j v w u m homes' at live other there lives (starts_self m.story) (nothing_added bearer m.story id) (omega arith) (omega arith)
            (λ q has_q from below. (from, below)) (λ out. absurd (none_out name_of story_of bearer mark_of most called s r id j v u at live served other there lives out)))
            record {
              number = f.number;
              name = f.name;
              seen = starts_self m.story;
              own = f.own;
              mark = omega arith;
              past = f.past;
              ticket = f.ticket;
              out = λ _. (served, empty, refl, refl);
              kept = had_changed bearer m.story m.story s.views id v w v.kept at live (starts_self m.story) (nothing_added bearer m.story id) f.kept;
            }
            (λ j u q other there lives has_q. λ mine. other_ticket name_of story_of bearer mark_of most called s r id j v u q at live mine other there lives has_q)
            (λ q from below. tickets_set s.views id v w q at live (λ h. h) (r.every q from below))
            r.nobody
            (inr (id, w, empty, set_here s.views id w (below_length s.views id v at), live, refl)),
        λ q mine. subst (LookedFor name_of story_of bearer mark_of me m.serving (w, (0, y) ∷ me.1)) (cc) (
          early,
          (λ _. (
            (
              y,
              m.story,
              m.marked,
              refl,
              (
                f.seen,
                f.mark,
                ap (λ n. borne bearer n m.story) f.number ∙ f.own,
                (λ some_past. let x = home.2 (omega (arith, f.past)) in (x.0, x.1, ap Some x.2.0 ∙ sym f.name, x.2.1, x.2.2)),
              ),
            ),
            (λ zero_is. home.3 zero_is),
          )),
          (λ no. absurd (no turn)),
        ),
      ))
      (λ no. (
        v,
        keeps,
        tt,
        unmoved name_of story_of bearer mark_of most called s r 1 id v me.1 at m.serving (sym found),
        λ q mine. subst (LookedFor name_of story_of bearer mark_of me m.serving me) (cc) (early, (λ turn. absurd (no turn)), λ _. refl),
      )))

  -- the seat whose turn is out raises the mark
  pub raises : (slots id k : ℕ) (me : Me (Option T) (View N E)) (name : N) → me.0.live ≡ true → me.0.out ≡ true → me.0.mark ≤ k → Some name ≡ me.0.name → k ≤ most name
      → Allows Ru slots id me 2 (λ n. max n k) (Raised (step slots 2 k 0 none) me)
  raises slots id k me name live is_out rises named below s r deep at big =
      let m = r.moment in
      let v = me.0 in
      let f = r.each id v at live in
      let o = f.out is_out in
      let found : get_or s.words 2 0 ≡ m.marked = ap (λ ws. get_or ws 2 0) r.words in
      let top : k ≤ most called = subst (λ n. k ≤ most n) (some_same refl (named ∙ f.name)) below in
      let raised : max (get_or s.words 2 0) k ≡ k = omega (arith, found, o.3, rises) in
      let w : View N E = record v { mark = k } in
      let m' : Moment E = record m { marked = k } in (
        w,
        keeps,
        tt,
        changed name_of story_of bearer mark_of most called s r id v w m' (set s.words 2 (max (get_or s.words 2 0) k)) s.homes at live live refl (ap (set s.words 2) raised ∙ ap (λ ws. set ws 2 k) r.words) r.small r.order top
            (λ j u other there lives. fits_other name_of story_of bearer mark_of most called s r id j v w u m' s.homes at live other there lives (starts_self m.story) (nothing_added bearer m.story id) (omega (arith, o.3, rises)) (omega arith)
            (λ q has from below. (from, below)) (λ out. absurd (none_out name_of story_of bearer mark_of most called s r id j v u at live o.0 other there lives out)))
            record {
              number = f.number;
              name = f.name;
              seen = f.seen;
              own = f.own;
              mark = omega arith;
              past = f.past;
              ticket = f.ticket;
              out = λ _. (o.0, o.1, o.2, refl);
              kept = had_changed bearer m.story m.story s.views id v w v.kept at live (starts_self m.story) (nothing_added bearer m.story id) f.kept;
            }
            (λ j u q other there lives has mine. other_ticket name_of story_of bearer mark_of most called s r id j v u q at live mine other there lives has)
            (λ q from below. tickets_set s.views id v w q at live (λ h. h) (r.every q from below))
            r.nobody
            (inr (id, w, o.1, set_here s.views id w (below_length s.views id v at), live, is_out)),
        refl,
      )

  -- any seat reads the mark
  pub reads : (slots id : ℕ) (me : Me (Option T) (View N E)) → me.0.live ≡ true → Allows Ru slots id me 2 (λ n. n) (ReadMark most (step slots 2 0 0 none) me)
  reads slots id me live s r deep at big =
      let m = r.moment in
      let v = me.0 in
      let f = r.each id v at live in
      let found : get_or s.words 2 0 ≡ m.marked = ap (λ ws. get_or ws 2 0) r.words in
      let w : View N E = record v { mark = m.marked; loads = v.loads + 1; loaded = m.marked } in
      let Goal : ℕ → Type 0 = λ n. (u : View N E) × (a : Act (Option T)) × Valid s.homes me.1 a × Ru (stepped s 2 n id me.1 u a) × ReadMark most (step slots 2 0 0 none) me n (u, carried_after me.1 a) in
      subst Goal (sym found) (
        w,
        keeps,
        tt,
        changed name_of story_of bearer mark_of most called s r id v w m (set s.words 2 m.marked) s.homes at live live refl (ap (λ ws. set ws 2 m.marked) r.words) r.small r.order r.top
            (λ j u other there lives. fits_other name_of story_of bearer mark_of most called s r id j v w u m s.homes at live other there lives (starts_self m.story) (nothing_added bearer m.story id) (omega arith) (omega arith)
            (λ q has from below. (from, below)) (r.each j u there lives).out)
            record {
              number = f.number;
              name = f.name;
              seen = f.seen;
              own = f.own;
              mark = omega arith;
              past = f.past;
              ticket = f.ticket;
              out = λ out. let o = f.out out in (o.0, o.1, o.2, refl);
              kept = had_changed bearer m.story m.story s.views id v w v.kept at live (starts_self m.story) (nothing_added bearer m.story id) f.kept;
            }
            (λ j u q other there lives has mine. other_ticket name_of story_of bearer mark_of most called s r id j v u q at live mine other there lives has)
            (λ q from below. tickets_set s.views id v w q at live (λ h. h) (r.every q from below))
            r.nobody
            (⊎_elim (λ h. inl h) (λ o. inr (out_set s.homes s.views id v w at live (λ out. out) o)) r.place),
        (
          refl,
          f.mark,
          (λ (c : N) (is : v.name ≡ Some c). let e : called ≡ c = some_same f.name is in subst (λ (z : N). m.marked ≤ most z) e r.top),
          (λ is_out. sym (f.out is_out).3),
        ),
      )

  -- the seat whose turn is out gives the value back, and the next ticket is served
  pub serves : (slots id : ℕ) (me : Me (Option T) (View N E)) (x : T) → me.0.live ≡ true → me.0.out ≡ true → me.1 ≡ (0, Some x) ∷ [] → Some (name_of x) ≡ me.0.name → mark_of x ≡ me.0.mark
      → StartsWith (story_of x) me.0.seen → AllBear bearer me.0.number (added me.0.seen (story_of x))
      → Allows Ru slots id me 1 (λ n. (n + 1) % 2 ^ 64) (Served story_of (step slots 1 1 0 none) me)
  serves slots id me x live is_out holds_x named marked starts bear s r deep at big =
      let m = r.moment in
      let v = me.0 in
      let f = r.each id v at live in
      let o = f.out is_out in
      let found : get_or s.words 1 0 ≡ m.serving = ap (λ ws. get_or ws 1 0) r.words in
      let mine_is = f.ticket m.serving o.0 in
      let small = r.small in
      let next : (get_or s.words 1 0 + 1) % 2 ^ 64 ≡ m.serving + 1 = ap (λ n. (n + 1) % 2 ^ 64) found ∙ omega arith in
      let starts' : StartsWith (story_of x) m.story = subst (StartsWith (story_of x)) o.2 starts in
      let bear' : AllBear bearer id (added m.story (story_of x)) = subst (λ (z : ℕ × List E). AllBear bearer z.0 (added z.1 (story_of x))) (λ i. (f.number i, o.2 i)) bear in
      let w : View N E = record v { seen = story_of x; own = v.own ++ added v.seen (story_of x); ticket = None; out = false; past = get_or s.words 1 0 + 1 } in
      let m' : Moment E = record { story = story_of x; tickets = m.tickets; serving = m.serving + 1; marked = m.marked } in
      let homes' : Homes T = set s.homes 0 (some (Some x)) in
      let full : homes' ≡ some (Some x) ∷ [] = ap (λ h. set h 0 (some (Some x))) o.1 in
      let called_is : name_of x ≡ called = some_same refl (named ∙ f.name) in
      let after : T → Me (Option T) (View N E) = λ z. (record v { seen = story_of z; own = v.own ++ added v.seen (story_of z); ticket = None; out = false; past = get_or s.words 1 0 + 1 }, []) in
      let Goal : List (ℕ × Option T) → Type 0 = λ c. (u : View N E) × (a : Act (Option T)) × Valid s.homes c a × Ru (stepped s 1 ((get_or s.words 1 0 + 1) % 2 ^ 64) id c u a) × Served story_of (step slots 1 1 0 none) (me.0, c) (get_or s.words 1 0) (u, carried_after c a) in
      subst Goal (sym holds_x) (
        w,
        gives,
        tt,
        changed name_of story_of bearer mark_of most called s r id v w m' (set s.words 1 ((get_or s.words 1 0 + 1) % 2 ^ 64)) homes' at live live refl (ap (set s.words 1) next ∙ ap (λ ws. set ws 1 (m.serving + 1)) r.words) r.small (omega arith) r.top
            (λ j u other there lives. fits_other name_of story_of bearer mark_of most called s r id j v w u m' homes' at live other there lives starts' bear' (omega arith) (omega arith)
            (λ q has from below. let apart : q ≢ m.serving = (λ is. other_ticket name_of story_of bearer mark_of most called s r id j v u q at live (o.0 ∙ ap Some (sym is)) other there lives has) in (omega arith, below))
            (λ out. absurd (none_out name_of story_of bearer mark_of most called s r id j v u at live o.0 other there lives out)))
            record {
              number = f.number;
              name = f.name;
              seen = starts_self (story_of x);
              own = borne_grown bearer id m.story (story_of x) starts' bear' ∙ (λ i. f.own i ++ added (sym o.2 i) (story_of x));
              mark = f.mark;
              past = omega arith;
              ticket = λ q has. let none_is : None ≡ Some q = has in cc;
              out = λ out. let b : false ≡ true = out in cc;
              kept = had_changed bearer m.story (story_of x) s.views id v w v.kept at live starts' bear' f.kept;
            }
            (λ j u q other there lives has mine. let none_is : None ≡ Some q = mine in cc)
            (λ q from below. tickets_set s.views id v w q at live (λ has. let e : m.serving ≡ q = some_same o.0 has in absurd (omega arith)) (r.every q (omega arith) below))
            (λ n long. let inside = below_length s.views id v at in borne_kept bearer id n m.story (story_of x) (λ is. omega arith) starts' bear' ∙ r.nobody n long)
            (inl (Some x, full, (λ _. (x, refl, (called_is, refl, marked ∙ o.3))), λ zero_is. absurd (omega arith))),
        λ y same. ap after (value_same x y same),
      )
