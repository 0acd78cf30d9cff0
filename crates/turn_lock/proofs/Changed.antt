-- What stays true of the other seats over a step of one, and the rule after such a step.
use Rattle.std.proofs.Common.{◌≡◌, ◌≢◌, ℕ, ◌^◌, ◌<◌, ◌≤◌, Bool, true, false, List, [], ◌∷◌, length, set, refl, sym, ap, ◌∙◌, subst, ◌⊎◌, ⊎_elim, inl, inr, Option, Some, None, length-set, arith, zero, suc}
use mathlib.Core.Logic.{dite}
use mathlib.Core.Option.{none, some, some-ne-none, some-injective}
use native.Mathlib.Decide.{ℕ_discrete}
use lib.ListN.{get_elem?}
use lib.Seq.{set-get_or}
use Rattle.atomic_table.specs.Table.{State, stepped, keeps}
use Rattle.atomic_table.proofs.Lists.{at_set, set_here, set_else, set_again}
use Rattle.turn_lock.specs.declared.view.View.{View}
use Rattle.turn_lock.specs.Story.{StartsWith, borne, added, AllBear}
use Rattle.turn_lock.specs.Rule.{Moment, words_of, spent, Joined, AllHad, HasTicket, Homes, Fits, AtHome, IsOut, Kept}
use Rattle.turn_lock.proofs.Stories.{starts_trans, borne_kept}

-- an index that reads something is below the length
pub below_length : {A : Type 0} (l : List A) (i : ℕ) (a : A) → get_elem? l i ≡ some a → i < length l
below_length [] i a e = absurd (some-ne-none a (sym e))
below_length (x ∷ xs) zero a e = omega arith
below_length (x ∷ xs) (suc i) a e = omega (arith, below_length xs i a e)

pub same_at : {A : Type 0} (l : List A) (i : ℕ) (a b : A) → get_elem? l i ≡ some a → get_elem? l i ≡ some b → a ≡ b
same_at l i a b p q = some-injective a b (sym p ∙ q)

module _ {N E : Type 0} where
  -- a live seat is not one that a join has spent
  pub not_spent : (views : List (View N E)) (id j : ℕ) (v : View N E) → get_elem? views id ≡ some v → v.live ≡ true → get_elem? views j ≡ some spent → j ≢ id
  not_spent views id j v at live gone is =
      let e : v ≡ spent = same_at views id v spent at (subst (λ i. get_elem? views i ≡ some spent) is gone) in
      let f : true ≡ false = sym live ∙ ap (λ (u : View N E). u.live) e in cc

  -- the seat that has the ticket may change its view, if the ticket stays with it
  pub tickets_set : (views : List (View N E)) (id : ℕ) (v w : View N E) (k : ℕ) → get_elem? views id ≡ some v → w.live ≡ true → (v.ticket ≡ Some k → w.ticket ≡ Some k) → HasTicket views k → HasTicket (set views id w) k
  tickets_set views id v w k at live stays (i, u, there, lives, has) =
      dite (ℕ_discrete i id)
      (λ is. let e : v ≡ u = same_at views id v u at (subst (λ z. get_elem? views z ≡ some u) is there) in
      (id, w, set_here views id w (below_length views id v at), live, stays (ap (λ (x : View N E). x.ticket) e ∙ has)))
      (λ other. (i, u, set_else views id i w other ∙ there, lives, has))

  module _ (bearer : E → ℕ) where
    -- what the joined seats had stays over a step of a live one that adds its own elements alone
    pub had_changed : (before after : List E) (views : List (View N E)) (id : ℕ) (v w : View N E) (ks : List (Joined E)) → get_elem? views id ≡ some v → v.live ≡ true
        → StartsWith after before → AllBear bearer id (added before after) → AllHad bearer before views ks → AllHad bearer after (set views id w) ks
    had_changed before after views id v w [] at live s b h = tt
    had_changed before after views id v w (k ∷ ks) at live s b h =
        let other = not_spent views id k.0 v at live h.0.2 in (
          (starts_trans k.1.0 before after h.0.0 s, borne_kept bearer id k.0 before after other s b ∙ h.0.1, set_else views id k.0 w other ∙ h.0.2),
          had_changed before after views id v w ks at live s b h.1,
        )

module _ {T N E : Type 0} where
  -- the turn that is out stays out
  pub out_set : (homes : Homes T) (views : List (View N E)) (id : ℕ) (v w : View N E) → get_elem? views id ≡ some v → w.live ≡ true → (v.out ≡ true → w.out ≡ true) → IsOut homes views → IsOut homes (set views id w)
  out_set homes views id v w at live stays (i, u, empty, there, lives, out) =
      dite (ℕ_discrete i id)
      (λ is. let e : v ≡ u = same_at views id v u at (subst (λ z. get_elem? views z ≡ some u) is there) in
      (id, w, empty, set_here views id w (below_length views id v at), live, stays (ap (λ (x : View N E). x.out) e ∙ out)))
      (λ other. (i, u, empty, set_else views id i w other ∙ there, lives, out))

module _ {T N E : Type 0} (name_of : T → N) (story_of : T → List E) (bearer : E → ℕ) (mark_of : T → ℕ) (most : N → ℕ) (called : N) where
  abbrev pub Table : Type 0
  Table = State (Option T) (View N E)

  abbrev pub Rule : Table → Type 0
  Rule = Kept name_of story_of bearer mark_of most called

  abbrev pub Fit : Moment E → Homes T → List (View N E) → ℕ → View N E → Type 0
  Fit = Fits name_of story_of bearer mark_of most called

  abbrev pub Place : Moment E → Homes T → List (View N E) → Type 0
  Place m homes views = AtHome name_of story_of bearer mark_of most called m homes ⊎ IsOut homes views

  -- another seat's ticket is not this one's
  pub other_ticket : (s : Table) (r : Rule s) (id j : ℕ) (v u : View N E) (k : ℕ) → get_elem? s.views id ≡ some v → v.live ≡ true → v.ticket ≡ Some k → j ≢ id
      → get_elem? s.views j ≡ some u → u.live ≡ true → u.ticket ≢ Some k
  other_ticket s r id j v u k at live has other there lives same = other (r.unique j id u v k there at lives live same has)

  -- where this seat has the ticket that is served, no other seat's turn is out
  pub none_out : (s : Table) (r : Rule s) (id j : ℕ) (v u : View N E) → get_elem? s.views id ≡ some v → v.live ≡ true → v.ticket ≡ Some r.moment.serving → j ≢ id
      → get_elem? s.views j ≡ some u → u.live ≡ true → u.out ≢ true
  none_out s r id j v u at live has other there lives out =
      other_ticket s r id j v u r.moment.serving at live has other there lives ((r.each j u there lives).out out).0

  -- what another seat's view says stays so
  pub fits_other : (s : Table) (r : Rule s) (id j : ℕ) (v w u : View N E) (m' : Moment E) (homes' : Homes T) → get_elem? s.views id ≡ some v → v.live ≡ true → j ≢ id
      → get_elem? s.views j ≡ some u → u.live ≡ true → StartsWith m'.story r.moment.story → AllBear bearer id (added r.moment.story m'.story)
      → r.moment.marked ≤ m'.marked → r.moment.serving ≤ m'.serving
      → ((k : ℕ) → u.ticket ≡ Some k → r.moment.serving ≤ k → k < r.moment.tickets → (m'.serving ≤ k) × (k < m'.tickets))
      → (u.out ≡ true → (u.ticket ≡ Some m'.serving) × (homes' ≡ none ∷ []) × (u.seen ≡ m'.story) × (u.mark ≡ m'.marked))
      → Fit m' homes' (set s.views id w) j u
  fits_other s r id j v w u m' homes' at live other there lives starts bear marked serving ticket out = let f = r.each j u there lives in record {
    number = f.number;
    name = f.name;
    seen = starts_trans u.seen r.moment.story m'.story f.seen starts;
    own = borne_kept bearer id j r.moment.story m'.story other starts bear ∙ f.own;
    mark = omega (arith, f.mark);
    past = omega (arith, f.past);
    ticket = λ k has. let t = f.ticket k has in ticket k has t.0 t.1;
    out = out;
    kept = had_changed bearer r.moment.story m'.story s.views id v w u.kept at live starts bear f.kept;
  }

  -- the rule, after a step of one live seat
  pub changed : (s : Table) (r : Rule s) (id : ℕ) (v w : View N E) (m' : Moment E) (words' : List ℕ) (homes' : Homes T) → get_elem? s.views id ≡ some v → v.live ≡ true → w.live ≡ true
      → w.count ≡ v.count → words' ≡ words_of m' → m'.tickets < 2 ^ 64 → m'.serving ≤ m'.tickets → m'.marked ≤ most called
      → ((j : ℕ) (u : View N E) → j ≢ id → get_elem? s.views j ≡ some u → u.live ≡ true → Fit m' homes' (set s.views id w) j u)
      → Fit m' homes' (set s.views id w) id w
      → ((j : ℕ) (u : View N E) (k : ℕ) → j ≢ id → get_elem? s.views j ≡ some u → u.live ≡ true → u.ticket ≡ Some k → w.ticket ≢ Some k)
      → ((k : ℕ) → m'.serving ≤ k → k < m'.tickets → HasTicket (set s.views id w) k)
      → ((n : ℕ) → length s.views ≤ n → borne bearer n m'.story ≡ [])
      → Place m' homes' (set s.views id w)
      → Rule record { words = words'; homes = homes'; views = set s.views id w }
  changed s r id v w m' words' homes' at live lives count words small order top others mine alone every nobody place = record {
    moment = m';
    words = words;
    small = small;
    order = order;
    top = top;
    each = λ j u there live_u. ⊎_elim
        (λ (t : (j ≡ id) × (w ≡ u)). subst (λ (z : ℕ × View N E). Fit m' homes' (set s.views id w) z.0 z.1) (λ i. (sym t.0 i, t.1 i)) mine)
        (λ (t : (j ≢ id) × (get_elem? s.views j ≡ some u)). others j u t.0 t.1 live_u)
        (at_set s.views id j w u there);
    unique = λ i j a b k at_a at_b live_a live_b has_a has_b. ⊎_elim
        (λ (p : (i ≡ id) × (w ≡ a)). ⊎_elim
        (λ (q : (j ≡ id) × (w ≡ b)). p.0 ∙ sym q.0)
        (λ (q : (j ≢ id) × (get_elem? s.views j ≡ some b)). absurd (alone j b k q.0 q.1 live_b has_b (ap (λ (x : View N E). x.ticket) p.1 ∙ has_a)))
        (at_set s.views id j w b at_b))
        (λ (p : (i ≢ id) × (get_elem? s.views i ≡ some a)). ⊎_elim
        (λ (q : (j ≡ id) × (w ≡ b)). absurd (alone i a k p.0 p.1 live_a has_a (ap (λ (x : View N E). x.ticket) q.1 ∙ has_b)))
        (λ (q : (j ≢ id) × (get_elem? s.views j ≡ some b)). r.unique i j a b k p.1 q.1 live_a live_b has_a has_b)
        (at_set s.views id j w b at_b))
        (at_set s.views id i w a at_a);
    every = every;
    nobody = λ n long. nobody n (omega (arith, length-set s.views id w));
    count = λ u there live_u. ⊎_elim
        (λ (t : (0 ≡ id) × (w ≡ u)). ap (λ (x : View N E). x.count) (sym t.1) ∙ (count ∙ (r.count v (subst (λ i. get_elem? s.views i ≡ some v) (sym t.0) at) live ∙ sym (length-set s.views id w))))
        (λ (t : (0 ≢ id) × (get_elem? s.views 0 ≡ some u)). r.count u t.1 live_u ∙ sym (length-set s.views id w))
        (at_set s.views id 0 w u there);
    place = place;
  }

  -- nothing changed
  pub unmoved : (s : Table) → Rule s → (i id : ℕ) (v : View N E) (carried : List (ℕ × Option T)) → get_elem? s.views id ≡ some v → (n : ℕ) → n ≡ Rattle.std.proofs.Common.get_or s.words i 0 → Rule (stepped s i n id carried v keeps)
  unmoved s r i id v carried at n is = subst (λ (p : List ℕ × List (View N E)). Rule record { words = p.0; homes = s.homes; views = p.1 })
      (λ z. (sym (ap (set s.words i) is ∙ set-get_or s.words i 0) z, sym (set_again s.views id v at) z)) r
