-- Stories that grow, and the elements of one number in them.
use Rattle.std.proofs.Common.{◌≡◌, ◌≢◌, ℕ, eqb, cond, List, [], ◌∷◌, ◌++◌, length, drop, refl, sym, ap, ◌∙◌, append_assoc, eq-eqb, ne_eqb, subst}
use Rattle.std.proofs.lemmas.List.{append-nil}
use Rattle.std.proofs.lemmas.List.Elements.{filter-append}
use Rattle.std.proofs.Math.Seq.{drop-append_seam}
use Rattle.turn_lock.specs.Story.{StartsWith, borne, added, AllBear}

module _ {E : Type 0} where
  pub starts_self : (xs : List E) → StartsWith xs xs
  starts_self xs = ([], sym (append-nil xs))

  pub starts_trans : (xs ys zs : List E) → StartsWith ys xs → StartsWith zs ys → StartsWith zs xs
  starts_trans xs ys zs p q = (p.0 ++ q.0, q.1 ∙ (ap (λ l. l ++ q.0) p.1 ∙ append_assoc xs p.0 q.0))

  -- what was added, of a story that was made longer
  pub added_is : (before after more : List E) → after ≡ before ++ more → added before after ≡ more
  added_is before after more e = ap (drop (length before)) e ∙ drop-append_seam before more

  pub added_rest : (before after : List E) → StartsWith after before → after ≡ before ++ added before after
  added_rest before after s = s.1 ∙ ap (λ l. before ++ l) (sym (added_is before after s.0 s.1))

  pub added_starts : (before after more : List E) → after ≡ before ++ more → StartsWith after before
  added_starts before after more e = (more, e)

module _ {E : Type 0} (bearer : E → ℕ) where
  pub added_bear : (number : ℕ) (before after more : List E) → after ≡ before ++ more → AllBear bearer number more → AllBear bearer number (added before after)
  added_bear number before after more e h = subst (AllBear bearer number) (sym (added_is before after more e)) h

  borne_same : (n : ℕ) (es : List E) → AllBear bearer n es → borne bearer n es ≡ es
  borne_same n [] h = refl
  borne_same n (e ∷ es) h = ap (λ b. cond b (e ∷ borne bearer n es) (borne bearer n es)) (eq-eqb (bearer e) n h.0) ∙ ap (λ l. e ∷ l) (borne_same n es h.1)

  borne_other : (n j : ℕ) (es : List E) → j ≢ n → AllBear bearer n es → borne bearer j es ≡ []
  borne_other n j [] other h = refl
  borne_other n j (e ∷ es) other h = ap (λ b. cond b (e ∷ borne bearer j es) (borne bearer j es)) (ne_eqb (bearer e) j (λ is. other (sym is ∙ h.0))) ∙ borne_other n j es other h.1

  borne_more : (j : ℕ) (before after : List E) → StartsWith after before → borne bearer j after ≡ borne bearer j before ++ borne bearer j (added before after)
  borne_more j before after s = ap (borne bearer j) (added_rest before after s) ∙ filter-append (λ e. eqb (bearer e) j) before (added before after)

  -- where each new element bears the number n, those of another number stay, and those of n are more by what was added
  pub borne_kept : (n j : ℕ) (before after : List E) → j ≢ n → StartsWith after before → AllBear bearer n (added before after) → borne bearer j after ≡ borne bearer j before
  borne_kept n j before after other s h = borne_more j before after s ∙ (ap (λ l. borne bearer j before ++ l) (borne_other n j (added before after) other h) ∙ append-nil (borne bearer j before))

  pub borne_grown : (n : ℕ) (before after : List E) → StartsWith after before → AllBear bearer n (added before after) → borne bearer n after ≡ borne bearer n before ++ added before after
  borne_grown n before after s h = borne_more n before after s ∙ ap (λ l. borne bearer n before ++ l) (borne_same n (added before after) h)

  pub nothing_added : (story : List E) (n : ℕ) → AllBear bearer n (added story story)
  nothing_added story n = subst (AllBear bearer n) (sym (added_is story story [] (sym (append-nil story)))) tt
