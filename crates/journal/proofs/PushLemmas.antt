-- one more entry
use Rattle.std.proofs.Common.{◌≡◌, ℕ, ◌+◌, List, [], ◌∷◌, ◌++◌, sym, ap, ◌∙◌, append_assoc, refl}
use Rattle.std.proofs.lemmas.List.{append-nil}
use Rattle.edit_steps.specs.Script.{Recipe}
use Rattle.journal.specs.declared.entry.Entry.{Entry}
use Rattle.journal.specs.Desk.{Desk, next, desk_of, May, LegalFrom}
use Rattle.journal.specs.Lines.{Line, line_of, lines}

pub desk_of-push : (d : Desk) (es : List Entry) (e : Entry) → desk_of d (es ++ e ∷ []) ≡ next (desk_of d es) e
desk_of-push d [] e = refl
desk_of-push d (x ∷ es) e = desk_of-push (next d x) es e

pub LegalFrom-push : (script : Recipe) (d : Desk) (es : List Entry) (e : Entry) → LegalFrom script d es → May script (desk_of d es) e → LegalFrom script d (es ++ e ∷ [])
LegalFrom-push script d [] e legal may = (may, tt)
LegalFrom-push script d (x ∷ es) e legal may = (legal.0, LegalFrom-push script (next d x) es e legal.1 may)

pub lines-push : (script : Recipe) (es : List Entry) (e : Entry) → lines script (es ++ e ∷ []) ≡ lines script es ++ line_of script e
lines-push script [] e = append-nil (line_of script e)
lines-push script (x ∷ es) e = ap (λ ls. line_of script x ++ ls) (lines-push script es e) ∙ sym (append_assoc (line_of script x) (lines script es) (line_of script e))
