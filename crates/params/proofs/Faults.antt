-- The first fault of a list of entries.
use Rattle.std.proofs.Common.{◌≡◌, ℕ, ◌+◌, ◌<◌, ◌≤◌, ℤ, pos, negsuc, ◌≤ℤ◌, ◌<ℤ◌, Bool, true, false, List, [], ◌∷◌, ◌++◌, length, get_or, drop, Option, Some, None, Result, Ok, Err, IsOk, IsTrue, OnOk, ◌↔◌, refl, sym, ap, ◌∙◌, arith}
use Rattle.std.specs.Bool.{⊤, Decides, if◌then◌else◌}
use Rattle.std.specs.List.{AllByRecursion}
use Rattle.std.specs.Int.RustNames.{int_le, int_lt}
use Rattle.std.proofs.lemmas.Bool.Decides.{Decides-int_eq, Decides-and, Decides-not}
use Rattle.std.proofs.lemmas.Int.{ints}
use Rattle.std.proofs.lemmas.List.{at_drop_more, at_drop_all, drop_more}
use Rattle.params.specs.Rules.{IsKept, first_fault, held, or_else, keeps, Keeps, AllKept, fault_at}
use Rattle.params.specs.Ranges.{IsBlendFit, IsBlendWithin, blends, blend_fault, check_blend_of, stated_blend}
use Rattle.params.specs.Stated.{node_entries, nodes_entries, count_entry, curve_entries, blend_entries}
use Rattle.params.specs.declared.blending.Blend.{Blend}
use Rattle.params.specs.declared.modules.Module.{Module}
use Rattle.params.specs.declared.rules.Entry.{Entry}
use Rattle.params.specs.declared.rules.Rule.{Rule}
use Rattle.params.specs.declared.rules.Rule.TheVariants.{Between, Above, NotBothZero}
use Rattle.params.specs.declared.fault.Field.{Field}
use Rattle.params.specs.declared.fault.ParamFault.{ParamFault}

-- an entry that is kept leaves the fault to those behind it
pub fault_behind : (es : List Entry) (i : ℕ) (d : Entry) → i < length es → held (get_or es i d) ≡ Ok tt → first_fault (drop i es) ≡ first_fault (drop (i + 1) es)
unfolding first_fault
fault_behind es i d h e = at_drop_more first_fault es i d h ∙ ap (λ r. or_else r (first_fault (drop (i + 1) es))) e

-- an entry that isn't kept is the fault
pub fault_here : (es : List Entry) (i : ℕ) (d : Entry) (f : ParamFault) → i < length es → held (get_or es i d) ≡ Err f → first_fault (drop i es) ≡ Err f
unfolding first_fault
fault_here es i d f h e = at_drop_more first_fault es i d h ∙ ap (λ r. or_else r (first_fault (drop (i + 1) es))) e

pub no_fault : (es : List Entry) (i : ℕ) → length es ≤ i → first_fault (drop i es) ≡ Ok tt
unfolding first_fault
no_fault es i h = at_drop_all first_fault es i h

or_else_assoc : (a b c : Result ⊤ ParamFault) → or_else (or_else a b) c ≡ or_else a (or_else b c)
or_else_assoc (Ok t) b c = refl
or_else_assoc (Err f) b c = refl

-- the first fault of two lists, one behind the other
pub first_fault-append : (es fs : List Entry) → first_fault (es ++ fs) ≡ or_else (first_fault es) (first_fault fs)
unfolding first_fault
first_fault-append [] fs = refl
first_fault-append (e ∷ es) fs = ap (or_else (held e)) (first_fault-append es fs) ∙ sym (or_else_assoc (held e) (first_fault es) (first_fault fs))

-- a fault of the first list is the fault of both
pub faults_here : (es fs : List Entry) (f : ParamFault) → first_fault es ≡ Err f → first_fault (es ++ fs) ≡ Err f
faults_here es fs f e = first_fault-append es fs ∙ ap (λ r. or_else r (first_fault fs)) e

-- a first list without a fault leaves it to the second
pub faults_behind : (es fs : List Entry) → first_fault es ≡ Ok tt → first_fault (es ++ fs) ≡ first_fault fs
faults_behind es fs e = first_fault-append es fs ∙ ap (λ r. or_else r (first_fault fs)) e

-- ---- no fault, and all kept

pub int_le-Decides : (a b : ℤ) → Decides (int_le a b) (a ≤ℤ b)
int_le-Decides a b = (λ e. grind (arith, ints), λ h. grind (arith, ints))

int_lt-Decides : (a b : ℤ) → Decides (int_lt a b) (a <ℤ b)
int_lt-Decides a b = (λ e. grind (arith, ints), λ h. grind (arith, ints))

keeps-Decides : (value : ℤ) (rule : Rule) → Decides (keeps value rule) (Keeps value rule)
keeps-Decides value (Between low high) = Decides-and _ _ (int_le-Decides low value) (int_le-Decides value high)
keeps-Decides value (Above low) = int_lt-Decides low value
keeps-Decides value (NotBothZero other) =
    let d = Decides-not _ (Decides-and _ _ (Decides-int_eq other (pos 0)) (Decides-int_eq value (pos 0))) in
    (λ e o v. d.0 e (o, v), λ h. d.1 (λ both. h both.0 both.1))

both_kept : (b : Bool) (f : ParamFault) (rest : Result ⊤ ParamFault) → or_else (if b then Ok tt else Err f) rest ≡ Ok tt → (b ≡ true) × (rest ≡ Ok tt)
both_kept true f rest e = (refl, e)
both_kept false f rest e = cc

each_kept : (es : List Entry) → first_fault es ≡ Ok tt → AllByRecursion IsKept es
unfolding first_fault
each_kept [] e = tt
each_kept (x ∷ es) e =
    let both = both_kept (keeps x.value x.rule) (fault_at x) (first_fault es) e in
    ((keeps-Decides x.value x.rule).0 both.0, each_kept es both.1)

-- where no entry is at fault, each is kept
pub all_kept : (es : List Entry) → first_fault es ≡ Ok tt → AllKept es
all_kept es e = record { kept = each_kept es e }

none_of_each : (es : List Entry) → AllByRecursion IsKept es → first_fault es ≡ Ok tt
unfolding first_fault
none_of_each [] h = refl
none_of_each (x ∷ es) h = ap (λ b. or_else (if b then Ok tt else Err (fault_at x)) (first_fault es)) ((keeps-Decides x.value x.rule).1 h.0) ∙ none_of_each es h.1

pub none_at_fault : (es : List Entry) → AllKept es → first_fault es ≡ Ok tt
none_at_fault es h = none_of_each es h.kept

pub kept_on_ok : (es : List Entry) (r : Result ⊤ ParamFault) → r ≡ first_fault es → OnOk r (AllKept es)
kept_on_ok es (Ok t) e = all_kept es (sym e)
kept_on_ok es (Err f) e = tt

-- the answer is none exactly where all are kept
pub within_tells : (es : List Entry) (r : Result ⊤ ParamFault) → r ≡ first_fault es → IsOk r ↔ AllKept es
within_tells es (Ok t) e = (λ _. all_kept es (sym e), λ _. refl)
within_tells es (Err f) e = (λ h. cc, λ h. cc (none_at_fault es h))

fit_at : (b : Bool) (f : ParamFault) (blend : Blend) (r : Result ⊤ ParamFault) → r ≡ (if b then first_fault (blend_entries (stated_blend blend)) else Err f) → IsOk r ↔ (IsTrue b × IsBlendWithin blend)
fit_at true f blend r e = let t = within_tells (blend_entries (stated_blend blend)) r e in (λ h. (refl, record { kept = (t.0 h).kept }), λ h. t.1 (record { kept = h.1.kept }))
fit_at false f blend r e = (λ h. cc, λ h. cc (h.0))

-- a blend is fit exactly where its check has no fault
pub fit_tells : (m : Module) (blend : Option Blend) (r : Result ⊤ ParamFault) → r ≡ check_blend_of m blend → IsOk r ↔ IsBlendFit m blend
fit_tells m None r e = (λ h. tt, λ h. rw e refl)
fit_tells m (Some b) r e = fit_at (blends m) blend_fault b r e

-- ---- nodes

-- a node that is kept leaves the fault to those behind it
pub node_behind : (field : Field) (at : ℕ) (before : ℤ) (node : ℤ × ℤ) (nodes : List (ℤ × ℤ)) → first_fault (node_entries field at before node []) ≡ Ok tt
    → first_fault (nodes_entries field at before (node ∷ nodes)) ≡ first_fault (nodes_entries field (at + 1) node.0 nodes)
node_behind field at before node nodes e = first_fault-append (node_entries field at before node []) _ ∙ ap (λ r. or_else r (first_fault (nodes_entries field (at + 1) node.0 nodes))) e

-- a node that isn't kept is the fault
pub node_here : (field : Field) (at : ℕ) (before : ℤ) (node : ℤ × ℤ) (nodes : List (ℤ × ℤ)) (f : ParamFault) → first_fault (node_entries field at before node []) ≡ Err f
    → first_fault (nodes_entries field at before (node ∷ nodes)) ≡ Err f
node_here field at before node nodes f e = first_fault-append (node_entries field at before node []) _ ∙ ap (λ r. or_else r (first_fault (nodes_entries field (at + 1) node.0 nodes))) e

-- ---- the loop over nodes of a type that w widens, whose list V widens

pub nodes_behind : {X : Type 0} (V : List X → List (ℤ × ℤ)) (w : X → ℤ × ℤ) → ((x : X) (xs : List X) → V (x ∷ xs) ≡ w x ∷ V xs)
    → (field : Field) (at : ℕ) (before : ℤ) (ns : List X) (i : ℕ) (d : X) → i < length ns
    → first_fault (node_entries field at before (w (get_or ns i d)) []) ≡ Ok tt
    → first_fault (nodes_entries field at before (V (drop i ns))) ≡ first_fault (nodes_entries field (at + 1) (w (get_or ns i d)).0 (V (drop (i + 1) ns)))
nodes_behind V w step field at before ns i d h e =
    ap (λ l. first_fault (nodes_entries field at before l)) (ap V (drop_more ns i d h) ∙ step (get_or ns i d) (drop (i + 1) ns)) ∙ node_behind field at before (w (get_or ns i d)) _ e

pub nodes_here : {X : Type 0} (V : List X → List (ℤ × ℤ)) (w : X → ℤ × ℤ) → ((x : X) (xs : List X) → V (x ∷ xs) ≡ w x ∷ V xs)
    → (field : Field) (at : ℕ) (before : ℤ) (ns : List X) (i : ℕ) (d : X) (f : ParamFault) → i < length ns
    → first_fault (node_entries field at before (w (get_or ns i d)) []) ≡ Err f
    → first_fault (nodes_entries field at before (V (drop i ns))) ≡ Err f
nodes_here V w step field at before ns i d f h e =
    ap (λ l. first_fault (nodes_entries field at before l)) (ap V (drop_more ns i d h) ∙ step (get_or ns i d) (drop (i + 1) ns)) ∙ node_here field at before (w (get_or ns i d)) _ f e

pub nodes_done : {X : Type 0} (V : List X → List (ℤ × ℤ)) → V [] ≡ []
    → (field : Field) (at : ℕ) (before : ℤ) (ns : List X) (i : ℕ) → length ns ≤ i
    → first_fault (nodes_entries field at before (V (drop i ns))) ≡ Ok tt
unfolding first_fault
nodes_done V none field at before ns i h =
    at_drop_all (λ l. first_fault (nodes_entries field at before (V l))) ns i h ∙ ap (λ l. first_fault (nodes_entries field at before l)) none

-- where the number of nodes is kept, the nodes decide
pub count_behind : (field : Field) (nodes : List (ℤ × ℤ)) → first_fault (count_entry field (pos (length nodes)) ∷ []) ≡ Ok tt → first_fault (curve_entries field nodes) ≡ first_fault (nodes_entries field 0 (negsuc 0) nodes)
count_behind field nodes e = first_fault-append (count_entry field (pos (length nodes)) ∷ []) _ ∙ ap (λ r. or_else r (first_fault (nodes_entries field 0 (negsuc 0) nodes))) e

pub count_here : (field : Field) (nodes : List (ℤ × ℤ)) (f : ParamFault) → first_fault (count_entry field (pos (length nodes)) ∷ []) ≡ Err f → first_fault (curve_entries field nodes) ≡ Err f
count_here field nodes f e = first_fault-append (count_entry field (pos (length nodes)) ∷ []) _ ∙ ap (λ r. or_else r (first_fault (nodes_entries field 0 (negsuc 0) nodes))) e

-- a number of nodes that is kept is at most 20
pub few_nodes : (field : Field) (n : ℕ) → first_fault (count_entry field (pos n) ∷ []) ≡ Ok tt → n ≤ 20
few_nodes field n e = let kept = all_kept (count_entry field (pos n) ∷ []) e in omega (arith, ints, kept.kept.0.1)
