-- Settings of old versions become settings within their ranges.
use Rattle.std.proofs.Common.{◌≡◌, ℕ, ◌+◌, ℤ, negsuc, List, [], ◌∷◌, ◌++◌, refl, arith}
use Rattle.std.specs.List.{AllByRecursion}
use Rattle.std.proofs.lemmas.Int.{ints}
use Rattle.params.specs.Rules.{IsKept}
use Rattle.params.specs.Ranges.{IsWithin, IsOldWithin, module_of, version_of, migrated}
use Rattle.params.specs.Seen.{wide_nodes}
use Rattle.params.specs.Stated.{nodes_entries, curve_entries}
use Rattle.params.specs.declared.fault.Field.{Field}
use Rattle.params.specs.declared.fault.Field.TheVariants.{Nodes, Red, Green, Blue}
use Rattle.params.specs.declared.modules.Module.{Module}
use Rattle.params.specs.declared.modules.Module.TheVariants as modules
use Rattle.params.specs.declared.old.OldParams.{OldParams}
use Rattle.params.specs.declared.old.OldParams.TheVariants as old
use Rattle.params.specs.declared.old.OldVersion.{OldVersion}
use Rattle.params.specs.declared.old.OldVersion.TheVariants as olds
use Rattle.params.specs.declared.rules.Entry.{Entry}
use Rattle.params.proofs.KeptLemmas.{all_append}

abbrev pub module_of_old : OldVersion → Module
module_of_old olds.Exposure1 = modules.Exposure
module_of_old olds.ToneCurve1 = modules.ToneCurve

pub migrated_module : (p : OldParams) → module_of (migrated p) ≡ module_of_old (version_of p)
migrated_module (old.Exposure1 black gain) = refl
migrated_module (old.ToneCurve1 nodes) = refl

-- whichever field a list of nodes stands under, its numbers keep the same rules
nodes_moved : (f g : Field) (at : ℕ) (before : ℤ) (ns : List (ℤ × ℤ)) → AllByRecursion IsKept (nodes_entries f at before ns) → AllByRecursion IsKept (nodes_entries g at before ns)
nodes_moved f g at before [] k = tt
nodes_moved f g at before (n ∷ ns) k = (k.0, (k.1.0, (k.1.1.0, nodes_moved f g (at + 1) n.0 ns k.1.1.1)))

curve_moved : (f g : Field) (ns : List (ℤ × ℤ)) → AllByRecursion IsKept (curve_entries f ns) → AllByRecursion IsKept (curve_entries g ns)
curve_moved f g ns k = (k.0, nodes_moved f g 0 (negsuc 0) ns k.1)

all_joined : (xs ys : List Entry) → AllByRecursion IsKept xs → AllByRecursion IsKept ys → AllByRecursion IsKept (xs ++ ys)
all_joined [] ys h g = g
all_joined (x ∷ xs) ys h g = (h.0, all_joined xs ys h.1 g)

-- migrated settings are within their ranges
pub migrated_within : (p : OldParams) → IsOldWithin p → IsWithin (migrated p)
migrated_within (old.Exposure1 black gain) h = record { sized = tt; kept = (h.kept.0, (h.kept.1.0, ((omega (arith, ints), omega (arith, ints)), tt))) }
migrated_within (old.ToneCurve1 nodes) h =
    let ns = wide_nodes nodes in
    let one_list = (all_append IsKept (curve_entries Nodes ns) [] h.kept).0 in
    let list : (f : Field) → AllByRecursion IsKept (curve_entries f ns) = λ f. curve_moved Nodes f ns one_list in
    record { sized = tt; kept = all_joined (curve_entries Red ns) (curve_entries Green ns ++ (curve_entries Blue ns ++ [])) (list Red) (all_joined (curve_entries Green ns) (curve_entries Blue ns ++ []) (list Green) (all_joined (curve_entries Blue ns) [] (list Blue) tt)) }
