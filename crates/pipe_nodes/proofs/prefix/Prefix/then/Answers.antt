use Rattle.std.proofs.Common.{rules, ◌≡◌, ◌∷◌, ◌++◌, [], map}
use Rattle.std.proofs.lemmas.List.{map_push}
use Rattle.std.specs.Arc.{arc_value}
use Rattle.pipe_nodes.proofs.PrefixLemmas.{fit-push}
use Rattle.pipe_nodes.proofs.prefix.Prefix.then.Goals as goal

pub invariant_of-result : goal.invariant_of-result
invariant_of-result c =
    let old = map arc_value (arc_value c.self.inside.actives).items in
    let new = map arc_value (arc_value c.in_ok-actives-2.actives).items in
    let e : new ≡ old ++ c.args.active.now ∷ [] = search (rules, map_push) in
    record { level = c.self.invariant.level; fit = fit-push old new c.args.active.now e c.self.invariant.fit c.requires }
