-- Equality and hash of prefixes: those of the level and the list of instances.
use Rattle.std.specs.Prelude.{◌≡◌, Bool, ◌&&◌, ◌++◌, nat_eq, IsTrue}
use Rattle.std.specs.Cmp.{IsEquivalence, nat_eq_equiv, and_equiv, on_equiv, unsigned_Decides}
use Rattle.std.specs.Cmp.Lexicographic.{pointwise, lists_equiv}
use Rattle.std.specs.Hash as fed
use Rattle.std.specs.Hash.{items_Alike, and-Alike, on_Alike, same_Alike}
use Rattle.pipe_nodes.specs.declared.active.Active.{Active}
use Rattle.pipe_nodes.specs.contracts.active.ActivePartialEq.TheImpl as active_eq
use Rattle.pipe_nodes.specs.contracts.active.ActiveEq.TheImpl.Laws.{laws-law}
use Rattle.pipe_nodes.specs.contracts.active.ActiveHash.TheImpl as active_hash
use Rattle.pipe_nodes.specs.contracts.active.ActiveHash.TheImpl.Laws.{respects_eq-law}
use Rattle.pipe_nodes.specs.Prefix.{PrefixSeen}

-- the derived equality of instances
abbrev pub same_active : Active → Active → Bool
same_active = (active_eq.ghosts).eq

-- the same level, as many instances, and the same at each place
abbrev pub same_prefix : PrefixSeen → PrefixSeen → Bool
same_prefix p q = nat_eq p.level q.level && pointwise same_active p.actives q.actives

pub same_prefix_equiv : IsEquivalence same_prefix
same_prefix_equiv = and_equiv (on_equiv (λ p. p.level) nat_eq_equiv) (on_equiv (λ p. p.actives) (lists_equiv laws-law))

-- what a hash function is fed of an instance
abbrev pub active_input : Active → fed.HashWrites
active_input = (active_hash.ghosts).hash_input

abbrev pub prefix_input : PrefixSeen → fed.HashWrites
prefix_input p = fed.u8 p.level ++ fed.slice active_input p.actives

active_alike : fed.Alike same_active active_input
active_alike = record { fed = respects_eq-law }

prefix_alike : fed.Alike same_prefix prefix_input
prefix_alike = and-Alike (on_Alike (λ p. p.level) (same_Alike fed.u8 unsigned_Decides)) (on_Alike (λ p. p.actives) (items_Alike active_alike))

pub prefix_input_alike : (p q : PrefixSeen) → IsTrue (same_prefix p q) → prefix_input p ≡ prefix_input q
prefix_input_alike = prefix_alike.fed
