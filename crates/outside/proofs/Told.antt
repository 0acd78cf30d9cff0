-- Facts on what a shelf or an output tells, where it tells anything.
use Rattle.std.proofs.Common.{◌≡◌, Option, None, Some, subst}
use Rattle.std.specs.Option.{IfSome}

-- what follows from two facts on what is told, where the second was told later and nothing changed between
pub if_both : {X : Type 0} {P Q S : X → Type 0} (o later : Option X) → later ≡ o → IfSome o P → IfSome later Q → ((x : X) → P x → Q x → S x) → IfSome o S
if_both {P = P} {Q = Q} {S = S} o later same p q then = both o p (subst (λ told. IfSome told Q) same q)
  where
    both : (told : Option _) → IfSome told P → IfSome told Q → IfSome told S
    both None p q = p
    both (Some x) p q = then x p q
