use Rattle.std.proofs.Common.{◌≡◌, ◌+◌, ◌/◌, ◌%◌, ◌^◌, min, ap, ◌∙◌}
use Rattle.std.specs.Int.{div_ceil}
use Rattle.local_modules.proofs.RadiusLemmas.{ceil_is, least_is, reaches_is, some_is, most_is, shifted, two_some}
use Rattle.local_modules.proofs.radius.radius_at.Goals as goal

pub returns : goal.returns
returns c =
    let n = 2 ^ c.args.level in
    let is : c.div_ceil.result ≡ c.args.radius / n + min 1 (c.args.radius % n) = c.div_ceil.ensures ∙ ap (λ m. div_ceil c.args.radius m) (shifted c.args.level c.requires.level) in
    let some = two_some c.args.level c.requires.level in
    record {
      value = is ∙ ceil_is c.args.radius n some;
      some = some_is c.args.radius n c.div_ceil.result some c.requires.some is;
      most = most_is c.args.radius n c.div_ceil.result some is;
      reaches = reaches_is c.args.radius n c.div_ceil.result some is;
      least = λ m reaches. least_is c.args.radius n c.div_ceil.result m some is reaches;
    }
