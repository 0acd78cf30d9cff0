use Rattle.pnm.proofs.ByteLemmas.{byte_bands_joined}
use Rattle.pnm.proofs.banding.ByBytesBandFillerU8.joined.Goals as goal

pub returns : goal.returns
returns g c y m n a b front_len back_len front back =
    let s = c.args.self.now in byte_bands_joined s.depth s.w s.h _ y m n a b front back
