use Rattle.px.specs.Rows.{area_of}
use Rattle.px.proofs.BandLemmas.{bands_joined}
use Rattle.px.proofs.banding.ByPlanesBandFillerU32.joined.Goals as goal

pub returns : goal.returns
returns g c y m n a b front_len back_len front back =
    let s = c.args.self.now in bands_joined s.kind s.w s.h (area_of s.rows) _ y m n a b front_len front back
