-- the texts of what is refused
use Rattle.std.specs.Prelude.{ℕ, List, codes}
use Rattle.pnm.specs.declared.fault.PnmKind.{PnmKind}
use Rattle.pnm.specs.declared.fault.PnmKind.TheVariants.{BadMagic, OtherForm, BadHeader, TooLarge, TooSmall, BadMaxval, Short}

abbrev pub kind_text : PnmKind → List ℕ
kind_text BadMagic = codes "bad magic"
kind_text OtherForm = codes "other form"
kind_text BadHeader = codes "bad header"
kind_text TooLarge = codes "too large"
kind_text TooSmall = codes "too small"
kind_text BadMaxval = codes "bad maxval"
kind_text Short = codes "short"
