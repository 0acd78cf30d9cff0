-- The settings of one module within their ranges.
use Rattle.params.specs.Ranges.{IsWithin}
use Rattle.params.specs.declared.settings.Params.TheVariants as params
use Rattle.params.specs.declared.settings.RawPrepare.{RawPrepare}
use Rattle.params.specs.declared.settings.Temperature.{Temperature}
use Rattle.params.specs.declared.settings.Crop.{Crop}
use Rattle.params.specs.declared.settings.ChannelMixer.{ChannelMixer}

abbrev pub IsRawWithin : RawPrepare → Type 0
IsRawWithin p = IsWithin (params.RawPrepare p)

abbrev pub IsTemperatureWithin : Temperature → Type 0
IsTemperatureWithin p = IsWithin (params.Temperature p)

abbrev pub IsCropWithin : Crop → Type 0
IsCropWithin p = IsWithin (params.Crop p)

abbrev pub IsMixerWithin : ChannelMixer → Type 0
IsMixerWithin p = IsWithin (params.ChannelMixer p)
