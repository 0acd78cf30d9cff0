use Rattle.std.proofs.Common.{subst}
use Rattle.params.specs.declared.settings.Params.TheVariants as params
use Rattle.params.specs.Ranges.{IsWithin}
use Rattle.pipe_nodes.specs.Applied.{CanApply}
use Rattle.pipe_nodes.proofs.ApplyLemmas.{applied, covers-less, radius-less}
use Rattle.pipe_nodes.proofs.apply.apply.Goals as goal

pub raw_prepare_in_turn-requires-clause-within : goal.raw_prepare_in_turn-requires-clause-within
raw_prepare_in_turn-requires-clause-within c = subst IsWithin c.in-RawPrepare.is c.requires.within

pub temperature_in_turn-requires-clause-within : goal.temperature_in_turn-requires-clause-within
temperature_in_turn-requires-clause-within c = subst IsWithin c.in-Temperature.is c.requires.within

pub crop_in_turn-requires-clause-within : goal.crop_in_turn-requires-clause-within
crop_in_turn-requires-clause-within c = subst IsWithin c.in-Crop.is c.requires.within

pub exposure_in_turn-requires-clause-within : goal.exposure_in_turn-requires-clause-within
exposure_in_turn-requires-clause-within c = subst IsWithin c.in-Exposure.is c.requires.within

pub mixer_in_turn-requires-clause-within : goal.mixer_in_turn-requires-clause-within
mixer_in_turn-requires-clause-within c = subst IsWithin c.in-ChannelMixer.is c.requires.within

pub box_blur_in_turn-requires-clause-within : goal.box_blur_in_turn-requires-clause-within
box_blur_in_turn-requires-clause-within c = subst IsWithin c.in-BoxBlur.is c.requires.within

pub sharpen_in_turn-requires-clause-within : goal.sharpen_in_turn-requires-clause-within
sharpen_in_turn-requires-clause-within c = subst IsWithin c.in-Sharpen.is c.requires.within

pub box_blur_in_turn-requires-clause-covers : goal.box_blur_in_turn-requires-clause-covers
box_blur_in_turn-requires-clause-covers c =
    let can = subst (λ p. CanApply p c.args.input.now c.args.region) c.in-BoxBlur.is c.requires.can in
    covers-less c.args.input.now.area c.args.region _ c.in-BoxBlur.blur.radius _ _ (radius-less c.in-BoxBlur.blur.radius c.args.level c.requires.level) can.covers can.inside

pub sharpen_in_turn-requires-clause-covers : goal.sharpen_in_turn-requires-clause-covers
sharpen_in_turn-requires-clause-covers c =
    let can = subst (λ p. CanApply p c.args.input.now c.args.region) c.in-Sharpen.is c.requires.can in
    covers-less c.args.input.now.area c.args.region _ c.in-Sharpen.sharpen.radius _ _ (radius-less c.in-Sharpen.sharpen.radius c.args.level c.requires.level) can.covers can.inside

pub returns-in_ok-made-in-RawPrepare : goal.returns-in_ok-made-in-RawPrepare
returns-in_ok-made-in-RawPrepare c = applied c.args.params.now (params.RawPrepare c.in-RawPrepare.raw) c.args.level c.args.input.now c.args.region c.in_ok-made-in-RawPrepare.made c.in-RawPrepare.is c.in_ok-made-in-RawPrepare.ensures.area c.in_ok-made-in-RawPrepare.ensures.cut

pub returns-in_ok-made-in-Temperature : goal.returns-in_ok-made-in-Temperature
returns-in_ok-made-in-Temperature c = applied c.args.params.now (params.Temperature c.in-Temperature.balance) c.args.level c.args.input.now c.args.region c.in_ok-made-in-Temperature.made c.in-Temperature.is c.in_ok-made-in-Temperature.ensures.area c.in_ok-made-in-Temperature.ensures.cut

pub returns-in_ok-made-in-Orientation : goal.returns-in_ok-made-in-Orientation
returns-in_ok-made-in-Orientation c = applied c.args.params.now (params.Orientation c.in-Orientation.turn) c.args.level c.args.input.now c.args.region c.in_ok-made-in-Orientation.made c.in-Orientation.is c.in_ok-made-in-Orientation.ensures.area c.in_ok-made-in-Orientation.ensures.cut

pub returns-in_ok-made-in-Crop : goal.returns-in_ok-made-in-Crop
returns-in_ok-made-in-Crop c = applied c.args.params.now (params.Crop c.in-Crop.crop) c.args.level c.args.input.now c.args.region c.in_ok-made-in-Crop.made c.in-Crop.is c.in_ok-made-in-Crop.ensures.area c.in_ok-made-in-Crop.ensures.cut

pub returns-in_ok-made-in-Exposure : goal.returns-in_ok-made-in-Exposure
returns-in_ok-made-in-Exposure c = applied c.args.params.now (params.Exposure c.in-Exposure.exposure) c.args.level c.args.input.now c.args.region c.in_ok-made-in-Exposure.made c.in-Exposure.is c.in_ok-made-in-Exposure.ensures.area c.in_ok-made-in-Exposure.ensures.cut

pub returns-in_ok-made-in-ChannelMixer : goal.returns-in_ok-made-in-ChannelMixer
returns-in_ok-made-in-ChannelMixer c = applied c.args.params.now (params.ChannelMixer c.in-ChannelMixer.mixer) c.args.level c.args.input.now c.args.region c.in_ok-made-in-ChannelMixer.made c.in-ChannelMixer.is c.in_ok-made-in-ChannelMixer.ensures.area c.in_ok-made-in-ChannelMixer.ensures.cut

pub returns-in_ok-made-in-ToneCurve : goal.returns-in_ok-made-in-ToneCurve
returns-in_ok-made-in-ToneCurve c = applied c.args.params.now (params.ToneCurve c.in-ToneCurve.curve) c.args.level c.args.input.now c.args.region c.in_ok-made-in-ToneCurve.made c.in-ToneCurve.is c.in_ok-made-in-ToneCurve.ensures.area c.in_ok-made-in-ToneCurve.ensures.cut

pub returns-in_ok-made-in-BoxBlur : goal.returns-in_ok-made-in-BoxBlur
returns-in_ok-made-in-BoxBlur c = applied c.args.params.now (params.BoxBlur c.in-BoxBlur.blur) c.args.level c.args.input.now c.args.region c.in_ok-made-in-BoxBlur.made c.in-BoxBlur.is c.in_ok-made-in-BoxBlur.ensures.area c.in_ok-made-in-BoxBlur.ensures.cut

pub returns-in_ok-made-in-Sharpen : goal.returns-in_ok-made-in-Sharpen
returns-in_ok-made-in-Sharpen c = applied c.args.params.now (params.Sharpen c.in-Sharpen.sharpen) c.args.level c.args.input.now c.args.region c.in_ok-made-in-Sharpen.made c.in-Sharpen.is c.in_ok-made-in-Sharpen.ensures.area c.in_ok-made-in-Sharpen.ensures.cut
