-- `rates_of` reads each rate.
use Rattle.device.specs.Profile.{rate_of}
use Rattle.device.proofs.ProfileJudged.{list_of_four}
use Rattle.device.proofs.profile.rates_of.Goals as goal

pub returns : goal.returns
unfolding rate_of
returns c =
    list_of_four (rate_of c.args.profile.now) _ _ _ _ c.number_at.ensures
    c.number_at-2.ensures c.number_at-3.ensures c.number_at-4.ensures
