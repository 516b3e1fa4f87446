-- `forecasts_on` reads whole rows.
use Rattle.regulator.proofs.parts.forecasts_on.Goals as goal

pub returns : goal.returns
returns c =
    let last = c.min-used.ensures in
    (rw last at c.forecast.ensures, rw last at c.forecast_late.ensures)
