-- `bucket_step` does what its definition says, call by call, for as many buckets as there are.
use Rattle.refusals.specs.Limits.{delay_limit, buffer_limit}
use Rattle.device.specs.Levels.{buckets_of}
use Rattle.device.proofs.BucketStep.{step-made}
use Rattle.device.proofs.step.bucket_step.Goals as goal

pub returns : goal.returns
returns c =
    let z = c.args in
    let least = rw c.clamp-count.ensures at c.admit-least.ensures in
    let gone = rw c.clamp-count.ensures at c.depart-gone.ensures in
    step-made (delay_limit z.delay) (buffer_limit z.buffer) z.levels.now z.rates.now z.bursts.now (buckets_of z.buckets) z.admitted
    z.departed z.arrivals c.saturating_add-arrived.result c.admit-least.result c.within_buffer-total.result
    c.depart-gone.result _ c.saturating_add-arrived.ensures least c.within_buffer-total.ensures gone c.raise.ensures
