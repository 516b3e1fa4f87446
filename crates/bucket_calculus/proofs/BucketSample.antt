-- The sample of document 02, request 2.6, holds by the old count and by the new: the definitions compute to it.
use mathlib.Core.Path.{refl}
use Rattle.calculus.specs.Numbers.Least.{least_of, least}
use Rattle.calculus.specs.Numbers.Course.{course_below, course}
use Rattle.calculus.specs.Numbers.Limit.{map_limit, cut}
use Rattle.calculus.specs.Regulators.Clipper.{arrived, clipping, clipped}
use Rattle.calculus.specs.Regulators.Trace.{arrivals}
use Rattle.bucket_calculus.specs.Buckets.{bucket_envelope, device_ahead, device_fresh, device_slot, device_after, device_loss}
use Rattle.bucket_calculus.specs.BucketSample.{sample_loss, old_loss, BucketSample}

pub bucket_sample : BucketSample
unfolding least_of least course_below course map_limit cut arrived clipping clipped arrivals bucket_envelope device_ahead device_fresh device_slot device_after device_loss sample_loss old_loss
bucket_sample =
    record {
      old_device = refl;
      old_first = refl;
      old_second = refl;
      device = refl;
      first = refl;
      second = refl;
      device_more = refl;
      first_less = refl;
      second_less = refl;
    }
