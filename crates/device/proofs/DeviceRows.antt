-- The sample's records hold: the definitions compute to them.
use mathlib.Core.Path.{refl}
use Rattle.calculus.specs.Numbers.Lists.{list_of}
use Rattle.calculus.specs.Numbers.Limit.{map_limit, cut, limit_unless}
use Rattle.calculus.specs.Numbers.Least.{least, least_of}
use Rattle.bucket_calculus.specs.Buckets.{bucket_envelope, enlargement}
use Rattle.orders.specs.Refusal.{pick, ◌when◌, ◌or_else◌}
use Rattle.refusals.specs.Limits.{delay_limit, buffer_limit, delay_refusal, buffer_refusal, both_refusal, limits_refusal, arrivals_refusal, slots_refusal, slot_refusal}
use Rattle.live_step.specs.Answer.{answer_by}
use Rattle.orders.specs.Answered.{unless_refused}
use Rattle.calls.specs.Calls.{answers}
use Rattle.device.specs.Profile.{profile_envelope, profile_table, rate_of, burst_of, buckets_refusal, numbers_refusal, device_refusal}
use Rattle.device.specs.Levels.{buckets_admit, buckets_let, levels_after, step_admits, step_departs}
use Rattle.device.specs.Device.{device_settings, fresh_device, device_made_by, device_made, device_admits, device_departs, device_record, device_advanced, device_slot_of}
use Rattle.device.specs.DeviceCalls.{device_machine}
use Rattle.device.specs.DeviceRows.{sample_answers, DeviceRows}

pub device_rows_lem : DeviceRows
unfolding least least_of bucket_envelope profile_envelope profile_table list_of map_limit cut limit_unless enlargement pick ◌when◌ ◌or_else◌ delay_limit buffer_limit delay_refusal buffer_refusal both_refusal limits_refusal arrivals_refusal slots_refusal slot_refusal answer_by unless_refused answers rate_of burst_of buckets_refusal numbers_refusal device_refusal buckets_admit buckets_let levels_after step_admits step_departs device_settings fresh_device device_made_by device_made device_admits device_departs device_record device_advanced device_slot_of device_machine sample_answers
device_rows_lem =
    record {
      table = refl;
      both = refl;
      first = refl;
      second = refl;
      delayed = refl;
      counts = refl;
      largest = refl;
      too_large = refl;
      no_buckets = refl;
      too_late = refl;
      too_full = refl;
      no_limits = refl;
    }
