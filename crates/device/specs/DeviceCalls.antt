-- The device as a machine that takes slots: a list of slot calls on it is one on any such machine.
use Rattle.calls.specs.Calls.{Machine}
use Rattle.device.specs.Device.{device_slot_of}
use Rattle.device.specs.declared.device.Device.{Device}

unfoldable pub device_machine : Machine Device
device_machine =
    record {
      answer = λ s n. (device_slot_of s n).answer;
      next = λ s n. (device_slot_of s n).device;
      slots = λ s. s.slots.0;
      admits = λ s. s.admitted.0;
      form_peak = λ s. s.form_peak.0;
      bench_peak = λ s. s.bench_peak.0;
    }
