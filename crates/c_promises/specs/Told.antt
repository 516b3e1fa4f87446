-- The number that each function open to C answers is settled by its place's order: the first that applies, and 0 exactly when no condition holds.
use Rattle.std.specs.Prelude.{List, ℕ, length}
use Rattle.regulator.specs.Regulator.{set_up_of, slot_of}
use Rattle.regulator.specs.declared.regulator.Regulator.{Regulator}
use Rattle.preview.specs.Preview.{preview_of}
use Rattle.device.specs.Device.{device_made}
use Rattle.device.specs.declared.device.Device.{Device}
use Rattle.chain.specs.CheckerAnswer.{checked_of}
use Rattle.c_answers.specs.Numbered.{made_of, row_of, preview_row_of, envelope_at, part_of, RanByNumber, PathRanByNumber, PortRanByNumber, RowOn, chain_verdict_of, FoundByNumber}
use Rattle.stream.specs.Format as format
use Rattle.exports.specs.NumberedDevice.{made_device_of, DeviceRowOn}
use Rattle.c_answers.specs.declared.answer.SlotRow.{SlotRow}
use Rattle.c_answers.specs.declared.answer.Chain.{Chain}
use Rattle.square_calculus.specs.Square.{square_entry}
use Rattle.exports.specs.NumberedRuns.{SquareRanByNumber, PencilRanByNumber, ListedByNumber, WorstByNumber}
use Rattle.exports.specs.declared.worst_case.Worst.{Worst}
use Rattle.exports.specs.NumberedSizes.{buffer_size_of, delay_size_of}
use Rattle.rivals.specs.Judgement.{judgement_of}
use Rattle.certificate.specs.Claim.{claim_of}
use Rattle.found_links.specs.Given.{Given}
use Rattle.certificate.specs.Checked.{certificate_of}
use Rattle.orders.specs.Order.{◌then◌, Judged}
use Rattle.orders.specs.Places.{table_order, question_order, set_up_order, slot_order, run_order, chain_order, path_order, file_order, device_order, square_run_order, port_order, worst_order, listing_order, pencil_order, rival_order, certificate_order, buffer_size_order, delay_size_order}

pub record NumbersTold : Type 1 where
  pub question : (table : List ℕ) (window : ℕ) → Judged (table_order table then question_order window) (envelope_at table window).number
  pub set_up : (table : List ℕ) (d q : ℕ) → Judged (set_up_order table d q) (made_of (set_up_of table d q)).number
  pub slot : (r : Regulator) (n : ℕ) → Judged (slot_order n r.slots.0) (row_of (slot_of r n).answer).number
  pub slot_on : (r : Regulator) (n : ℕ) (a : SlotRow) (slots x form bench : ℕ) (row : List ℕ) → RowOn r n a slots x form bench row
      → Judged (slot_order n r.slots.0) a.number
  pub preview : (r : Regulator) (n : ℕ) → Judged (slot_order n r.slots.0) (preview_row_of (preview_of r n)).number
  pub device : (profile : List ℕ) (d q : ℕ) → Judged (device_order profile d q) (made_device_of (device_made profile d q)).number
  pub device_slot : (s : Device) (n : ℕ) (a : SlotRow) (slots x y : ℕ) (levels : List ℕ) (form bench : ℕ) → DeviceRowOn s n a slots x y levels form bench
      → Judged (slot_order n s.slots.0) a.number
  pub run : (table : List ℕ) (d q : ℕ) (trace ins drops outs : List ℕ) (number : ℕ) (ins' drops' outs' : List ℕ)
      → RanByNumber table d q trace ins drops outs number ins' drops' outs'
      → Judged (run_order table d q trace (length ins) (length drops) (length outs)) number
  pub path : (stages : ℕ) (tables : List (List ℕ)) (d q : ℕ) (trace ins drops outs : List ℕ) (number : ℕ) (ins' drops' outs' : List ℕ)
      → PathRanByNumber stages tables d q trace ins drops outs number ins' drops' outs'
      → Judged (path_order stages tables d q trace (length ins) (length drops) (length outs)) number
  pub find : (table : List ℕ) (d q : ℕ) (trace : List ℕ) (t : ℕ) (slots marks amounts : List ℕ) (answer : Chain) (slots' marks' amounts' : List ℕ)
      → FoundByNumber table d q trace t slots marks amounts answer slots' marks' amounts'
      → Judged (chain_order table d q trace t (length slots) (length marks) (length amounts)) answer.number
  pub check : (table : List ℕ) (d q : ℕ) (trace : List ℕ) (t : ℕ) (slots marks amounts : List ℕ) (places : ℕ)
      → Judged (chain_order table d q trace t (length slots) (length marks) (length amounts)) (chain_verdict_of (checked_of table d q trace t slots marks amounts places)).number
  pub file : (bytes : List ℕ) → Judged
      (file_order (length bytes) (format.last bytes) (format.slots bytes) (format.bursts bytes) (format.table_of bytes) (format.delay bytes) (format.buffer bytes) (format.burst_slots bytes) (format.burst_counts bytes))
      (part_of bytes).number
  pub square : (square : List (List ℕ)) (d q : ℕ) (trace ins drops outs : List ℕ) (number : ℕ) (ins' drops' outs' : List ℕ)
      → SquareRanByNumber square d q trace ins drops outs number ins' drops' outs'
      → Judged (square_run_order (square_entry square) d q trace (length ins) (length drops) (length outs)) number
  pub port : (deadlines : List ℕ) (slots capacity : ℕ) (input sent late : List ℕ) (number : ℕ) (sent' late' : List ℕ)
      → PortRanByNumber deadlines slots capacity input sent late number sent' late'
      → Judged (port_order deadlines slots input (length sent) (length late)) number
  pub worst : (table : List ℕ) (d q n p N : ℕ) (list : List ℕ) (answer : Worst) (list' : List ℕ) → WorstByNumber table d q n p N list answer list'
      → Judged (worst_order table d q n p (length list)) answer.number
  pub listing : (slots : ℕ) (list : List ℕ) (number : ℕ) (list' : List ℕ) → ListedByNumber slots list number list' → Judged (listing_order slots (length list)) number
  pub pencil : (table : List ℕ) (d q : ℕ) (trace ins drops outs : List ℕ) (number : ℕ) (ins' drops' outs' : List ℕ)
      → PencilRanByNumber table d q trace ins drops outs number ins' drops' outs'
      → Judged (pencil_order table d q trace (length ins) (length drops) (length outs)) number
  pub judge : (table : List ℕ) (d q : ℕ) (trace ins outs : List ℕ) → Judged (rival_order table d q trace (length ins) (length outs)) (judgement_of table d q trace ins outs).number
  pub certify : (table : List ℕ) (d q : ℕ) (trace from by gone : List ℕ) (number : ℕ) (from' by' gone' : List ℕ) → Given table d q trace from by gone number from' by' gone'
      → Judged (run_order table d q trace (length from) (length by) (length gone)) number
  pub certificate : (table : List ℕ) (d q : ℕ) (trace ins outs from by gone : List ℕ)
      → Judged (certificate_order table d q trace (length ins) (length outs) (length from) (length by) (length gone)) (certificate_of (claim_of table d q trace ins outs from by gone)).number
  pub smallest_buffer : (table : List ℕ) (d : ℕ) (trace : List ℕ) (N : ℕ) → Judged (buffer_size_order table d trace) (buffer_size_of table d trace N).number
  pub smallest_delay : (table : List ℕ) (q : ℕ) (trace : List ℕ) (N : ℕ) → Judged (delay_size_order table q trace) (delay_size_of table q trace N).number
