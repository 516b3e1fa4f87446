-- An answer by its number: what a run, a chain or an envelope promises by its verdict it promises by its number.
use mathlib.Core.Path.{◌≡◌, refl, ap, subst, sym, ◌∙◌}
use Prim.Native.Nat.{ℕ}
use mathlib.Core.List.{List}
use Rattle.regulator.specs.Regulator.{SetUp, slot_of, SlotOn, Step}
use Rattle.device.specs.Device.{device_slot_of, DeviceOn, DeviceSetUp, DeviceStep}
use Rattle.device.specs.declared.device.Device.{Device}
use Rattle.device.proofs.DeviceSlot as device
use Rattle.regulator.specs.declared.regulator.Regulator.{Regulator}
use Rattle.regulator.proofs.SlotAnswers.{with_parts, slot_whole}
use Rattle.c_answers.specs.declared.answer.SlotRow.{SlotRow}
use Rattle.orders.specs.Verdict.{Verdict, Accepted, Refused}
use Rattle.orders.specs.Answered.{verdict_number, verdict_of, ListsFilled, ByNumber}
use Rattle.orders.proofs.Answered.{number_of_verdict}
use Rattle.settings.specs.Taken.{Taken, taken}
use Rattle.question.specs.Question.{asked}
use Rattle.found_links.specs.FinderAnswer.{Finding}
use Rattle.chain.specs.CheckerAnswer.{checked_of}
use Rattle.found_links.specs.FinderAnswer.{Found}
use Rattle.chain.specs.CheckerAnswer.{Checked}
use Rattle.c_answers.specs.declared.answer.Chain.{Chain}
use Rattle.c_answers.specs.declared.answer.ChainVerdict.{ChainVerdict}
use Rattle.c_answers.specs.Numbered.{made_of, bound_of, bound_by, envelope_at, chain_of, chain_verdict_of, FoundByNumber, PortRanByNumber, RowOn}
use Rattle.exports.specs.NumberedDevice.{made_device_of, DeviceRowOn}
use Rattle.port.specs.PortRun.{PortRan}

-- a run that fills three lists and answers a verdict answers its number
pub lists_by-number : {number refusal : ℕ} {admits-row drops-row departs-row ins drops outs ins' drops' outs' : List ℕ} {verdict : Verdict}
    → number ≡ verdict_number verdict → ListsFilled verdict_of refusal admits-row drops-row departs-row ins drops outs verdict ins' drops' outs'
    → ByNumber refusal number (λ v. ListsFilled verdict_of refusal admits-row drops-row departs-row ins drops outs v ins' drops' outs')
lists_by-number e ran =
    let same = e ∙ ap verdict_number ran.answered ∙ number_of_verdict _ in
    record { numbered = same; ran = record { answered = ap verdict_of same; admits = ran.admits; dropped = ran.dropped; departs = ran.departs } }

-- a finder that answers an enum answers its number, and so does a checker
pub found_by-number : {table : List ℕ} {d q wide : ℕ} {trace : List ℕ} {t : ℕ} {slots marks amounts slots' marks' amounts' : List ℕ} {found : Found} {answer : Chain}
    → answer ≡ chain_of found → wide ≡ q → Finding table d wide trace t slots marks amounts found slots' marks' amounts'
    → FoundByNumber table d q trace t slots marks amounts answer slots' marks' amounts'
found_by-number {table} {d} {q} {wide} {trace} {t} {slots} {marks} {amounts} {slots'} {marks'} {amounts'} {found} {answer} e w finding =
    let r = subst (λ (b : ℕ). Finding table d b trace t slots marks amounts found slots' marks' amounts') w finding in
    record {
      answers = e ∙ ap chain_of r.answered;
      finds = record { answered = refl; slotted = r.slotted; marked = r.marked; counted = r.counted };
    }

pub checked_by-number : (table : List ℕ) (d q wide : ℕ) (trace : List ℕ) (t : ℕ) (slots marks amounts : List ℕ) (places : ℕ) {checked : Checked} {answer : ChainVerdict}
    → answer ≡ chain_verdict_of checked → wide ≡ q → checked ≡ checked_of table d wide trace t slots marks amounts places
    → answer ≡ chain_verdict_of (checked_of table d q trace t slots marks amounts places)
checked_by-number table d q wide trace t slots marks amounts places e w same =
    e ∙ ap chain_verdict_of same ∙ ap (λ (b : ℕ). chain_verdict_of (checked_of table d b trace t slots marks amounts places)) w

-- and so does the port's
pub port_by-number : {deadlines : List ℕ} {slots capacity : ℕ} {input sent late sent' late' : List ℕ} {verdict : Verdict} {number : ℕ} → number ≡ verdict_number verdict
    → PortRan deadlines slots capacity input sent late verdict sent' late' → PortRanByNumber deadlines slots capacity input sent late number sent' late'
port_by-number e ran =
    let same = e ∙ ap verdict_number ran.answered ∙ number_of_verdict _ in
    record { numbered = same; ran = record { answered = ap verdict_of same; sends = ran.sends; lates = ran.lates } }

-- a table that is accepted is asked, and one that is refused is not
pub accepted-asked : (t : Taken) (table : List ℕ) (window : ℕ) → t ≡ taken table → t.verdict ≡ Accepted → bound_of (asked t.envelope window) ≡ envelope_at table window
unfolding envelope_at bound_by
accepted-asked t table window e v =
    subst (λ (u : Taken). bound_of (asked t.envelope window) ≡ bound_by u.verdict (asked u.envelope window)) e
    (ap (λ (w : Verdict). bound_by w (asked t.envelope window)) (sym v))

pub refused_numbered : (t : Taken) (table : List ℕ) (window n : ℕ) → t ≡ taken table → t.verdict ≡ Refused n → record { number = n; piece = 0; packets = 0 } ≡ envelope_at table window
unfolding envelope_at bound_by
refused_numbered t table window n e v =
    subst (λ (u : Taken). record { number = n; piece = 0; packets = 0 } ≡ bound_by u.verdict (asked u.envelope window)) e
    (ap (λ (w : Verdict). bound_by w (asked t.envelope window)) (sym v))

-- A set-up's number is its verdict's, and what was made is handed over.
pub made_whole : (s : SetUp) → ((made_of s).number ≡ verdict_number s.verdict) × ((made_of s).regulator ≡ s.regulator)
unfolding made_of
made_whole s = (refl, refl)

pub made_device_whole : (s : DeviceSetUp) → ((made_device_of s).number ≡ verdict_number s.verdict) × ((made_device_of s).device ≡ s.device)
unfolding made_device_of
made_device_whole s = (refl, refl)

-- A slot on lent parts from C leaves the parts of the regulator that the slot leaves.
pub row_on_whole : (r : Regulator) (n : ℕ) (a : SlotRow) (slots x form bench : ℕ) (row : List ℕ) → RowOn r n a slots x form bench row
    → with_parts r.settings slots x form bench row ≡ (slot_of r n).regulator
row_on_whole r n a slots x form bench row on =
    let parts : SlotOn r n (slot_of r n).answer slots x form bench row = record { answers = refl; takes = on.takes; admits = on.admits; fills = on.fills; fills_bench = on.fills_bench; moves = on.moves } in
    ap (λ (s : Step). s.regulator) (slot_whole r n (slot_of r n).answer slots x form bench row parts)

-- The same of a device.
pub device-row_on_whole : (s : Device) (n : ℕ) (a : SlotRow) (slots x y : ℕ) (levels : List ℕ) (form bench : ℕ) → DeviceRowOn s n a slots x y levels form bench
    → device.with_parts s.settings slots x y levels form bench ≡ (device_slot_of s n).device
device-row_on_whole s n a slots x y levels form bench on =
    let parts : DeviceOn s n (device_slot_of s n).answer slots x y levels form bench =
    record { answers = refl; takes = on.takes; admits = on.admits; departs = on.departs; raises = on.raises; form_peaks = on.form_peaks; bench_peaks = on.bench_peaks } in
    ap (λ (t : DeviceStep). t.device) (device.slot_whole s n (device_slot_of s n).answer slots x y levels form bench parts)
