-- What C is told: each answer keeps its place's number, so the orders are those of the places.
use mathlib.Core.Path.{◌≡◌, refl, subst, sym, ap, ◌∙◌}
use mathlib.Core.Bool.{Bool, true, false}
use mathlib.Core.List.{List}
use Prim.Native.Nat.{ℕ, zero, suc}
use lib.Dec.{leb}
use lib.ListN.{length}
use Rattle.orders.specs.Refusal.{◌or_else◌}
use Rattle.orders.specs.Answered.{verdict_number}
use Rattle.refusals.specs.Table.{table_refusal}
use Rattle.settings.specs.Taken.{taken_by, taken}
use Rattle.question.specs.Question.{asked}
use Rattle.question.specs.Question.{Answer}
use Rattle.question.specs.Question as asking
use Rattle.refusals.specs.Limits.{set_up_refusal, slot_refusal}
use Rattle.regulator.specs.Regulator.{set_up_by, set_up_of, slot_of, record_of}
use Rattle.live_step.specs.Answer.{answer_by}
use Rattle.regulator.specs.declared.regulator.Regulator.{Regulator}
use Rattle.live_step.specs.declared.record.SlotRecord.{SlotRecord}
use Rattle.preview.specs.Preview.{preview_by, preview_of, headroom_of}
use Rattle.device.specs.Profile.{device_refusal}
use Rattle.device.specs.Device.{device_made_by, device_made, device_slot_of, device_record}
use Rattle.device.specs.declared.device.Device.{Device}
use Rattle.found_links.specs.FinderAnswer.{found_by}
use Rattle.chain.specs.CheckerAnswer.{checked_by, checked_of}
use Rattle.c_answers.specs.Numbered.{made_of, row_of, preview_row_of, bound_of, bound_by, envelope_at, part_of, chain_of, chain_verdict_of}
use Rattle.exports.specs.NumberedDevice.{made_device_of}
use Rattle.c_answers.specs.declared.answer.SlotRow.{SlotRow}
use Rattle.c_answers.specs.declared.answer.Chain.{Chain}
use Rattle.exports.specs.NumberedRuns.{worst_of}
use Rattle.exports.specs.declared.worst_case.Worst.{Worst}
use Rattle.worst.specs.Worst.{worst_answer}
use Rattle.rivals.proofs.RivalAnswer.{judged-number}
use Rattle.square.proofs.Orders.{square-run_order}
use Rattle.port.proofs.Orders.{port_order_lem}
use Rattle.worst.proofs.Orders.{worst_order_lem}
use Rattle.pencil.proofs.ListingOrder.{listing_order_lem}
use Rattle.pencil.proofs.Orders.{pencil_order_lem}
use Rattle.rivals.proofs.Orders.{rival_order_lem}
use Rattle.certificate.specs.Claim.{claim_of}
use Rattle.certificate.proofs.ClaimAnswers.{answer-number}
use Rattle.certificate.proofs.Orders.{certificate_order_lem}
use Rattle.exports.specs.NumberedSizes.{size_of, buffer_size_of, delay_size_of}
use Rattle.size.specs.Size.{sized, size_answer}
use Rattle.size.proofs.Orders.{buffer_size_order_lem, delay_size_order_lem}
use Rattle.size_calculus.specs.Smallest.{smallest}
use Rattle.orders.specs.Order.{Order, FirstThatApplies, Judged}
use Rattle.orders.specs.Places.{slot_order}
use Rattle.c_promises.specs.Told.{NumbersTold}
use Rattle.refusals.proofs.OrderedRefusals.{◌and_then◌, judged}
use Rattle.refusals.proofs.TableOrder.{table_order_lem}
use Rattle.question.proofs.Orders.{answer_number, question_order_lem}
use Rattle.refusals.proofs.Orders.{set_up_order_lem, slot_order_lem}
use Rattle.refusals.proofs.TraceOrder.{run_order_lem}
use Rattle.chain.proofs.Orders.{chain_order_lem}
use Rattle.path.proofs.Orders.{path_order_lem}
use Rattle.stream.proofs.Orders.{file_order_lem}
use Rattle.device.proofs.Orders.{device_order_lem}

-- The number that is answered is the one that was judged.
made-number : (k : ℕ) (table : List ℕ) (d q : ℕ) → (made_of (set_up_by k table d q)).number ≡ k
unfolding made_of set_up_by verdict_number
made-number zero table d q = refl
made-number (suc k) table d q = refl

made_device-number : (k : ℕ) (profile : List ℕ) (d q : ℕ) → (made_device_of (device_made_by k profile d q)).number ≡ k
unfolding made_device_of device_made_by verdict_number
made_device-number zero profile d q = refl
made_device-number (suc k) profile d q = refl

row_number : (k : ℕ) (c : SlotRecord) → (row_of (answer_by k c)).number ≡ k
unfolding row_of answer_by
row_number zero c = refl
row_number (suc k) c = refl

preview-number : (k : ℕ) (c : SlotRecord) (h : ℕ) → (preview_row_of (preview_by k c h)).number ≡ k
unfolding preview_row_of preview_by
preview-number zero c h = refl
preview-number (suc k) c h = refl

found_number : (k places : ℕ) → (chain_of (found_by k places)).number ≡ k
unfolding chain_of found_by
found_number zero places = refl
found_number (suc k) places = refl

checked-number : (k : ℕ) (sound : Bool) → (chain_verdict_of (checked_by k sound)).number ≡ k
unfolding chain_verdict_of checked_by
checked-number zero true = refl
checked-number zero false = refl
checked-number (suc k) sound = refl

bound-number : (a : Answer) → (bound_of a).number ≡ answer_number a
unfolding bound_of answer_number
bound-number (asking.Bound b) = refl
bound-number (asking.Refused n) = refl

asked-number : (k : ℕ) (table : List ℕ) (window : ℕ)
    → (bound_by (taken_by table k).verdict (asked (taken_by table k).envelope window)).number ≡ (k or_else answer_number (asked (taken_by table k).envelope window))
unfolding bound_by taken_by ◌or_else◌
asked-number zero table window = bound-number _
asked-number (suc k) table window = refl

worst-number : (k loss : ℕ) → (worst_of (worst_answer k loss)).number ≡ k
unfolding worst_of worst_answer
worst-number zero loss = refl
worst-number (suc k) loss = refl

sized-number : (b : Bool) (most : ℕ) (loss : ℕ → ℕ) (limit : ℕ) → (size_of (sized b most loss limit)).number ≡ 0
unfolding size_of sized
sized-number true most loss limit = refl
sized-number false most loss limit = refl

size_number : (k most : ℕ) (loss : ℕ → ℕ) (N : ℕ) → (size_of (size_answer k most loss N)).number ≡ k
unfolding size_answer
size_number zero most loss N = sized-number (leb (smallest most loss N) most) most loss (smallest most loss N)
size_number (suc k) most loss N = unfold size_of in refl

-- A number that is the one judged is settled by the order.
told : (o : Order) (m n : ℕ) → m ≡ n → FirstThatApplies o n → Judged o m
told o m n e first = judged o m (subst (FirstThatApplies o) (sym e) first)

slot_told : (r : Regulator) (n : ℕ) (a : SlotRow) → a ≡ row_of (slot_of r n).answer → Judged (slot_order n r.slots.0) a.number
unfolding slot_of
slot_told r n a e =
    told _ _ _ (ap (λ (b : SlotRow). b.number) e ∙ row_number (slot_refusal n r.slots.0) (record_of r n)) (slot_order_lem n r.slots.0)

device-slot_told : (s : Device) (n : ℕ) (a : SlotRow) → a ≡ row_of (device_slot_of s n).answer → Judged (slot_order n s.slots.0) a.number
unfolding device_slot_of
device-slot_told s n a e =
    told _ _ _ (ap (λ (b : SlotRow). b.number) e ∙ row_number (slot_refusal n s.slots.0) (device_record s n)) (slot_order_lem n s.slots.0)

pub numbers_told : NumbersTold
unfolding envelope_at taken set_up_of preview_of device_made checked_of part_of buffer_size_of delay_size_of
numbers_told =
    record {
      question = λ table window. told _ _ _ (asked-number (table_refusal table) table window) (table_order_lem table and_then question_order_lem (taken_by table (table_refusal table)).envelope window);
      set_up = λ table d q. told _ _ _ (made-number (set_up_refusal table d q) table d q) (set_up_order_lem table d q);
      slot = λ r n. slot_told r n _ refl;
      slot_on = λ r n a slots x form bench row on. slot_told r n a on.answers;
      preview = λ r n. told _ _ _ (preview-number (slot_refusal n r.slots.0) (record_of r n) (headroom_of r)) (slot_order_lem n r.slots.0);
      device = λ profile d q. told _ _ _ (made_device-number (device_refusal profile d q) profile d q) (device_order_lem profile d q);
      device_slot = λ s n a slots x y levels form bench on. device-slot_told s n a on.answers;
      run = λ table d q trace ins drops outs number ins' drops' outs' ran. told _ _ _ ran.numbered (run_order_lem table d q trace (length ins) (length drops) (length outs));
      path = λ stages tables d q trace ins drops outs number ins' drops' outs' ran. told _ _ _ ran.numbered (path_order_lem stages tables d q trace (length ins) (length drops) (length outs));
      find = λ table d q trace t slots marks amounts answer slots' marks' amounts' found.
          told _ _ _ (ap (λ (c : Chain). c.number) found.answers ∙ found_number _ _) (chain_order_lem table d q trace t (length slots) (length marks) (length amounts));
      check = λ table d q trace t slots marks amounts places. told _ _ _ (checked-number _ _) (chain_order_lem table d q trace t (length slots) (length marks) (length amounts));
      file = λ bytes. told _ _ _ refl (file_order_lem bytes);
      square = λ square d q trace ins drops outs number ins' drops' outs' ran. told _ _ _ ran.numbered (square-run_order square d q trace (length ins) (length drops) (length outs));
      port = λ deadlines slots capacity input sent late number sent' late' ran. told _ _ _ ran.numbered (port_order_lem deadlines slots input (length sent) (length late));
      worst = λ table d q n p N list answer list' ran.
          told _ _ _ (ap (λ (w : Worst). w.number) ran.answers ∙ worst-number _ _) (worst_order_lem table d q n p (length list));
      listing = λ slots list number list' ran. told _ _ _ ran.numbered (listing_order_lem slots (length list));
      pencil = λ table d q trace ins drops outs number ins' drops' outs' ran. told _ _ _ ran.numbered (pencil_order_lem table d q trace (length ins) (length drops) (length outs));
      judge = λ table d q trace ins outs. told _ _ _ (judged-number table d q trace ins outs) (rival_order_lem table d q trace (length ins) (length outs));
      certify = λ table d q trace from by gone number from' by' gone' given. told _ _ _ given.answered (run_order_lem table d q trace (length from) (length by) (length gone));
      certificate = λ table d q trace ins outs from by gone.
          let c = claim_of table d q trace ins outs from by gone in
          told _ _ _ (answer-number c) (certificate_order_lem c);
      smallest_buffer = λ table d trace N. told _ _ _ (size_number _ _ _ _) (buffer_size_order_lem table d trace);
      smallest_delay = λ table q trace N. told _ _ _ (size_number _ _ _ _) (delay_size_order_lem table q trace);
    }
