-- The preview (document 02, 2.7): what the next slot would give for n packets, for every regulator and number whatever.
use Rattle.std.specs.Prelude.{ℕ, zero, suc, List, [], ◌∷◌, Result, Ok, Err}
use Rattle.calculus.specs.Numbers.Sizes.{most_packets}
use Rattle.refusals.specs.Limits.{slot_refusal}
use Rattle.regulator.specs.Regulator.{record_of, slot_of}
use Rattle.regulator.specs.declared.regulator.Regulator.{Regulator}
use Rattle.live_step.specs.declared.record.SlotRecord.{SlotRecord}
use Rattle.live_step.specs.Answer.{SlotAnswer}
use Rattle.live_step.specs.Answer as answer
use Rattle.orders.specs.declared.refusal.Refusal.{Refusal}
use Rattle.orders.specs.Answered.{refusal_number}
use Rattle.preview.specs.declared.next.Foreseen.{Foreseen}

-- what a preview is answered
pub data PreviewAnswer : Type 0 where
  Told : Foreseen → PreviewAnswer
  Refused : ℕ → PreviewAnswer

-- the answer that a call gives
unfoldable pub preview_given : Result Foreseen Refusal → PreviewAnswer
preview_given (Ok given) = Told given
preview_given (Err refusal) = Refused (refusal_number refusal)

-- the headroom: the packets that would be admitted out of 1,000,000
unfoldable pub headroom_of : Regulator → ℕ
headroom_of r = (record_of r most_packets).admitted

-- A preview gives, refusals included, the record that the next slot would give; an accepted one also tells the headroom.
unfoldable pub preview_by : ℕ → SlotRecord → ℕ → PreviewAnswer
preview_by zero c h = Told (record { slot = c; headroom = h })
preview_by (suc k) c h = Refused (suc k)

unfoldable pub preview_of : Regulator → ℕ → PreviewAnswer
preview_of r n = preview_by (slot_refusal n r.slots.0) (record_of r n) (headroom_of r)

-- the slot's answer that a preview tells
unfoldable pub foretold : PreviewAnswer → SlotAnswer
foretold (Told p) = answer.Counted p.slot
foretold (Refused k) = answer.Refused k

-- slots and previews on one live regulator, in their order: a preview does not advance it
pub data Event : Type 0 where
  slot : ℕ → Event
  ask : ℕ → Event

unfoldable pub after_events : Regulator → List Event → Regulator
after_events r [] = r
after_events r (slot n ∷ events) = after_events (slot_of r n).regulator events
after_events r (ask n ∷ events) = after_events r events

-- the slot calls among them
unfoldable pub slots_in : List Event → List ℕ
slots_in [] = []
slots_in (slot n ∷ events) = n ∷ slots_in events
slots_in (ask n ∷ events) = slots_in events
