-- What C gets of a slot and of a preview, field by field.
use mathlib.Core.Path.{◌≡◌, refl}
use Prim.Native.Nat.{ℕ}
use Rattle.calls.specs.Calls.{number_of}
use Rattle.preview.specs.declared.next.Foreseen.{Foreseen}
use Rattle.preview.specs.Preview as foreseeing
use Rattle.live_step.specs.declared.record.SlotRecord.{SlotRecord}
use Rattle.live_step.specs.Answer.{SlotAnswer}
use Rattle.live_step.specs.Answer as slot
use Rattle.c_answers.specs.Numbered.{row_of, preview_row_of}

-- A slot's row: its number is the answer's, and where that is 0 its counts are the record's.
pub row_number : (a : SlotAnswer) → (row_of a).number ≡ number_of a
unfolding row_of number_of
row_number (slot.Counted c) = refl
row_number (slot.Refused n) = refl

pub row-counted : (c : SlotRecord) → ((row_of (slot.Counted c)).held_before ≡ c.held_before) × ((row_of (slot.Counted c)).admitted ≡ c.admitted)
    × ((row_of (slot.Counted c)).dropped ≡ c.dropped) × ((row_of (slot.Counted c)).departed ≡ c.departed)
unfolding row_of
row-counted c = (refl, refl, refl, refl)

pub row_refused : (n : ℕ) → ((row_of (slot.Refused n)).held_before ≡ 0) × ((row_of (slot.Refused n)).admitted ≡ 0) × ((row_of (slot.Refused n)).dropped ≡ 0) × ((row_of (slot.Refused n)).departed ≡ 0)
unfolding row_of
row_refused n = (refl, refl, refl, refl)

-- A preview's row: the counts are the record's and the headroom is the preview's; a refused one has its number alone.
pub preview-counted : (p : Foreseen) → ((preview_row_of (foreseeing.Told p)).number ≡ 0) × ((preview_row_of (foreseeing.Told p)).held_before ≡ p.slot.held_before)
    × ((preview_row_of (foreseeing.Told p)).admitted ≡ p.slot.admitted) × ((preview_row_of (foreseeing.Told p)).dropped ≡ p.slot.dropped)
    × ((preview_row_of (foreseeing.Told p)).departed ≡ p.slot.departed) × ((preview_row_of (foreseeing.Told p)).headroom ≡ p.headroom)
unfolding preview_row_of
preview-counted p = (refl, refl, refl, refl, refl, refl)

pub preview_refused : (n : ℕ) → ((preview_row_of (foreseeing.Refused n)).number ≡ n) × ((preview_row_of (foreseeing.Refused n)).held_before ≡ 0)
    × ((preview_row_of (foreseeing.Refused n)).admitted ≡ 0) × ((preview_row_of (foreseeing.Refused n)).dropped ≡ 0) × ((preview_row_of (foreseeing.Refused n)).departed ≡ 0)
    × ((preview_row_of (foreseeing.Refused n)).headroom ≡ 0)
unfolding preview_row_of
preview_refused n = (refl, refl, refl, refl, refl, refl)
