-- Answers as numbers and values, for programs that have no enums: document 01's number for each case, 0 where nothing is
-- refused, and its values, 0 where something is.
use Rattle.std.specs.Prelude.{◌≡◌, ℕ, List, length}
use Rattle.settings.specs.Taken.{taken}
use Rattle.question.specs.Question.{asked}
use Rattle.orders.specs.Verdict.{Verdict}
use Rattle.orders.specs.Verdict as verdict
use Rattle.orders.specs.Answered.{verdict_number, ByNumber}
use Rattle.question.specs.Question.{Answer}
use Rattle.question.specs.Question as asking
use Rattle.regulator.specs.Regulator.{slot_of, SetUp}
use Rattle.regulator.specs.declared.regulator.Regulator.{Regulator}
use Rattle.live_step.specs.Answer.{SlotAnswer}
use Rattle.live_step.specs.Answer as slot
use Rattle.preview.specs.Preview.{PreviewAnswer}
use Rattle.preview.specs.Preview as foreseeing
use Rattle.stream.specs.Refusals.{file_refusal}
use Rattle.stream.specs.Handed.{counts_part, counts_place}
use Rattle.refusals.specs.WholeTrace.{run_refusal}
use Rattle.trace.specs.WholeTrace.{Ran}
use Rattle.chain.specs.Refusals.{chain_refusal}
use Rattle.chain.specs.Chains.{places_to}
use Rattle.found_links.specs.FinderAnswer.{found_by, Finding}
use Rattle.found_links.specs.FinderAnswer.{Found}
use Rattle.found_links.specs.FinderAnswer as found
use Rattle.chain.specs.CheckerAnswer.{Checked}
use Rattle.chain.specs.CheckerAnswer as checked
use Rattle.c_answers.specs.declared.answer.Chain.{Chain}
use Rattle.c_answers.specs.declared.answer.ChainVerdict.{ChainVerdict}
use Rattle.path.specs.Refusals.{path_refusal}
use Rattle.path.specs.PathRun.{PathRan}
use Rattle.port.specs.Refusals.{port_refusal}
use Rattle.port.specs.PortRun.{PortRan}
use Rattle.c_answers.specs.declared.answer.MadeRegulator.{MadeRegulator}
use Rattle.c_answers.specs.declared.answer.SlotRow.{SlotRow}
use Rattle.c_answers.specs.declared.answer.PreviewRow.{PreviewRow}
use Rattle.c_answers.specs.declared.answer.Bound.{Bound}
use Rattle.c_answers.specs.declared.answer.Part.{Part}

-- A refused set-up gives the number and no regulator.
unfoldable pub made_of : SetUp → MadeRegulator
made_of s = record { number = verdict_number s.verdict; regulator = s.regulator }

-- A refused slot gives the number.
unfoldable pub row_of : SlotAnswer → SlotRow
row_of (slot.Counted c) = record { number = 0; held_before = c.held_before; admitted = c.admitted; dropped = c.dropped; departed = c.departed }
row_of (slot.Refused n) = record { number = n; held_before = 0; admitted = 0; dropped = 0; departed = 0 }

-- A refused preview gives the number, and tells no headroom.
unfoldable pub preview_row_of : PreviewAnswer → PreviewRow
preview_row_of (foreseeing.Told p) =
    record {
      number = 0;
      held_before = p.slot.held_before;
      admitted = p.slot.admitted;
      dropped = p.slot.dropped;
      departed = p.slot.departed;
      headroom = p.headroom;
    }
preview_row_of (foreseeing.Refused n) = record { number = n; held_before = 0; admitted = 0; dropped = 0; departed = 0; headroom = 0 }

-- f and its first piece, or the number of the question
unfoldable pub bound_of : Answer → Bound
bound_of (asking.Bound b) = record { number = 0; piece = b.piece.0; packets = b.packets.0 }
bound_of (asking.Refused n) = record { number = n; piece = 0; packets = 0 }

-- Envelope question: its table's number, then 5.
unfoldable pub bound_by : Verdict → Answer → Bound
bound_by verdict.Accepted a = bound_of a
bound_by (verdict.Refused n) a = record { number = n; piece = 0; packets = 0 }

unfoldable pub envelope_at : List ℕ → ℕ → Bound
envelope_at table window = bound_by (taken table).verdict (asked (taken table).envelope window)

-- The part of a stream file that holds the counts, or the empty part at the file's start: its first byte, counted from there, and its size.
unfoldable pub part_of : List ℕ → Part
part_of file = record { number = file_refusal file; from = (counts_place file (0, 0)).1; bytes = length (counts_part file) }

-- what a run answers, by its number, and leaves in the three lent lists
abbrev pub RanByNumber : List ℕ → ℕ → ℕ → List ℕ → List ℕ → List ℕ → List ℕ → ℕ → List ℕ → List ℕ → List ℕ → Type 0
RanByNumber table d q trace ins drops outs number ins' drops' outs' =
    ByNumber (run_refusal table d q trace (length ins) (length drops) (length outs)) number (λ verdict. Ran table d q trace ins drops outs verdict ins' drops' outs')

-- the same of a path's run
abbrev pub PathRanByNumber : ℕ → List (List ℕ) → ℕ → ℕ → List ℕ → List ℕ → List ℕ → List ℕ → ℕ → List ℕ → List ℕ → List ℕ → Type 0
PathRanByNumber stages tables d q trace ins drops outs number ins' drops' outs' =
    ByNumber (path_refusal stages tables d q trace (length ins) (length drops) (length outs)) number (λ verdict. PathRan stages tables d q trace ins drops outs verdict ins' drops' outs')

-- and of the port's
abbrev pub PortRanByNumber : List ℕ → ℕ → ℕ → List ℕ → List ℕ → List ℕ → ℕ → List ℕ → List ℕ → Type 0
PortRanByNumber deadlines slots capacity input sent late number sent' late' =
    ByNumber (port_refusal deadlines slots input (length sent) (length late)) number (λ verdict. PortRan deadlines slots capacity input sent late verdict sent' late')

-- what a slot on lent parts answers, and leaves in those that it may change
pub record RowOn (r : Regulator) (n : ℕ) (a : SlotRow) (slots x form bench : ℕ) (row : List ℕ) : Type 0 where
  pub answers : a ≡ row_of (slot_of r n).answer
  pub takes : slots ≡ (slot_of r n).regulator.slots.0
  pub admits : x ≡ (slot_of r n).regulator.admitted.0
  pub fills : form ≡ (slot_of r n).regulator.form_peak.0
  pub fills_bench : bench ≡ (slot_of r n).regulator.bench_peak.0
  pub moves : row ≡ (slot_of r n).regulator.row

-- a found chain's number of places, or the number that refuses
unfoldable pub chain_of : Found → Chain
chain_of (found.Places n) = record { number = 0; places = n }
chain_of (found.Refused n) = record { number = n; places = 0 }

-- 1 for a sound chain, 0 for another, or the number that refuses
unfoldable pub chain_verdict_of : Checked → ChainVerdict
chain_verdict_of checked.Sound = record { number = 0; sound = 1 }
chain_verdict_of checked.Unsound = record { number = 0; sound = 0 }
chain_verdict_of (checked.Refused n) = record { number = n; sound = 0 }

-- what the finder answers, by its number, and leaves in the three lent lists
pub record FoundByNumber (table : List ℕ) (d q : ℕ) (trace : List ℕ) (t : ℕ) (slots marks amounts : List ℕ) (answer : Chain) (slots' marks' amounts' : List ℕ) : Type 0 where
  pub answers : answer ≡ chain_of (found_by (chain_refusal table d q trace t (length slots) (length marks) (length amounts)) (places_to table d q trace t))
  pub finds : Finding table d q trace t slots marks amounts (found_by (chain_refusal table d q trace t (length slots) (length marks) (length amounts)) (places_to table d q trace t)) slots' marks' amounts'
