-- What C gets of the functions that it lends lists: from each one's promise, in the order of its arguments, the final theorem about those lists
-- where the number is 0, and every list as it was where it is another.
use Rattle.std.specs.Prelude.{◌≡◌, List, ℕ, ◌-◌, ◌*◌, ◌≤◌, ◌<◌, length, get_or}
use Rattle.calculus.specs.Envelopes.Envelope.{windows}
use Rattle.calculus.specs.Regulators.Clipper.{arrived}
use Rattle.calculus.specs.Regulators.Trace.{arrivals, sum_to}
use Rattle.calculus.specs.Regulators.Rows.{envelope_of, admitted_by}
use Rattle.calculus.specs.Losses.LossCurve.{LowestLoss}
use Rattle.chain_calculus.specs.ChainDescribed.{Described}
use Rattle.port_calculus.specs.Port.{stream_arrivals}
use Rattle.port_calculus.specs.Schedules.{Schedule, Meets}
use Rattle.pencil_calculus.specs.Traces.{EveryTrace}
use Rattle.square_calculus.specs.SquareRows.{SquareLowestLoss}
use Rattle.refusals.specs.Limits.{delay_limit, buffer_limit}
use Rattle.path.specs.Refusals.{tables_of}
use Rattle.path.specs.PathLoss.{stage_part, StagesKeep, PathLowestLoss}
use Rattle.stream.specs.Format.{last, bursts}
use Rattle.stream.specs.Handed.{counts_from}
use Rattle.pencil.specs.Agreed.{Agreed}
use Rattle.worst.specs.WorstLoses.{WorstLoses}
use Rattle.found_links.specs.Given.{Given}
use Rattle.c_answers.specs.declared.answer.Chain.{Chain}
use Rattle.c_answers.specs.Numbered.{part_of, RanByNumber, PathRanByNumber, PortRanByNumber, FoundByNumber}
use Rattle.exports.specs.NumberedRuns.{SquareRanByNumber, PencilRanByNumber, ListedByNumber, WorstByNumber}
use Rattle.exports.specs.declared.worst_case.Worst.{Worst}

-- three lists are as they were
abbrev pub Left : List ℕ → List ℕ → List ℕ → List ℕ → List ℕ → List ℕ → Type 0
Left a b c a' b' c' = (a' ≡ a) × (b' ≡ b) × (c' ≡ c)

pub record ListsTold : Type 0 where
  -- `bezhantiru_run`: nobody loses fewer than what is dropped.
  pub run : (table : List ℕ) (d q : ℕ) (trace ins drops outs : List ℕ) (number : ℕ) (ins' drops' outs' : List ℕ)
      → RanByNumber table d q trace ins drops outs number ins' drops' outs'
      → (number ≡ 0 → LowestLoss (windows (envelope_of table)) (delay_limit d) (buffer_limit q) trace ins' drops' outs')
      × ((number ≡ 0 → ⊥) → Left ins drops outs ins' drops' outs')
  -- `bezhantiru_path_run`: nor among those who keep every stage's envelope, and each stage keeps its own.
  pub path : (stages : ℕ) (first second third fourth : List ℕ) (d q : ℕ) (trace ins drops outs : List ℕ) (number : ℕ) (ins' drops' outs' : List ℕ)
      → PathRanByNumber stages (tables_of stages first second third fourth) d q trace ins drops outs number ins' drops' outs'
      → (number ≡ 0
      → PathLowestLoss (tables_of stages first second third fourth) (delay_limit d) (buffer_limit q) trace ins' drops' (stage_part (length trace) (stages - 1) outs')
      × StagesKeep (tables_of stages first second third fourth) (length trace) ins' outs')
      × ((number ≡ 0 → ⊥) → Left ins drops outs ins' drops' outs')
  -- `bezhantiru_square_run`: nor among those who keep the square.
  pub square : (square : List (List ℕ)) (d q : ℕ) (trace ins drops outs : List ℕ) (number : ℕ) (ins' drops' outs' : List ℕ)
      → SquareRanByNumber square d q trace ins drops outs number ins' drops' outs'
      → (number ≡ 0 → SquareLowestLoss square (delay_limit d) (buffer_limit q) trace ins' drops' outs')
      × ((number ≡ 0 → ⊥) → Left ins drops outs ins' drops' outs')
  -- `bezhantiru_pencil_run`: the lists are the whole-trace run's and what a fresh live regulator answers.
  pub pencil : (table : List ℕ) (d q : ℕ) (trace ins drops outs : List ℕ) (number : ℕ) (ins' drops' outs' : List ℕ)
      → PencilRanByNumber table d q trace ins drops outs number ins' drops' outs'
      → (number ≡ 0 → Agreed table d q trace ins' drops' outs') × ((number ≡ 0 → ⊥) → Left ins drops outs ins' drops' outs')
  -- `bezhantiru_short_traces`: the list holds every trace.
  pub listing : (slots : ℕ) (list : List ℕ) (number : ℕ) (list' : List ℕ) → ListedByNumber slots list number list'
      → (number ≡ 0 → EveryTrace slots list') × ((number ≡ 0 → ⊥) → list' ≡ list)
  -- `bezhantiru_worst_trace`: the list is the trace that loses most, and the loss is what it loses.
  pub worst : (table : List ℕ) (d q n p N : ℕ) (list : List ℕ) (answer : Worst) (list' : List ℕ) → WorstByNumber table d q n p N list answer list'
      → (answer.number ≡ 0 → WorstLoses table d q n p N list' answer.loss) × ((answer.number ≡ 0 → ⊥) → (list' ≡ list) × (answer.loss ≡ 0))
  -- `bezhantiru_port_run`: what is sent is a schedule of at most so many packets a slot, and where any such schedule meets all deadlines, no packet
  -- is late.
  pub port : (deadlines : List ℕ) (slots capacity : ℕ) (input sent late : List ℕ) (number : ℕ) (sent' late' : List ℕ)
      → PortRanByNumber deadlines slots capacity input sent late number sent' late'
      → (number ≡ 0
      → Schedule (length deadlines) (λ i. get_or deadlines i 0) (stream_arrivals slots input) capacity slots (λ i. arrived (stream_arrivals slots sent' i))
      × ((S : ℕ → ℕ → ℕ) → Schedule (length deadlines) (λ i. get_or deadlines i 0) (stream_arrivals slots input) capacity slots S
      → Meets (length deadlines) (λ i. get_or deadlines i 0) (stream_arrivals slots input) capacity slots S → (i : ℕ) → i < length deadlines → get_or late' i 0 ≡ 0))
      × ((number ≡ 0 → ⊥) → (sent' ≡ sent) × (late' ≡ late))
  -- `bezhantiru_find_chain`: the places told are the chain described, their amounts add up to X(t), and the rest is untouched.
  pub find : (table : List ℕ) (d q : ℕ) (trace : List ℕ) (t : ℕ) (slots marks amounts : List ℕ) (answer : Chain) (slots' marks' amounts' : List ℕ)
      → FoundByNumber table d q trace t slots marks amounts answer slots' marks' amounts'
      → (answer.number ≡ 0
      → Described (envelope_of table) (delay_limit d) (buffer_limit q) (arrivals trace) t slots' marks' amounts' answer.places
      × (sum_to amounts' answer.places ≡ admitted_by table (delay_limit d) (buffer_limit q) trace t)
      × ((k : ℕ) → answer.places ≤ k → (get_or slots' k 0 ≡ get_or slots k 0) × (get_or marks' k 0 ≡ get_or marks k 0) × (get_or amounts' k 0 ≡ get_or amounts k 0)))
      × ((answer.number ≡ 0 → ⊥) → Left slots marks amounts slots' marks' amounts')
  -- `bezhantiru_certify`, whose lists with number 0 are in `Certificates`.
  pub certify : (table : List ℕ) (d q : ℕ) (trace from by gone : List ℕ) (number : ℕ) (from' by' gone' : List ℕ)
      → Given table d q trace from by gone number from' by' gone' → (number ≡ 0 → ⊥) → Left from by gone from' by' gone'
  -- `bezhantiru_counts_part`: the counts' 4m bytes, from their place on; or no bytes, at the file's start.
  pub part : (file : List ℕ)
      → ((part_of file).number ≡ 0 → ((part_of file).from ≡ counts_from (last file) (bursts file)) × ((part_of file).bytes ≡ 4 * bursts file))
      × (((part_of file).number ≡ 0 → ⊥) → ((part_of file).from ≡ 0) × ((part_of file).bytes ≡ 0))
