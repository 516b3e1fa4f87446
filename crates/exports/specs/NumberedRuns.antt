-- What the runs of a varying envelope and of the pencil, the listing of short traces and the trace that loses most answer by number.
use Rattle.std.specs.Prelude.{◌≡◌, List, ℕ, length}
use Rattle.calculus.specs.Numbers.Limit.{delay_limit, buffer_limit}
use Rattle.worst_calculus.specs.WorstTrace.{worst_trace, worst_loss}
use Rattle.orders.specs.Answered.{unless_refused, ByNumber}
use Rattle.square.specs.RunRefusals.{square_run_refusal}
use Rattle.square.specs.SquareRun.{SquareRan}
use Rattle.pencil.specs.PencilRun.{pencil_refusal, PencilRan}
use Rattle.pencil.specs.Listing.{listing_refusal, Listed}
use Rattle.worst.specs.Worst.{worst_refusal, worst_answer}
use Rattle.worst.specs.Worst.{WorstAnswer}
use Rattle.worst.specs.Worst as worst
use Rattle.exports.specs.declared.worst_case.Worst.{Worst}

-- what a run over a square answers, by its number, and leaves in the three lent lists
abbrev pub SquareRanByNumber : List (List ℕ) → ℕ → ℕ → List ℕ → List ℕ → List ℕ → List ℕ → ℕ → List ℕ → List ℕ → List ℕ → Type 0
SquareRanByNumber square d q trace ins drops outs number ins' drops' outs' =
    ByNumber (square_run_refusal square d q trace (length ins) (length drops) (length outs)) number (λ verdict. SquareRan square d q trace ins drops outs verdict ins' drops' outs')

-- the same of the pencil's run
abbrev pub PencilRanByNumber : List ℕ → ℕ → ℕ → List ℕ → List ℕ → List ℕ → List ℕ → ℕ → List ℕ → List ℕ → List ℕ → Type 0
PencilRanByNumber table d q trace ins drops outs number ins' drops' outs' =
    ByNumber (pencil_refusal table d q trace (length ins) (length drops) (length outs)) number (λ verdict. PencilRan table d q trace ins drops outs verdict ins' drops' outs')

-- and of the listing, which has one lent list
abbrev pub ListedByNumber : ℕ → List ℕ → ℕ → List ℕ → Type 0
ListedByNumber slots list number list' =
    ByNumber (listing_refusal slots (length list)) number (λ verdict. Listed slots list verdict list')

-- the loss of the trace that loses most, or the number that refuses
unfoldable pub worst_of : WorstAnswer → Worst
worst_of (worst.Loss loss) = record { number = 0; loss = loss }
worst_of (worst.Refused n) = record { number = n; loss = 0 }

-- what is answered of that trace, and left in the lent list
pub record WorstByNumber (table : List ℕ) (d q n p N : ℕ) (list : List ℕ) (answer : Worst) (list' : List ℕ) : Type 0 where
  pub answers : answer ≡ worst_of (worst_answer (worst_refusal table d q n p (length list)) (worst_loss table (delay_limit d) (buffer_limit q) n p N))
  pub written : list' ≡ unless_refused (worst_refusal table d q n p (length list)) (worst_trace n p N) list
