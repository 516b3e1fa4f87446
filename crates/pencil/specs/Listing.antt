-- The listing of all short traces (document 02, request 2.14): what is refused, and what it answers and leaves.
use Rattle.std.specs.Prelude.{◌≡◌, List, ℕ, ◌*◌, ◌^◌, length}
use Rattle.pencil_calculus.specs.Traces.{all_traces}
use Rattle.orders.specs.Refusal.{◌or_else◌}
use Rattle.orders.specs.Verdict.{Verdict}
use Rattle.refusals.specs.Lengths.{short_refusal, lists_refusal}
use Rattle.orders.specs.Answered.{verdict_of, unless_refused}

-- 24, then 11: a list that is not T × 4-to-the-power-T long
unfoldable pub listing_refusal : ℕ → ℕ → ℕ
listing_refusal slots places = short_refusal slots or_else lists_refusal (slots * 4 ^ slots) places

-- what the listing answers, and leaves in the lent list
pub record Listed (slots : ℕ) (list : List ℕ) (verdict : Verdict) (list' : List ℕ) : Type 0 where
  pub answered : verdict ≡ verdict_of (listing_refusal slots (length list))
  pub filled : list' ≡ unless_refused (listing_refusal slots (length list)) (all_traces slots) list
