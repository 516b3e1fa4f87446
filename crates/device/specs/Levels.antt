-- One slot's totals and levels from bucket levels, on numbers of 64 bits, for any levels, rates and bursts whatever. Where they are
-- what a set-up and slots gave, these are theorem 5.1's totals.
use Rattle.std.specs.Prelude.{ℕ, zero, suc, ◌+◌, min, max, ◌≡◌, List, get_or}
use Rattle.calculus.specs.Numbers.Limit.{Limit, map_limit, cut}
use Rattle.calculus.specs.Numbers.Lists.{list_of}
use Rattle.bucket_calculus.specs.Buckets.{enlargement}
use Rattle.numbers.specs.LeastSum.{top}
use Rattle.live_step.specs.Step.{within_buffer64}
use Rattle.live_step.specs.declared.step.Totals.{Totals}

-- the number of buckets of a device; one that no set-up gave counts as the nearest of 1 to 4
abbrev pub buckets_of : ℕ → ℕ
buckets_of buckets = max 1 (min buckets 4)

-- In a slot each bucket gains its rate.
abbrev pub gained : ℕ → ℕ → ℕ
gained level rate = min (level + rate) top

-- A total, cut down to what one bucket admits, its burst enlarged by rate × d; a limit that is none drops out.
abbrev pub bucket_admits : Limit → ℕ → ℕ → ℕ → ℕ
bucket_admits d level rate total = cut total (map_limit (λ e. min (gained level rate + e) top) (enlargement rate d))

-- A total, cut down to what each of the first `count` buckets admits.
unfoldable pub buckets_admit : Limit → List ℕ → List ℕ → ℕ → ℕ → ℕ
buckets_admit d levels rates total zero = total
buckets_admit d levels rates total (suc i) = bucket_admits d (get_or levels i 0) (get_or rates i 0) (buckets_admit d levels rates total i)

-- A total, cut down to what each of the first `count` buckets lets depart.
unfoldable pub buckets_let : List ℕ → List ℕ → ℕ → ℕ → ℕ
buckets_let levels rates total zero = total
buckets_let levels rates total (suc i) = min (buckets_let levels rates total i) (gained (get_or levels i 0) (get_or rates i 0))

-- A bucket's level after the slot, x being admitted by then: no bucket lets more depart than its burst beyond what is admitted.
abbrev pub level_after : ℕ → ℕ → ℕ → ℕ → ℕ
level_after level rate burst x = min (gained level rate) (min (x + burst) top)

unfoldable pub levels_after : List ℕ → List ℕ → List ℕ → ℕ → List ℕ
levels_after levels rates bursts x = list_of (λ i. level_after (get_or levels i 0) (get_or rates i 0) (get_or bursts i 0) x) 4

-- the totals after a slot of `count` buckets, x being admitted and y departed before, and n arriving: the buffer holds q besides y
unfoldable pub step_admits : Limit → Limit → List ℕ → List ℕ → ℕ → ℕ → ℕ → ℕ → ℕ
step_admits d q levels rates count x y n = within_buffer64 y q (buckets_admit d levels rates (min (x + n) top) count)

unfoldable pub step_departs : Limit → Limit → List ℕ → List ℕ → ℕ → ℕ → ℕ → ℕ → ℕ
step_departs d q levels rates count x y n = buckets_let levels rates (step_admits d q levels rates count x y n) count

-- what a step leaves: the totals after the slot, and the levels
pub record BucketStep (d q : Limit) (levels rates bursts : List ℕ) (count x y n : ℕ) (totals : Totals) (after : List ℕ) : Type 0 where
  pub admits : totals.admitted ≡ step_admits d q levels rates count x y n
  pub departs : totals.departed ≡ step_departs d q levels rates count x y n
  pub raises : after ≡ levels_after levels rates bursts (step_admits d q levels rates count x y n)
