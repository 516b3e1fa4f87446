-- The sample of document 02, request 2.6: buckets (rate 4, burst 0) and (rate 1, burst 12), no delay limit, q 4, four slots of 6. It is
-- one of the count before request 2.9; what it comes to now stands beside it.
use Rattle.std.specs.Prelude.{◌≡◌, List, [], ◌∷◌, ℕ, ◌+◌, ◌-◌, length, get_or}
use Rattle.calculus.specs.Numbers.Limit.{none, at_most}
use Rattle.calculus.specs.Regulators.Clipper.{arrived, clipped}
use Rattle.calculus.specs.Regulators.Trace.{arrivals}
use Rattle.bucket_calculus.specs.Buckets.{bucket_envelope, device_loss}

-- what a device with these rates and bursts, no delay limit and the buffer limit q loses of a trace
unfoldable pub sample_loss : List ℕ → List ℕ → ℕ → List ℕ → ℕ
sample_loss rates bursts q trace =
    device_loss (length rates - 1) (λ i. get_or rates i 0) (λ i. get_or bursts i 0) none (at_most q) (arrivals trace) (length trace)

-- what it lost by the old count: the buffer's fill was that after the slot's departures, and the clipper's bound f(k) + q
unfoldable pub old_loss : List ℕ → List ℕ → ℕ → List ℕ → ℕ
old_loss rates bursts q trace =
    arrived (arrivals trace) (length trace) - clipped (λ s t. at_most (bucket_envelope (length rates - 1) (λ i. get_or rates i 0) (λ i. get_or bursts i 0) (t - s) + q)) (arrivals trace) (length trace)

pub record BucketSample : Type 0 where
  -- By the old count the device loses 4, the single ones 4 and 4.
  pub old_device : old_loss (4 ∷ 1 ∷ []) (0 ∷ 12 ∷ []) 4 (6 ∷ 6 ∷ 6 ∷ 6 ∷ []) ≡ 4
  pub old_first : old_loss (4 ∷ []) (0 ∷ []) 4 (6 ∷ 6 ∷ 6 ∷ 6 ∷ []) ≡ 4
  pub old_second : old_loss (1 ∷ []) (12 ∷ []) 4 (6 ∷ 6 ∷ 6 ∷ 6 ∷ []) ≡ 4
  -- Now it loses 8, the single ones 8 and 8.
  pub device : sample_loss (4 ∷ 1 ∷ []) (0 ∷ 12 ∷ []) 4 (6 ∷ 6 ∷ 6 ∷ 6 ∷ []) ≡ 8
  pub first : sample_loss (4 ∷ []) (0 ∷ []) 4 (6 ∷ 6 ∷ 6 ∷ 6 ∷ []) ≡ 8
  pub second : sample_loss (1 ∷ []) (12 ∷ []) 4 (6 ∷ 6 ∷ 6 ∷ 6 ∷ []) ≡ 8
  -- The greatest of the single ones would not do: buckets (rate 3, burst 0) and (rate 2, burst 2), q 4.
  pub device_more : sample_loss (3 ∷ 2 ∷ []) (0 ∷ 2 ∷ []) 4 (4 ∷ 4 ∷ 0 ∷ 0 ∷ 4 ∷ 4 ∷ 4 ∷ 3 ∷ []) ≡ 4
  pub first_less : sample_loss (3 ∷ []) (0 ∷ []) 4 (4 ∷ 4 ∷ 0 ∷ 0 ∷ 4 ∷ 4 ∷ 4 ∷ 3 ∷ []) ≡ 3
  pub second_less : sample_loss (2 ∷ []) (2 ∷ []) 4 (4 ∷ 4 ∷ 0 ∷ 0 ∷ 4 ∷ 4 ∷ 4 ∷ 3 ∷ []) ≡ 3
