-- The places of the streams' rows, and a stream's totals read off them.
use mathlib.Core.Path.{◌≡◌, refl, ap, ap₂, ◌∙◌}
use Prim.Native.Nat.{ℕ, zero, suc, ◌+◌, ◌*◌, ◌≤◌, ◌<◌}
use native.Mathlib.Nat.{mul-le-mul_right}
use native.Mathlib.Decide.{dec_le}
use native.Mathlib.Omega.{arith}
use lib.ListN.{length, get_or, length-append, get_or-append}
use lib.Seq.{get_or-append-add}
use Rattle.calculus.specs.Regulators.Clipper.{arrived}
use Rattle.calculus.specs.Numbers.Lists.{list_of}
use Rattle.calculus.proofs.Numbers.Lists.{length-list_of, list_of_at}
use Rattle.port_calculus.specs.Port.{sum_below, stream_arrivals, stream_rows}

length-stream_rows : (h : ℕ → ℕ → ℕ) (T n : ℕ) → length (stream_rows h T n) ≡ n * T
unfolding stream_rows
length-stream_rows h T zero = omega arith
length-stream_rows h T (suc n) =
    omega (arith, length-append (stream_rows h T n) (list_of (λ t. h n (suc t)) T), length-stream_rows h T n, length-list_of (λ t. h n (suc t)) T)

-- Slot t+1 of stream i is at place i·T + t.
pub stream_rows_at : (h : ℕ → ℕ → ℕ) (T n i t : ℕ) → i < n → t < T → get_or (stream_rows h T n) (i * T + t) 0 ≡ h i (suc t)
unfolding stream_rows
stream_rows_at h T zero i t p q = absurd (omega arith)
stream_rows_at h T (suc n) i t p q =
    let long : length (stream_rows h T n) ≡ n * T = length-stream_rows h T n in
    elim (dec_le (suc i) n) [
      | yes r ↦ get_or-append (stream_rows h T n) _ 0 (i * T + t) (omega (arith, mul-le-mul_right T r)) ∙ stream_rows_at h T n i t r q
      | no r ↦ let e : i ≡ n = omega arith in
          let here : i * T + t ≡ length (stream_rows h T n) + t = omega (arith, ap (λ (m : ℕ). m * T) e) in
          rw (here, e) (get_or-append-add (stream_rows h T n) _ t 0 ∙ list_of_at (λ t. h n (suc t)) T t q)
    ]

-- So what is read off them as stream i's by slot t is what the stream has there.
pub stream_rows_total : (h : ℕ → ℕ → ℕ) (T n i t : ℕ) → i < n → t ≤ T → arrived (stream_arrivals T (stream_rows h T n) i) t ≡ sum_below (λ s. h i (suc s)) t
unfolding arrived sum_below stream_arrivals
stream_rows_total h T n i zero p q = refl
stream_rows_total h T n i (suc t) p q = ap₂ ◌+◌ (stream_rows_total h T n i t p (omega arith)) (stream_rows_at h T n i t p q)
