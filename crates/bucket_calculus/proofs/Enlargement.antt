-- Document 000's clipper of buckets under the count of request 2.9: what a clipper for the least of the buckets admits is the least of
-- what each bucket admits that has its burst enlarged by rate × d, cut down to the buffer's own term.
use mathlib.Core.Path.{◌≡◌, ap, ◌∙◌}
use Prim.Native.Nat.{ℕ, suc, ◌+◌, ◌*◌, min}
use native.Mathlib.Nat.{le_antisymm}
use native.Mathlib.Omega.{arith}
use Rattle.calculus.specs.Numbers.Least.{least}
use Rattle.calculus.specs.Numbers.Limit.{Limit, none, at_most, map_limit, cut}
use Rattle.calculus.specs.Regulators.Clipper.{delay_bound, buffer_bound, clipper_window}
use Rattle.calculus.specs.Regulators.Ahead.{ahead_admitted}
use Rattle.bucket_calculus.specs.Buckets.{bucket_envelope, enlargement, Device, device_ahead}
use Rattle.calculus.proofs.Numbers.Least.{least_below, least_above, least_cong}
use Rattle.calculus.proofs.Numbers.Limit.{cut-smaller}

-- Where w(k) is the least of b + rate × k over the buckets, what is in time is the least of what the enlarged buckets allow.
timely_enlarged : (last : ℕ) (b rate w : ℕ → ℕ) → ((k : ℕ) → w k ≡ least 0 last (λ i. b i + rate i * k)) → (d : Limit) (z : ℕ)
    → cut z (map_limit w d) ≡ least 0 last (λ i. cut z (map_limit (λ e. b i + e) (enlargement (rate i) d)))
unfolding cut map_limit enlargement
timely_enlarged last b rate w same none z =
    le_antisymm (least_above 0 last (λ i. z) z (omega arith) (λ i i0 il. omega arith)) (least_below 0 last (λ i. z) 0 (omega arith) (omega arith))
timely_enlarged last b rate w same (at_most n) z =
    let enlarged : ℕ → ℕ = λ i. min z (b i + rate i * n) in
    le_antisymm
    (least_above 0 last enlarged _ (omega arith) (λ i i0 il. omega (arith, same n, least_below 0 last (λ i. b i + rate i * n) i i0 il)))
    (omega (
      arith,
      same n,
      least_below 0 last enlarged 0 (omega arith) (omega arith),
      least_above 0 last (λ i. b i + rate i * n) (least 0 last enlarged) (omega arith) (λ i i0 il. omega (arith, least_below 0 last enlarged i i0 il)),
    ))

-- Document 000's device: it admits the least of what each bucket admits whose burst is enlarged, and q more than had departed.
pub device_enlarged : (last : ℕ) (rate : ℕ → ℕ) (d q : Limit) (s : Device) (y x n : ℕ)
    → ahead_admitted (device_ahead last rate s) y d q x n
    ≡ cut (least 0 last (λ i. cut (x + n) (map_limit (λ e. s.level i + rate i + e) (enlargement (rate i) d)))) (map_limit (λ b. y + b) q)
unfolding device_ahead
device_enlarged last rate d q s y x n =
    ap (λ (z : ℕ). cut z (map_limit (λ b. y + b) q))
    (timely_enlarged last (λ i. s.level i + rate i) rate (device_ahead last rate s)
    (λ k. least_cong 0 last _ _ (omega arith) (λ i i0 il. omega arith)) d (x + n))

-- The bucket envelope n slots on: each bucket gains its rate.
bucket_later : (last : ℕ) (rate burst : ℕ → ℕ) (k n : ℕ) → bucket_envelope last rate burst (suc k + n) ≡ least 0 last (λ i. rate i * suc k + burst i + rate i * n)
unfolding bucket_envelope
bucket_later last rate burst k n =
    let e : suc k + n ≡ suc (k + n) = omega arith in
    rw e (least_cong 0 last _ _ (omega arith) (λ i i0 il. omega arith))

-- Document 000's clipper: g(k) is the least over the buckets of rate × k + burst, enlarged, and of f(k-1) + q.
pub bucket_clipper : (last : ℕ) (rate burst : ℕ → ℕ) (d q : Limit) (k z : ℕ)
    → cut z (clipper_window (bucket_envelope last rate burst) d q (suc k))
    ≡ cut (least 0 last (λ i. cut z (map_limit (λ e. rate i * suc k + burst i + e) (enlargement (rate i) d)))) (buffer_bound (bucket_envelope last rate burst) q (suc k))
unfolding clipper_window delay_bound
bucket_clipper last rate burst d q k z =
    let f : ℕ → ℕ = bucket_envelope last rate burst in
    cut-smaller z _ _
    ∙ ap (λ (v : ℕ). cut v (buffer_bound f q (suc k)))
    (timely_enlarged last (λ i. rate i * suc k + burst i) rate (λ n. f (suc k + n)) (bucket_later last rate burst k) d z)
