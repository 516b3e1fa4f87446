-- A leaky-bucket profile as it is given (document 02, request 2.2), its envelope, and what is refused of it.
use Rattle.std.specs.Prelude.{ℕ, suc, ◌+◌, ◌-◌, ◌*◌, ◌/◌, ◌%◌, not, List, [], ◌∷◌, length, get_or, ltb, eqb}
use Rattle.calculus.specs.Numbers.Lists.{list_of}
use Rattle.calculus.specs.Numbers.Sizes.{most_packets}
use Rattle.bucket_calculus.specs.Buckets.{bucket_envelope}
use Rattle.orders.specs.Refusal.{◌when◌, ◌or_else◌}
use Rattle.refusals.specs.Limits.{limits_refusal}

-- One list of numbers, rate and burst of each bucket in turn: those of bucket i, the first being bucket 0.
unfoldable pub rate_of : List ℕ → ℕ → ℕ
rate_of profile i = get_or profile (2 * i) 0

unfoldable pub burst_of : List ℕ → ℕ → ℕ
burst_of profile i = get_or profile (2 * i + 1) 0

-- The number of buckets is half the list's length.
abbrev pub bucket_count : List ℕ → ℕ
bucket_count profile = length profile / 2

-- The envelope: 0 at window 0, otherwise the least of rate × window + burst over the buckets.
unfoldable pub profile_envelope : List ℕ → ℕ → ℕ
profile_envelope profile = bucket_envelope (bucket_count profile - 1) (rate_of profile) (burst_of profile)

-- the table of its first entries, f(0) to f(L)
unfoldable pub profile_table : List ℕ → ℕ → List ℕ
profile_table profile last = list_of (profile_envelope profile) (suc last)

-- 15: the number of buckets is not 1 to 4; an odd length is no number of buckets
unfoldable pub buckets_refusal : ℕ → ℕ
buckets_refusal entries = 15 when not (eqb (entries % 2) 0) or_else 15 when ltb (entries / 2) 1 or_else 15 when ltb 4 (entries / 2)

-- 16: a rate or burst above 1,000,000
unfoldable pub numbers_refusal : List ℕ → ℕ
numbers_refusal [] = 0
numbers_refusal (number ∷ later) = 16 when ltb most_packets number or_else numbers_refusal later

-- 15, then 16 over all buckets
abbrev pub profile_refusal : List ℕ → ℕ
profile_refusal profile = buckets_refusal (length profile) or_else numbers_refusal profile

-- Set-up: 15, 16, 6, 7, 23.
unfoldable pub device_refusal : List ℕ → ℕ → ℕ → ℕ
device_refusal profile d q = profile_refusal profile or_else limits_refusal d q
