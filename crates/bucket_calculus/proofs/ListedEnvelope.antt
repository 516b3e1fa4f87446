-- A closed envelope's first entries, given as a table: the table closes to the envelope as far as it goes, so it gives the same rows on
-- every trace whose windows it reaches.
use mathlib.Core.Path.{◌≡◌, ap, ap₂, ◌∙◌}
use mathlib.Core.List.{List}
use Prim.Native.Nat.{ℕ, suc, ◌+◌, ◌-◌, ◌≤◌}
use native.Mathlib.Nat.{le_antisymm}
use native.Mathlib.Omega.{arith}
use lib.ListN.{length, get_or}
use Rattle.calculus.specs.Numbers.Limit.{Limit, at_most}
use Rattle.calculus.specs.Envelopes.Closure.{Table}
use Rattle.calculus.specs.Envelopes.Envelope.{windows}
use Rattle.calculus.specs.Regulators.Clipper.{arrived, admitted}
use Rattle.calculus.specs.Regulators.Regulator.{departed, lost, held}
use Rattle.calculus.specs.Numbers.Lists.{list_of}
use Rattle.calculus.specs.Regulators.Trace.{arrivals}
use Rattle.calculus.specs.Regulators.Rows.{envelope_of, admitted_by, departed_by, lost_by, held_by}
use Rattle.bucket_calculus.specs.Buckets.{bucket_envelope}
use Rattle.calculus.proofs.Envelopes.Closure.{closure_under, closure_largest, closure_cong}
use Rattle.calculus.proofs.Numbers.Lists.{length-list_of, list_of_at}
use Rattle.calculus.proofs.Regulators.Reach.{admitted_reach, departed_reach}
use Rattle.bucket_calculus.proofs.Buckets.{bucket-zero, bucket_rises, bucket_adds}

-- a table's totals by slot t are theorem 5.1's for the envelope f
abbrev pub SameTotals : List ℕ → (ℕ → ℕ) → Limit → Limit → List ℕ → ℕ → Type 0
SameTotals table f d q trace t =
    (admitted_by table d q trace t ≡ admitted (windows f) d q (arrivals trace) t)
    × (departed_by table d q trace t ≡ departed (windows f) d q (arrivals trace) t)
    × (lost_by table d q trace t ≡ lost (windows f) d q (arrivals trace) t)
    × (held_by table d q trace t ≡ held (windows f) d q (arrivals trace) t)

module _ (f : ℕ → ℕ) (starts : f 0 ≡ 0) (rises : (i j : ℕ) → i ≤ j → f i ≤ f j) (adds : (i j : ℕ) → f (i + j) ≤ f i + f j)
    (L : ℕ) (some : 1 ≤ L) where
  listed-table : Table L f
  listed-table = record { nonempty = some; starts = starts; rises = λ i j p q. rises i j p }

  -- The table f(0) to f(L) closes to f at the windows that it reaches.
  pub listed_envelope : (k : ℕ) → k ≤ L → envelope_of (list_of f (suc L)) k ≡ f k
  unfolding envelope_of
  listed_envelope k p =
      let last : suc L - 1 ≡ L = omega arith in
      rw (length-list_of f (suc L), last)
      (closure_cong L (λ k. get_or (list_of f (suc L)) k 0) f some (λ i i1 i_l. list_of_at f (suc L) i (omega arith)) k
      ∙ le_antisymm (closure_under L f listed-table k p)
      (closure_largest L f listed-table f (record { zero_at_zero = starts; under_table = λ i r. omega arith; subadditive = adds }) k))

  -- It gives f's totals on every trace of at most L slots, less d where there is a delay limit.
  pub listed_rows : (d q : Limit) (trace : List ℕ) → length trace ≤ L → ((n : ℕ) → d ≡ at_most n → length trace + n ≤ L)
      → (t : ℕ) → t ≤ length trace → SameTotals (list_of f (suc L)) f d q trace t
  unfolding admitted_by departed_by lost_by held_by lost held
  listed_rows d q trace fits reaches t p =
      let near : (k : ℕ) → k ≤ length trace → envelope_of (list_of f (suc L)) k ≡ f k = λ k r. listed_envelope k (omega arith) in
      let far : (n k : ℕ) → d ≡ at_most n → k ≤ length trace + n → envelope_of (list_of f (suc L)) k ≡ f k =
      λ n k e r. listed_envelope k (omega (arith, reaches n e)) in
      let x = admitted_reach _ f d q (arrivals trace) (length trace) near far t p in
      let y = departed_reach _ f d q (arrivals trace) (length trace) near far t p in
      (x, y, ap (λ (n : ℕ). arrived (arrivals trace) t - n) x, ap₂ ◌-◌ x y)

-- So the table of a leaky-bucket profile's first entries gives the profile's totals as far as it reaches.
pub bucket-listed_rows : (last : ℕ) (rate burst : ℕ → ℕ) (L : ℕ) → 1 ≤ L → (d q : Limit) (trace : List ℕ)
    → length trace ≤ L → ((n : ℕ) → d ≡ at_most n → length trace + n ≤ L)
    → (t : ℕ) → t ≤ length trace → SameTotals (list_of (bucket_envelope last rate burst) (suc L)) (bucket_envelope last rate burst) d q trace t
bucket-listed_rows last rate burst =
    listed_rows (bucket_envelope last rate burst) (bucket-zero last rate burst) (bucket_rises last rate burst) (bucket_adds last rate burst)
