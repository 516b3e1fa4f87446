-- A step on bucket levels, call by call, is what its definition says.
use mathlib.Core.Path.{◌≡◌, ap, ◌∙◌}
use mathlib.Core.List.{List}
use Prim.Native.Nat.{ℕ, ◌+◌, min}
use Rattle.calculus.specs.Numbers.Limit.{Limit, map_limit, cut}
use Rattle.numbers.specs.LeastSum.{top}
use Rattle.device.specs.Levels.{buckets_admit, buckets_let, levels_after, step_admits, step_departs, BucketStep}

-- A step cuts the arrived total by each bucket and the buffer, for the admitted and then for the departed total, and raises the levels.
pub step-made : (d q : Limit) (levels rates bursts : List ℕ) (count x y n arrived least total gone : ℕ) (after : List ℕ) → arrived ≡ min (x + n) top
    → least ≡ buckets_admit d levels rates arrived count → total ≡ cut least (map_limit (λ b. min (y + b) top) q) → gone ≡ buckets_let levels rates total count
    → after ≡ levels_after levels rates bursts total → BucketStep d q levels rates bursts count x y n (record { admitted = total; departed = gone }) after
unfolding step_admits step_departs
step-made d q levels rates bursts count x y n arrived least total gone after e1 e2 e3 e4 e5 =
    let whole : total ≡ step_admits d q levels rates count x y n =
    e3 ∙ ap (λ (z : ℕ). cut z (map_limit (λ b. min (y + b) top) q)) (e2 ∙ ap (λ (a : ℕ). buckets_admit d levels rates a count) e1) in
    record {
      admits = whole;
      departs = e4 ∙ ap (λ (t : ℕ). buckets_let levels rates t count) whole;
      raises = e5 ∙ ap (levels_after levels rates bursts) whole;
    }
