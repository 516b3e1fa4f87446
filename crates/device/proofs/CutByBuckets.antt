-- Cutting a total by one bucket after another gives the least of what each bucket allows; where no sum meets the 64 bits, the step's
-- totals are those of the device of levels.
use mathlib.Core.Path.{◌≡◌, refl, sym, ap, ap₂, ◌∙◌}
use mathlib.Core.List.{List}
use Prim.Native.Nat.{ℕ, zero, suc, ◌+◌, ◌*◌, ◌≤◌, ◌<◌, min}
use native.Mathlib.Nat.{mul-le-mul}
use native.Mathlib.Omega.{arith}
use lib.ListN.{get_or}
use Rattle.calculus.specs.Numbers.Least.{least, least_of}
use Rattle.calculus.specs.Numbers.Limit.{Limit, none, at_most, map_limit, cut}
use Rattle.calculus.specs.Regulators.Ahead.{ahead_admitted, ahead_departed}
use Rattle.bucket_calculus.specs.Buckets.{enlargement, Device, device_ahead}
use Rattle.calculus.proofs.Numbers.Least.{least_below, least_cong, least-suc}
use Rattle.calculus.proofs.Numbers.Lists.{list_of_at}
use Rattle.calculus.proofs.Numbers.Limit.{cut_under, map_limit-from, map_limit_cong}
use Rattle.bucket_calculus.proofs.Enlargement.{device_enlarged}
use Rattle.numbers.specs.LeastSum.{top}
use Rattle.device.specs.Levels.{gained, bucket_admits, buckets_admit, buckets_let, levels_after, step_admits, step_departs}

-- What is at most a total is cut down as the total is.
cut_less : (x y : ℕ) (l : Limit) → y ≤ x → cut y l ≡ min y (cut x l)
unfolding cut
cut_less x y none p = omega arith
cut_less x y (at_most n) p = omega arith

-- A bucket admits no more of a total than there is.
admits_under : (d : Limit) (level rate x : ℕ) → bucket_admits d level rate x ≤ x
admits_under d level rate x = cut_under x _

-- Cut by one bucket after another, a total is the least of what each bucket admits of it ..
admit-least : (d : Limit) (levels rates : List ℕ) (x last : ℕ)
    → buckets_admit d levels rates x (suc last) ≡ least 0 last (λ i. bucket_admits d (get_or levels i 0) (get_or rates i 0) x)
unfolding buckets_admit
admit-least d levels rates x zero = unfold least least_of in refl
admit-least d levels rates x (suc last) =
    let h : ℕ → ℕ = λ i. bucket_admits d (get_or levels i 0) (get_or rates i 0) x in
    ap (bucket_admits d (get_or levels (suc last) 0) (get_or rates (suc last) 0)) (admit-least d levels rates x last)
    ∙ cut_less x (least 0 last h) _ (omega (arith, least_below 0 last h 0 (omega arith) (omega arith), admits_under d (get_or levels 0 0) (get_or rates 0 0) x))
    ∙ sym (least-suc 0 last h (omega arith))

min_again : (x y z : ℕ) → min (min x y) z ≡ min x (min y z)
min_again x y z = omega arith

-- .. and of what each lets depart.
depart-least : (levels rates : List ℕ) (x last : ℕ)
    → buckets_let levels rates x (suc last) ≡ min x (least 0 last (λ i. gained (get_or levels i 0) (get_or rates i 0)))
unfolding buckets_let
depart-least levels rates x zero = unfold least least_of in refl
depart-least levels rates x (suc last) =
    let h : ℕ → ℕ = λ i. gained (get_or levels i 0) (get_or rates i 0) in
    ap (λ (y : ℕ). min y (h (suc last))) (depart-least levels rates x last) ∙ min_again x (least 0 last h) (h (suc last)) ∙ ap (min x) (sym (least-suc 0 last h (omega arith)))

-- An accepted delay limit enlarges a burst by at most 64,000,000.
enlarged_small : (rate : ℕ) (d : Limit) (n : ℕ) → rate ≤ 1000000 → ((k : ℕ) → d ≡ at_most k → k ≤ 64) → enlargement rate d ≡ at_most n → n ≤ 64000000
unfolding enlargement
enlarged_small rate d n small delayed e =
    let (k, from, size) = map_limit-from (λ n. rate * n) d n e in
    let product : rate * k ≤ 1000000 * 64 = mul-le-mul {n₂ = 1000000} {m₂ = 64} small (delayed k from) in
    omega arith

-- levels and rates as lists, far from the end of the 64 bits
pub record Stored (last : ℕ) (rate : ℕ → ℕ) (s : Device) (levels rates : List ℕ) : Type 0 where
  pub level_at : (i : ℕ) → i ≤ last → get_or levels i 0 ≡ s.level i
  pub rate_at : (i : ℕ) → i ≤ last → get_or rates i 0 ≡ rate i
  pub level_small : (i : ℕ) → i ≤ last → s.level i ≤ 1000001000000
  pub rate_small : (i : ℕ) → i ≤ last → rate i ≤ 1000000

module _ (last : ℕ) (rate : ℕ → ℕ) (s : Device) (levels rates : List ℕ) (stored : Stored last rate s levels rates) where
  pub gained_at : (i : ℕ) → i ≤ last → gained (get_or levels i 0) (get_or rates i 0) ≡ s.level i + rate i
  gained_at i p = omega (arith, stored.level_at i p, stored.rate_at i p, stored.level_small i p, stored.rate_small i p)

  -- A level after the slot, x being admitted by then, is the device's of levels.
  pub levels_follow : (burst : ℕ → ℕ) (bursts : List ℕ) (x i : ℕ) → i ≤ last → i < 4 → get_or bursts i 0 ≡ burst i → burst i ≤ 1000000 → x ≤ 1000000000000
      → get_or (levels_after levels rates bursts x) i 0 ≡ min (s.level i + rate i) (x + burst i)
  unfolding levels_after
  levels_follow burst bursts x i p place stands small few = list_of_at _ 4 i place ∙ ap₂ min (gained_at i p) (omega (arith, stands, small, few))

  module _ (d q : Limit) (delayed : (k : ℕ) → d ≡ at_most k → k ≤ 64) (buffered : (k : ℕ) → q ≡ at_most k → k ≤ 1000000) (x y n : ℕ) (few : x + n ≤ 1000000000000)
      (gone : y ≤ 1000000000000) where
    -- What bucket i admits, no sum being cut by the 64 bits.
    admits_at : (i : ℕ) → i ≤ last → bucket_admits d (get_or levels i 0) (get_or rates i 0) (min (x + n) top)
        ≡ cut (x + n) (map_limit (λ e. s.level i + rate i + e) (enlargement (rate i) d))
    admits_at i p =
        let whole : min (x + n) top ≡ x + n = omega arith in
        rw (whole, stored.rate_at i p)
        (ap (cut (x + n)) (map_limit_cong _ _ (enlargement (rate i) d)
        (λ e m. omega (arith, gained_at i p, stored.rate_at i p, stored.level_small i p, stored.rate_small i p, enlarged_small (rate i) d e (stored.rate_small i p) delayed m))))

    -- The admitted total is the device's of levels ..
    pub step-admits : step_admits d q levels rates (suc last) x y n ≡ ahead_admitted (device_ahead last rate s) y d q x n
    unfolding step_admits
    step-admits =
        ap₂ cut
        (admit-least d levels rates (min (x + n) top) last ∙ least_cong 0 last _ _ (omega arith) (λ i i0 il. admits_at i il))
        (map_limit_cong _ _ q (λ b e. omega (arith, gone, buffered b e)))
        ∙ sym (device_enlarged last rate d q s y x n)

    -- .. and so is the departed one.
    pub step-departs : step_departs d q levels rates (suc last) x y n ≡ ahead_departed (device_ahead last rate s) (ahead_admitted (device_ahead last rate s) y d q x n)
    unfolding step_departs device_ahead
    step-departs =
        depart-least levels rates (step_admits d q levels rates (suc last) x y n) last
        ∙ ap₂ min step-admits (least_cong 0 last _ _ (omega arith) (λ i i0 il. omega (arith, gained_at i il)))
