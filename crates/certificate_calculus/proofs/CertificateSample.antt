-- The certificates by hand hold: the definitions compute to them.
use mathlib.Core.Path.{◌≡◌, refl}
use mathlib.Core.List.{[], ◌∷◌}
use Prim.Native.Nat.{ℕ, zero, suc, ◌+◌, ◌-◌, ◌≤◌, ◌<◌}
use native.Mathlib.Omega.{arith}
use Rattle.calculus.proofs.Numbers.Distinct.{zero_one}
use Rattle.calculus.specs.Numbers.Least.{least_of, least}
use Rattle.calculus.specs.Numbers.Course.{course_below, course}
use Rattle.calculus.specs.Numbers.Limit.{none, at_most, map_limit, limit_unless, smaller, cut}
use Rattle.calculus.specs.Numbers.Lists.{list_of}
use Rattle.calculus.specs.Numbers.FirstWhere.{first_where}
use Rattle.calculus.specs.Envelopes.Closure.{closing, closure}
use Rattle.calculus.specs.Envelopes.Envelope.{windows}
use Rattle.calculus.specs.Regulators.Clipper.{arrived, clipping, clipped, delay_bound, buffer_bound, clipper_window, clipper_envelope, admitted}
use Rattle.calculus.specs.Regulators.Trace.{arrivals, sum_to, slot_totals}
use Rattle.calculus.specs.Regulators.Rows.{envelope_of}
use Rattle.calculus.specs.Losses.Permitted.{Permitted}
use Rattle.calculus.proofs.Losses.AlsoPermitted.{rules_permitted}
use Rattle.chain_calculus.specs.Chain.{is_number, amount}
use Rattle.certificate_calculus.specs.Certificate.{links_of, by_arrivals, AdmittedLink, DepartedLink, Certified}
use Rattle.certificate_calculus.specs.LinkTests.{due_delay, admitted_holds, departed_holds}
use Rattle.certificate_calculus.specs.FoundLinks.{lowest_by, earliest_from, found_from, found_mark, earliest_departed, found_departed}
use Rattle.certificate_calculus.specs.LackingLinks.{lack_at, lacking_slot}
use Rattle.certificate_calculus.specs.CertificateSample.{burst_slot, burst_lack, CertificateSample}
use Rattle.certificate_calculus.proofs.CountedLowest.{counted-lowest}

-- P at the slots below 1 and below 2, and at the pairs of slots up to 2
one-slot : (P : ℕ → Type 0) → P 0 → (t : ℕ) → t < 1 → P t
one-slot P a zero p = a
one-slot P a (suc t) p = absurd (omega arith)

two-slots : (P : ℕ → Type 0) → P 0 → P 1 → (t : ℕ) → t < 2 → P t
two-slots P a b zero p = a
two-slots P a b (suc t) p = one-slot (λ t. P (suc t)) b t (omega arith)

pairs : (P : ℕ → ℕ → Type 0) → P 0 1 → P 0 2 → P 1 2 → (s t : ℕ) → s < t → t < 3 → P s t
pairs P a b c s zero st p = absurd (omega arith)
pairs P a b c s (suc zero) st p = one-slot (λ s. P s 1) a s st
pairs P a b c s (suc (suc t)) st p = one-slot (λ t. (s : ℕ) → s < suc (suc t) → P s (suc (suc t))) (two-slots (λ s. P s 2) b c) t (omega arith) s st

abbrev f : ℕ → ℕ
f = envelope_of (0 ∷ 2 ∷ 3 ∷ [])

abbrev u : ℕ → ℕ
u = sum_to (5 ∷ [])

abbrev v : ℕ → ℕ
v = sum_to (2 ∷ [])

not_ours : Certified f (at_most 1) (at_most 9) (arrivals (5 ∷ [])) 1 u v (links_of (0 ∷ []) (1 ∷ []) (0 ∷ []))
unfolding least_of least course_below course closing closure windows arrived arrivals sum_to envelope_of
not_ours =
    record {
      permitted = rules_permitted (windows f) (at_most 1) (at_most 9) (arrivals (5 ∷ [])) 1 u v (refl, refl) (one-slot _ (omega arith))
          (λ t p. two-slots (λ t. v t ≤ u t) (omega arith) (omega arith) t (omega arith))
          (λ s t st p. pairs (λ s t. t < 2 → v t ≤ v s + f (t - s)) (λ p. omega arith) (λ p. absurd (omega arith)) (λ p. absurd (omega arith)) s t st (omega arith) (omega arith))
          (λ n e. let same : n ≡ 9 = cc in rw same (one-slot (λ t. u (suc t) ≤ v t + 9) (omega arith)))
          (λ n e t p. let same : n ≡ 1 = cc in rw same (one-slot (λ t. u t ≤ v (t + 1)) (omega arith) t (omega arith)));
      admitted_link = λ t p q. last (λ t. AdmittedLink f (at_most 1) (at_most 9) (arrivals (5 ∷ [])) 1 u t (arrivals (0 ∷ []) t) (arrivals (1 ∷ []) t))
          (record { earlier = omega arith; packets = 5; amounts = by_arrivals refl; makes = refl }) t p q;
      departed_link = λ t p q. last (λ t. DepartedLink f u v t (arrivals (0 ∷ []) t)) (record { by = omega arith; makes = refl }) t p q;
    }
  where
    last : (P : ℕ → Type 0) → P 1 → (t : ℕ) → 1 ≤ t → t ≤ 1 → P t
    last P a zero p q = absurd (omega arith)
    last P a (suc t) p q = one-slot (λ t. P (suc t)) a t (omega arith)

abbrev g : ℕ → ℕ
g = envelope_of (0 ∷ 1 ∷ [])

abbrev x : ℕ → ℕ
x = sum_to (4 ∷ 0 ∷ [])

abbrev y : ℕ → ℕ
y = sum_to (1 ∷ 1 ∷ [])

loose_better : Permitted (windows g) (at_most 2) none (arrivals (4 ∷ 0 ∷ [])) 2 x y
unfolding least_of least course_below course closing closure windows arrivals sum_to envelope_of
loose_better =
    rules_permitted (windows g) (at_most 2) none (arrivals (4 ∷ 0 ∷ [])) 2 x y (refl, refl) (two-slots _ (omega arith) (omega arith))
    (λ t p. upto (λ t. y t ≤ x t) (omega arith) (omega arith) (omega arith) t p)
    (λ s t st p. pairs (λ s t. y t ≤ y s + g (t - s)) (omega arith) (omega arith) (omega arith) s t st (omega arith))
    (λ n e. absurd (zero_one cc))
    (λ n e t p. let same : n ≡ 2 = cc in rw same (one-slot (λ t. x t ≤ y (t + 2)) (omega arith) t (omega arith)))
  where
    upto : (P : ℕ → Type 0) → P 0 → P 1 → P 2 → (t : ℕ) → t ≤ 2 → P t
    upto P a b c zero p = a
    upto P a b c (suc t) p = two-slots (λ t. P (suc t)) b c t (omega arith)

pub certificate_sample : CertificateSample
unfolding least_of least course_below course map_limit limit_unless smaller cut list_of first_where closing closure windows arrived clipping clipped delay_bound buffer_bound clipper_window clipper_envelope admitted arrivals sum_to slot_totals envelope_of is_number amount due_delay admitted_holds departed_holds lowest_by earliest_from found_from found_mark earliest_departed found_departed lack_at lacking_slot burst_slot burst_lack
certificate_sample =
    record {
      burst = record { starts = refl; marked = refl; left = refl };
      burst_holds = refl;
      burst_others = refl;
      burst_itself = refl;
      burst_marked = refl;
      burst_later = refl;
      burst_six = refl;
      burst_seven = refl;
      later_start = refl;
      delayed = record { starts = refl; marked = refl; left = refl };
      tie = record { starts = refl; marked = refl; left = refl };
      limits_tie = record { starts = refl; marked = refl; left = refl };
      undue = record { starts = refl; marked = refl; left = refl };
      not_ours = not_ours;
      ours = refl;
      loose = record { starts = refl; marked = refl; left = refl };
      loose_link = record { earlier = omega arith; packets = 0; amounts = by_arrivals refl; makes = refl };
      loose_better = loose_better;
      loose_uncounted = λ counts. omega (arith, (counted-lowest g (at_most 2) none (arrivals (4 ∷ 0 ∷ [])) 2 _ y _ x y loose_better 2 (omega arith) counts).0);
    }
