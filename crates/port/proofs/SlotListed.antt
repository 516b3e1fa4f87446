-- Laws of listing what a slot sent and of counting what is late: stream i's slot t+1 stands at place i·T + t.
use mathlib.Core.Path.{◌≡◌, refl, ap, ◌∙◌}
use mathlib.Core.List.{List}
use Prim.Native.Nat.{ℕ, suc, ◌+◌, ◌*◌, ◌<◌}
use native.Mathlib.Decide.{ℕ_discrete, dec_le}
use native.Mathlib.Nat.{mul-le-mul_right, suc-mul}
use native.Mathlib.Numerals.{add-one}
use native.Mathlib.Omega.{arith}
use lib.ListN.{length, get_or, set, length-set}
use lib.Seq.{get_or-set_same, get_or-set_other}
use Rattle.port.specs.PortWork.{queue_of, Written, Overdue}

-- A stream's places end before those of a later stream.
place-before : (T i j s t : ℕ) → s < T → i < j → i * T + s < j * T + t
place-before T i j s t p q = omega (arith, mul-le-mul_right T q, suc-mul i T)

pub place_inside : (T n i s : ℕ) → s < T → i < n → i * T + s < n * T
place_inside T n i s p q = omega (arith, place-before T i n s 0 p q)

pub place_next : (T i t : ℕ) → i * T + t + T ≡ (i + 1) * T + t
place_next T i t = rw add-one (omega (arith, suc-mul i T))

-- Two places are one only for the same stream and slot.
place_stream : (T i j s t : ℕ) → s < T → t < T → i * T + s ≡ j * T + t → i ≡ j
place_stream T i j s t p q e =
    elim (dec_le (suc i) j) [
      | yes r ↦ absurd (omega (arith, place-before T i j s t p r))
      | no r ↦ elim (dec_le (suc j) i) [ yes r' ↦ absurd (omega (arith, place-before T j i t s q r')) | no r' ↦ omega arith ]
    ]

place-slot : (T i j s t : ℕ) → s < T → t < T → i * T + s ≡ j * T + t → s ≡ t
place-slot T i j s t p q e = let f : i ≡ j = place_stream T i j s t p q e in omega (arith, ap (λ (k : ℕ). k * T) f)

module _ (slots t : ℕ) (count : ℕ → ℕ) (sent : List ℕ) where
  pub written_none : Written slots t 0 count sent sent
  written_none = record { long = refl; there = λ i p. absurd (omega arith); elsewhere = λ i s p q. refl }

  -- One stream more is listed.
  pub written_next : (i to x : ℕ) (sent' : List ℕ) → Written slots t i count sent sent' → t < slots → to ≡ i * slots + t → to < length sent → x ≡ count i
      → Written slots t (i + 1) count sent (set sent' to x)
  written_next i to x sent' done inside at fits is =
      record {
        long = length-set sent' to x ∙ done.long;
        there = λ j p. elim (ℕ_discrete j i) [
          | yes e ↦ rw (e, ← at) (get_or-set_same sent' to x 0 (omega (arith, done.long)) ∙ is)
          | no q ↦ get_or-set_other sent' to (j * slots + t) x 0 (λ e. q (place_stream slots j i t t inside inside (e ∙ at))) ∙ done.there j (omega arith)
        ];
        elsewhere = λ j s p q.
            get_or-set_other sent' to (j * slots + s) x 0
            (λ e. q (let f : j ≡ i = place_stream slots j i s t p inside (e ∙ at) in omega arith) (place-slot slots j i s t p inside (e ∙ at)))
            ∙ done.elsewhere j s p (λ r. q (omega arith));
      }

module _ (t : ℕ) (row late : List ℕ) where
  pub overdue_none : Overdue t 0 row late late
  overdue_none = record { long = refl; counted = λ i p. absurd (omega arith); others = λ i p. refl }

  -- One stream's late packets more.
  pub overdue_next : (i : ℕ) (late' : List ℕ) → Overdue t i row late late' → i < length late
      → Overdue t (i + 1) row late (set late' i (get_or late' i 0 + queue_of row (t + 1) i))
  overdue_next i late' done inside =
      let more : ℕ = get_or late' i 0 + queue_of row (t + 1) i in
      record {
        long = length-set late' i more ∙ done.long;
        counted = λ j p. elim (ℕ_discrete j i) [
          | yes e ↦ rw e (get_or-set_same late' i more 0 (omega (arith, done.long)) ∙ omega (arith, done.others i (omega arith)))
          | no q ↦ get_or-set_other late' i j more 0 q ∙ done.counted j (omega arith)
        ];
        others = λ j p. get_or-set_other late' i j more 0 (λ e. absurd (omega arith)) ∙ done.others j (omega arith);
      }
