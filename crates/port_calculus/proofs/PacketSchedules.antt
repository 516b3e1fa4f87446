-- If some schedule of the packets meets all deadlines that fall in the run, the port does, and it does exactly where no packet is late.
use mathlib.Core.Path.{◌≡◌, refl, ap, ◌∙◌}
use Prim.Native.Nat.{ℕ, zero, suc, ◌+◌, ◌-◌, ◌≤◌, ◌<◌}
use native.Mathlib.Decide.{dec_le}
use native.Mathlib.Omega.{arith}
use Rattle.port_calculus.specs.Port.{sum_below, due_before, sends, keeps, coming, offered, sent, waiting, late}
use Rattle.port_calculus.specs.PortWords.{offers, leaves, RunWords}
use Rattle.port_calculus.specs.PacketSchedules.{PacketSchedule, PacketsMeet}
use Rattle.port_calculus.proofs.Sums.{sum_below-suc, sum_below_cong, sum_below_add, sum_below_none, sum_below_rises}
use Rattle.port_calculus.proofs.Waiting.{ahead_before, coming_elsewhere, late_due}
use Rattle.port_calculus.proofs.Serving.{new, before-late, new_next, due_before_none, due_before_streams, waiting-first, waiting_due}
use Rattle.port_calculus.proofs.PortWords.{offered_left, port_words}

-- Two queues together.
pub due_before_add : (n c : ℕ) (q r : ℕ → ℕ → ℕ) (v : ℕ) → due_before n (λ u i. q u i + r u i) v ≡ due_before n q v + due_before n r v
unfolding due_before
due_before_add n c q r v =
    sum_below_cong _ _ v (λ u p. sum_below_add (q u) (r u) n) ∙ sum_below_add (λ u. sum_below (q u) n) (λ u. sum_below (r u) n) v

pub due_before_cong : (n c : ℕ) (q r : ℕ → ℕ → ℕ) → ((u i : ℕ) → i < n → q u i ≡ r u i) → (v : ℕ) → due_before n q v ≡ due_before n r v
unfolding due_before
due_before_cong n c q r same v = sum_below_cong _ _ v (λ u p. sum_below_cong (q u) (r u) n (same u))

module _ (n : ℕ) (D : ℕ → ℕ) (a : ℕ → ℕ → ℕ) (c : ℕ) where
  coming_stream : (t i v : ℕ) → sum_below (λ u. coming D a (suc t) u i) v ≡ new D a t v i
  unfolding sum_below
  coming_stream t i zero = omega (arith, before-late n D a c t 0 i (omega arith))
  coming_stream t i (suc v) = omega (arith, coming_stream t i v, new_next n D a c t v i)

  -- All that comes in slot t+1 and is due before slot v.
  coming_due : (t v : ℕ) → due_before n (coming D a (suc t)) v ≡ sum_below (new D a t v) n
  coming_due t v = due_before_streams n c (coming D a (suc t)) v ∙ sum_below_cong _ _ n (λ i p. coming_stream t i v)

  module _ (T : ℕ) (x : ℕ → ℕ → ℕ → ℕ) (schedule : PacketSchedule n D a c T x) where
    -- What is left and what comes is sent or left.
    leaves_place : (t u i : ℕ) → t < T → i < n → leaves D a x (suc t) u i + x (suc t) u i ≡ leaves D a x t u i + coming D a (suc t) u i
    leaves_place t u i p r = omega (arith, schedule.there t u i p r, parts t u i, rest (suc t) u i)
      where
        parts : (t u i : ℕ) → offers D a x (suc t) u i ≡ leaves D a x t u i + coming D a (suc t) u i
        parts t u i = unfold offers leaves in refl

        rest : (t u i : ℕ) → leaves D a x t u i ≡ offers D a x t u i - x t u i
        rest t u i = unfold leaves in refl

    leaves_due : (t v : ℕ) → t < T → due_before n (leaves D a x t) v + sum_below (new D a t v) n ≤ due_before n (leaves D a x (suc t)) v + c
    leaves_due t v p =
        omega (
          arith,
          due_before_add n c (leaves D a x (suc t)) (x (suc t)) v,
          due_before_add n c (leaves D a x t) (coming D a (suc t)) v,
          due_before_cong n c (λ u i. leaves D a x (suc t) u i + x (suc t) u i) (λ u i. leaves D a x t u i + coming D a (suc t) u i) (λ u i r. leaves_place t u i p r) v,
          coming_due t v,
          schedule.capacity t v p,
        )

    -- After every slot the port has no more left that is due before slot v than the schedule.
    pub port_leads : (v t : ℕ) → t ≤ T → due_before n (waiting n D a c t) v ≤ due_before n (leaves D a x t) v
    port_leads v zero p =
        omega (arith, due_before_none n c (waiting n D a c 0) v (λ u i p q. waiting-first n D a c u i))
    port_leads v (suc t) p = omega (arith, waiting_due n D a c t v, port_leads v t (omega arith), leaves_due t v p)

    module _ (meets : PacketsMeet n D a c T x) where
      -- What is due by a slot is gone after it.
      leaves-gone : (t : ℕ) → t ≤ T → (v i : ℕ) → v ≤ t → i < n → leaves D a x t v i ≡ 0
      unfolding PacketsMeet
      leaves-gone zero p v i q r = omega (arith, first v i)
        where
          first : (v i : ℕ) → leaves D a x 0 v i ≤ 0
          first v i = unfold leaves offers in omega arith
      leaves-gone (suc t) p v i q r =
          elim (dec_le v t) [
            | yes w ↦ omega (arith, leaves-gone t (omega arith) v i w r, leaves_place t v i p r, coming_elsewhere n D a c (suc t) v i (λ e. omega arith))
            | no w ↦ let e : v ≡ suc t = omega arith in ap (λ (k : ℕ). leaves D a x (suc t) k i) e ∙ meets t i p r
          ]

      leaves_none : (t : ℕ) → t ≤ T → due_before n (leaves D a x t) (suc t) ≡ 0
      leaves_none t p = due_before_none n c (leaves D a x t) (suc t) (λ v i q r. leaves-gone t p v i (omega arith) r)

      -- If some schedule meets all deadlines that fall in the run, no packet of the port is late.
      pub packets_meet : (i : ℕ) → i < n → late n D a c T i ≡ 0
      packets_meet i p =
          late_due n D a c T i
          ∙ sum_below_none (λ t. waiting n D a c (suc t) (suc t) i) T
          (λ t q. omega (
            arith,
            leaves_none (suc t) q,
            port_leads (suc (suc t)) (suc t) q,
            ahead_before n c (waiting n D a c (suc t)) (suc t) (suc (suc t)) i (omega arith) p,
          ))

  -- The port is a schedule of the packets,
  pub port_packets : (T : ℕ) → PacketSchedule n D a c T (sent n D a c)
  unfolding RunWords
  port_packets T = record { there = λ t u i p r. (port_words n D a c T t p).there u i r; capacity = λ t v p. (port_words n D a c T t p).capacity v }

  -- what it leaves waits,
  port-leaves : (t u i : ℕ) → leaves D a (sent n D a c) t u i ≡ waiting n D a c t u i
  unfolding leaves sent waiting keeps
  port-leaves t u i = ap (λ (left : ℕ). left - sends n c (offered n D a c t) u i) (offered_left n D a c t u i)

  -- and where no packet is late, it meets all deadlines that fall in the run.
  pub port_packets_meet : (T : ℕ) → ((i : ℕ) → i < n → late n D a c T i ≡ 0) → PacketsMeet n D a c T (sent n D a c)
  unfolding PacketsMeet
  port_packets_meet T none t i p r =
      omega (
        arith,
        port-leaves (suc t) (suc t) i,
        none i r,
        late_due n D a c T i,
        sum_below_rises (λ t. waiting n D a c (suc t) (suc t) i) (suc t) T p,
        sum_below-suc (λ t. waiting n D a c (suc t) (suc t) i) t,
      )

  -- If some schedule of the packets meets all deadlines that fall in the run, this one does.
  pub port_packets_keep : (T : ℕ) (x : ℕ → ℕ → ℕ → ℕ) → PacketSchedule n D a c T x → PacketsMeet n D a c T x → PacketsMeet n D a c T (sent n D a c)
  port_packets_keep T x schedule meets = port_packets_meet T (packets_meet T x schedule meets)
