-- Laws of a slot that sends what comes, past the queue.
use mathlib.Core.Path.{◌≡◌, refl, sym, ap, ◌∙◌}
use mathlib.Core.List.{List}
use Prim.Native.Nat.{ℕ, suc, ◌+◌, ◌*◌, ◌≤◌, ◌<◌}
use native.Mathlib.Decide.{ℕ_discrete, dec_le}
use native.Mathlib.Numerals.{add-one}
use native.Mathlib.Omega.{arith}
use lib.ListN.{length, get_or, set}
use Rattle.port_calculus.specs.Port.{sum_below, stream_arrivals, waiting}
use Rattle.port_calculus.proofs.Sums.{sum_below-zero, sum_below_next, sum_below_cong}
use Rattle.port_calculus.proofs.Waiting.{waiting_later}
use Rattle.port_calculus.proofs.PortIdle.{idle-waiting, idle-sends}
use Rattle.port.specs.Accepted.{Accepted}
use Rattle.port.specs.PortWork.{Deadlines, Passed, Standing}
use Rattle.port.proofs.SlotListed.{written_none, written_next}

module _ (slots t : ℕ) (input sent : List ℕ) where
  pub passed_none : Passed slots t 0 input sent 0 sent
  passed_none = record { written = written_none slots t _ sent; total = sym (sum_below-zero _) }

  -- One stream's packets more.
  pub passed_next : (i place comes : ℕ) (sent' : List ℕ) → Passed slots t i input sent comes sent' → t < slots → place ≡ i * slots + t → place < length sent
      → Passed slots t (i + 1) input sent (comes + get_or input place 0) (set sent' place (get_or input place 0))
  passed_next i place comes sent' done inside at fits =
      let same : get_or input place 0 ≡ get_or input (i * slots + t) 0 = ap (λ (k : ℕ). get_or input k 0) at in
      record {
        written = written_next slots t _ sent i place (get_or input place 0) sent' done.written inside at fits same;
        total = omega (arith, done.total, same, sum_below_next (λ j. get_or input (j * slots + t) 0) i);
      }

module _ (deadlines : List ℕ) (slots capacity : ℕ) (input : List ℕ) (t first : ℕ) (row totals sent₀ late₀ : List ℕ) (inside : t < slots)
    (standing : Standing deadlines slots capacity input t first row totals sent₀ late₀)
    (comes : ℕ) (sent' : List ℕ) (passed : Passed slots t (length deadlines) input sent₀ comes sent') where
  abbrev n : ℕ
  n = length deadlines

  abbrev D : ℕ → ℕ
  D i = get_or deadlines i 0

  abbrev a : ℕ → ℕ → ℕ
  a = stream_arrivals slots input

  -- What the slots before it sent is listed as it was.
  pub passed_over : Standing deadlines slots capacity input t first row totals sent' late₀
  passed_over =
      record {
        queue = standing.queue;
        long_sent = passed.written.long ∙ standing.long_sent;
        long_late = standing.long_late;
        waits = standing.waits;
        gone = standing.gone;
        absent = standing.absent;
        listed = λ i s p q. passed.written.elsewhere i s (omega arith) (λ r e. omega arith) ∙ standing.listed i s p q;
        overdue = standing.overdue;
      }

  -- Where nothing waits and no more comes than the port can send, what holds before a slot holds after it.
  module _ (ok : Accepted deadlines slots input (length sent₀) (length late₀)) (nearest furthest : ℕ) (window : Deadlines deadlines n nearest furthest)
      (idle : t + furthest < first) (room : comes ≤ capacity) where
    none : (u i : ℕ) → i < n → waiting n D a capacity t u i ≡ 0
    none u i p =
        elim (dec_le first u) [
          | yes q ↦ waiting_later n D a capacity t u i (omega (arith, window.most i p))
          | no q ↦ sym (standing.waits u i p) ∙ standing.gone u i (omega arith) p
        ]

    came : (i : ℕ) → a i (suc t) ≡ get_or input (i * slots + t) 0
    unfolding stream_arrivals
    came i = refl

    few : sum_below (λ i. a i (suc t)) n ≤ capacity
    few = omega (arith, room, passed.total, sum_below_cong (λ i. a i (suc t)) (λ i. get_or input (i * slots + t) 0) n (λ i p. came i))

    none_after : (u i : ℕ) → i < n → waiting n D a capacity (suc t) u i ≡ 0
    none_after = idle-waiting n D a capacity t none few

    pub slot_passed : Standing deadlines slots capacity input (t + 1) (t + 2 + furthest) row totals sent' late₀
    slot_passed =
        record {
          queue = standing.queue;
          long_sent = passed.written.long ∙ standing.long_sent;
          long_late = standing.long_late;
          waits = λ u i p. rw add-one (standing.waits u i p ∙ none u i p ∙ sym (none_after u i p));
          gone = λ u i q p. standing.waits u i p ∙ none u i p;
          absent = standing.absent;
          listed = λ i s p q. elim (ℕ_discrete s t) [
            | yes e ↦ rw e (passed.written.there i p ∙ sym (came i) ∙ sym (idle-sends n D a capacity t none few i p (ok.timely i)))
            | no r ↦ passed.written.elsewhere i s (omega arith) (λ v. r) ∙ standing.listed i s p (omega arith)
          ];
          overdue = λ i p.
              omega (
                arith,
                standing.overdue i p,
                sum_below_next (λ s. waiting n D a capacity (suc s) (suc s) i) t,
                none_after (suc t) i p,
              );
        }
