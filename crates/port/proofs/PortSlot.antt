-- Laws of a slot of the port's run: arrivals, sending, listing.
use mathlib.Core.Path.{◌≡◌, refl, sym, ap, ◌∙◌}
use mathlib.Core.List.{List}
use Prim.Native.Nat.{ℕ, zero, suc, ◌+◌, ◌*◌, ◌≤◌, ◌<◌, min}
use native.Mathlib.Decide.{ℕ_discrete}
use native.Mathlib.Numerals.{add-one}
use native.Mathlib.Omega.{arith}
use lib.ListN.{length, get_or}
use Rattle.port_calculus.specs.Port.{sends, stream_arrivals, offered, sent, waiting, sent_of}
use Rattle.port.specs.Accepted.{Accepted}
use Rattle.port.specs.PortWork.{queue_of, Queue, Deadlines, Arrived, Sendable, SentAll, Written, Overdue, Standing}
use Rattle.port_calculus.proofs.Sums.{sum_below_cong, sum_below_stops, sum_below_next, sum_below_most}
use Rattle.port_calculus.proofs.Waiting.{sends_none, sends_cong, keeps_cong, offered_there, offered_elsewhere, offered_later, waiting_later, waiting_few}

came_few : (slots : ℕ) (input : List ℕ) → ((k : ℕ) → get_or input k 0 ≤ 1000000) → (i t : ℕ) → stream_arrivals slots input i t ≤ 1000000
unfolding stream_arrivals
came_few slots input small i zero = omega arith
came_few slots input small i (suc t) = small (i * slots + t)

module _ (deadlines : List ℕ) (slots capacity : ℕ) (input : List ℕ) (t first : ℕ) (row totals sent₀ late₀ : List ℕ) (inside : t < slots)
    (ok : Accepted deadlines slots input (length sent₀) (length late₀)) (standing : Standing deadlines slots capacity input t first row totals sent₀ late₀) where
  abbrev n : ℕ
  n = length deadlines

  abbrev D : ℕ → ℕ
  D i = get_or deadlines i 0

  abbrev a : ℕ → ℕ → ℕ
  a = stream_arrivals slots input

  came : (i : ℕ) → a i (suc t) ≡ get_or input (i * slots + t) 0
  unfolding stream_arrivals
  came i = refl

  -- No packet that came before is due as late as the stream's next.
  pub arrive_asks : (n ≤ 8) × (slots ≤ 256) × (t < slots) × ((i : ℕ) → D i ≤ 64) × (length input ≡ n * slots) × ((k : ℕ) → get_or input k 0 ≤ 1000000) × Queue row totals
      × ((i : ℕ) → i < n → queue_of row (t + 1 + D i) i ≡ 0)
  arrive_asks = (
    ok.few,
    ok.short,
    inside,
    ok.timely,
    ok.long_input,
    ok.small,
    standing.queue,
    λ i p. standing.waits (t + 1 + D i) i p ∙ waiting_later n D a capacity t (t + 1 + D i) i (omega arith),
  )

  module _ (row₁ : List ℕ) (arrived : Arrived deadlines slots input t n row row₁) where
    -- With its arrivals the row is what is offered.
    offers : (u i : ℕ) → i < n → queue_of row₁ u i ≡ offered n D a capacity (suc t) u i
    offers u i p =
        elim (ℕ_discrete u (t + 1 + D i)) [
          | yes e ↦ rw e
              (arrived.there i p
              ∙ omega (arith, came i, offered_there n D a capacity t (t + 1 + D i) i (omega arith), waiting_later n D a capacity t (t + 1 + D i) i (omega arith)))
          | no q ↦ arrived.elsewhere u i (omega (arith, ok.few)) (λ r. q)
              ∙ standing.waits u i p
              ∙ sym (offered_elsewhere n D a capacity t u i (λ e. q (omega arith)))
        ]

    module _ (nearest furthest from to : ℕ) (window : Deadlines deadlines n nearest furthest) (start : from ≡ min first (t + 1 + nearest)) (end : to ≡ t + 2 + furthest) where
      pub send_asks : (totals₁ counts : List ℕ) → Queue row₁ totals₁ → (length counts ≡ 8) × ((k : ℕ) → get_or counts k 0 ≡ 0) → Sendable n from to row₁ totals₁ counts
      send_asks totals₁ counts queue (long, zeros) =
          record {
            few = ok.few;
            ordered = omega (arith, window.least 0 ok.some, window.most 0 ok.some);
            inside = omega (arith, window.far, ok.short);
            queue = queue;
            long_counts = long;
            zeros = zeros;
            absent = λ u i p r. arrived.elsewhere u i r (λ s. absurd (omega arith)) ∙ standing.absent u i p r;
            before = λ u i p r. arrived.elsewhere u i (omega (arith, ok.few)) (λ s e. omega (arith, window.least i r)) ∙ standing.gone u i (omega arith) r;
            after = λ u i p r. offers u i r ∙ offered_later n D a capacity (suc t) u i (omega (arith, window.most i r));
          }

      module _ (next : ℕ) (row₂ totals₂ counts : List ℕ) (sending : SentAll n capacity to row₁ next row₂ totals₂ counts) where
        waits : (u i : ℕ) → i < n → queue_of row₂ u i ≡ waiting n D a capacity (suc t) u i
        unfolding waiting
        waits u i p = sending.kept u i p ∙ keeps_cong n capacity (queue_of row₁) (offered n D a capacity (suc t)) offers u i p

        counted : (i : ℕ) → i < n → get_or counts i 0 ≡ sent_of n D a capacity i (suc t)
        unfolding sent_of sent
        counted i p =
            sending.counted i p
            ∙ sum_below_cong _ _ to (λ u r. sends_cong n capacity (queue_of row₁) (offered n D a capacity (suc t)) offers u i p)
            ∙ sym (sum_below_stops (λ u. sends n capacity (offered n D a capacity (suc t)) u i) to (suc t + 65) (omega (arith, window.far))
            (λ u r s. sends_none n capacity (offered n D a capacity (suc t)) u i (offered_later n D a capacity (suc t) u i (omega (arith, window.most i p)))))

        -- What waits after its due slot.
        overdue : (i : ℕ) → i < n → queue_of row₂ (t + 1) i ≡ waiting n D a capacity (suc t) (suc t) i
        overdue i p = waits (t + 1) i p ∙ ap (λ (u : ℕ). waiting n D a capacity (suc t) u i) (add-one t)

        few : (s u i : ℕ) → waiting n D a capacity s u i ≤ 1000000
        few = waiting_few n D a capacity 1000000 (came_few slots input ok.small)

        pub late_asks : (n ≤ 8) × (t < 256) × (length row₂ ≡ 2568) × (length late₀ ≡ n)
            × ((i : ℕ) → i < n → get_or late₀ i 0 + queue_of row₂ (t + 1) i < 4294967296)
        late_asks = (
          ok.few,
          omega (arith, inside, ok.short),
          sending.queue.long,
          ok.long_late,
          λ i p.
              omega (
                arith,
                standing.overdue i p,
                sum_below_most (λ s. waiting n D a capacity (suc s) (suc s) i) 1000000 t (λ s. few (suc s) (suc s) i),
                overdue i p,
                few (suc t) (suc t) i,
                ok.short,
              ),
        )

        -- What holds before a slot holds after it.
        pub slot_kept : (sent' late' : List ℕ) → Written slots t n (λ i. get_or counts i 0) sent₀ sent' → Overdue t n row₂ late₀ late'
            → Standing deadlines slots capacity input (t + 1) next row₂ totals₂ sent' late'
        slot_kept sent' late' listed late =
            record {
              queue = sending.queue;
              long_sent = listed.long ∙ standing.long_sent;
              long_late = late.long ∙ standing.long_late;
              waits = λ u i p. waits u i p ∙ ap (λ (s : ℕ). waiting n D a capacity s u i) (sym (add-one t));
              gone = sending.gone;
              absent = sending.absent;
              listed = λ i s p q. elim (ℕ_discrete s t) [
                | yes e ↦ rw e (listed.there i p ∙ counted i p)
                | no r ↦ listed.elsewhere i s (omega arith) (λ v. r) ∙ standing.listed i s p (omega arith)
              ];
              overdue = λ i p. omega (arith, late.counted i p, standing.overdue i p, overdue i p, sum_below_next (λ s. waiting n D a capacity (suc s) (suc s) i) t);
            }
