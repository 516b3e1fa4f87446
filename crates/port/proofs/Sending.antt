-- Laws of sending a slot's packets.
use mathlib.Core.Path.{◌≡◌, refl, sym, ap, ap₂, ◌∙◌}
use mathlib.Core.List.{List}
use Prim.Native.Nat.{ℕ, suc, ◌+◌, ◌-◌, ◌*◌, ◌≤◌, ◌<◌, min}
use native.Mathlib.Decide.{ℕ_discrete, dec_le}
use native.Mathlib.Numerals.{add-one}
use native.Mathlib.Omega.{arith}
use lib.ListN.{length, get_or, set, length-set}
use lib.Seq.{get_or-set_same, get_or-set_other}
use Rattle.port_calculus.specs.Port.{sum_below, due_before, ahead, sends, keeps}
use Rattle.port.specs.PortWork.{queue_of, Queue, NoneDue, SentDue, SentWhole, Sendable, SentAll}
use Rattle.port_calculus.proofs.Sums.{sum_below_cong, sum_below_none, sum_below_stops, sum_below_next}
use Rattle.port_calculus.proofs.Waiting.{sends_all, sends_nothing, keeps_none, keeps_unsent}
use Rattle.port_calculus.proofs.Serving.{due_before_none}
use Rattle.port.proofs.Queueing.{due-part, queue_whole, queue_due}

-- The packets that are due by one slot, stream by stream.
module _ (base left : ℕ) (row counts : List ℕ) where
  pub due-first : SentDue base 0 left row counts left row counts
  unfolding sum_below
  due-first =
      record {
        rest = omega arith;
        long = refl;
        long_counts = refl;
        kept = λ i p. absurd (omega arith);
        others = λ k p. refl;
        counted = λ i p. absurd (omega arith);
        uncounted = λ i p. refl;
      }

  pub due_next : (i left' : ℕ) (row' counts' : List ℕ) (goes : ℕ) → SentDue base i left row counts left' row' counts' → base + i < length row → i < length counts
      → goes ≡ min (get_or row' (base + i) 0) left'
      → SentDue base (i + 1) left row counts (left' - goes) (set row' (base + i) (get_or row' (base + i) 0 - goes)) (set counts' i (get_or counts' i 0 + goes))
  due_next i left' row' counts' goes done inside counted sent =
      let keep : ℕ = get_or row' (base + i) 0 - goes in
      let more : ℕ = get_or counts' i 0 + goes in
      let here : get_or row' (base + i) 0 ≡ get_or row (base + i) 0 = done.others (base + i) (λ p. omega arith) in
      let sum = sum_below_next (λ j. get_or row (base + j) 0) i in
      record {
        rest = omega (arith, done.rest);
        long = length-set row' (base + i) keep ∙ done.long;
        long_counts = length-set counts' i more ∙ done.long_counts;
        kept = λ j p. elim (ℕ_discrete j i) [
          | yes e ↦ rw e (get_or-set_same row' (base + i) keep 0 (omega (arith, done.long)) ∙ omega (arith, done.rest))
          | no q ↦ get_or-set_other row' (base + i) (base + j) keep 0 (λ e. q (omega arith)) ∙ done.kept j (omega arith)
        ];
        others = λ k p. get_or-set_other row' (base + i) k keep 0 (λ e. absurd (omega (arith, p (omega arith)))) ∙ done.others k (λ q. omega (arith, p q));
        counted = λ j p. elim (ℕ_discrete j i) [
          | yes e ↦ rw e (get_or-set_same counts' i more 0 (omega (arith, done.long_counts)) ∙ omega (arith, done.rest, done.uncounted i (omega arith)))
          | no q ↦ get_or-set_other counts' i j more 0 q ∙ done.counted j (omega arith)
        ];
        uncounted = λ j p. get_or-set_other counts' i j more 0 (λ e. absurd (omega arith)) ∙ done.uncounted j (omega arith);
      }

-- a slot's sending when the packets due before slot `due` are gone
pub record Sending (streams capacity to : ℕ) (row₀ : List ℕ) (due left : ℕ) (row totals counts : List ℕ) : Type 0 where
  pub within : due ≤ to
  pub queue : Queue row totals
  pub long_counts : length counts ≡ 8
  pub rest : left + due_before streams (queue_of row₀) due ≡ capacity
  pub fits : (i : ℕ) → get_or counts i 0 + left ≤ capacity
  pub gone : (u i : ℕ) → u < due → i < streams → queue_of row u i ≡ 0
  pub later : (u i : ℕ) → due ≤ u → i < streams → queue_of row u i ≡ queue_of row₀ u i
  pub absent : (u i : ℕ) → streams ≤ i → i < 8 → queue_of row u i ≡ 0
  pub counted : (i : ℕ) → i < streams → get_or counts i 0 ≡ sum_below (λ u. queue_of row₀ u i) due

module _ (streams capacity from to : ℕ) (row₀ totals₀ counts₀ : List ℕ) (asks : Sendable streams from to row₀ totals₀ counts₀) where
  abbrev q : ℕ → ℕ → ℕ
  q = queue_of row₀

  -- Nothing is due before the first slot looked at.
  sending-from : Sending streams capacity to row₀ from capacity row₀ totals₀ counts₀
  sending-from =
      record {
        within = asks.ordered;
        queue = asks.queue;
        long_counts = asks.long_counts;
        rest = omega (arith, due_before_none streams capacity q from asks.before);
        fits = λ i. omega (arith, asks.zeros i);
        gone = asks.before;
        later = λ u i p r. refl;
        absent = asks.absent;
        counted = λ i p. asks.zeros i ∙ sym (sum_below_none (λ u. q u i) from (λ u r. asks.before u i r p));
      }

  module _ (due left : ℕ) (row totals counts : List ℕ) (sending : Sending streams capacity to row₀ due left row totals counts) where
    -- Slots by which nothing is due are passed over.
    sending_passes : (next : ℕ) → NoneDue totals due next → next ≤ to → Sending streams capacity to row₀ next left row totals counts
    sending_passes next passed p =
        record {
          within = p;
          queue = sending.queue;
          long_counts = sending.long_counts;
          rest = omega (arith, sending.rest, none_between);
          fits = sending.fits;
          gone = λ u i r s. elim (dec_le due u) [ yes w ↦ none u i w r s | no w ↦ sending.gone u i (omega arith) s ];
          later = λ u i r s. sending.later u i (omega (arith, passed.ordered)) s;
          absent = sending.absent;
          counted = λ i r. sending.counted i r ∙ sym (sum_below_stops (λ u. q u i) due next passed.ordered (λ u w x. none_given u i w x r));
        }
      where
        none : (u i : ℕ) → due ≤ u → u < next → i < streams → queue_of row u i ≡ 0
        none u i r s x = omega (arith, due-part row u i (omega (arith, asks.few)), sending.queue.totalled u, passed.none u r s)

        none_given : (u i : ℕ) → due ≤ u → u < next → i < streams → q u i ≡ 0
        none_given u i r s x = sym (sending.later u i r x) ∙ none u i r s x

        none_between : due_before streams q next ≡ due_before streams q due
        none_between =
            unfold due_before in sum_below_stops (λ v. sum_below (q v) streams) due next passed.ordered (λ v r s. sum_below_none (q v) streams (λ i x. none_given v i r s x))

    -- What the due slots so far had is what was sent of them, and nothing of it is kept.
    sent-before : (i : ℕ) → i < streams → sum_below (λ u. sends streams capacity q u i) due ≡ sum_below (λ u. q u i) due
    sent-before i p = sum_below_cong _ _ due (λ u r. sends_all streams capacity q u due i (omega (arith, sending.rest)) r p)

    kept-before : (u i : ℕ) → u < due → i < streams → keeps streams capacity q u i ≡ 0
    unfolding keeps
    kept-before u i p r = omega (arith, sends_all streams capacity q u due i (omega (arith, sending.rest)) p r)

    -- After the last due slot all is sent.
    pub sending-last : to ≤ due → SentAll streams capacity to row₀ due row totals counts
    sending-last end =
        let e : due ≡ to = omega (arith, sending.within) in
        record {
          queue = sending.queue;
          long_counts = sending.long_counts;
          kept = λ u i p. elim (dec_le (suc u) due) [
            | yes r ↦ sending.gone u i r p ∙ sym (kept-before u i r p)
            | no r ↦ sending.later u i (omega arith) p ∙ asks.after u i (omega arith) p ∙ sym (keeps_none streams capacity q u i (asks.after u i (omega arith) p))
          ];
          counted = λ i p. sending.counted i p ∙ sym (sent-before i p) ∙ ap (sum_below (λ u. sends streams capacity q u i)) e;
          gone = sending.gone;
          absent = sending.absent;
        }

    -- What the packets due by one slot add up to.
    here : (i : ℕ) → i ≤ streams → sum_below (queue_of row due) i ≡ sum_below (q due) i
    here i p = sum_below_cong _ _ i (λ j r. sending.later due j (omega arith) (omega arith))

    total_due : get_or totals due 0 ≡ sum_below (q due) streams
    total_due =
        sending.queue.totalled due
        ∙ sum_below_stops (queue_of row due) streams 8 asks.few (λ i p r. sending.absent due i p r)
        ∙ here streams (omega arith)

    next_due_lem : due_before streams q (due + 1) ≡ due_before streams q due + sum_below (q due) streams
    next_due_lem = rw add-one (unfold due_before sum_below in refl)

    -- Where no more is due by this slot than may be sent, all of it is.
    pub whole_asks : due < to → capacity < 4294967296 → get_or totals due 0 ≤ left
        → (8 * due + 8 ≤ length row) × (length row ≤ 2568) × (length counts ≡ 8) × ((i : ℕ) → i < 8 → get_or counts i 0 + queue_of row due i < 4294967296)
    whole_asks inside small enough = (
      omega (arith, asks.inside, sending.queue.long),
      omega (arith, sending.queue.long),
      sending.long_counts,
      λ i p. omega (arith, sending.fits i, due-part row due i p, sending.queue.totalled due),
    )

    module _ (inside : due < to) (enough : get_or totals due 0 ≤ left) (row' counts' : List ℕ) (whole : SentWhole (8 * due) 8 row counts row' counts') where
      elsewhere : (u i : ℕ) → i < 8 → (u ≡ due → ⊥) → queue_of row' u i ≡ queue_of row u i
      elsewhere u i p r = whole.others (8 * u + i) (λ s. elim (dec_le (suc due) u) [ yes v ↦ omega arith | no v ↦ absurd (omega (arith, r (omega arith))) ])

      sending-sent : Sending streams capacity to row₀ (due + 1) (left - get_or totals due 0) row' (set totals due 0) counts'
      sending-sent =
          record {
            within = omega arith;
            queue = queue_whole row totals sending.queue due counts row' counts' (omega (arith, asks.inside)) whole;
            long_counts = whole.long_counts ∙ sending.long_counts;
            rest = omega (arith, total_due, next_due_lem, sending.rest);
            fits = λ i. elim (dec_le (suc i) 8) [
              | yes p ↦ omega (arith, whole.counted i p, due-part row due i p, sending.queue.totalled due, sending.fits i)
              | no p ↦ omega (arith, whole.uncounted i (omega arith), sending.fits i)
            ];
            gone = λ u i p r. elim (ℕ_discrete u due) [
              | yes e ↦ rw e (whole.gone i (omega (arith, asks.few)))
              | no v ↦ elsewhere u i (omega (arith, asks.few)) v ∙ sending.gone u i (omega arith) r
            ];
            later = λ u i p r. elsewhere u i (omega (arith, asks.few)) (λ e. omega arith) ∙ sending.later u i (omega arith) r;
            absent = λ u i p r. elim (ℕ_discrete u due) [
              | yes e ↦ rw e (whole.gone i r)
              | no v ↦ elsewhere u i r v ∙ sending.absent u i p r
            ];
            counted = λ i p.
                whole.counted i (omega (arith, asks.few))
                ∙ ap₂ ◌+◌ (sending.counted i p) (sending.later due i (omega arith) p)
                ∙ sym (sum_below_next (λ u. q u i) due);
          }

    -- What serving one due slot in part asks.
    pub due_asks : due < to → capacity < 4294967296
        → (8 * due + streams ≤ length row) × (length row ≤ 2568) × (streams ≤ length counts) × (length counts ≡ 8) × ((i : ℕ) → get_or counts i 0 + left < 4294967296)
    due_asks inside small = (
      omega (arith, asks.few, asks.inside, sending.queue.long),
      omega (arith, sending.queue.long),
      omega (arith, asks.few, sending.long_counts),
      sending.long_counts,
      λ i. omega (arith, sending.fits i),
    )

    module _ (inside : due < to) (left' : ℕ) (row' counts' : List ℕ) (sent : SentDue (8 * due) streams left row counts left' row' counts') where
      kept_here : (i : ℕ) → i < streams → queue_of row' due i ≡ keeps streams capacity q due i
      unfolding keeps sends ahead
      kept_here i p =
          omega (arith, sent.kept i p, sending.later due i (omega arith) p, here i (omega arith), sending.rest)

      sent_here : (i : ℕ) → i < streams → get_or counts' i 0 ≡ get_or counts i 0 + sends streams capacity q due i
      unfolding sends ahead
      sent_here i p =
          omega (arith, sent.counted i p, sending.later due i (omega arith) p, here i (omega arith), sending.rest)

      others-kept : (u i : ℕ) → i < streams → (u ≡ due → ⊥) → queue_of row' u i ≡ queue_of row u i
      others-kept u i p r = sent.others (8 * u + i) (λ s. elim (dec_le (suc due) u) [ yes v ↦ omega (arith, asks.few) | no v ↦ absurd (omega (arith, r (omega arith), asks.few)) ])

      -- Where more is due by this slot than may be sent, the due slots after it keep what they have.
      pub sending_stops : left < get_or totals due 0 → SentAll streams capacity to row₀ due row' (set totals due (get_or totals due 0 - left)) counts'
      sending_stops more =
          let short : capacity ≤ due_before streams q (due + 1) = omega (arith, total_due, next_due_lem, sending.rest) in
          record {
            queue = queue_due row totals sending.queue due streams left left' counts row' counts' (omega (arith, asks.inside)) asks.few (sending.absent due) sent;
            long_counts = sent.long_counts ∙ sending.long_counts;
            kept = λ u i p. elim (ℕ_discrete u due) [
              | yes e ↦ rw e (kept_here i p)
              | no n ↦ elim (dec_le u due) [
                | yes r ↦ others-kept u i p n ∙ sending.gone u i (omega arith) p ∙ sym (kept-before u i (omega arith) p)
                | no r ↦ others-kept u i p n ∙ sending.later u i (omega arith) p ∙ sym (keeps_unsent streams capacity q u i (sends_nothing streams capacity q u (due + 1) i short (omega arith)))
              ]
            ];
            counted = λ i p.
                sent_here i p
                ∙ ap (λ (n : ℕ). n + sends streams capacity q due i) (sending.counted i p ∙ sym (sent-before i p))
                ∙ sym (sum_below_next (λ u. sends streams capacity q u i) due)
                ∙ sym (sum_below_stops (λ u. sends streams capacity q u i) (due + 1) to (omega arith) (λ u r s. sends_nothing streams capacity q u (due + 1) i short r));
            gone = λ u i p r. others-kept u i r (λ e. omega arith) ∙ sending.gone u i p r;
            absent = λ u i p r. sent.others (8 * u + i) (λ s. elim (dec_le (suc due) u) [ yes v ↦ omega (arith, asks.few) | no v ↦ omega arith ]) ∙ sending.absent u i p r;
          }

  -- Where sending starts: at the first due slot with packets.
  pub sending-first : (due : ℕ) → NoneDue totals₀ from due → due ≤ to → Sending streams capacity to row₀ due capacity row₀ totals₀ counts₀
  sending-first = sending_passes from capacity row₀ totals₀ counts₀ sending-from

  -- And where it goes on: at the next.
  pub sending_next : (due left : ℕ) (row totals counts : List ℕ) → Sending streams capacity to row₀ due left row totals counts → due < to → get_or totals due 0 ≤ left
      → (row' counts' : List ℕ) → SentWhole (8 * due) 8 row counts row' counts' → (next : ℕ) → NoneDue (set totals due 0) (due + 1) next → next ≤ to
      → Sending streams capacity to row₀ next (left - get_or totals due 0) row' (set totals due 0) counts'
  sending_next due left row totals counts sending inside enough row' counts' whole next =
      sending_passes (due + 1) (left - get_or totals due 0) row' (set totals due 0) counts' (sending-sent due left row totals counts sending inside enough row' counts' whole) next
