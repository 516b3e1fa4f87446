-- What the pencil's two functions work is theorem 5.1's totals, and every sum on the way fits in 32 bits.
use mathlib.Core.Path.{◌≡◌, sym, ap, ap₂, ◌∙◌}
use mathlib.Core.List.{List}
use Prim.Native.Nat.{ℕ, zero, suc, ◌+◌, ◌-◌, ◌*◌, ◌≤◌, ◌<◌, min}
use native.Mathlib.Omega.{arith}
use native.Mathlib.Numerals.{add-one}
use lib.Dec.{eqb}
use lib.ListN.{length, get_or}
use Rattle.refusals.proofs.AcceptedSettings.{limit-number}
use Rattle.calculus.specs.Numbers.Least.{least}
use Rattle.calculus.specs.Numbers.Limit.{Limit, at_most, map_limit, cut, delay_limit, buffer_limit}
use Rattle.calculus.specs.Envelopes.Envelope.{windows, ClosedEnvelope}
use Rattle.calculus.specs.Regulators.Clipper.{arrived, admitted}
use Rattle.calculus.specs.Regulators.Regulator.{convolution, departed}
use Rattle.calculus.specs.Regulators.BoundedPast.{forecast, next_admitted}
use Rattle.calculus.specs.Regulators.Trace.{arrivals}
use Rattle.calculus.specs.Regulators.Rows.{envelope_of, admitted_by, departed_by}
use Rattle.calculus.proofs.Numbers.Least.{least_attained, least_cong, least-suc}
use Rattle.calculus.proofs.Numbers.Limit.{map_limit_cong}
use Rattle.calculus.proofs.Envelopes.Envelope.{closure_envelope}
use Rattle.calculus.proofs.Regulators.Clipper.{arrived-slot, arrived-zero}
use Rattle.calculus.proofs.Regulators.Regulator.{admitted-zero, admitted-arrived, departed_under}
use Rattle.calculus.proofs.Regulators.Memory.{input_next}
use Rattle.refusals.proofs.TableJudged.{table_given, table-accepted}
use Rattle.settings.proofs.Accepted.{near-accepted, envelope_of-bound, length-near}
use Rattle.pencil.specs.PencilWork.{Working}

module _ (table near : List ℕ) (delay buffer : ℕ) (trace : List ℕ) (t : ℕ) (ok : Working table near delay buffer trace t) where
  abbrev f : ℕ → ℕ
  f = envelope_of table

  abbrev d : Limit
  d = delay_limit delay

  abbrev q : Limit
  q = buffer_limit buffer

  abbrev X : ℕ → ℕ
  X = admitted_by table d q trace

  abbrev Y : ℕ → ℕ
  Y = departed_by table d q trace

  -- What a slot asks, every earlier one has.
  pub working_earlier : (s : ℕ) → s ≤ t → Working table near delay buffer trace s
  working_earlier s p =
      record {
        tabled = ok.tabled;
        kept = ok.kept;
        short = omega (arith, ok.short);
        inside = omega (arith, ok.inside);
        few = ok.few;
        delayed = ok.delayed;
      }

  closed : ClosedEnvelope (windows f)
  unfolding envelope_of
  closed = closure_envelope _ _ (table_given table (table-accepted table ok.tabled))

  near_at : (k : ℕ) → k ≤ 128 → get_or near k 0 ≡ f k
  near_at k p = ap (λ (l : List ℕ). get_or l k 0) ok.kept ∙ near-accepted table (table-accepted table ok.tabled) k p

  pub near_long : length near ≡ 129
  near_long = ap length ok.kept ∙ length-near table (table-accepted table ok.tabled)

  arrivals_few : (k : ℕ) → arrivals trace k ≤ 1000000
  unfolding arrivals
  arrivals_few zero = omega arith
  arrivals_few (suc k) = ok.few k

  arrived_few : (s : ℕ) → arrived (arrivals trace) s ≤ s * 1000000
  arrived_few zero = omega (arith, arrived-zero (arrivals trace))
  arrived_few (suc s) = omega (arith, arrived_few s, arrived-slot (arrivals trace) s, arrivals_few (suc s))

  pub admitted_small : (s : ℕ) → s ≤ t → X s ≤ 5000000
  unfolding admitted_by
  admitted_small s p = omega (arith, admitted-arrived (windows f) closed d q (arrivals trace) s, arrived_few s, ok.short)

  pub departed_small : (s : ℕ) → s ≤ t → Y s ≤ 5000000
  unfolding departed_by admitted_by
  departed_small s p = omega (arith, departed_under (windows f) closed d q (arrivals trace) s, admitted_small s p)

  -- A total of at most 5,000,000 and f at a window fit in 32 bits.
  pub window_fits : (x k : ℕ) → x ≤ 5000000 → k ≤ 69 → (k < length near) × (x + get_or near k 0 < 4294967296)
  window_fits x k p r = (
    omega (arith, near_long),
    omega (arith, near_at k (omega arith), envelope_of-bound table (table-accepted table ok.tabled) k),
  )

  -- X(0) is 0.
  pub pencil_none : t ≡ 0 → 0 ≡ X t
  unfolding admitted_by
  pencil_none e = rw e (sym (admitted-zero (windows f) closed d q (arrivals trace)))

  -- Y(t) is the least of X(s) + f(t-s): the sums for the slots 0 to s.
  abbrev pub outs : ℕ → ℕ
  outs s = X s + get_or near (t - s) 0

  pub outs-first : (x v : ℕ) → x ≡ X 0 → v ≡ x + get_or near t 0 → v ≡ least 0 0 outs
  outs-first x v e same =
      let (k, k0, k1, at) = least_attained 0 0 outs (omega arith) in
      let zeroth : k ≡ 0 = omega arith in
      let whole : t - 0 ≡ t = omega arith in
      same ∙ ap₂ (λ (n m : ℕ). n + get_or near m 0) e (sym whole) ∙ sym (at ∙ ap outs zeroth)

  pub outs_next : (s v w x z : ℕ) → v ≡ least 0 s outs → x ≡ X (s + 1) → w ≡ x + get_or near (t - (s + 1)) 0 → z ≡ min v w → z ≡ least 0 (s + 1) outs
  outs_next s v w x z e same sum low =
      low ∙ ap₂ min e (sum ∙ ap (λ (n : ℕ). n + get_or near (t - (s + 1)) 0) same) ∙ sym (rw add-one (least-suc 0 s outs (omega arith)))

  pub outs_done : (s v : ℕ) → s ≡ t → v ≡ least 0 s outs → v ≡ Y t
  unfolding departed_by departed convolution admitted_by windows
  outs_done s v end e =
      e ∙ ap (λ (k : ℕ). least 0 k outs) end
      ∙ least_cong 0 t _ _ (omega arith) (λ k k0 kt. ap (λ (n : ℕ). admitted (windows f) d q (arrivals trace) k + n) (near_at (t - k) (omega (arith, ok.short))))

  -- X(t) from X(t-1) and all earlier departed totals.
  slot_more : (b : ℕ) → suc b ≡ t → X t ≡ next_admitted t f d q (λ k. Y (t - k)) (X b) (get_or trace b 0)
  unfolding admitted_by departed_by departed envelope_of arrivals
  slot_more b e =
      rw (sym e) (input_next _ _ (table_given table (table-accepted table ok.tabled)) d q (arrivals trace) (suc b) b (omega arith))

  -- X(t) is worked from the departed totals of the slots before: the sums for the slots t-1 back to t-k.
  module _ (ahead : ℕ) where
    abbrev pub lates : ℕ → ℕ
    lates k = Y (t - k) + get_or near (k + ahead) 0

    pub lates-first : (y v : ℕ) → y ≡ Y (t - 1) → v ≡ y + get_or near (1 + ahead) 0 → v ≡ least 1 1 lates
    lates-first y v e same =
        let (k, k0, k1, at) = least_attained 1 1 lates (omega arith) in
        let one : k ≡ 1 = omega arith in
        same ∙ ap (λ (n : ℕ). n + get_or near (1 + ahead) 0) e ∙ sym (at ∙ ap lates one)

    pub lates_next : (k v w y z : ℕ) → 1 ≤ k → v ≡ least 1 k lates → y ≡ Y (t - (k + 1)) → w ≡ y + get_or near (k + 1 + ahead) 0 → z ≡ min v w
        → z ≡ least 1 (k + 1) lates
    lates_next k v w y z p e same sum low =
        low ∙ ap₂ min e (sum ∙ ap (λ (n : ℕ). n + get_or near (k + 1 + ahead) 0) same) ∙ sym (rw add-one (least-suc 1 k lates p))

    -- The forecast that the delay limit asks for.
    lates-forecast : ahead ≤ 64 → 1 ≤ t → least 1 t lates ≡ forecast t f (λ k. Y (t - k)) ahead
    unfolding forecast
    lates-forecast p some =
        least_cong 1 t _ _ some (λ k k1 kt. ap (λ (n : ℕ). Y (t - k) + n) (near_at (k + ahead) (omega (arith, ok.short))))

    looks : (delay ≤ 64 → ahead ≡ delay) → (m : ℕ) → d ≡ at_most m → ahead ≡ m
    unfolding delay_limit
    looks same m e =
        let n : delay ≡ m = limit-number (eqb delay 255) delay m e in
        omega (arith, same (omega (arith, ok.delayed m e)))

    -- A slot more: X(t) from X(t-1), the slot's arrivals, the forecast and Y(t-1).
    pub admits : (delay ≤ 64 → ahead ≡ delay) → ahead ≤ 64 → (k late x gone n v : ℕ) → 1 ≤ t → k ≡ t → late ≡ least 1 k lates
        → x ≡ X (t - 1) → gone ≡ Y (t - 1) → n ≡ get_or trace (t - 1) 0
        → v ≡ cut (cut (x + n) (map_limit (λ _. late) d)) (map_limit (λ b. gone + b) q) → v ≡ X t
    unfolding next_admitted
    admits same far k late x gone n v some end least-late ex ey en made =
        made
        ∙ ap₂ (λ (l m : Limit). cut (cut (x + n) l) m)
        (map_limit_cong _ _ d (λ m e. least-late ∙ ap (λ (j : ℕ). least 1 j lates) end ∙ lates-forecast far some ∙ ap (forecast t f (λ k. Y (t - k))) (looks same m e)))
        (map_limit_cong _ _ q (λ m e. ap (λ (z : ℕ). z + m) ey))
        ∙ ap₂ (λ (m l : ℕ). cut (cut (m + l) (map_limit (forecast t f (λ k. Y (t - k))) d)) (map_limit (λ b. Y (t - 1) + b) q)) ex en
        ∙ sym (slot_more (t - 1) (omega arith))
