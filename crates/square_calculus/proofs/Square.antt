-- Laws of the closure of an envelope of pairs of slots, whose rows do not fall: lemma 2.1 of document 000.
use mathlib.Core.Path.{◌≡◌, refl, sym, ap, ap₂, ◌∙◌}
use mathlib.Core.List.{List, [], ◌∷◌, ◌++◌}
use Prim.Native.Nat.{ℕ, zero, suc, ◌+◌, ◌-◌, ◌≤◌, ◌<◌}
use native.Mathlib.Nat.{le_antisymm}
use native.Mathlib.Decide.{dec_le}
use native.Mathlib.Omega.{arith}
use Rattle.calculus.specs.Numbers.Least.{least}
use Rattle.calculus.specs.Numbers.Course.{course}
use Rattle.calculus.specs.Numbers.Limit.{Limit}
use Rattle.calculus.specs.Envelopes.Envelope.{ClosedEnvelope}
use Rattle.calculus.specs.Losses.Permitted.{Permitted}
use Rattle.square_calculus.specs.Square.{closing_from, closure_of, SlotChain, stop, link, slot_chain_sum}
use Rattle.square_calculus.proofs.Closing.{closing_from_looks_back}
use Rattle.calculus.proofs.Numbers.Least.{least_below, least_above, least_attained, least_cong}
use Rattle.calculus.proofs.Numbers.Course.{strongly, course-keeps, course_only}
use Rattle.calculus.proofs.Numbers.Rising.{rising}
use Rattle.calculus.proofs.Losses.Permitted.{permitted_with}

chain_forward : {s t : ℕ} {rs : List ℕ} → SlotChain s t rs → s ≤ t
chain_forward stop = omega arith
chain_forward (link r p rest) = omega (arith, chain_forward rest)

-- One link more, at the end.
chain_end : {s r : ℕ} {rs : List ℕ} → SlotChain s r rs → (t : ℕ) → r < t → SlotChain s t (rs ++ (t ∷ []))
chain_end stop t p = link t p stop
chain_end (link r q rest) t p = link r q (chain_end rest t p)

slot_chain_sum_end : (F : ℕ → ℕ → ℕ) {s r : ℕ} {rs : List ℕ} → SlotChain s r rs → (t : ℕ) → slot_chain_sum F s (rs ++ (t ∷ [])) ≡ slot_chain_sum F s rs + F r t
unfolding slot_chain_sum
slot_chain_sum_end F stop t = omega arith
slot_chain_sum_end F (link r q rest) t = omega (arith, slot_chain_sum_end F rest t)

module _ (F : ℕ → ℕ → ℕ) where
  -- F*(s,t) is 0 up to the diagonal.
  pub closure_of-zero : (s t : ℕ) → t ≤ s → closure_of F s t ≡ 0
  unfolding closure_of
  closure_of-zero s t p = let e : t - s ≡ 0 = omega arith in rw e (unfold course closing_from in refl)

  closure_of-rule : (s n : ℕ) → course (closing_from F s) (suc n) ≡ least 0 n (λ k. course (closing_from F s) k + F (s + k) (s + suc n))
  unfolding closing_from
  closure_of-rule s n = course-keeps (closing_from F s) (closing_from_looks_back F s) (suc n)

  -- Every slot on the way sets a bound.
  pub closure_of_within : (s r t : ℕ) → s ≤ r → r < t → closure_of F s t ≤ closure_of F s r + F r t
  unfolding closure_of
  closure_of_within s r t p q =
      let n : ℕ = t - s - 1 in
      let whole : t - s ≡ suc n = omega arith in
      let from : s + (r - s) ≡ r = omega arith in
      let upto : s + suc n ≡ t = omega arith in
      omega (
        arith,
        ap (course (closing_from F s)) whole,
        closure_of-rule s n,
        least_below 0 n (λ k. course (closing_from F s) k + F (s + k) (s + suc n)) (r - s) (omega arith) (omega arith),
        ap₂ F from upto,
      )

  -- Some slot on the way attains it.
  pub closure_of_attained : (s t : ℕ) → s < t → (r : ℕ) × (s ≤ r) × (r < t) × (closure_of F s t ≡ closure_of F s r + F r t)
  unfolding closure_of
  closure_of_attained s t p =
      let n : ℕ = t - s - 1 in
      let (k, k0, kn, e) = least_attained 0 n (λ k. course (closing_from F s) k + F (s + k) (s + suc n)) (omega arith) in
      let whole : t - s ≡ suc n = omega arith in
      let part : s + k - s ≡ k = omega arith in
      let upto : s + suc n ≡ t = omega arith in (
        s + k,
        omega arith,
        omega arith,
        omega (arith, ap (course (closing_from F s)) whole, closure_of-rule s n, ap (course (closing_from F s)) part, ap (F (s + k)) upto),
      )

  -- Lemma 2.1 (iv): F*(s,t) is the least of F*(s,r) + F(r,t) for r from s to t-1.
  pub closure_of_recursive : (s t : ℕ) → s < t → closure_of F s t ≡ least s (t - 1) (λ r. closure_of F s r + F r t)
  closure_of_recursive s t p =
      let (r, sr, rt, e) = closure_of_attained s t p in
      le_antisymm
      (least_above s (t - 1) (λ r. closure_of F s r + F r t) _ (omega arith) (λ k sk kt. closure_of_within s k t sk (omega arith)))
      (omega (arith, least_below s (t - 1) (λ r. closure_of F s r + F r t) r sr (omega arith)))

  -- And nothing else keeps these two rules, on the slots up to H.
  pub closure_of_only : (H : ℕ) (E : ℕ → ℕ → ℕ) → ((s : ℕ) → s ≤ H → E s s ≡ 0)
      → ((s t : ℕ) → s < t → t ≤ H → E s t ≡ least s (t - 1) (λ r. E s r + F r t)) → (s t : ℕ) → s ≤ t → t ≤ H → E s t ≡ closure_of F s t
  closure_of_only H E starts rule s = strongly (λ t. s ≤ t → t ≤ H → E s t ≡ closure_of F s t) step
    where
      step : (t : ℕ) → ((k : ℕ) → k < t → s ≤ k → k ≤ H → E s k ≡ closure_of F s k) → s ≤ t → t ≤ H → E s t ≡ closure_of F s t
      step t ih p b =
          elim (dec_le t s) [
            | yes q ↦ let e : t ≡ s = omega arith in rw e (starts s (omega arith) ∙ sym (closure_of-zero s s (omega arith)))
            | no q ↦ rule s t (omega arith) b
                ∙ least_cong s (t - 1) _ _ (omega arith) (λ r sr rt. ap (λ (n : ℕ). n + F r t) (ih r (omega arith) sr (omega arith)))
                ∙ sym (closure_of_recursive s t (omega arith))
          ]

  -- F* is nowhere above F.
  pub closure_of_under : (s t : ℕ) → s < t → closure_of F s t ≤ F s t
  closure_of_under s t p = omega (arith, closure_of_within s s t (omega arith) p, closure_of-zero s s (omega arith))

  -- F*(s,r) is at most F*(s,t) + F*(t,r).
  pub closure_of_chains : (s t r : ℕ) → s ≤ t → t ≤ r → closure_of F s r ≤ closure_of F s t + closure_of F t r
  closure_of_chains s t r st = strongly (λ r. t ≤ r → closure_of F s r ≤ closure_of F s t + closure_of F t r) step r
    where
      step : (r : ℕ) → ((k : ℕ) → k < r → t ≤ k → closure_of F s k ≤ closure_of F s t + closure_of F t k) → t ≤ r → closure_of F s r ≤ closure_of F s t + closure_of F t r
      step r ih tr =
          elim (dec_le r t) [
            | yes p ↦ let e : r ≡ t = omega arith in rw e (omega arith)
            | no p ↦ let (w, tw, wr, e) = closure_of_attained t r (omega arith) in
                omega (arith, closure_of_within s w r (omega arith) wr, ih w wr tw)
          ]

  -- No sum of F over a chain from s to t is below F*(s,t).
  pub closure_of_cheapest : {s t : ℕ} {rs : List ℕ} → SlotChain s t rs → closure_of F s t ≤ slot_chain_sum F s rs
  unfolding slot_chain_sum
  closure_of_cheapest (stop {s = s}) = omega (arith, closure_of-zero s s (omega arith))
  closure_of_cheapest (link {s = s} {t = t} r p rest) =
      omega (arith, closure_of_chains s r t (omega arith) (chain_forward rest), closure_of_under s r p, closure_of_cheapest rest)

  -- Some chain's sum is F*(s,t).
  pub closure_of_chained : (s t : ℕ) → s ≤ t → (rs : List ℕ) × (SlotChain s t rs) × (closure_of F s t ≡ slot_chain_sum F s rs)
  closure_of_chained s = strongly (λ t. s ≤ t → (rs : List ℕ) × (SlotChain s t rs) × (closure_of F s t ≡ slot_chain_sum F s rs)) step
    where
      step : (t : ℕ) → ((k : ℕ) → k < t → s ≤ k → (rs : List ℕ) × (SlotChain s k rs) × (closure_of F s k ≡ slot_chain_sum F s rs)) → s ≤ t
          → (rs : List ℕ) × (SlotChain s t rs) × (closure_of F s t ≡ slot_chain_sum F s rs)
      step t ih p =
          elim (dec_le t s) [
            | yes q ↦ let e : t ≡ s = omega arith in
                rw e ([], stop, unfold slot_chain_sum in closure_of-zero s s (omega arith))
            | no q ↦ let (r, sr, rt, e) = closure_of_attained s t (omega arith) in
                let (rs, chain, same) = ih r rt sr in
                (rs ++ (t ∷ []), chain_end chain t rt, omega (arith, slot_chain_sum_end F chain t))
          ]

  -- No function that is 0 on the diagonal, chains, and is nowhere above F is above F*, on the slots up to H.
  pub closure_of_largest : (H : ℕ) (G : ℕ → ℕ → ℕ) → ((s : ℕ) → s ≤ H → G s s ≡ 0)
      → ((s t r : ℕ) → s ≤ t → t ≤ r → r ≤ H → G s r ≤ G s t + G t r)
      → ((s t : ℕ) → s < t → t ≤ H → G s t ≤ F s t) → (s t : ℕ) → s ≤ t → t ≤ H → G s t ≤ closure_of F s t
  closure_of_largest H G starts chains under s = strongly (λ t. s ≤ t → t ≤ H → G s t ≤ closure_of F s t) step
    where
      step : (t : ℕ) → ((k : ℕ) → k < t → s ≤ k → k ≤ H → G s k ≤ closure_of F s k) → s ≤ t → t ≤ H → G s t ≤ closure_of F s t
      step t ih p b =
          elim (dec_le t s) [
            | yes q ↦ let e : t ≡ s = omega arith in rw e (omega (arith, starts s (omega arith)))
            | no q ↦ let (r, sr, rt, e) = closure_of_attained s t (omega arith) in
                omega (arith, chains s r t sr (omega arith) b, ih r rt sr (omega arith), under r t rt b)
          ]

  -- Totals that keep F over all windows keep F*.
  pub closure_of-kept : (T : ℕ) (v : ℕ → ℕ) → ((s t : ℕ) → s < t → t ≤ T → v t - v s ≤ F s t) → (s t : ℕ) → s ≤ t → t ≤ T → v t - v s ≤ closure_of F s t
  closure_of-kept T v keeps s = strongly (λ t. s ≤ t → t ≤ T → v t - v s ≤ closure_of F s t) step
    where
      step : (t : ℕ) → ((k : ℕ) → k < t → s ≤ k → k ≤ T → v k - v s ≤ closure_of F s k) → s ≤ t → t ≤ T → v t - v s ≤ closure_of F s t
      step t ih p b =
          elim (dec_le t s) [
            | yes q ↦ let e : t ≡ s = omega arith in rw e (omega arith)
            | no q ↦ let (r, sr, rt, e) = closure_of_attained s t (omega arith) in
                omega (arith, ih r rt sr (omega arith), keeps r t rt b)
          ]

  -- So the same pairs are permitted for F and for F*.
  pub permitted-closure_of : (d q : Limit) (a : ℕ → ℕ) (T : ℕ) (u v : ℕ → ℕ) → Permitted F d q a T u v → Permitted (closure_of F) d q a T u v
  permitted-closure_of d q a T u v permitted =
      permitted_with F d q a T u v permitted (closure_of F) (λ s t p b. closure_of-kept T v permitted.envelope s t (omega arith) b)

  pub closure_of_permitted : (d q : Limit) (a : ℕ → ℕ) (T : ℕ) (u v : ℕ → ℕ) → Permitted (closure_of F) d q a T u v → Permitted F d q a T u v
  closure_of_permitted d q a T u v permitted =
      permitted_with (closure_of F) d q a T u v permitted F (λ s t p b. omega (arith, permitted.envelope s t p b, closure_of_under s t p))

  -- Where F's rows do not fall, F* is a closed envelope. A last link to t+1 that starts before t is not dearer to t,
  -- and one that starts at t comes on top of F*(s,t).
  module _ (rises : (s t r : ℕ) → t ≤ r → F s t ≤ F s r) where
    closure_of_step : (s t : ℕ) → closure_of F s t ≤ closure_of F s (suc t)
    closure_of_step s t =
        elim (dec_le s t) [
          | yes p ↦ let (r, sr, rt, e) = closure_of_attained s (suc t) (omega arith) in
              elim (dec_le t r) [
                | yes q ↦ let same : r ≡ t = omega arith in omega (arith, ap (closure_of F s) same)
                | no q ↦ omega (arith, closure_of_within s r t sr (omega arith), rises r t (suc t) (omega arith))
              ]
          | no p ↦ omega (arith, closure_of-zero s t (omega arith))
        ]

    pub closure_of_closed : ClosedEnvelope (closure_of F)
    closure_of_closed =
        record {
          starts = λ s. closure_of-zero s s (omega arith);
          rises = λ s t r p. rising (closure_of F s) r (λ k q. closure_of_step s k) t r p (omega arith);
          chains = closure_of_chains;
        }

-- A closed envelope is its own closure.
pub closure_of_own : (F : ℕ → ℕ → ℕ) → ClosedEnvelope F → (s t : ℕ) → s ≤ t → closure_of F s t ≡ F s t
closure_of_own F closed s t p =
    le_antisymm
    (elim (dec_le t s) [
      | yes q ↦ omega (arith, closure_of-zero F s t q)
      | no q ↦ closure_of_under F s t (omega arith)
    ])
    (closure_of_largest F t F (λ s _. closed.starts s) (λ s t r st tr _. closed.chains s t r st tr) (λ s t _ _. omega arith) s t p (omega arith))

-- F*(s,t) looks at F from s to t alone.
pub closure_of_cong : (F G : ℕ → ℕ → ℕ) (s t : ℕ) → ((i j : ℕ) → i < j → j ≤ t → F i j ≡ G i j) → closure_of F s t ≡ closure_of G s t
unfolding closure_of
closure_of_cong F G s t same =
    course_only (closing_from G s) (closing_from_looks_back G s) (course (closing_from F s)) (t - s) (λ k p. agrees k p)
  where
    agrees : (k : ℕ) → k ≤ t - s → course (closing_from F s) k ≡ closing_from G s (course (closing_from F s)) k
    agrees zero p = unfold course closing_from in refl
    agrees (suc k) p =
        closure_of-rule F s k
        ∙ (unfold closing_from in least_cong 0 k _ _ (omega arith) (λ i i0 ik. ap (λ (z : ℕ). course (closing_from F s) i + z) (same (s + i) (s + suc k) (omega arith) (omega arith))))
