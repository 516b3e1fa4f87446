-- Laws of regulators in a row: each stage keeps its own envelope and never passes the stage before, and the last one lets go what a
-- single regulator with the merged table does, whatever the order of the stages.
use mathlib.Core.Path.{◌≡◌, refl, sym, ap, ◌∙◌, fun_ext, subst}
use mathlib.Core.List.{List, [], Permᴰ}
use Prim.Native.Nat.{ℕ, zero, suc, ◌+◌, ◌-◌, ◌≤◌, ◌<◌}
use native.Mathlib.Nat.{le_antisymm}
use native.Mathlib.Decide.{dec_le}
use native.Mathlib.Omega.{arith}
use lib.ListN.{length, get_or}
use Rattle.calculus.specs.Numbers.Limit.{Limit}
use Rattle.calculus.specs.Envelopes.Closure.{Table, KeepsWindows}
use Rattle.calculus.specs.Envelopes.Envelope.{windows}
use Rattle.calculus.specs.Regulators.Clipper.{admitted}
use Rattle.calculus.specs.Regulators.Regulator.{convolution, departed}
use Rattle.calculus.specs.Regulators.Rows.{envelope_of}
use Rattle.path_calculus.specs.Path.{Stages, stage_envelope, path_admitted, stage_departed, path_departed}
use Rattle.path_calculus.specs.Merged.{merged}
use Rattle.calculus.proofs.Regulators.Convolution.{convolution_cong, convolution_under, convolution-keeps, convolution_largest, convolution_passes}
use Rattle.path_calculus.proofs.Merged.{merged_order}
use Rattle.path_calculus.proofs.PathEnvelope.{stage_closed, merged_closed, merged-least, stages-kept, path_envelope_lem}

module _ (tables : List (List ℕ)) (ok : Stages tables) where
  module _ (X : ℕ → ℕ) where
    -- A stage never passes the stage before ..
    pub stage-before : (i : ℕ) → i < length tables → (t : ℕ) → stage_departed tables X (suc i) t ≤ stage_departed tables X i t
    unfolding stage_departed
    stage-before i p t = omega (arith, convolution_under (stage_departed tables X i) (windows (stage_envelope tables i)) (stage_closed tables ok i p) t)

    -- .. and keeps its own envelope.
    pub stage-keeps : (i : ℕ) → i < length tables → (s t : ℕ) → s ≤ t
        → stage_departed tables X (suc i) t ≤ stage_departed tables X (suc i) s + stage_envelope tables i (t - s)
    unfolding stage_departed windows
    stage-keeps i p = convolution-keeps (stage_departed tables X i) (windows (stage_envelope tables i)) (stage_closed tables ok i p)

    -- No stage has let go more than the entrance let in.
    stage_input : (n : ℕ) → n ≤ length tables → (t : ℕ) → stage_departed tables X n t ≤ X t
    stage_input zero p t = unfold stage_departed in omega arith
    stage_input (suc n) p t = omega (arith, stage-before n p t, stage_input n (omega arith) t)

    -- What has passed a stage keeps that stage's envelope from there on.
    stage_passed : (n i : ℕ) → i < n → n ≤ length tables → (s t : ℕ) → s ≤ t
        → stage_departed tables X n t ≤ stage_departed tables X n s + stage_envelope tables i (t - s)
    unfolding stage_departed
    stage_passed zero i p q s t st = absurd (omega arith)
    stage_passed (suc n) i p q s t st =
        elim (dec_le (suc i) n) [
          | yes r ↦ convolution_passes (stage_departed tables X n) (stage_envelope tables n) (stage_envelope tables i) (stage_passed n i r (omega arith)) s t st
          | no r ↦ let e : i ≡ n = omega arith in rw e (stage-keeps n q s t st)
        ]

    -- What one regulator with the merged table lets go passes every stage unhindered.
    stage_above : (n : ℕ) → n ≤ length tables → (t : ℕ) → convolution X (windows (envelope_of (merged tables))) t ≤ stage_departed tables X n t
    unfolding stage_departed windows
    stage_above zero p t = convolution_under X _ (merged_closed tables ok) t
    stage_above (suc n) p t =
        convolution_largest (stage_departed tables X n) (windows (stage_envelope tables n)) (stage_closed tables ok n p) t _
        (λ r q. stage_above n (omega arith) r)
        (λ r s q w. omega (arith, convolution-keeps X (windows (envelope_of (merged tables))) (merged_closed tables ok) r s q, merged-least tables ok n p (s - r)))
        t (omega arith)

    -- The last stage lets go what one regulator with the merged table does.
    pub stages-merged : (t : ℕ) → stage_departed tables X (length tables) t ≡ convolution X (windows (envelope_of (merged tables))) t
    unfolding KeepsWindows windows
    stages-merged t =
        le_antisymm
        (convolution_largest X (windows (envelope_of (merged tables))) (merged_closed tables ok) t _
        (λ r q. stage_input (length tables) (omega arith) r)
        (stages-kept tables ok t _ (λ i p s r q w. stage_passed (length tables) i p (omega arith) s r q)) t (omega arith))
        (stage_above (length tables) (omega arith) t)

  module _ (d q : Limit) (a : ℕ → ℕ) where
    -- The path's totals are those of one regulator with the merged table.
    pub path-admitted : (t : ℕ) → path_admitted tables d q a t ≡ admitted (windows (envelope_of (merged tables))) d q a t
    unfolding path_admitted
    path-admitted t = ap (λ (f : ℕ → ℕ). admitted (windows f) d q a t) (fun_ext (path_envelope_lem tables ok))

    pub path-departed : (t : ℕ) → path_departed tables d q a t ≡ departed (windows (envelope_of (merged tables))) d q a t
    unfolding path_departed departed
    path-departed t = stages-merged (path_admitted tables d q a) t ∙ convolution_cong _ _ _ _ t (λ s p. path-admitted s) (λ s p. refl)

-- What holds of each stage's table holds of each in any other order.
pub each_order : (P : List ℕ → Type 0) {tables others : List (List ℕ)} → Permᴰ tables others
    → ((i : ℕ) → i < length tables → P (get_or tables i [])) → (i : ℕ) → i < length others → P (get_or others i [])
each_order P Permᴰ.nil each i p = each i p
each_order P (Permᴰ.cons e rest) each zero p = subst P e (each 0 (omega arith))
each_order P (Permᴰ.cons e rest) each (suc i) p = each_order P rest (λ j q. each (suc j) (omega arith)) i (omega arith)
each_order P (Permᴰ.swap e f) each zero p = subst P f (each 1 (omega arith))
each_order P (Permᴰ.swap e f) each (suc zero) p = subst P e (each 0 (omega arith))
each_order P (Permᴰ.swap e f) each (suc (suc i)) p = each (suc (suc i)) p
each_order P (Permᴰ.trans first then) each i p = each_order P then (each_order P first each) i p

length_order : {tables others : List (List ℕ)} → Permᴰ tables others → length tables ≡ length others
length_order Permᴰ.nil = refl
length_order (Permᴰ.cons e rest) = ap suc (length_order rest)
length_order (Permᴰ.swap e f) = refl
length_order (Permᴰ.trans first then) = length_order first ∙ length_order then

stages_order : (tables others : List (List ℕ)) → Permᴰ tables others → Stages tables → Stages others
stages_order tables others order ok =
    record { some = omega (arith, ok.some, length_order order); given = each_order (λ l. Table (length l - 1) (λ k. get_or l k 0)) order ok.given }

-- What the entrance admits and what the last stage lets go do not depend on the order of the stages.
pub path_order_lem : (tables others : List (List ℕ)) → Permᴰ tables others → Stages tables → (d q : Limit) (a : ℕ → ℕ) (t : ℕ)
    → (path_admitted tables d q a t ≡ path_admitted others d q a t) × (path_departed tables d q a t ≡ path_departed others d q a t)
path_order_lem tables others order ok d q a t =
    let fine : Stages others = stages_order tables others order ok in
    let same : merged tables ≡ merged others = merged_order order in (
      path-admitted tables ok d q a t ∙ ap (λ (l : List ℕ). admitted (windows (envelope_of l)) d q a t) same ∙ sym (path-admitted others fine d q a t),
      path-departed tables ok d q a t ∙ ap (λ (l : List ℕ). departed (windows (envelope_of l)) d q a t) same ∙ sym (path-departed others fine d q a t),
    )
