-- Demand 3 for regulators in a row: the pair of the entrance and the last stage is permitted for every stage's envelope, and no pair
-- whose departures keep every stage's envelope is above it.
use mathlib.Core.Path.{◌≡◌, sym, fun_ext, subst₂}
use mathlib.Core.List.{List}
use Prim.Native.Nat.{ℕ, suc, ◌+◌, ◌-◌, ◌≤◌, ◌<◌}
use native.Mathlib.Omega.{arith}
use lib.ListN.{length}
use Rattle.calculus.specs.Numbers.Limit.{Limit, at_most}
use Rattle.calculus.specs.Envelopes.Closure.{KeepsWindows}
use Rattle.calculus.specs.Envelopes.Envelope.{windows}
use Rattle.calculus.specs.Regulators.Clipper.{arrived, admitted}
use Rattle.calculus.specs.Regulators.Ahead.{ahead, ahead_admitted}
use Rattle.calculus.specs.Losses.Permitted.{Permitted, Quiet}
use Rattle.calculus.specs.Regulators.Rows.{envelope_of}
use Rattle.path_calculus.specs.Path.{Stages, stage_envelope, path_admitted, path_departed, path_lost, PathPermitted}
use Rattle.path_calculus.specs.Merged.{merged}
use Rattle.calculus.proofs.Regulators.Ahead.{admitted-ahead}
use Rattle.calculus.proofs.Losses.Permitted.{permitted-bound, permitted_with}
use Rattle.calculus.proofs.Losses.AlsoPermitted.{rules_permitted, permitted_rules}
use Rattle.calculus.proofs.Losses.LowestLoss.{ours_permitted, departed_most, admitted_most}
use Rattle.path_calculus.proofs.PathEnvelope.{merged_closed, merged-least, stages-kept}
use Rattle.path_calculus.proofs.PathStages.{path-admitted, path-departed}

-- The rules of document 01, with every stage's envelope, are all that is asked of a pair on a path: from them it is permitted,
pub path_rules_permitted : (tables : List (List ℕ)) (d q : Limit) (a : ℕ → ℕ) (T : ℕ) (u v : ℕ → ℕ) → (u 0 ≡ 0) × (v 0 ≡ 0)
    → ((t : ℕ) → t < T → (u t ≤ u (suc t)) × (v t ≤ v (suc t)) × (u (suc t) ≤ u t + a (suc t)))
    → ((t : ℕ) → t ≤ T → v t ≤ u t) → ((i : ℕ) → i < length tables → (s t : ℕ) → s < t → t ≤ T → v t ≤ v s + stage_envelope tables i (t - s))
    → ((n : ℕ) → q ≡ at_most n → (t : ℕ) → t < T → u (suc t) ≤ v t + n) → ((n : ℕ) → d ≡ at_most n → (t : ℕ) → t + n ≤ T → u t ≤ v (t + n))
    → PathPermitted tables d q a T u v
unfolding PathPermitted windows
path_rules_permitted tables d q a T u v starts slot under keeps buffered timely i p =
    rules_permitted (windows (stage_envelope tables i)) d q a T u v starts slot under (keeps i p) buffered timely

module _ (tables : List (List ℕ)) (ok : Stages tables) (d q : Limit) (a : ℕ → ℕ) (T : ℕ) where
  -- the merged table's envelope
  abbrev F : ℕ → ℕ → ℕ
  F = windows (envelope_of (merged tables))

  -- A pair is permitted on the path exactly where it is permitted for the merged table.
  pub path_permitted : (u v : ℕ → ℕ) → PathPermitted tables d q a T u v → Permitted F d q a T u v
  unfolding PathPermitted KeepsWindows windows
  path_permitted u v permitted =
      permitted_with _ d q a T u v (permitted 0 ok.some) F
      (λ s t st t_t. omega (arith, stages-kept tables ok T v (λ i p. permitted-bound (windows (stage_envelope tables i)) d q a T u v (permitted i p)) s t (omega arith) t_t))

  pub permitted_path : (u v : ℕ → ℕ) → Permitted F d q a T u v → PathPermitted tables d q a T u v
  unfolding PathPermitted windows
  permitted_path u v permitted i p =
      permitted_with F d q a T u v permitted (windows (stage_envelope tables i))
      (λ s t st t_t. omega (arith, permitted.envelope s t st t_t, merged-least tables ok i p (t - s)))

  -- and a permitted pair keeps them.
  pub path_permitted_rules : (u v : ℕ → ℕ) → PathPermitted tables d q a T u v
      → ((u 0 ≡ 0) × (v 0 ≡ 0)) × ((t : ℕ) → t < T → (u t ≤ u (suc t)) × (v t ≤ v (suc t)) × (u (suc t) ≤ u t + a (suc t)))
      × ((t : ℕ) → t ≤ T → v t ≤ u t) × ((i : ℕ) → i < length tables → (s t : ℕ) → s < t → t ≤ T → v t ≤ v s + stage_envelope tables i (t - s))
      × ((n : ℕ) → q ≡ at_most n → (t : ℕ) → t < T → u (suc t) ≤ v t + n) × ((n : ℕ) → d ≡ at_most n → (t : ℕ) → t + n ≤ T → u t ≤ v (t + n))
  unfolding PathPermitted windows
  path_permitted_rules u v permitted =
      let (starts, slot, under, keeps, buffered, timely) = permitted_rules (windows (stage_envelope tables 0)) d q a T u v (permitted 0 ok.some) in
      (starts, slot, under, λ i p. (permitted_rules (windows (stage_envelope tables i)) d q a T u v (permitted i p)).3, buffered, timely)

  -- Our pair is permitted, whatever the trace ends in.
  pub path_ours_permitted : PathPermitted tables d q a T (path_admitted tables d q a) (path_departed tables d q a)
  path_ours_permitted =
      permitted_path _ _
      (subst₂ (λ (u v : ℕ → ℕ). Permitted F d q a T u v) (sym (fun_ext (path-admitted tables ok d q a))) (sym (fun_ext (path-departed tables ok d q a)))
      (ours_permitted F (merged_closed tables ok) d q a T))

  -- What the entrance admits next: the buffer counts from the total that has left the last stage by the slot before.
  pub path_next : (t : ℕ) (w : ℕ → ℕ) → ((k : ℕ) → w k ≡ ahead (path_admitted tables d q a) F t (suc t + k))
      → path_admitted tables d q a (suc t) ≡ ahead_admitted w (path_departed tables d q a t) d q (path_admitted tables d q a t) (a (suc t))
  path_next t w same =
      let same_x : path_admitted tables d q a ≡ admitted F d q a = fun_ext (path-admitted tables ok d q a) in
      rw (same_x, path-departed tables ok d q a t) (admitted-ahead F (merged_closed tables ok) d q a t w (λ k. rw same_x at (same k)))

  -- Where d is none or the trace ends in at least d empty slots, no permitted pair has more admitted or departed, or loses less.
  pub path-lowest : Quiet d a T → (u v : ℕ → ℕ) → PathPermitted tables d q a T u v → (t : ℕ) → t ≤ T
      → (u t ≤ path_admitted tables d q a t) × (v t ≤ path_departed tables d q a t) × (path_lost tables d q a t ≤ arrived a t - u t)
  unfolding path_lost
  path-lowest quiet u v permitted t p =
      let kept = path_permitted u v permitted in
      let most = admitted_most F (merged_closed tables ok) d q a T u v kept quiet t p in
      let same = path-admitted tables ok d q a t in
      (omega arith, omega (arith, departed_most F (merged_closed tables ok) d q a T u v kept t p, path-departed tables ok d q a t), omega arith)
