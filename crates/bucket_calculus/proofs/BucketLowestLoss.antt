-- Demand 3 for the device of buckets: its pair is permitted, and no permitted pair is above it.
use mathlib.Core.Path.{◌≡◌, sym, fun_ext, subst₂, ◌∙◌}
use Prim.Native.Nat.{ℕ, ◌-◌, ◌≤◌}
use native.Mathlib.Omega.{arith}
use Rattle.calculus.specs.Numbers.Limit.{Limit, at_most}
use Rattle.calculus.specs.Envelopes.Envelope.{windows}
use Rattle.calculus.specs.Regulators.Clipper.{arrived}
use Rattle.calculus.specs.Losses.Permitted.{Permitted, Quiet}
use Rattle.bucket_calculus.specs.Buckets.{bucket_envelope, device_after, device_loss}
use Rattle.calculus.proofs.Regulators.Regulator.{nothing-admitted}
use Rattle.calculus.proofs.Losses.LowestLoss.{ours_permitted, departed_most, admitted_most}
use Rattle.bucket_calculus.proofs.Buckets.{bucket_closed}
use Rattle.bucket_calculus.proofs.Device.{device_follows}

module _ (last : ℕ) (rate burst : ℕ → ℕ) (d q : Limit) (a : ℕ → ℕ) (T : ℕ) where
  abbrev F : ℕ → ℕ → ℕ
  F = windows (bucket_envelope last rate burst)

  -- Its pair is permitted for the bucket envelope, whatever the trace ends in.
  pub device_permitted : Permitted F d q a T (λ t. (device_after last rate burst d q a t).admitted) (λ t. (device_after last rate burst d q a t).departed)
  device_permitted =
      subst₂ (λ (u v : ℕ → ℕ). Permitted F d q a T u v) (sym (fun_ext (λ t. (device_follows last rate burst d q a t).0)))
      (sym (fun_ext (λ t. (device_follows last rate burst d q a t).1))) (ours_permitted F (bucket_closed last rate burst) d q a T)

  -- With a buffer limit of 0 it never admits anything.
  pub device_nothing : q ≡ at_most 0 → (t : ℕ) → (device_after last rate burst d q a t).admitted ≡ 0
  device_nothing e t = (device_follows last rate burst d q a t).0 ∙ nothing-admitted F (bucket_closed last rate burst) d q a e t

  -- Where d is none or the trace ends in at least d empty slots, no permitted pair has more admitted or departed, or loses less.
  pub device-lowest : Quiet d a T → (u v : ℕ → ℕ) → Permitted F d q a T u v → (t : ℕ) → t ≤ T
      → (u t ≤ (device_after last rate burst d q a t).admitted) × (v t ≤ (device_after last rate burst d q a t).departed)
      × (device_loss last rate burst d q a t ≤ arrived a t - u t)
  unfolding device_loss
  device-lowest quiet u v permitted t p =
      let (x, y, l) = device_follows last rate burst d q a t in
      let most = admitted_most F (bucket_closed last rate burst) d q a T u v permitted quiet t p in
      (omega arith, omega (arith, departed_most F (bucket_closed last rate burst) d q a T u v permitted t p), omega arith)
