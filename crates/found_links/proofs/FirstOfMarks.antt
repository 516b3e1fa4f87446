-- The first link of a slot, from the earliest of each mark: the earliest of the three, then the lowest mark.
use mathlib.Core.Path.{◌≡◌, refl}
use mathlib.Core.Logic.{◌⊎◌, inl, inr}
use Prim.Native.Nat.{ℕ, ◌≤◌, ◌<◌}
use native.Mathlib.Omega.{arith}
use Rattle.calculus.specs.Numbers.Limit.{Limit}
use Rattle.certificate_calculus.specs.Certificate.{Usable, by_arrivals, by_delay, by_buffer, AdmittedLink}
use Rattle.certificate_calculus.specs.FoundLinks.{AdmittedFound, admitted_first, admitted_none}
use Rattle.found_links.specs.FoundRows.{Earliest}

module _ (f : ℕ → ℕ) (d q : Limit) (a : ℕ → ℕ) (T : ℕ) (u : ℕ → ℕ) (t x y z : ℕ)
    (arrivals : Earliest f d q a T u 1 t x) (delay : Earliest f d q a T u 2 t y) (buffer : Earliest f d q a T u 3 t z) where
  abbrev Link : ℕ → ℕ → Type 0
  Link s m = AdmittedLink f d q a T u t s m

  -- A link is of one of the marks, and starts no earlier than the earliest of it.
  marked : (s m : ℕ) → Link s m → ((m ≡ 1) × (x ≤ s)) ⊎ (((m ≡ 2) × (y ≤ s)) ⊎ ((m ≡ 3) × (z ≤ s)))
  marked s m link = by link link.amounts
    where
      by : {m p : ℕ} → Link s m → Usable f d q a T s t p m → ((m ≡ 1) × (x ≤ s)) ⊎ (((m ≡ 2) × (y ≤ s)) ⊎ ((m ≡ 3) × (z ≤ s)))
      by link (by_arrivals e) = inl (refl, arrivals.earliest s link)
      by link (by_delay n limit due e) = inr (inl (refl, delay.earliest s link))
      by link (by_buffer n limit e) = inr (inr (refl, buffer.earliest s link))

  -- No link starts before the earliest of every mark.
  after : (e : ℕ) → e ≤ x → e ≤ y → e ≤ z → (s m : ℕ) → Link s m → e ≤ s
  after e ex ey ez s m link = elim (marked s m link) [ inl (_, p) ↦ omega arith | inr (inl (_, p)) ↦ omega arith | inr (inr (_, p)) ↦ omega arith ]

  pub none_found : t ≤ x → t ≤ y → t ≤ z → AdmittedFound f d q a T u t 0 0
  none_found tx ty tz = admitted_none (λ s m link. omega (arith, after t tx ty tz s m link, link.earlier))

  pub arrivals_found : x < t → x ≤ y → x ≤ z → AdmittedFound f d q a T u t x 1
  arrivals_found low xy xz =
      admitted_first (record {
        link = arrivals.link low;
        earliest = after x (omega arith) xy xz;
        lowest = λ m link. elim (marked x m link) [ inl (e, _) ↦ omega arith | inr (inl (e, _)) ↦ omega arith | inr (inr (e, _)) ↦ omega arith ];
      })

  pub delay_found : y < t → y < x → y ≤ z → AdmittedFound f d q a T u t y 2
  delay_found low yx yz =
      admitted_first (record {
        link = delay.link low;
        earliest = after y (omega arith) (omega arith) yz;
        lowest = λ m link. elim (marked y m link) [ inl (e, p) ↦ omega arith | inr (inl (e, _)) ↦ omega arith | inr (inr (e, _)) ↦ omega arith ];
      })

  pub buffer_found : z < t → z < x → z < y → AdmittedFound f d q a T u t z 3
  buffer_found low zx zy =
      admitted_first (record {
        link = buffer.link low;
        earliest = after z (omega arith) (omega arith) (omega arith);
        lowest = λ m link. elim (marked z m link) [ inl (e, p) ↦ omega arith | inr (inl (e, p)) ↦ omega arith | inr (inr (e, _)) ↦ omega arith ];
      })
