-- What a port is offered in a slot, as a table: a row for each stream, with its packets by due slot. Each slot's table is worked out from that
-- of the slot before, so that an example of several slots computes in few steps.
use mathlib.Core.Path.{◌≡◌, sym, ap, ◌∙◌}
use mathlib.Core.List.{List, []}
use Prim.Native.Nat.{ℕ, zero, suc, ◌+◌, ◌≤◌, ◌<◌}
use native.Mathlib.Decide.{dec_le}
use native.Mathlib.Omega.{arith}
use lib.ListN.{length, get_or, get_or-eq_default}
use Rattle.calculus.specs.Numbers.Lists.{list_of}
use Rattle.calculus.proofs.Numbers.Lists.{length-list_of, list_of_at, list_of_cong}
use Rattle.port_calculus.specs.Port.{sum_below, sends, keeps, coming, offered, sent, sent_of}
use Rattle.port_calculus.proofs.Sums.{sum_below_cong, sum_below_stops}
use Rattle.port_calculus.proofs.Waiting.{sends_none, sends_cong, keeps_cong, offered_later}

unfoldable pub table : List (List ℕ) → ℕ → ℕ → ℕ
table rows u i = get_or (get_or rows i []) u 0

module _ (n : ℕ) (D : ℕ → ℕ) (a : ℕ → ℕ → ℕ) (c m : ℕ) where
  -- The table q is what is offered in slot t, and all of that is due before slot m.
  pub record OfferedTable (t : ℕ) (q : List (List ℕ)) : Type 0 where
    pub near : (i : ℕ) → i < n → t + D i < m
    pub rows : (i : ℕ) → i < n → list_of (λ u. offered n D a c t u i) m ≡ get_or q i []

  pub offered-table : (t : ℕ) (q : List (List ℕ)) → OfferedTable t q → (u i : ℕ) → i < n → offered n D a c t u i ≡ table q u i
  unfolding table
  offered-table t q o u i p =
      elim (dec_le (suc u) m) [
        | yes r ↦ sym (list_of_at (λ u. offered n D a c t u i) m u r) ∙ ap (λ (l : List ℕ). get_or l u 0) (o.rows i p)
        | no r ↦ offered_later n D a c t u i (omega (arith, o.near i p))
            ∙ sym (get_or-eq_default (get_or q i []) 0 (omega (arith, ap length (o.rows i p), length-list_of (λ u. offered n D a c t u i) m)))
      ]

  -- Nothing is offered in slot 0.
  pub offered_none : (q : List (List ℕ)) → ((i : ℕ) → i < n → D i < m) → ((i : ℕ) → i < n → list_of (λ u. 0) m ≡ get_or q i []) → OfferedTable 0 q
  unfolding offered
  offered_none q near same = record { near = λ i p. omega (arith, near i p); rows = same }

  pub offered_next : (t : ℕ) (q r : List (List ℕ)) → OfferedTable t q
      → ((i : ℕ) → i < n → suc t + D i < m)
      → ((i : ℕ) → i < n → list_of (λ u. keeps n c (table q) u i + coming D a (suc t) u i) m ≡ get_or r i [])
      → OfferedTable (suc t) r
  unfolding offered
  offered_next t q r o near same =
      record {
        near = near;
        rows = λ i p. list_of_cong _ _ m (λ u _.
            ap (λ (x : ℕ). x + coming D a (suc t) u i) (keeps_cong n c (offered n D a c t) (table q) (offered-table t q o) u i p))
            ∙ same i p;
      }

  -- What is sent of a stream in a slot is what is sent by the slot's table.
  pub sent_of-table : (t i : ℕ) (q : List (List ℕ)) → OfferedTable t q → m ≤ t + 65 → i < n
      → sent_of n D a c i t ≡ sum_below (λ u. sends n c (table q) u i) m
  unfolding sent_of sent
  sent_of-table t i q o p r =
      sum_below_stops (λ u. sends n c (offered n D a c t) u i) m (t + 65) p (λ u s _.
      sends_none n c (offered n D a c t) u i (offered_later n D a c t u i (omega (arith, o.near i r))))
      ∙ sum_below_cong _ _ m (λ u _. sends_cong n c (offered n D a c t) (table q) (offered-table t q o) u i r)

-- what holds of streams 0 and 1 holds of each of two streams
pub both_streams : (P : ℕ → Type 0) → P 0 → P 1 → (i : ℕ) → i < 2 → P i
both_streams P x y zero p = x
both_streams P x y (suc zero) p = y
both_streams P x y (suc (suc i)) p = absurd (omega arith)
