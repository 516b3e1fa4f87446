-- The first slot that lacks a link, and what it lacks; there is none exactly where both links hold in every slot.
use mathlib.Core.Path.{◌≡◌, refl}
use mathlib.Core.Bool.{Bool, true, false, cond}
use Prim.Native.Nat.{ℕ, zero, suc, ◌≤◌, ◌<◌}
use native.Mathlib.Decide.{dec_le}
use native.Mathlib.Omega.{arith}
use lib.Dec.{T, ltb, ltb→lt, lt→ltb}
use Rattle.calculus.specs.Numbers.Limit.{Limit}
use Rattle.calculus.specs.Numbers.Least.{least_of, least}
use Rattle.calculus.specs.Numbers.FirstWhere.{first_where}
use Rattle.calculus.proofs.Numbers.FirstWhere.{first_where_below, first_where-holds, first_where-is}
use Rattle.certificate_calculus.specs.Certificate.{Links, AdmittedLink, DepartedLink}
use Rattle.certificate_calculus.specs.LinkTests.{admitted_holds, departed_holds}
use Rattle.certificate_calculus.specs.LackingLinks.{lack_at, lacking_slot, Lacks, admitted_fails, departed_fails, LacksFirst}
use Rattle.certificate_calculus.proofs.LackBy.{lack_by}
use Rattle.certificate_calculus.proofs.LinkTests.{admitted_read, admitted-made, departed_read, departed-made}

module _ (f : ℕ → ℕ) (d q : Limit) (a : ℕ → ℕ) (N : ℕ) (u v : ℕ → ℕ) (links : Links) where
  abbrev Admitted : ℕ → Type 0
  Admitted t = AdmittedLink f d q a N u t (links.admitted_from t) (links.admitted_by t)

  abbrev Departed : ℕ → Type 0
  Departed t = DepartedLink f u v t (links.departed_from t)

  abbrev admits : ℕ → Bool
  admits t = admitted_holds f d q a N u t (links.admitted_from t) (links.admitted_by t)

  abbrev departs : ℕ → Bool
  departs t = departed_holds f u v t (links.departed_from t)

  abbrev lack : ℕ → ℕ
  lack = lack_at f d q a N u v links

  abbrev slot : ℕ
  slot = lacking_slot f d q a N u v links

  -- A slot lacks nothing exactly where both links hold.
  lack_none : (t : ℕ) → lack t ≡ 0 → Admitted t × Departed t
  unfolding lack_at
  lack_none t = by (admits t) (departs t) (admitted_read f d q a N u t _ _) (departed_read f u v t _)
    where
      by : (b c : Bool) {A B : Type 0} → (T b → A) → (T c → B) → lack_by b c ≡ 0 → A × B
      by true true one other e = (one tt, other tt)
      by true false one other e = absurd (omega arith)
      by false true one other e = absurd (omega arith)
      by false false one other e = absurd (omega arith)

  none_lacks : (t : ℕ) → Admitted t → Departed t → lack t ≡ 0
  unfolding lack_at
  none_lacks t one other = by (admits t) (departs t) (admitted-made f d q a N u t _ _ one) (departed-made f u v t _ other)
    where
      by : (b c : Bool) → T b → T c → lack_by b c ≡ 0
      by true true h k = refl
      by true false h k = absurd k
      by false c h k = absurd h

  -- Else it lacks the first that does not.
  lack_some : (t : ℕ) → 0 < lack t → Lacks f d q a N u v links t (lack t)
  unfolding lack_at
  lack_some t = by (admits t) (departs t) (admitted_read f d q a N u t _ _) (admitted-made f d q a N u t _ _) (departed-made f u v t _)
    where
      by : (b c : Bool) → (T b → Admitted t) → (Admitted t → T b) → (Departed t → T c) → 0 < lack_by b c
          → Lacks f d q a N u v links t (lack_by b c)
      by true true read made other p = absurd (omega arith)
      by true false read made other p = departed_fails (read tt) other
      by false c read made other p = admitted_fails made

  -- A slot is named only where there is one.
  slot_low : slot ≤ N → 1 ≤ N
  unfolding lacking_slot
  slot_low p = by N (λ t. ltb 0 (lack t)) p
    where
      same : (b : Bool) → ◌≡◌ {A = ℕ} (cond b 1 1) 1
      same true = refl
      same false = refl

      by : (n : ℕ) (test : ℕ → Bool) → first_where 1 n test ≤ n → 1 ≤ n
      by zero test p = absurd (unfold first_where least least_of in omega (arith, same (test 1)))
      by (suc n) test p = omega arith

  -- No slot lacks a link exactly where both hold in all of them.
  pub slot_none : N < slot → (t : ℕ) → 1 ≤ t → t ≤ N → Admitted t × Departed t
  unfolding lacking_slot
  slot_none beyond t p within =
      elim (dec_le (lack t) 0) [
        | yes low ↦ lack_none t (omega arith)
        | no some ↦ absurd (omega (arith, first_where_below 1 N (λ t. ltb 0 (lack t)) t p within (lt→ltb 0 (lack t) (omega arith))))
      ]

  pub slot_beyond : ((t : ℕ) → 1 ≤ t → t ≤ N → lack t ≡ 0) → N < slot
  unfolding lacking_slot
  slot_beyond none =
      elim (dec_le slot N) [
        | yes p ↦ let (low, there) = first_where-holds 1 N (λ t. ltb 0 (lack t)) (slot_low p) p in
            absurd (omega (arith, ltb→lt 0 (lack slot) there, none slot low p))
        | no p ↦ omega arith
      ]

  pub none-slot : ((t : ℕ) → 1 ≤ t → t ≤ N → Admitted t × Departed t) → N < slot
  none-slot has = slot_beyond (λ t p within. none_lacks t (has t p within).0 (has t p within).1)

  -- The slot that is named is one that lacks a link where none before it does ..
  pub slot_here : (t : ℕ) → 1 ≤ t → t ≤ N → 0 < lack t → ((s : ℕ) → 1 ≤ s → s < t → lack s ≡ 0) → slot ≡ t
  unfolding lacking_slot
  slot_here t p within some none =
      first_where-is 1 N (λ t. ltb 0 (lack t)) t p within (lt→ltb 0 (lack t) some) (λ s low early there. omega (arith, ltb→lt 0 (lack s) there, none s low early))

  -- .. and such a slot.
  pub slot-first : slot ≤ N → LacksFirst f d q a N u v links slot (lack slot)
  unfolding lacking_slot
  slot-first p =
      let (low, there) = first_where-holds 1 N (λ t. ltb 0 (lack t)) (slot_low p) p in
      record {
        within = (low, p);
        lacks = lack_some slot (ltb→lt 0 (lack slot) there);
        before = λ s one early.
            elim (dec_le (lack s) 0) [
              | yes none ↦ lack_none s (omega arith)
              | no some ↦ absurd (omega (arith, first_where_below 1 N (λ t. ltb 0 (lack t)) s one (omega arith) (lt→ltb 0 (lack s) (omega arith))))
            ];
      }
