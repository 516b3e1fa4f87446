-- The links of a certificate, written down slot after slot.
use mathlib.Core.Path.{◌≡◌, refl, ap, ◌∙◌}
use mathlib.Core.Bool.{Bool, true, false, cond}
use mathlib.Core.List.{List}
use Prim.Native.Nat.{ℕ, suc, ◌+◌, ◌≤◌, ◌<◌}
use native.Mathlib.Omega.{arith}
use native.Mathlib.Numerals.{add-one}
use lib.Dec.{eqb}
use lib.ListN.{length, get_or, take, set, length-set}
use Rattle.calculus.specs.Numbers.Limit.{Limit, delay_limit, buffer_limit}
use Rattle.calculus.specs.Numbers.Lists.{list_of}
use Rattle.calculus.specs.Regulators.Trace.{slot_totals}
use Rattle.calculus.proofs.Numbers.Lists.{list_of_filled, list_of_full}
use Rattle.certificate_calculus.specs.FoundLinks.{found_from, found_mark, found_departed, found_links, AdmittedFound, departed_first}
use Rattle.certificate_calculus.proofs.CertificateFound.{certificate_found}
use Rattle.found_links.specs.Given.{Listed}
use Rattle.found_links.specs.FoundRows.{FoundRows, Earliest}
use Rattle.found_links.proofs.SameLoss.{SameLoss, same_first, same_next, same_start}

-- A list that is filled with h of the slots 1 to t.
pub record FilledTo (h : ℕ → ℕ) (list : List ℕ) (t : ℕ) : Type 0 where
  pub done : take t list ≡ list_of (λ k. h (suc k)) t

module _ (h : ℕ → ℕ) (T : ℕ) (list : List ℕ) (long : length list ≡ T) where
  filled-first : FilledTo h list 0
  unfolding list_of
  filled-first = record { done = refl }

  filled_next : (t v : ℕ) → FilledTo h list t → t < T → v ≡ h (t + 1) → FilledTo h (set list t v) (t + 1)
  filled_next t v made p e = record { done = list_of_filled (λ k. h (suc k)) list t v (omega arith) made.done (e ∙ ap h (add-one t)) }

  filled-last : (t : ℕ) → FilledTo h list t → t ≤ T → T ≤ t → list ≡ slot_totals h T
  unfolding slot_totals
  filled-last t made p r = list_of_full (λ k. h (suc k)) list T t p r long made.done

-- All three lists, and the earliest slot with the loss of slot t.
pub record Filling (d q T : ℕ) (admitted lost departed starts from by gone : List ℕ) (same t : ℕ) : Type 0 where
  pub within : t ≤ T
  pub low : same ≤ t
  pub long_from : length from ≡ T
  pub long_by : length by ≡ T
  pub long_gone : length gone ≡ T
  pub filled : (f a u v : ℕ → ℕ) → FoundRows f (delay_limit d) (buffer_limit q) a T u v admitted lost departed starts
      → SameLoss a u t same × FilledTo (found_from f (delay_limit d) (buffer_limit q) a T u) from t
      × FilledTo (found_mark f (delay_limit d) (buffer_limit q) a T u) by t × FilledTo (found_departed f u v) gone t

module _ (d q T : ℕ) (admitted lost departed starts from by gone : List ℕ) where
  abbrev D : Limit
  D = delay_limit d

  abbrev Q : Limit
  Q = buffer_limit q

  abbrev Rows : (ℕ → ℕ) → (ℕ → ℕ) → (ℕ → ℕ) → (ℕ → ℕ) → Type 0
  Rows f a u v = FoundRows f D Q a T u v admitted lost departed starts

  pub filling-first : length from ≡ T → length by ≡ T → length gone ≡ T → Filling d q T admitted lost departed starts from by gone 0 0
  filling-first lf lb lg =
      record {
        within = omega arith;
        low = omega arith;
        long_from = lf;
        long_by = lb;
        long_gone = lg;
        filled = λ f a u v rows. (same_first a u, filled-first _ T from lf, filled-first _ T by lb, filled-first _ T gone lg);
      }

  module _ (same t : ℕ) (made : Filling d q T admitted lost departed starts from by gone same t) where
    -- the earliest slot with the next slot's loss
    abbrev after : ℕ
    after = cond (eqb (get_or lost same 0) (get_or lost (t + 1) 0)) same (t + 1)

    pub after_low : (next : ℕ) → next ≡ after → next ≤ t + 1
    after_low next e = either (eqb (get_or lost same 0) (get_or lost (t + 1) 0)) e
      where
        either : (b : Bool) → next ≡ cond b same (t + 1) → next ≤ t + 1
        either true e = omega (arith, made.low)
        either false e = omega arith

    -- A slot more, whose admitted link is the one that is found.
    pub filling_next : (next x m g : ℕ) → t < T → next ≡ after
        → ((f a u v : ℕ → ℕ) → Rows f a u v → Earliest f D Q a T u 1 (t + 1) next → AdmittedFound f D Q a T u (t + 1) x m) → g ≡ get_or starts (t + 1) 0
        → Filling d q T admitted lost departed starts (set from t x) (set by t m) (set gone t g) next (t + 1)
    filling_next next x m g inside e link left =
        record {
          within = omega arith;
          low = after_low next e;
          long_from = length-set from t x ∙ made.long_from;
          long_by = length-set by t m ∙ made.long_by;
          long_gone = length-set gone t g ∙ made.long_gone;
          filled = λ f a u v rows.
              let (now, one, two, three) = made.filled f a u v rows in
              let then = same_next f D Q a T u v admitted lost departed starts rows t same made.low now next inside e in
              let first = same_start f D Q a T u v admitted lost departed starts rows (t + 1) next (after_low next e) then (omega arith) in
              let (admits, departs) = certificate_found f D Q a T u v (t + 1) x m g in
              let (from_is, by-is) = admits.0 (link f a u v rows first) in
              let gone-is = departs.0 (rw left (departed_first (rows.first (t + 1) (omega arith)))) in (
                then,
                filled_next _ T from made.long_from t x one inside from_is,
                filled_next _ T by made.long_by t m two inside by-is,
                filled_next _ T gone made.long_gone t g three inside gone-is,
              );
        }

    pub filling-last : T ≤ t → (f a u v : ℕ → ℕ) → Rows f a u v → Listed (found_links f D Q a T u v) T from by gone
    filling-last end f a u v rows =
        let (_, one, two, three) = made.filled f a u v rows in (
          filled-last _ T from made.long_from t one made.within end,
          filled-last _ T by made.long_by t two made.within end,
          filled-last _ T gone made.long_gone t three made.within end,
        )
