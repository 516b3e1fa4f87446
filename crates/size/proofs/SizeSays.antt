-- Sizing from the contracts alone: an answered limit is the smallest, and under demand 3's premise the one that any regulator needs.
use mathlib.Core.Path.{◌≡◌, refl, sym, ap, ◌∙◌}
use mathlib.Core.Bool.{Bool, true, false}
use mathlib.Core.List.{List}
use Prim.Native.Nat.{ℕ, zero, suc, ◌≤◌, ◌<◌}
use native.Mathlib.Omega.{arith}
use lib.Dec.{leb}
use borrow.Author.Tests.{leb-true, leb-false}
use Rattle.calculus.proofs.Numbers.Distinct.{zero_one}
use Rattle.size_calculus.specs.Smallest.{Smallest, NoneDoes, smallest, loss_with_buffer, loss_with_delay}
use Rattle.size_calculus.proofs.Smallest.{only, smallest-is, smallest_none}
use Rattle.size_calculus.proofs.AnyRegulator.{buffer_needed, delay_needed, buffer_fewest, delay_fewest}
use Rattle.refusals.specs.Limits.{delay_limit, buffer_limit}
use Rattle.size.specs.Size.{buffer_size_refusal, delay_size_refusal, sized, size_answer}
use Rattle.size.specs.SizeSays.{BufferFound, BufferNotFound, DelayFound, DelayNotFound}
use Rattle.size.specs.declared.LimitLoss.{LimitLoss}
use Rattle.size.specs.Size as answer
use Rattle.size.proofs.SizeSearched.{buffer_closed, delay_closed}

-- An answer that is no refusal has no number.
told_found : (k most : ℕ) (loss : ℕ → ℕ) (N : ℕ) (s : LimitLoss) → answer.Found s ≡ size_answer k most loss N
    → (k ≡ 0) × (answer.Found s ≡ sized (leb (smallest most loss N) most) most loss (smallest most loss N))
unfolding size_answer
told_found zero most loss N s e = (refl, e)
told_found (suc k) most loss N s e = absurd (zero_one cc)

told_none : (k most : ℕ) (loss : ℕ → ℕ) (N : ℕ) (s : LimitLoss) → answer.NotFound s ≡ size_answer k most loss N
    → (k ≡ 0) × (answer.NotFound s ≡ sized (leb (smallest most loss N) most) most loss (smallest most loss N))
unfolding size_answer
told_none zero most loss N s e = (refl, e)
told_none (suc k) most loss N s e = absurd (zero_one cc)

-- A refusal's number is never 0.
sized_answered : (b : Bool) (most : ℕ) (loss : ℕ → ℕ) (limit n : ℕ) → answer.Refused n ≡ sized b most loss limit → ⊥
unfolding sized
sized_answered true most loss limit n e = zero_one cc
sized_answered false most loss limit n e = zero_one cc

pub refused_some : (k most : ℕ) (loss : ℕ → ℕ) (N n : ℕ) → answer.Refused n ≡ size_answer k most loss N → n ≡ 0 → ⊥
unfolding size_answer
refused_some zero most loss N n e none = sized_answered (leb (smallest most loss N) most) most loss (smallest most loss N) n e
refused_some (suc k) most loss N n e none = let same : n ≡ suc k = cc in omega arith

-- A limit that is found passed the test, and one that is not failed it.
sized_found : (b : Bool) (most : ℕ) (loss : ℕ → ℕ) (limit : ℕ) (s : LimitLoss) → answer.Found s ≡ sized b most loss limit
    → (b ≡ true) × (s.limit ≡ limit) × (s.lost ≡ loss limit)
unfolding sized
sized_found true most loss limit s e =
    let same : s ≡ record { limit = limit; lost = loss limit } = cc in
    (refl, ap (λ (z : LimitLoss). z.limit) same, ap (λ (z : LimitLoss). z.lost) same)
sized_found false most loss limit s e = absurd (zero_one cc)

sized_none : (b : Bool) (most : ℕ) (loss : ℕ → ℕ) (limit : ℕ) (s : LimitLoss) → answer.NotFound s ≡ sized b most loss limit
    → (b ≡ false) × (s.limit ≡ most) × (s.lost ≡ loss most)
unfolding sized
sized_none true most loss limit s e = absurd (zero_one cc)
sized_none false most loss limit s e =
    let same : s ≡ record { limit = most; lost = loss most } = cc in
    (refl, ap (λ (z : LimitLoss). z.limit) same, ap (λ (z : LimitLoss). z.lost) same)

-- What is found is the smallest, and where nothing is found there is none.
found-smallest : (k most : ℕ) (loss : ℕ → ℕ) (N : ℕ) (s : LimitLoss) → answer.Found s ≡ size_answer k most loss N
    → (k ≡ 0) × Smallest most loss N s.limit × (s.lost ≡ loss s.limit)
found-smallest k most loss N s e =
    let (none, same) = told_found k most loss N s e in
    let (passed, limit, lost) = sized_found (leb (smallest most loss N) most) most loss (smallest most loss N) s same in
    (none, rw limit (smallest-is most loss N (leb-true (smallest most loss N) most passed)), lost ∙ ap loss (sym limit))

found_none : (k most : ℕ) (loss : ℕ → ℕ) (N : ℕ) (s : LimitLoss) → answer.NotFound s ≡ size_answer k most loss N
    → (k ≡ 0) × NoneDoes most loss N × (s.limit ≡ most) × (s.lost ≡ loss most)
found_none k most loss N s e =
    let (none, same) = told_none k most loss N s e in
    let (failed, limit, lost) = sized_none (leb (smallest most loss N) most) most loss (smallest most loss N) s same in
    (none, smallest_none most loss N (leb-false (smallest most loss N) most failed), limit, lost)

does_more : (most : ℕ) (loss : ℕ → ℕ) (N : ℕ) → NoneDoes most loss N → (n : ℕ) → n ≤ most → N < loss n
unfolding NoneDoes
does_more most loss N none n p = none n p

-- The theorems: buffer limits ..
module _ (table : List ℕ) (d : ℕ) (trace : List ℕ) (N : ℕ) (s : LimitLoss) where
  abbrev loss_b : ℕ → ℕ
  loss_b = loss_with_buffer table (delay_limit d) trace

  pub buffer_found : answer.Found s ≡ size_answer (buffer_size_refusal table d trace) 1000000 loss_b N → BufferFound table d trace N s.limit s.lost
  buffer_found e =
      let (none, asked, told) = found-smallest _ 1000000 loss_b N s e in
      let closed = buffer_closed table d trace none in
      record {
        asked = asked;
        only = λ other theirs. only 1000000 loss_b N other s.limit theirs asked;
        told = told;
        needed = buffer_needed table closed trace (delay_limit d) N s.limit asked;
        fewest = λ quiet n. buffer_fewest table closed trace (delay_limit d) n quiet;
      }

  pub buffer_not_found : answer.NotFound s ≡ size_answer (buffer_size_refusal table d trace) 1000000 loss_b N → BufferNotFound table d trace N s.limit s.lost
  buffer_not_found e =
      let (none, nowhere, limit, told) = found_none _ 1000000 loss_b N s e in
      let closed = buffer_closed table d trace none in
      record {
        greatest = limit;
        told = told;
        none_does = nowhere;
        nobody = λ quiet n p u v permitted. omega (arith, does_more 1000000 loss_b N nowhere n p, buffer_fewest table closed trace (delay_limit d) n quiet u v permitted);
      }

-- .. and delay limits.
module _ (table : List ℕ) (q : ℕ) (trace : List ℕ) (N : ℕ) (s : LimitLoss) where
  abbrev loss_d : ℕ → ℕ
  loss_d = loss_with_delay table (buffer_limit q) trace

  pub delay_found : answer.Found s ≡ size_answer (delay_size_refusal table q trace) 64 loss_d N → DelayFound table q trace N s.limit s.lost
  delay_found e =
      let (none, asked, told) = found-smallest _ 64 loss_d N s e in
      let closed = delay_closed table q trace none in
      record {
        asked = asked;
        only = λ other theirs. only 64 loss_d N other s.limit theirs asked;
        told = told;
        needed = delay_needed table closed trace (buffer_limit q) N s.limit asked;
        fewest = delay_fewest table closed trace (buffer_limit q);
      }

  pub delay_not_found : answer.NotFound s ≡ size_answer (delay_size_refusal table q trace) 64 loss_d N → DelayNotFound table q trace N s.limit s.lost
  delay_not_found e =
      let (none, nowhere, limit, told) = found_none _ 64 loss_d N s e in
      let closed = delay_closed table q trace none in
      record {
        greatest = limit;
        told = told;
        none_does = nowhere;
        nobody = λ n p quiet u v permitted. omega (arith, does_more 64 loss_d N nowhere n p, delay_fewest table closed trace (buffer_limit q) n quiet u v permitted);
      }
