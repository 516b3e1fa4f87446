-- A size that C is told is the one that any regulator needs.
use mathlib.Core.Path.{◌≡◌, refl}
use mathlib.Core.List.{List}
use Prim.Native.Nat.{ℕ, zero, suc}
use native.Mathlib.Omega.{arith}
use borrow.Author.Tests.{le-leb}
use Rattle.size_calculus.specs.Smallest.{Smallest, smallest}
use Rattle.size_calculus.proofs.Smallest.{smallest_found}
use Rattle.exports.specs.NumberedSizes.{size_of, buffer_size_of, delay_size_of}
use Rattle.size.specs.Size.{sized, size_answer}
use Rattle.size.specs.SizeSays.{BufferFound, BufferNotFound, DelayFound, DelayNotFound}
use Rattle.size.specs.declared.LimitLoss.{LimitLoss}
use Rattle.size.specs.Size.{SizeAnswer}
use Rattle.size.specs.Size as size
use Rattle.size.proofs.SizeSays.{refused_some, buffer_found, buffer_not_found, delay_found, delay_not_found}
use Rattle.c_promises.specs.SizesTold.{Blank, SizesTold}

-- What C gets with found 1 is a limit that was found, and with found 0 and no number one that was not.
told_found : (answer other : SizeAnswer) → answer ≡ other → (size_of answer).found ≡ 1 → (P : ℕ → ℕ → Type 0) → ((s : LimitLoss) → size.Found s ≡ other → P s.limit s.lost)
    → P (size_of answer).limit (size_of answer).lost
unfolding size_of
told_found (size.Found s) other e one P says = says s e
told_found (size.NotFound s) other e one P says = absurd (omega arith)
told_found (size.Refused n) other e one P says = absurd (omega arith)

told_none : (answer other : SizeAnswer) → answer ≡ other → ((n : ℕ) → size.Refused n ≡ other → n ≡ 0 → ⊥) → (size_of answer).number ≡ 0 → (size_of answer).found ≡ 0
    → (P : ℕ → ℕ → Type 0) → ((s : LimitLoss) → size.NotFound s ≡ other → P s.limit s.lost) → P (size_of answer).limit (size_of answer).lost
unfolding size_of
told_none (size.Found s) other e numbered none found P says = absurd (omega arith)
told_none (size.NotFound s) other e numbered none found P says = says s e
told_none (size.Refused n) other e numbered none found P says = absurd (numbered n e none)

-- Where there is a smallest limit, it is found.
told_there : (k most : ℕ) (loss : ℕ → ℕ) (N limit : ℕ) → Smallest most loss N limit → (size_of (size_answer k most loss N)).number ≡ 0 → (size_of (size_answer k most loss N)).found ≡ 1
unfolding size_answer sized size_of
told_there zero most loss N limit this none = rw (le-leb (smallest most loss N) most (omega (arith, smallest_found most loss N limit this, this.within))) refl
told_there (suc k) most loss N limit this none = absurd (omega arith)

told_blank : (answer : SizeAnswer) → ((size_of answer).number ≡ 0 → ⊥) → Blank (size_of answer)
unfolding size_of
told_blank (size.Found s) numbered = absurd (numbered refl)
told_blank (size.NotFound s) numbered = absurd (numbered refl)
told_blank (size.Refused n) numbered = (refl, refl, refl)

-- The theorem.
pub sizes_told : (table trace : List ℕ) (N : ℕ) → SizesTold table trace N
unfolding buffer_size_of delay_size_of
sizes_told table trace N =
    record {
      buffer = λ d none one. told_found _ _ refl one (BufferFound table d trace N) (buffer_found table d trace N);
      no_buffer = λ d none zero. told_none _ _ refl (refused_some _ _ _ _) none zero (BufferNotFound table d trace N) (buffer_not_found table d trace N);
      delay = λ q none one. told_found _ _ refl one (DelayFound table q trace N) (delay_found table q trace N);
      buffer_there = λ d q none this. told_there _ _ _ N q this none;
      delay_there = λ q d none this. told_there _ _ _ N d this none;
      buffer_refused = λ d. told_blank _;
      delay_refused = λ q. told_blank _;
      no-delay = λ q none zero. told_none _ _ refl (refused_some _ _ _ _) none zero (DelayNotFound table q trace N) (delay_not_found table q trace N);
    }
