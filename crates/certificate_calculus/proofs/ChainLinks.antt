-- The found certificate's admitted link to a slot whose deadline lies in the trace is the found chain's (document 02, request 2.8).
use mathlib.Core.Path.{◌≡◌, refl}
use Prim.Native.Nat.{ℕ, ◌+◌, ◌≤◌}
use native.Mathlib.Omega.{arith}
use Rattle.calculus.specs.Numbers.Limit.{Limit, none, at_most}
use Rattle.calculus.specs.Envelopes.Envelope.{windows}
use Rattle.calculus.specs.Regulators.Clipper.{admitted}
use Rattle.chain_calculus.specs.ChainFound.{link_first, link_mark, link_amount}
use Rattle.chain_calculus.specs.ChainDescribed.{Makes}
use Rattle.chain_calculus.proofs.ChainLink.{link_found, first-least, mark-least}
use Rattle.certificate_calculus.specs.Certificate.{AdmittedLink}
use Rattle.certificate_calculus.specs.LinkTests.{due_delay}
use Rattle.certificate_calculus.specs.FoundLinks.{FirstAdmitted, AdmittedFound, admitted_first}
use Rattle.certificate_calculus.proofs.LinkTests.{within_due, amount_usable, usable-amount}
use Rattle.certificate_calculus.proofs.FirstLinks.{admitted_once}

-- Where the deadline lies in the trace, the delay limit binds the slot.
all_due : (d : Limit) (T t : ℕ) → ((n : ℕ) → d ≡ at_most n → t + n ≤ T) → due_delay d T t ≡ d
unfolding due_delay
all_due none T t due = refl
all_due (at_most n) T t due = within_due (at_most n) T t n refl (due n refl)

module _ (f : ℕ → ℕ) (d q : Limit) (a : ℕ → ℕ) (T t : ℕ) (some : 1 ≤ t) (due : (n : ℕ) → d ≡ at_most n → t + n ≤ T) where
  abbrev X : ℕ → ℕ
  X = admitted (windows f) d q a

  -- A link that holds makes X at its last slot out of X at its first.
  link_makes : (s m : ℕ) (link : AdmittedLink f d q a T X t s m) → Makes f d q a m s t link.packets
  link_makes s m link =
      record {
        marked = rw (all_due d T t due) at (usable-amount f d q a T s t link.packets link.amounts);
        made = omega (arith, link.makes);
      }

  chain_first : FirstAdmitted f d q a T X t (link_first f d q a t) (link_mark f d q a t)
  chain_first =
      let (early, amounts, makes) = link_found f d q a t some in
      record {
        link = record {
          earlier = early;
          packets = link_amount f d q a t;
          amounts = amount_usable f d q a T (link_mark f d q a t) (link_first f d q a t) t (link_amount f d q a t) (rw (all_due d T t due) amounts);
          makes = omega arith;
        };
        earliest = λ s m link. first-least f d q a t some m s link.packets link.earlier (link_makes s m link);
        lowest = λ m link. mark-least f d q a t some m link.packets (link_makes (link_first f d q a t) m link);
      }

  pub chain_links : (s m : ℕ) → AdmittedFound f d q a T (admitted (windows f) d q a) t s m → (s ≡ link_first f d q a t) × (m ≡ link_mark f d q a t)
  chain_links s m found = admitted_once f d q a T X t s m (link_first f d q a t) (link_mark f d q a t) found (admitted_first chain_first)
