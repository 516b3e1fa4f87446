-- `arrivals_of` places the bursts into a list of T slots for an accepted file.
use mathlib.Core.Path.{◌≡◌, sym, ◌∙◌}
use native.Mathlib.Omega.{arith}
use lib.ListN.{length}
use borrow.Author.Rules.{rules}
use Rattle.orders.proofs.Given.{number_of_is_ok, number_of_not_ok}
use Rattle.stream.specs.Format.{slots, file_trace}
use Rattle.stream.specs.Refusals.{file_refusal}
use Rattle.stream.proofs.FileJudged.{length-trace}
use Rattle.stream.proofs.PlacedBurst.{arrived_all}
use Rattle.stream.proofs.HandedFile.{handed_refused, handed_other, handed_over}
use Rattle.stream.proofs.read.arrivals_of.Goals as goal
use Rattle.stream.proofs.read.arrivals_of.Goals.{else-is_ok-via-then-is_ok+else-arrivals-slots_of, else-is_ok-via-else-is_ok}

pub returns-then-arrivals-slots_of : goal.returns-then-arrivals-slots_of
returns-then-arrivals-slots_of c =
    let z = c.args in
    let long : length z.arrivals.now ≡ slots z.file.now = omega (arith, c.slots_of.ensures) in
    c.place.ensures ∙ arrived_all z.file.now (length z.arrivals.now) long
    ∙ handed_over (file_refusal z.file.now) (file_trace z.file.now) z.arrivals.now
    (number_of_is_ok c.file_refusal.result _ c.file_refusal.ensures (search rules)) (long ∙ sym (length-trace z.file.now))

pub returns-else-is_ok : goal.returns-else-is_ok
returns-else-is_ok c =
    let z = c.args in
    elim c.else-is_ok.branch [
      | else-is_ok-via-then-is_ok+else-arrivals-slots_of w ↦ handed_other (file_refusal z.file.now) (file_trace z.file.now) z.arrivals.now
          (number_of_is_ok c.file_refusal.result _ c.file_refusal.ensures (search rules)) (λ e. omega (arith, e, length-trace z.file.now, w.slots_of.ensures))
      | else-is_ok-via-else-is_ok w ↦ handed_refused (file_refusal z.file.now) (file_trace z.file.now) z.arrivals.now
          (number_of_not_ok c.file_refusal.result _ c.file_refusal.ensures (search rules))
    ]
