-- `first_lack` tries one slot a turn.
use Rattle.std.proofs.Common.{◌∙◌, sym, arith}
use Rattle.certificate.proofs.FirstLack.{none_first, none_next, answer_here, answer_none, lack_some}
use Rattle.certificate.proofs.held.Rows.first_lack.Goals as goal

pub loop-t-init : goal.loop-t-init
loop-t-init c = (omega arith, λ table trace u v rows. none_first _ _ _ _ _ _ _ _)

pub returns-in-Some : goal.returns-in-Some
returns-in-Some c =
    let l = c.loop-t in
    λ table trace u v rows.
    answer_here _ _ _ _ _ _ _ _ l.t _ (omega arith) (omega arith) (l.invariant.1 table trace u v rows)
    (c.number.ensures ∙ c.in-Some.ensures table trace u v rows) (λ e. lack_some c.in-Some.lack (sym c.number.ensures ∙ e))

pub loop-t-preserved : goal.loop-t-preserved
loop-t-preserved c =
    let l = c.loop-t in (
      omega arith,
      λ table trace u v rows.
          none_next _ _ _ _ _ _ _ _ l.t (l.invariant.1 table trace u v rows) (sym (c.in_default.ensures table trace u v rows)),
    )

pub returns : goal.returns
returns c =
    let l = c.loop-t in
    λ table trace u v rows. answer_none _ _ _ _ _ _ _ _ l.t (omega arith) (l.invariant.1 table trace u v rows)
