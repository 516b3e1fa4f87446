-- `kept_refusal` goes by cases as its definition does.
use mathlib.Core.Path.{sym, ap, ◌∙◌}
use Rattle.size.specs.Beside.{kept_refusal}
use Rattle.size.proofs.kept_refusal.Goals as goal

pub returns-in-Delay : goal.returns-in-Delay
unfolding kept_refusal
returns-in-Delay c = c.delay_refusal.ensures ∙ ap kept_refusal (sym c.in-Delay.is)

pub returns-in-Buffer : goal.returns-in-Buffer
unfolding kept_refusal
returns-in-Buffer c = c.buffer_refusal.ensures ∙ ap kept_refusal (sym c.in-Buffer.is)
