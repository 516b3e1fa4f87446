-- `buffer_refusal` makes the tests of its definition.
use Rattle.std.proofs.Common.{rules}
use Rattle.orders.specs.Answered.{number_given, refusal_number}
use Rattle.refusals.specs.Limits.{buffer_refusal}
use Rattle.refusals.proofs.Tests.{limit_accepted, limit_refused}
use Rattle.refusals.proofs.limits.buffer_refusal.Goals as goal

pub returns-then-buffer-eq-NO_BUFFER : goal.returns-then-buffer-eq-NO_BUFFER
unfolding buffer_refusal number_given refusal_number
returns-then-buffer-eq-NO_BUFFER c = limit_accepted 7 c.args.buffer.0 1000000 4294967295 c.if-buffer-eq-NO_BUFFER.either

pub returns-else-buffer-eq-NO_BUFFER : goal.returns-else-buffer-eq-NO_BUFFER
unfolding buffer_refusal number_given refusal_number
returns-else-buffer-eq-NO_BUFFER c = limit_refused 7 c.args.buffer.0 1000000 4294967295 (search rules)
