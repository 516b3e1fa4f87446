-- `numbers_refusal` tests whether any number is too large.
use Rattle.std.proofs.Common.{Bool, ltb, sym, ap, ◌∙◌, rules, tests}
use Rattle.std.proofs.lemmas.Iterator.{YieldsList-from_slice}
use Rattle.std.proofs.lemmas.Iterator.Search.{any_from_yields_List}
use Rattle.orders.specs.Refusal.{◌when◌}
use Rattle.orders.specs.Answered.{number_given, refusal_number}
use Rattle.device.proofs.ProfileJudged.{numbers_any}
use Rattle.device.proofs.profile.numbers_refusal.Goals as goal

pub returns-then-any : goal.returns-then-any
unfolding ◌when◌ number_given refusal_number
returns-then-any c =
    let profile = c.args.profile.now in
    let told = any_from_yields_List (ltb 1000000) _ _ _ c.any.ensures.ran (YieldsList-from_slice profile c.iter.ensures.rest) (λ x b q h. search (rules, tests)) in
    sym (numbers_any profile ∙ ap (λ (large : Bool). 16 when large) (sym told ∙ c.if-any.true))

pub returns-else-any : goal.returns-else-any
unfolding ◌when◌ number_given refusal_number
returns-else-any c =
    let profile = c.args.profile.now in
    let told = any_from_yields_List (ltb 1000000) _ _ _ c.any.ensures.ran (YieldsList-from_slice profile c.iter.ensures.rest) (λ x b q h. search (rules, tests)) in
    sym (numbers_any profile ∙ ap (λ (large : Bool). 16 when large) (sym told ∙ c.if-any.false))
