use Rattle.std.proofs.Common.{◌≡◌, ◌≤◌, refl, rules}
use Rattle.std.specs.Prelude.{Some}
use Rattle.std.proofs.lemmas.Result.{IfErr-weaker, IfOk-weaker}
use Rattle.onfi_calls.specs.Plan.{IsBadLimit, IsFound, IsNoPlan, IsPlan, IsPosed, IsUnplanned, by_of, is_limit, is_refused, is_unplanned}
use Rattle.onfi_calls.proofs.plan.find_plan.Goals as goal

pub returns-in-Ok-clause-found : goal.returns-in-Ok-clause-found
returns-in-Ok-clause-found c =
    let options = c.args.options.now in
    let x = c.in-Ok.problem in
    let is : by_of options.by ≡ Some c.in-Some.by = search rules in
    let some : 1 ≤ options.limit = search rules in
    let few : options.limit ≤ 1048576 = search rules in
    let posed : IsPosed c.args.channel.now c.args.wants.now options c.in-Some.by x =
    record { is = is; some = some; few = few; said = c.in-Ok.ensures.said; lengths = c.in-Ok.ensures.lengths; begun = c.in-Ok.ensures.begun } in
    IfOk-weaker c.write_plan.result (λ f. IsPlan c.in-Some.by options x f.plan f.text.items) (λ f. IsFound c.args.channel.now c.args.wants.now options f.plan f.text.items)
    (λ f plan. record { by = c.in-Some.by; position = x; posed = posed; is = plan }) c.write_plan.ensures.plan

pub returns-in-Ok-clause-none : goal.returns-in-Ok-clause-none
returns-in-Ok-clause-none c =
    let options = c.args.options.now in
    let x = c.in-Ok.problem in
    let is : by_of options.by ≡ Some c.in-Some.by = search rules in
    let some : 1 ≤ options.limit = search rules in
    let few : options.limit ≤ 1048576 = search rules in
    let posed : IsPosed c.args.channel.now c.args.wants.now options c.in-Some.by x =
    record { is = is; some = some; few = few; said = c.in-Ok.ensures.said; lengths = c.in-Ok.ensures.lengths; begun = c.in-Ok.ensures.begun } in
    IfErr-weaker c.write_plan.result (IsUnplanned c.in-Some.by x.problem options.limit) (IsNoPlan c.args.channel.now c.args.wants.now options)
    (λ status none. is_unplanned c.in-Some.by x posed none) c.write_plan.ensures.none

pub returns-in-Err-clause-none : goal.returns-in-Err-clause-none
returns-in-Err-clause-none c =
    let options = c.args.options.now in
    let is : by_of options.by ≡ Some c.in-Some.by = search rules in
    let some : 1 ≤ options.limit = search rules in
    let few : options.limit ≤ 1048576 = search rules in
    is_refused c.in-Some.by is some few c.in-Err.ensures.refused

pub returns-in_default-of-clause-none : goal.returns-in_default-of-clause-none
returns-in_default-of-clause-none c =
    let options = c.args.options.now in
    let is : by_of options.by ≡ Some c.in-Some.by = search rules in
    let bad : IsBadLimit options.limit = search rules in
    is_limit c.in-Some.by is bad refl
