use Rattle.std.proofs.Common.{◌∙◌, ◌^◌, ◌<◌, inl, inr, sym}
use Rattle.std.proofs.lemmas.Bool.{false≢true, cases_lt}
use Rattle.onfi_problem.specs.Left.{horizon}
use Rattle.onfi_problem.specs.Kept.{problem_of}
use Rattle.onfi_problem.proofs.finding.find_fault.Goals as goal

pub returns-then-not-is_problem : goal.returns-then-not-is_problem
returns-then-not-is_problem c =
    let s = c.is_small.ensures.0 c.if-not-is_small.false in
    (record { wants = s.0; some_luns = s.1; few_luns = s.2 }, (λ i. false≢true (sym c.if-not-is_problem.true ∙ (c.is_problem.ensures c.args.timing.now c.args.bus_free).1 i)))

pub returns-then-not-has_lengths : goal.returns-then-not-has_lengths
returns-then-not-has_lengths c =
    let s = c.is_small.ensures.0 c.if-not-is_small.false in
    (record { wants = s.0; some_luns = s.1; few_luns = s.2 }, (c.is_problem.ensures c.args.timing.now c.args.bus_free).0 c.if-not-is_problem.false, (λ i. false≢true (sym c.if-not-has_lengths.true ∙ (c.has_lengths.ensures c.args.rules.now c.args.bus_free).1 i)))

pub returns-then-reaches_limit : goal.returns-then-reaches_limit
returns-then-reaches_limit c =
    let s = c.is_small.ensures.0 c.if-not-is_small.false in
    (record { wants = s.0; some_luns = s.1; few_luns = s.2 }, (c.is_problem.ensures c.args.timing.now c.args.bus_free).0 c.if-not-is_problem.false, (c.has_lengths.ensures c.args.rules.now c.args.bus_free).0 c.if-not-has_lengths.false, c.reaches_limit.ensures.0 c.if-reaches_limit.true)

pub returns : goal.returns
returns c =
    let s = c.is_small.ensures.0 c.if-not-is_small.false in
    let p = problem_of c.args.timing.now c.args.rules.now c.args.bus_free c.args.luns.now c.args.wants.now in
    let below : horizon p < 2 ^ 62 = elim (cases_lt (horizon p) (2 ^ 62)) [ inl a ↦ a | inr a ↦ absurd (false≢true (sym c.if-reaches_limit.false ∙ c.reaches_limit.ensures.1 a)) ] in
    (record { small = record { wants = s.0; some_luns = s.1; few_luns = s.2 }; problem = (c.is_problem.ensures c.args.timing.now c.args.bus_free).0 c.if-not-is_problem.false; horizon = below }, (c.has_lengths.ensures c.args.rules.now c.args.bus_free).0 c.if-not-has_lengths.false)
