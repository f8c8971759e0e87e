use Rattle.std.proofs.Common.{◌+◌}
use Rattle.std.proofs.lemmas.Result.{IfOk-weaker}
use Rattle.onfi_known_plan.proofs.Tree.{better_more, nodes_later}
use Rattle.onfi_known_plan.proofs.planning.+walk_on.Goals as goal

pub returns-then-is_outdone-clause-nodes : goal.returns-then-is_outdone-clause-nodes
returns-then-is_outdone-clause-nodes t c = IfOk-weaker c.walk_on.result _ _ (λ walked nodes. nodes_later c.walk.new.at c.args.at.now c.walk.new.best.finish c.args.best.now.finish walked.opened c.in_ok-walked.ensures.problem c.in_ok-walked.ensures.found.sooner nodes) c.walk_on.ensures.nodes

pub returns-then-is_outdone-clause-over : goal.returns-then-is_outdone-clause-over
returns-then-is_outdone-clause-over t c = IfOk-weaker c.walk_on.result _ _ (λ walked over q. nodes_later c.walk.new.at c.args.at.now c.walk.new.best.finish c.args.best.now.finish (c.args.limit + 1) c.in_ok-walked.ensures.problem c.in_ok-walked.ensures.found.sooner (over q)) c.walk_on.ensures.over

pub returns-then-is_outdone-clause-found : goal.returns-then-is_outdone-clause-found
returns-then-is_outdone-clause-found t c = IfOk-weaker c.walk_on.result _ _ (λ _ more. better_more c.args.at.now c.walk.new.at c.args.best.now c.walk.new.best c.walk_on.new.best c.in_ok-walked.ensures.problem c.in_ok-walked.ensures.found more) c.walk_on.ensures.found
