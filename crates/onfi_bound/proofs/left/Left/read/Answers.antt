use Rattle.std.proofs.Common.{ap, ◌∙◌}
use Rattle.onfi_problem.specs.Position.{waiting_of}
use Rattle.onfi_bound.proofs.Parts.{placed, chains_are, chains_short, commands_are, posts_are, operations_are}
use Rattle.onfi_bound.proofs.left.Left.read.Goals as goal

pub list_chains-requires-clause-placed : goal.list_chains-requires-clause-placed
list_chains-requires-clause-placed c = rw c.groups.ensures.value (placed c.args.problem.now.problem c.args.problem.now.groups c.luns.result.now c.requires.limits c.luns.ensures.states)

pub of_chains-requires-clause-short : goal.of_chains-requires-clause-short
of_chains-requires-clause-short c =
    let e = chains_are c.args.problem.now.problem _ _ _ _ _ c.timing-timing.ensures c.groups.ensures.value c.luns.ensures.states c.list_chains.ensures in
    chains_short c.args.problem.now.problem _ c.requires.limits (c.deref.ensures.0 ∙ e)

pub returns : goal.returns
returns c =
    let p = c.args.problem.now.problem in
    let e = chains_are p _ _ _ _ _ c.timing-timing.ensures c.groups.ensures.value c.luns.ensures.states c.list_chains.ensures in
    let w = c.list_marked.ensures.wants ∙ (ap (waiting_of c.waiting.result.now) c.wants.ensures.value ∙ c.waiting.ensures.value) in
    record {
      limits = c.requires.limits;
      bus_free = c.requires.bus_free;
      chains = e;
      wants = w;
      sums = record {
        commands = commands_are p _ _ _ _ _ _ _ c.timing-timing.ensures e w c.deref.ensures.0 c.deref-2.ensures.0 c.of_chains.ensures.commands c.with_wants-self.ensures.commands;
        posts = posts_are p _ _ _ _ _ _ _ c.timing-timing.ensures e w c.deref.ensures.0 c.deref-2.ensures.0 c.of_chains.ensures.posts c.with_wants-self.ensures.posts;
        operations = λ operation. operations_are p operation _ _ _ _ _ _ e w c.deref.ensures.0 c.deref-2.ensures.0 (c.of_chains.ensures.operations operation) (c.with_wants-self.ensures.operations operation);
      };
    }
