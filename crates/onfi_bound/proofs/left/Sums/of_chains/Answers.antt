use Rattle.std.proofs.Common.{arith}
use Rattle.onfi_bound.specs.Parts.{is_operation, IsShort}
use Rattle.onfi_bound.proofs.Steps.{no_chain, summed, tested, all_at}
use Rattle.onfi_bound.proofs.left.Sums.of_chains.Goals as goal

pub loop-chain-preserved : goal.loop-chain-preserved
loop-chain-preserved c =
    let at = c.loop-chain.invariant in
    let short = all_at IsShort c.args.chains.now c.loop-chain.chain-index no_chain c.loop-chain-test.true c.requires.short in
    let a = summed (λ x. x.commands) c.args.chains.now c.loop-chain.chain-index _ 0 _ _ c.loop-chain-test.true (omega arith) c.with_chain-sums.ensures.commands in
    let b = summed (λ x. x.posts) c.args.chains.now c.loop-chain.chain-index _ 0 _ _ c.loop-chain-test.true (omega arith) c.with_chain-sums.ensures.posts in
    record {
      commands = omega arith;
      posts = omega arith;
      operations = λ operation. tested (λ x. is_operation operation x.command) c.args.chains.now c.loop-chain.chain-index _ _ _ c.loop-chain-test.true (at.operations operation) (c.with_chain-sums.ensures.operations operation);
      commands_short = (let s = c.with_chain-sums.ensures.commands in omega (arith, short.commands));
      posts_short = (let s = c.with_chain-sums.ensures.posts in omega (arith, short.posts));
    }
