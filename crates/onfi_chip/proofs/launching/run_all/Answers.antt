use Rattle.std.proofs.Common.{◌≡◌, List, [], sym, subst, arith}
use Rattle.std.specs.Prelude.{map}
use Rattle.std.proofs.lemmas.Grind.{common_steps}
use Rattle.onfi_die.specs.Blocks.{happen}
use Rattle.onfi_die.specs.Store.{blocks_of}
use Rattle.onfi_chip.specs.declared.member.Member.{Member}
use Rattle.onfi_chip.specs.declared.post.Post.{Post}
use Rattle.onfi_chip.specs.Sim.{request_in}
use Rattle.onfi_chip.proofs.GroupRun.{HasRun, one_more_run}
use Rattle.onfi_chip.proofs.launching.run_all.Goals as goal

pub loop-member-preserved : goal.loop-member-preserved
loop-member-preserved c =
    let before = c.args.store.now in
    let all = c.args.members.items in
    let rest = c.pop_front.new.self.items in
    let old = c.args.posts.now.items in
    let run = subst (λ (ms : List Member). HasRun before c.loop-member.store all ms old c.loop-member.posts.items) c.in-Some.ensures.items c.loop-member.invariant.run in
    let r = c.run-answer.ensures in
    record {
      run =
          subst (λ (ps : List Post). HasRun before c.run-answer.new.self all rest old ps) (sym c.push_back_reserved.ensures.items)
          (one_more_run before c.loop-member.store c.run-answer.new.self all rest c.in-Some.member c.kind-kind.result c.run-answer.result old c.loop-member.posts.items run c.kind-kind.ensures r.device r.blocks r.answer r.form r.others);
      room = omega (arith, c.in-Some.ensures.cases, c.push_back_reserved.ensures.len, c.push_back_reserved.ensures.capacity, c.loop-member.invariant.room);
    }

pub returns-clause-blocks : goal.returns-clause-blocks
returns-clause-blocks c =
    let before = c.args.store.now in
    let none : c.loop-member.members.items ≡ [] = grind (arith, common_steps) in
    subst (λ (ms : List Member). happen before.device (map request_in ms) (blocks_of c.loop-member.store) ≡ happen before.device (map request_in c.args.members.items) (blocks_of before)) none c.loop-member.invariant.run.blocks
