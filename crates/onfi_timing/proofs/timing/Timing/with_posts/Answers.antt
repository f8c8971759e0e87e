use Rattle.std.proofs.Common.{◌≡◌, suc, subst, arith}
use Rattle.onfi_timing.proofs.Posts.{Stating, stated_too, all_stated}
use Rattle.onfi_timing.proofs.timing.Timing.with_posts.Goals as goal

pub loop-before-init : goal.loop-before-init
loop-before-init c = record {
  pages = record { read = c.new-timing.ensures.read; program = c.new-timing.ensures.program; erase = c.new-timing.ensures.erase };
  done = λ n h. absurd (omega arith);
  more = λ n h. c.new-timing.ensures.pages (suc n);
}

pub with_post-timing-requires-clause-none : goal.with_post-timing-requires-clause-none
with_post-timing-requires-clause-none c = c.loop-before.invariant.more c.loop-before.before (omega arith)

pub loop-before-preserved : goal.loop-before-preserved
loop-before-preserved c =
    stated_too c.args.self c.loop-before.timing c.with_post-timing.result c.args.posts.now c.loop-before.before c.loop-before.invariant c.with_post-timing.ensures.pages c.with_post-timing.ensures.own c.with_post-timing.ensures.others

pub returns-clause-sectors : goal.returns-clause-sectors
returns-clause-sectors c =
    let end : c.loop-before.before ≡ 7 = omega (arith, c.loop-before.auto.before-end, c.loop-before-test.false) in
    let all = subst (λ n. Stating c.args.self c.loop-before.timing c.args.posts.now n) end c.loop-before.invariant in
    all_stated c.args.self c.loop-before.timing c.args.posts.now all c.told-posts
