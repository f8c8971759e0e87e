use Rattle.std.proofs.Common.{◌≡◌, ◌+◌, ◌-◌, ◌%◌, suc, length, Ok, Err, sym, refl, ap, subst, arith, rules}
use Rattle.std.specs.Prelude.{IfOk, IfErr}
use Rattle.std.proofs.lemmas.Nat.{mod_below}
use Rattle.std.proofs.lemmas.Result.{err_from_is_err_and}
use Rattle.onfi_planner.specs.declared.search.Stop.TheVariants.{Over}
use Rattle.onfi_planner.specs.Dealing.{GivesFrom, GivesAll, MayRefuse, dealt}
use Rattle.onfi_planner.proofs.Turns.{Held, last_there, held_less, in_front, all_held, has_place}
use Rattle.onfi_planner.proofs.dealing.do_in_turn.Goals as goal

pub returns-in_err-shares-clause-over : goal.returns-in_err-shares-clause-over
returns-in_err-shares-clause-over g c =
    let p = err_from_is_err_and c.from_residual.result c.from_residual.ensures.1 in
    rw (p.1, p.2) (λ q.
    let (refusal, has, over) = c.in_err-shares.ensures.refused q in
    let (i, below, is) = has_place c.in-Ok.shares.items (Err refusal) (Err refusal) has in
    let long : length c.in-Ok.shares.items ≡ c.args.workers = search rules in
    let says = (c.in-Ok.ensures.each i (Err refusal) (omega arith)).1.met in
    subst (λ r. IfErr r (λ stopped. stopped.stop ≡ Over → MayRefuse g.F.Fn c.args.f.now c.args.n Over)) is says.1 over)

pub loop-after-init : goal.loop-after-init
loop-after-init g c =
    let whole : c.args.n ≡ c.args.n - 0 = omega arith in
    let long : length c.in-Ok.shares.items ≡ c.args.workers = search rules in
    let held = all_held g.F.Fn c.args.f.now c.args.workers c.args.n c.in-Ok.shares.items c.in_ok-shares.shares.items long c.in_ok-shares.ensures.done (λ worker d v below is.
    let says = (c.in-Ok.ensures.each worker (Ok d) below).1.met in
    subst (λ r. IfOk r (λ answers. GivesAll g.F.Fn c.args.f.now (dealt c.args.workers worker c.args.n) answers.items)) is says.0) in
    record {
      held = subst (λ z. Held g.F.Fn c.args.f.now c.args.workers z c.in_ok-shares.shares.items) whole held;
      given = subst (GivesFrom g.F.Fn c.args.f.now (c.args.n - 0)) (sym c.new-answers.ensures.items) tt;
      long = ap length c.new-answers.ensures.items;
    }

pub take_last-answer-requires-clause-some : goal.take_last-answer-requires-clause-some
take_last-answer-requires-clause-some g c =
    let n = c.args.n - c.loop-after.after in
    let call = c.args.n - 1 - c.loop-after.after in
    let next : suc call ≡ n = omega arith in
    last_there g.F.Fn c.args.f.now c.args.workers n call c.loop-after.shares.items next (mod_below call c.args.workers c.requires.some) c.loop-after.invariant.held

pub loop-after-preserved : goal.loop-after-preserved
loop-after-preserved g c =
    let n = c.args.n - c.loop-after.after in
    let call = c.args.n - 1 - c.loop-after.after in
    let next : suc call ≡ n = omega arith in
    let same : call ≡ c.args.n - (c.loop-after.after + 1) = omega arith in
    let (rest, new, took) = c.take_last-answer.ensures in
    let less = held_less g.F.Fn c.args.f.now c.args.workers n call (call % c.args.workers) c.loop-after.shares.items c.take_last-answer.new.shares.items rest c.take_last-answer.result next refl (mod_below call c.args.workers c.requires.some) new took c.loop-after.invariant.held in
    record {
      held = subst (λ z. Held g.F.Fn c.args.f.now c.args.workers z c.take_last-answer.new.shares.items) same less.0;
      given = subst (λ z. GivesFrom g.F.Fn c.args.f.now z c.insert.new.self.items) same (in_front g.F.Fn c.args.f.now call n c.take_last-answer.result c.loop-after.answers.items c.insert.new.self.items next c.in-Ok-insert.ensures.items less.1 c.loop-after.invariant.given);
      long = (let l = ap length c.in-Ok-insert.ensures.items in let k = c.loop-after.invariant.long in omega arith);
    }
