use Rattle.std.proofs.Common.{◌+◌, get_or, drop, sym, subst, arith}
use Rattle.std.proofs.lemmas.List.{drop_all, drop_more}
use Rattle.onfi_bound.proofs.Steps.{no_want}
use Rattle.onfi_demand.specs.Look.{Sees}
use Rattle.onfi_demand.specs.Window.{wants_left}
use Rattle.onfi_demand.proofs.Seeing.{want_more, sees_none}
use Rattle.onfi_demand.proofs.look.Look.see_wants.Goals as goal

pub loop-want-preserved : goal.loop-want-preserved
loop-want-preserved c =
    let look = c.args.self.now in
    let timing = c.args.timing.now in
    let ws = c.args.wants.now in
    let i = c.loop-want.want-index in
    let range = c.spans-spans.result.in_range in
    let small = c.loop-want.invariant.small in
    let a = c.see-seen.ensures.small in
    let b = c.see-seen-in-loop-want.ensures.small in
    record {
      small = omega arith;
      sees = λ behind s. c.loop-want.invariant.sees behind (subst (λ z. Sees look c.loop-want.seen (wants_left timing c.args.from z) behind) (sym (drop_more ws i no_want c.loop-want-test.true)) (want_more look timing c.args.from (get_or ws i no_want) (drop (i + 1) ws) c.spans-spans.result c.loop-want.seen c.see-seen.result c.see-seen-in-loop-want.result behind c.spans-spans.ensures c.see-seen.ensures.sees c.see-seen-in-loop-want.ensures.sees s));
    }

pub returns-clause-sees : goal.returns-clause-sees
returns-clause-sees c =
    let look = c.args.self.now in
    c.loop-want.invariant.sees c.loop-want.seen (subst (λ z. Sees look c.loop-want.seen (wants_left c.args.timing.now c.args.from z) c.loop-want.seen) (sym (drop_all c.loop-want.want-index c.args.wants.now c.loop-want-test.false)) (sees_none look c.loop-want.seen))
