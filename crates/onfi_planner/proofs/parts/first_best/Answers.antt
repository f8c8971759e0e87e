use Rattle.std.proofs.Common.{inr, ◌++◌, ◌∷◌, [], refl, sym, ap, ◌∙◌, subst, arith, append_assoc}
use Rattle.onfi_group.specs.Words.{Has}
use Rattle.onfi_planner.proofs.Splitting.{opened_small, opened_more, best_new, best_kept}
use Rattle.onfi_planner.proofs.Turns.{has_between}
use Rattle.onfi_planner.proofs.parts.first_best.Goals as goal

pub overflow_add-opened : goal.overflow_add-opened
overflow_add-opened c =
    let i = c.loop-part.invariant in
    let whole = i.rest ∙ ap (λ z. c.loop-part.yielded ++ z) c.in-Some.ensures.steps.0 in
    let small = opened_small c.args.found.items c.loop-part.yielded c.in-Some.part c.next.new.self.rest.items c.loop-part.opened whole c.requires.small (omega arith) i.opened in
    omega arith

pub loop-part-preserved-then-part-best : goal.loop-part-preserved-then-part-best
loop-part-preserved-then-part-best c =
    let i = c.loop-part.invariant in
    let front = c.loop-part.yielded in
    let part = c.in-Some.part in
    let whole = i.rest ∙ ap (λ z. front ++ z) c.in-Some.ensures.steps.0 in
    let lt = c.if-part-best.true in
    let le = i.sooner in
    let sum = opened_more front part in
    let n = i.opened in
    record {
      rest = i.rest ∙ (ap (λ z. front ++ z) c.in-Some.ensures.steps.0 ∙ sym (append_assoc front (part ∷ []) c.next.new.self.rest.items));
      sooner = omega arith;
      least = best_new front part 0 c.loop-part.best.finish lt i.least;
      one = inr (part, subst (λ z. Has z part) (sym whole) (has_between front part c.next.new.self.rest.items), refl, omega arith);
      opened = omega arith;
    }

pub loop-part-preserved : goal.loop-part-preserved
loop-part-preserved c =
    let i = c.loop-part.invariant in
    let front = c.loop-part.yielded in
    let part = c.in-Some.part in
    let le = c.if-part-best.false in
    let sum = opened_more front part in
    let n = i.opened in
    record {
      rest = i.rest ∙ (ap (λ z. front ++ z) c.in-Some.ensures.steps.0 ∙ sym (append_assoc front (part ∷ []) c.next.new.self.rest.items));
      sooner = i.sooner;
      least = best_kept front part c.loop-part.best.finish le i.least;
      one = i.one;
      opened = omega arith;
    }
