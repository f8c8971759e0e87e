use Rattle.std.proofs.Common.{◌∙◌, [], map, refl, subst, sym}
use Rattle.std.proofs.lemmas.List.{take_all, take_more}
use Rattle.onfi_steady.specs.Dispatcher.{IsOf, newest_of}
use Rattle.onfi_steady.specs.Rule.{unpassed}
use Rattle.onfi_steady.proofs.Batch.{accepts_more, forgets_newest, lun_within}
use Rattle.onfi_steady.proofs.dispatcher.Dispatcher.accept_batch.Goals as goal

pub loop-want-init : goal.loop-want-init
loop-want-init c =
    let p = c.args.problem.now.problem in
    record {
      is = subst (λ n. IsOf p.timing (record { rules = p.rules; waiting = []; newest = n }) c.args.self.now) (sym c.requires.is.newest) c.requires.is;
      states = refl;
      bus_free = refl;
    }

pub loop-want-preserved : goal.loop-want-preserved
loop-want-preserved c =
    let p = c.args.problem.now.problem in
    let wants = c.args.wants.now in
    record {
      is = accepts_more p wants c.loop-want.want-index _ c.loop-want.self c.accept.new.self c.accept.result c.in_limits.ensures.limits.problem c.requires.wants c.requires.few (c.loop-want.invariant.states ∙ c.requires.states)
          c.loop-want-test.true (take_more wants c.loop-want.want-index _ c.loop-want-test.true) (lun_within p wants c.loop-want.want-index _ c.in_limits.ensures.limits.problem c.requires.wants c.loop-want-test.true) c.loop-want.invariant.is c.accept.ensures.accepted c.accept.ensures.refused;
      states = c.accept.ensures.states ∙ c.loop-want.invariant.states;
      bus_free = c.accept.ensures.bus_free ∙ c.loop-want.invariant.bus_free;
    }

pub returns-clause-is : goal.returns-clause-is
returns-clause-is c =
    let p = c.args.problem.now.problem in
    let all = take_all c.loop-want.want-index c.args.wants.now c.loop-want-test.false ∙ c.requires.wants in
    forgets_newest p c.loop-want.self _ (subst (λ z. IsOf p.timing (record { rules = p.rules; waiting = map unpassed z; newest = newest_of c.loop-want.self }) c.loop-want.self) all c.loop-want.invariant.is) refl refl refl refl refl

pub returns-clause-states : goal.returns-clause-states
returns-clause-states c = c.loop-want.invariant.states

pub returns-clause-bus_free : goal.returns-clause-bus_free
returns-clause-bus_free c = c.loop-want.invariant.bus_free
