use Rattle.std.proofs.Common.{ℕ, List, [], ◌∷◌, ◌++◌, ◌≡◌, ◌<◌, ◌∙◌, false, length, get_or, sym, ap, subst, arith}
use Rattle.onfi_bound.specs.declared.load.Load.{Load}
use Rattle.onfi_bound.specs.Loads.{AreLoadsBefore}
use Rattle.onfi_bound.proofs.Loading.{none_wait, loads_of}
use Rattle.onfi_bound.proofs.loads.Loads.new.Goals as goal

pub loop-number-init : goal.loop-number-init
loop-number-init c =
    let x = c.args.problem.now in
    let load = c.none.result in
    let long = ap length c.wants-width.ensures.value in
    let none : (i : ℕ) → i < length x.all → get_or load.marks i false ≡ false = λ i k. rw c.none.ensures.marks (c.marks_from.ensures i (omega arith)) in
    let items : c.push.new.self.items ≡ load ∷ [] = c.in_ok-push.ensures.items ∙ ap (λ (z : List Load). z ++ load ∷ []) c.in_ok-of.ensures.items in
    subst (λ loads. AreLoadsBefore x 0 loads) (sym items) (record { takes = rw (none_wait load.marks x.all none) (c.none.ensures.load x.problem.timing x.problem.rules); before = λ i a. none i }, tt)

pub returns : goal.returns
returns c = loads_of c.args.problem.now c.loop-number.number c.loop-number.of.items c.loop-number.invariant
