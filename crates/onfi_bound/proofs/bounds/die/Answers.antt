use Rattle.std.proofs.Common.{◌≡◌, ◌∙◌, inl, inr, ap, arith}
use Rattle.onfi_problem.specs.declared.moves.Lun.{Lun}
use Rattle.onfi_problem.specs.Position.{waiting_of}
use Rattle.onfi_bound.specs.Bounds.{die}
use Rattle.onfi_bound.proofs.Parts.{place_at}
use Rattle.onfi_bound.proofs.Counting.{within_luns}
use Rattle.onfi_bound.proofs.Ends.{die_small}
use Rattle.onfi_bound.proofs.Whole.{work_is, die_nothing, die_working, chain_at}
use Rattle.onfi_bound.proofs.bounds.die.Goals as goal
use Rattle.onfi_bound.proofs.bounds.die.Goals.{else-not-chain-via-then-not-chain+else-work-eq0, else-not-chain-via-else-not-chain}

pub of-chain-requires : goal.of-chain-requires
of-chain-requires c =
    let x = c.args.problem.now in
    let blank : Lun = record { next = 0; place = 0; time = 0 } in
    let within = within_luns x.problem x.groups c.luns.result.now c.luns.ensures.states c.args.lun c.requires in
    rw c.groups.ensures.value (place_at x.problem x.groups c.luns.result.now c.args.lun blank c.bus_free-bus_free.ensures.limits c.luns.ensures.states within)

pub returns-then-work-eq0-clause-value : goal.returns-then-work-eq0-clause-value
returns-then-work-eq0-clause-value c =
    let x = c.args.problem.now in
    let blank : Lun = record { next = 0; place = 0; time = 0 } in
    let at = chain_at x.problem _ x.groups _ c.luns.result.now c.args.lun blank c.of-chain.result c.luns.ensures.states c.requires c.timing-timing.ensures c.groups.ensures.value c.of-chain.ensures in
    let wants = c.list_marked.ensures.wants ∙ (ap (waiting_of c.waiting.result.now) c.wants.ensures.value ∙ c.waiting.ensures.value) in
    let w = work_is x.problem c.args.lun _ _ _ _ _ c.timing-timing.ensures c.rules-rules.ensures wants c.deref.ensures.0 c.work_of_wants-work.ensures.value in
    c.bus_free-bus_free.ensures.value ∙ die_nothing x.problem c.args.lun c.of-chain.result c.work_of_wants-work.result at w c.if-not-chain.true c.if-work-eq0.true

pub done_by-requires : goal.done_by-requires
done_by-requires c =
    let x = c.args.problem.now in
    let blank : Lun = record { next = 0; place = 0; time = 0 } in
    let at = chain_at x.problem _ x.groups _ c.luns.result.now c.args.lun blank c.of-chain.result c.luns.ensures.states c.requires c.timing-timing.ensures c.groups.ensures.value c.of-chain.ensures in
    let wants = c.list_marked.ensures.wants ∙ (ap (waiting_of c.waiting.result.now) c.wants.ensures.value ∙ c.waiting.ensures.value) in
    let w = work_is x.problem c.args.lun _ _ _ _ _ c.timing-timing.ensures c.rules-rules.ensures wants c.deref.ensures.0 c.work_of_wants-work.ensures.value in
    let d = die_working x.problem c.args.lun c.of-chain.result c.work_of_wants-work.result at w (elim c.else-not-chain.branch [
      | else-not-chain-via-then-not-chain+else-work-eq0 v ↦ inr (let n = v.if-work-eq0.false in omega arith)
      | else-not-chain-via-else-not-chain v ↦ inl v.if-not-chain.false
    ]) in
    let s = die_small x.problem c.args.lun c.bus_free-bus_free.ensures.limits c.requires in
    omega arith

pub returns-clause-value : goal.returns-clause-value
returns-clause-value c =
    let x = c.args.problem.now in
    let blank : Lun = record { next = 0; place = 0; time = 0 } in
    let at = chain_at x.problem _ x.groups _ c.luns.result.now c.args.lun blank c.of-chain.result c.luns.ensures.states c.requires c.timing-timing.ensures c.groups.ensures.value c.of-chain.ensures in
    let wants = c.list_marked.ensures.wants ∙ (ap (waiting_of c.waiting.result.now) c.wants.ensures.value ∙ c.waiting.ensures.value) in
    let w = work_is x.problem c.args.lun _ _ _ _ _ c.timing-timing.ensures c.rules-rules.ensures wants c.deref.ensures.0 c.work_of_wants-work.ensures.value in
    c.done_by.ensures ∙ rw c.bus_free-bus_free.ensures.value (die_working x.problem c.args.lun c.of-chain.result c.work_of_wants-work.result at w (elim c.else-not-chain.branch [
      | else-not-chain-via-then-not-chain+else-work-eq0 v ↦ inr (let n = v.if-work-eq0.false in omega arith)
      | else-not-chain-via-else-not-chain v ↦ inl v.if-not-chain.false
    ]))

pub returns-clause-small : goal.returns-clause-small
returns-clause-small c =
    let e : c.done_by.result ≡ die c.args.problem.now.problem c.args.lun = returns-clause-value c in
    let h = die_small c.args.problem.now.problem c.args.lun c.bus_free-bus_free.ensures.limits c.requires in
    omega arith
