use Rattle.std.proofs.Common.{◌≡◌, ◌≤◌, ◌∙◌, ◌⊎◌, inl, inr, true, get_or, arith}
use Rattle.onfi_bound.proofs.Tallying.{done_is, done_small, idle_done, chain_here}
use Rattle.onfi_bound.proofs.load.Load.die.Goals as goal
use Rattle.onfi_bound.proofs.load.Load.die.Goals.{else-not-chain-via-then-not-chain+else-work-eq0, else-not-chain-via-else-not-chain}

pub returns-then-work-eq0 : goal.returns-then-work-eq0
returns-then-work-eq0 c =
    let x = c.args.problem.now in
    let at = chain_here x.problem x.groups c.args.lun c.args.state _ _ c.of-chain.result c.requires.state c.timing-timing.ensures c.groups.ensures.value c.of-chain.ensures in
    c.bus_free-bus_free.ensures.value ∙ idle_done x.problem c.args.lun c.args.self.now c.of-chain.result c.requires.load at c.requires.small c.if-not-chain.true c.if-work-eq0.true

pub done_by-requires : goal.done_by-requires
done_by-requires c =
    let x = c.args.problem.now in
    let at = chain_here x.problem x.groups c.args.lun c.args.state _ _ c.of-chain.result c.requires.state c.timing-timing.ensures c.groups.ensures.value c.of-chain.ensures in
    let b : (c.of-chain.result.running ≡ true) ⊎ (1 ≤ get_or c.args.self.now.work c.args.lun 0) = elim c.else-not-chain.branch [
      | else-not-chain-via-then-not-chain+else-work-eq0 v ↦ inr (let n = v.if-work-eq0.false in omega arith)
      | else-not-chain-via-else-not-chain v ↦ inl v.if-not-chain.false
    ] in
    let s = done_small x.problem c.args.lun c.args.self.now c.of-chain.result c.bus_free-bus_free.ensures.limits c.requires.load at c.requires.small b in
    omega arith

pub returns : goal.returns
returns c =
    let x = c.args.problem.now in
    let at = chain_here x.problem x.groups c.args.lun c.args.state _ _ c.of-chain.result c.requires.state c.timing-timing.ensures c.groups.ensures.value c.of-chain.ensures in
    let b : (c.of-chain.result.running ≡ true) ⊎ (1 ≤ get_or c.args.self.now.work c.args.lun 0) = elim c.else-not-chain.branch [
      | else-not-chain-via-then-not-chain+else-work-eq0 v ↦ inr (let n = v.if-work-eq0.false in omega arith)
      | else-not-chain-via-else-not-chain v ↦ inl v.if-not-chain.false
    ] in
    c.done_by.ensures ∙ rw c.bus_free-bus_free.ensures.value (done_is x.problem c.args.lun c.args.self.now c.of-chain.result c.requires.load at c.requires.small b)
