use Rattle.std.proofs.Common.{◌≡◌, ◌+◌, ◌≤◌, ◌⊎◌, inl, inr, true, get_or, Some, refl, ◌∙◌, ap, arith, if◌then◌else◌}
use Rattle.std.specs.Prelude.{max}
use Rattle.onfi_bound.specs.Bounds.{least_with, die}
use Rattle.onfi_bound.proofs.Tallying.{done_is, done_small, tally_room, tally_more, tally_idle, idle_done, done_more, at_small}
use Rattle.onfi_bound.proofs.tally.Tally.add.Goals as goal
use Rattle.onfi_bound.proofs.tally.Tally.add.Goals.{else-not-chain-via-then-not-chain+else-work-eq0, else-not-chain-via-else-not-chain, then-chain, else-chain}

pub returns-then-work-eq0 : goal.returns-then-work-eq0
returns-then-work-eq0 c =
    let p = c.args.problem.now.problem in
    let t = c.args.self.now in
    let idle = c.if-not-chain.true in
    let d : p.bus_free ≡ die p c.args.lun = idle_done p c.args.lun c.args.load.now c.args.chain c.requires.load c.requires.chain c.requires.small idle c.if-work-eq0.true in
    tally_idle p c.args.lun c.args.load.now c.args.chain t t c.requires.load c.requires.chain c.requires.small idle c.if-work-eq0.true c.requires.so_far refl refl
    (done_more p c.args.lun t.done t.done c.requires.so_far.done (omega arith) (omega arith))

pub overflow_add-to_post : goal.overflow_add-to_post
overflow_add-to_post c =
    let s = done_small c.args.problem.now.problem c.args.lun c.args.load.now c.args.chain c.bus_free-bus_free.ensures.limits c.requires.load c.requires.chain c.requires.small (inl c.if-chain.true) in
    omega arith

pub done_by-done-requires : goal.done_by-done-requires
done_by-done-requires c =
    let b : (c.args.chain.running ≡ true) ⊎ (1 ≤ get_or c.args.load.now.work c.args.lun 0) = elim c.else-not-chain.branch [
      | else-not-chain-via-then-not-chain+else-work-eq0 v ↦ inr (let n = v.if-work-eq0.false in omega arith)
      | else-not-chain-via-else-not-chain v ↦ inl v.if-not-chain.false
    ] in
    let s = done_small c.args.problem.now.problem c.args.lun c.args.load.now c.args.chain c.bus_free-bus_free.ensures.limits c.requires.load c.requires.chain c.requires.small b in
    omega arith

pub with_chain-self-requires-clause-commands : goal.with_chain-self-requires-clause-commands
with_chain-self-requires-clause-commands c =
    let r = tally_room c.args.problem.now.problem c.args.lun c.args.self.now c.args.chain c.bus_free-bus_free.ensures.limits c.requires.chain c.requires.so_far in
    let a = r.0 in
    omega arith

pub with_chain-self-requires-clause-posts : goal.with_chain-self-requires-clause-posts
with_chain-self-requires-clause-posts c =
    let r = tally_room c.args.problem.now.problem c.args.lun c.args.self.now c.args.chain c.bus_free-bus_free.ensures.limits c.requires.chain c.requires.so_far in
    let a = r.1 in
    omega arith

pub overflow_add-max : goal.overflow_add-max
overflow_add-max c =
    let b : (c.args.chain.running ≡ true) ⊎ (1 ≤ get_or c.args.load.now.work c.args.lun 0) = elim c.else-not-chain.branch [
      | else-not-chain-via-then-not-chain+else-work-eq0 v ↦ inr (let n = v.if-work-eq0.false in omega arith)
      | else-not-chain-via-else-not-chain v ↦ inl v.if-not-chain.false
    ] in
    let s = done_small c.args.problem.now.problem c.args.lun c.args.load.now c.args.chain c.bus_free-bus_free.ensures.limits c.requires.load c.requires.chain c.requires.small b in
    let f = c.requires.load.short c.args.lun in
    let a = at_small c.args.problem.now.problem c.args.lun c.args.chain c.bus_free-bus_free.ensures.limits c.requires.chain in
    elim c.if-chain.branch [
      | then-chain w ↦ rw w.to_post-is (omega arith)
      | else-chain w ↦ rw w.to_post-is (omega arith)
    ]

pub returns : goal.returns
returns c =
    let p = c.args.problem.now.problem in
    let chain = c.args.chain in
    let load = c.args.load.now in
    let t = c.args.self.now in
    let b : (c.args.chain.running ≡ true) ⊎ (1 ≤ get_or c.args.load.now.work c.args.lun 0) = elim c.else-not-chain.branch [
      | else-not-chain-via-then-not-chain+else-work-eq0 v ↦ inr (let n = v.if-work-eq0.false in omega arith)
      | else-not-chain-via-else-not-chain v ↦ inl v.if-not-chain.false
    ] in
    let m : c.max.result ≡ max p.bus_free chain.from = c.max.ensures ∙ ap (λ z. max z chain.from) c.bus_free-bus_free.ensures.value in
    let is : c.if-chain.to_post ≡ (if chain.running then chain.commands + chain.waits else get_or load.firsts c.args.lun 0) = elim c.if-chain.branch [
      | then-chain w ↦ rw w.if-chain.true w.to_post-is
      | else-chain w ↦ rw w.if-chain.false w.to_post-is
    ] in
    let d : c.done_by-done.result ≡ die p c.args.lun = c.done_by-done.ensures ∙ rw c.bus_free-bus_free.ensures.value (done_is p c.args.lun load chain c.requires.load c.requires.chain c.requires.small b) in
    let s = c.with_chain-self.ensures in
    tally_more p c.args.lun c.if-chain.to_post load chain t _ c.requires.load c.requires.chain c.requires.small b c.requires.so_far s.commands s.posts s.operations is
    (ap Some (c.least_of.ensures ∙ ap (λ z. least_with (z + c.if-chain.to_post) t.first) m))
    (done_more p c.args.lun t.done c.max-self.result c.requires.so_far.done (omega arith) (omega arith))
