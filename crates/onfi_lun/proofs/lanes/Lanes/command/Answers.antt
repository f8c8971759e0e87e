use Rattle.std.proofs.Common.{◌≡◌, ◌<◌, length, Some, IfErr, sym, ap, subst, ◌∙◌, arith}
use Rattle.std.specs.Prelude.{slice_get, slice_set}
use Rattle.onfi_lun.specs.Lanes.{LanesAgree, OthersKept}
use Rattle.onfi_lun.proofs.Places.{get_of_or}
use Rattle.onfi_lun.proofs.LunMoves.{command_agrees, others_kept, put_back, takes_within}
use Rattle.onfi_lun.proofs.lanes.Lanes.command.Goals as goal

pub returns-clause-agree : goal.returns-clause-agree
returns-clause-agree g c =
    let old = g.C.Chip.state c.args.chip.now in
    let new = g.C.Chip.state c.command-lun.new.chip in
    let within : c.from-at.result < length c.self.inside.luns.items =
    (let k = takes_within c.args.target.now.geometry c.args.due.now.start c.args.request.now old.luns c.args.due.now.lun c.requires.next in let n = c.requires.agree.count in let v = ap length c.self.view_is in let a = c.from-at.ensures in omega (arith, k, n, v, a)) in
    let there : slice_get c.self.inside.luns.items c.from-at.result ≡ Some c.replace-lun.result = get_of_or c.self.inside.luns.items c.from-at.result c.replace-lun.result c.index_mut.result.now within (c.replace-lun.ensures.value ∙ c.index_mut.ensures.value) in
    command_agrees c.command-lun.result.1 c.closer_of-closer.result old new c.args.request.now c.args.due.now.start c.self.inside.luns.items c.from-at.result c.replace-lun.result c.replace-lun.new.dest c.command-lun.result.0 (subst (LanesAgree old) (sym c.self.view_is) c.requires.agree) there
    c.command-lun.ensures.number c.command-lun.ensures.done c.command-lun.ensures.there c.command-lun.ensures.others

pub returns-clause-same : goal.returns-clause-same
returns-clause-same g c =
    let old = g.C.Chip.state c.args.chip.now in
    let within : c.from-at.result < length c.self.inside.luns.items =
    (let k = takes_within c.args.target.now.geometry c.args.due.now.start c.args.request.now old.luns c.args.due.now.lun c.requires.next in let n = c.requires.agree.count in let v = ap length c.self.view_is in let a = c.from-at.ensures in omega (arith, k, n, v, a)) in
    let there : slice_get c.self.inside.luns.items c.from-at.result ≡ Some c.replace-lun.result = get_of_or c.self.inside.luns.items c.from-at.result c.replace-lun.result c.index_mut.result.now within (c.replace-lun.ensures.value ∙ c.index_mut.ensures.value) in
    subst (λ ls. IfErr c.command-lun.result.1 (λ _. slice_set (slice_set c.self.inside.luns.items c.from-at.result c.replace-lun.new.dest) c.from-at.result c.command-lun.result.0 ≡ ls)) c.self.view_is
    (put_back c.command-lun.result.1 c.self.inside.luns.items c.from-at.result c.replace-lun.result c.replace-lun.new.dest c.command-lun.result.0 there c.command-lun.ensures.same)

pub returns-clause-others : goal.returns-clause-others
returns-clause-others g c =
    subst (λ ls. OthersKept c.args.due.now.lun ls (slice_set (slice_set c.self.inside.luns.items c.from-at.result c.replace-lun.new.dest) c.from-at.result c.command-lun.result.0)) c.self.view_is
    (others_kept c.self.inside.luns.items c.from-at.result c.args.due.now.lun c.replace-lun.new.dest c.command-lun.result.0 c.from-at.ensures)
