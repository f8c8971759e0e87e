use Rattle.std.proofs.Common.{◌≡◌, ◌∙◌, length, arith}
use Rattle.onfi_run.proofs.Fresh.{new_ports}
use Rattle.onfi_run.proofs.Links.{opened_ends}
use Rattle.onfi_run.proofs.opening.open_channel.Goals as goal

pub returns-clause-ends : goal.returns-clause-ends
returns-clause-ends g c =
    let e = c.in_ok-ends in
    let p = c.ports in
    let lane = c.in_ok-lane in
    let four : length p.result ≡ 4 = omega arith in
    opened_ends lane.lane e.ends.intake e.ends.posters p.result four lane.ensures.intake lane.ensures.posters
    (p.ensures.hosts ∙ e.ensures.hosts) (p.ensures.inboxes ∙ e.ensures.inboxes)

pub returns-clause-new : goal.returns-clause-new
returns-clause-new g c =
    let e = c.in_ok-ends in
    let p = c.ports in
    new_ports c.args.rows.now c.args.channel e.ends.intake p.result c.in_ok-answers.answers (p.ensures.hosts ∙ e.ensures.hosts) p.ensures.answers
    c.in_ok-answers.ensures
