use Rattle.onfi_run.specs.Opening.{lane_queues}
use Rattle.onfi_run.proofs.Fresh.{new_more}
use Rattle.onfi_run.proofs.Links.{linked_more}
use Rattle.onfi_run.proofs.opening.Stage.with_channel.Goals as goal

pub returns-clause-linked : goal.returns-clause-linked
returns-clause-linked g c =
    let all = c.in_ok-stations in
    linked_more lane_queues c.push.new.self.items c.args.self.lanes.items c.args.lane all.stations c.args.self.stations c.args.ports c.in_ok-push.ensures.items
    all.ensures.more c.requires.linked c.requires.ends

pub returns-clause-new : goal.returns-clause-new
returns-clause-new g c rows channels all one =
    new_more rows channels c.in_ok-stations.stations c.args.self.stations c.args.ports c.in_ok-stations.ensures.numbers c.in_ok-stations.ensures.more all one
