use Rattle.std.proofs.Common.{◌∙◌, arith}
use Rattle.onfi_known_plan.proofs.Tree.{nodes_from_none, over_from_none, still_better, walk_at, walk_counts, walk_fallen, walk_stands}
use Rattle.onfi_known_plan.proofs.planning.walk.Goals as goal

pub search-requires : goal.search-requires
search-requires c = walk_at c.args.at.now c.args.loads.now c.args.best.now c.new-notes.result c.args.limit c.requires c.new-notes.ensures.few c.new-notes.ensures.finish c.new-notes.ensures.opened c.new-notes.ensures.limit c.new-notes.ensures.none c.new-notes.ensures.uncut

pub returns-clause-found : goal.returns-clause-found
returns-clause-found c = still_better c.args.at.now c.args.best.now c.search.new.best _ c.in_ok-search.ensures.shown.found

pub returns-clause-fallen : goal.returns-clause-fallen
returns-clause-fallen c = λ q. walk_fallen c.search.new.best.finish c.search.new.notes.cert.finish c.args.best.now.finish (c.in_ok-search.ensures.shown.opened.same_finish ∙ c.new-notes.ensures.finish) q

pub returns-clause-proved : goal.returns-clause-proved
returns-clause-proved c = λ uncut q. walk_stands c.args.at.now c.args.best.now c.search.new.best c.new-notes.result c.search.new.notes _ c.in_ok-search.ensures.shown c.new-notes.ensures.opened (omega (arith, c.new-notes.ensures.few, c.new-notes.ensures.limit)) c.new-notes.ensures.none c.new-notes.ensures.tokens c.new-notes.ensures.finish uncut q

pub returns-clause-counted : goal.returns-clause-counted
returns-clause-counted c = λ uncut q. walk_counts c.args.at.now c.args.best.now c.search.new.best c.new-notes.result c.search.new.notes _ c.in_ok-search.ensures.shown c.new-notes.ensures.opened c.new-notes.ensures.tokens c.new-notes.ensures.finish uncut q

pub returns-clause-opened : goal.returns-clause-opened
returns-clause-opened c =
    let a = c.in_ok-search.ensures.shown.opened.within in
    let b = c.in_ok-search.ensures.shown.opened.same_limit in
    omega (arith, c.new-notes.ensures.limit)

pub returns-clause-nodes : goal.returns-clause-nodes
returns-clause-nodes c = nodes_from_none c.args.at.now.problem c.args.best.now.finish c.search.new.notes.opened c.new-notes.result.opened c.new-notes.ensures.opened c.in_ok-search.ensures.shown.opened.nodes

pub returns-clause-over : goal.returns-clause-over
returns-clause-over c = λ q. over_from_none c.args.at.now.problem c.args.best.now.finish c.args.limit c.search.new.notes.limit c.new-notes.result.opened (c.in_ok-search.ensures.shown.opened.same_limit ∙ c.new-notes.ensures.limit) c.new-notes.ensures.opened (c.in_ok-search.ensures.shown.opened.over q)

pub returns-clause-full : goal.returns-clause-full
returns-clause-full c = λ q. c.in_ok-search.ensures.shown.opened.full q ∙ (c.in_ok-search.ensures.shown.opened.same_limit ∙ c.new-notes.ensures.limit)
