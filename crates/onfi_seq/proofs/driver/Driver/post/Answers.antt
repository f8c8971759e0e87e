use Rattle.std.proofs.Common.{◌≡◌, ap, ◌∙◌}
use Rattle.std.specs.List.{filter}
use Rattle.onfi_core.specs.State.{is_to}
use Rattle.onfi_core.specs.Steps.{IsPromised}
use Rattle.onfi_core.specs.View.{HalfView}
use Rattle.onfi_seq.specs.Driver.{DriverFields}
use Rattle.onfi_seq.proofs.Driving.{driven_posted, may_post, within}
use Rattle.onfi_seq.proofs.driver.Driver.post.Goals as goal

pub post-requires : goal.post-requires
post-requires g c =
    let i = c.self.invariant in
    let f = c.self.inside in
    let geometry = within (λ (v : DriverFields). c.args.poster.now.opened.geometry ≡ v.setup.geometry) _ _ c.self.view_is c.requires.geometry in
    let posted = within (λ (v : DriverFields). c.args.poster.now.posted ≡ filter (is_to c.args.host) v.half.posted) _ _ c.self.view_is c.requires.posted in
    may_post (IsPromised g.P.Planner.exact g.P.Planner.certifies) f.half.setup f.half.state (g.C.Chip.state f.chip) i.reached c.args.host c.in-Some.reply c.args.poster.now c.in-Some.ensures.oldest c.requires.host geometry posted

pub invariant_of-self-in-Ok : goal.invariant_of-self-in-Ok
invariant_of-self-in-Ok g c =
    let i = c.self.invariant in
    let f = c.self.inside in
    let lent = c.in-Some.ensures.lent in
    let goes = rw lent at c.posted.ensures.posted in
    let setup = c.posted.ensures.setup ∙ ap (λ (v : HalfView). v.setup) lent in
    rw setup (driven_posted (IsPromised g.P.Planner.exact g.P.Planner.certifies) f.half.setup f.half.state (g.C.Chip.state f.chip) i.reached c.args.host c.in-Some.reply c.posted.new.self.lent c.posted.new.self.state f.lanes goes c.posted.ensures.settled i.lanes_are)
