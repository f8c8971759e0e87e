use Rattle.std.proofs.Common.{◌∙◌, ap, map, sym, subst, arith}
use Rattle.std.specs.List.{AllZip}
use Rattle.onfi_run.specs.Answers.{AddsReplies}
use Rattle.onfi_run.specs.Ending.{channel_end}
use Rattle.onfi_run.specs.Finishing.{are_complete}
use Rattle.onfi_run.proofs.Collecting.{or_either}
use Rattle.onfi_run.proofs.Links.{ends_are, still_ends}
use Rattle.onfi_run.proofs.finishing.close_channel.Goals as goal

pub drain-drained-requires : goal.drain-drained-requires
drain-drained-requires g c =
    let ends = c.ends_of-hosts in
    ends_are (g.C.Channel.queues c.args.lane.channel) c.args.ports ends.result.0 ends.result.1 ends.ensures.hosts ends.ensures.inboxes (omega arith) c.requires

pub close-requires : goal.close-requires
close-requires g c =
    let q = g.C.Channel.queues c.args.lane.channel in
    let ends = c.ends_of-hosts in
    let drained = c.drain-drained in
    let before = ends_are q c.args.ports ends.result.0 ends.result.1 ends.ensures.hosts ends.ensures.inboxes (omega arith) c.requires in
    still_ends q (g.C.Channel.queues drained.new.self) ends.result.0 ends.result.1 c.empty_all.new.inboxes before drained.ensures.same
    (c.empty_all.ensures.same ∙ drained.ensures.inboxes)

pub returns-clause-got : goal.returns-clause-got
returns-clause-got g c =
    let adds = subst (λ l. AllZip (AddsReplies c.args.now) l c.empty_all.new.got) c.ends_of-hosts.ensures.answers c.empty_all.ensures.adds in
    subst (AllZip (AddsReplies c.args.now) (map (λ p. p.answers) c.args.ports)) (sym c.conclude.ensures.got) adds

pub returns-clause-short : goal.returns-clause-short
returns-clause-short g c =
    let drained = c.drain-drained in
    or_either c.args.short_of_memory (g.C.Channel.short c.args.lane.channel) drained.result.short_of_memory c.conclude.result.short_of_memory
    c.conclude.ensures.short drained.ensures.short

pub returns-clause-concludes : goal.returns-clause-concludes
returns-clause-concludes g c =
    let ends = c.ends_of-hosts in
    let drained = c.drain-drained in
    let done = c.conclude in record {
      drained = drained.result;
      inboxes = drained.new.inboxes;
      drained_so = (drained.new.self, rw (sym ends.ensures.hosts, sym ends.ensures.inboxes) drained.ensures.drained);
      after = c.empty_all.new.inboxes;
      emptied = rw (sym ends.ensures.answers, done.ensures.got) c.empty_all.ensures.got;
      end_is = done.ensures.end ∙ ap (λ g. channel_end drained.result.end c.args.lane.ended (are_complete g) done.result.short_of_memory) (sym done.ensures.got);
      short_is = done.ensures.short;
    }

pub returns-clause-over : goal.returns-clause-over
returns-clause-over g c within = c.conclude.ensures.over (g.C.Channel.queues c.args.lane.channel).nodes c.drain-drained.ensures.over within
