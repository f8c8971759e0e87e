use Rattle.std.proofs.Common.{rules, subst}
use Rattle.onfi_reply.specs.Ends.{InboxView}
use Rattle.onfi_reply.specs.Replies.{IsNext}
use Rattle.onfi_reply.proofs.Given.{front_whole, front_next, popped_whole}
use Rattle.onfi_reply.proofs.inbox.Inbox.collect.Goals as goal

pub invariant_of-self : goal.invariant_of-self
invariant_of-self g c = front_whole c.self.inside.seat c.in-Some.reply _ _ c.self.invariant c.in-Some.ensures.items

pub invariant_of-self-in-None : goal.invariant_of-self-in-None
invariant_of-self-in-None g c = popped_whole c.pop.new.self _ (search rules)

pub returns-in-Some-clause-rightful : goal.returns-in-Some-clause-rightful
returns-in-Some-clause-rightful g c =
    subst (λ (y : InboxView). IsNext y.opened y.given c.in-Some.reply) c.self.view_is
    (front_next c.self.inside.seat c.in-Some.reply _ _ c.self.invariant c.in-Some.ensures.items)
