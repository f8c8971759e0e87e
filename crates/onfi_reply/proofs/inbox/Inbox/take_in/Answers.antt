use Rattle.std.proofs.Common.{[], ◌∷◌, ◌++◌, ap, ◌∙◌, List}
use Rattle.onfi_request.specs.declared.reply.Reply.{Reply}
use Rattle.onfi_reply.proofs.Given.{taken_whole}
use Rattle.onfi_reply.proofs.inbox.Inbox.take_in.Goals as goal

pub invariant_of-self-in-Some : goal.invariant_of-self-in-Some
invariant_of-self-in-Some g c =
    taken_whole c.self.inside.seat c.pop.new.self c.in-Some.reply _ _ c.self.invariant c.in-Some.ensures.popped
    (c.push_back_reserved.ensures.items ∙ ap (λ (l : List Reply). l ++ c.in-Some.reply ∷ []) c.reserve.ensures.items) c.in-Some.ensures.next
