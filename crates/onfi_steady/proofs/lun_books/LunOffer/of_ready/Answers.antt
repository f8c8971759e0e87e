use Rattle.std.proofs.Common.{◌≡◌, ◌∙◌, List, [], ap, subst}
use Rattle.std.specs.Prelude.{if◌then◌else◌}
use Rattle.onfi_steady.specs.declared.waiter.Waiter.{Waiter}
use Rattle.onfi_steady.specs.Offer.{erase_group, firsts, group_with, is_open, may_grow, own_group, turned_to}
use Rattle.onfi_steady.specs.Slots.{IsBegin}
use Rattle.onfi_steady.proofs.lun_books.LunOffer.of_ready.Goals as goal

pub returns : goal.returns
returns c = λ timing waiting spans ready reads.
    let rules = c.args.rules.now in
    let first = firsts waiting in
    let head : c.pick_request-head.result ≡ turned_to first = c.pick_request-head.ensures ∙ ap turned_to ready in
    let group : c.group_with-group.result.items ≡ own_group rules first =
    c.group_with-group.ensures ∙ (ap (λ z. group_with rules z c.pick_request-head.result) ready ∙ ap (group_with rules first) head) in
    let opened : c.may_grow-is_open.result ≡ is_open rules first =
    c.may_grow-is_open.ensures ∙ (ap (λ z. may_grow rules z c.as_slice.result.now) head ∙ ap (may_grow rules (turned_to first)) (c.as_slice.ensures.value ∙ group)) in
    record {
      group = subst (λ z. IsBegin timing z c.of.result) (c.as_slice-2.ensures.value ∙ group) (c.of.ensures.begin timing spans);
      erase = subst (λ (z : List Waiter). IsBegin timing (if is_open rules first then erase_group rules z else []) c.begin_erase.result) ready
          (subst (λ z. IsBegin timing (if z then erase_group rules c.args.ready.now else []) c.begin_erase.result) opened (c.begin_erase.ensures timing spans));
      opened = opened;
      reads = reads;
    }
