use Rattle.std.proofs.Common.{◌≡◌, ◌∙◌, [], true, ap, subst, sym}
use Rattle.std.specs.Prelude.{if◌then◌else◌}
use Rattle.onfi_steady.specs.Offer.{erase_group, group_with}
use Rattle.onfi_steady.specs.Slots.{IsBegin}
use Rattle.onfi_steady.proofs.lun_books.begin_erase.Goals as goal

pub returns : goal.returns
returns c = λ timing spans.
    let erase : c.group_with-erase.result.items ≡ erase_group c.args.rules.now c.args.ready.now =
    c.group_with-erase.ensures ∙ ap (group_with c.args.rules.now c.args.ready.now) c.oldest_of.ensures in
    let asked : c.args.is_asked ≡ true = c.if-not-is_asked.false in
    subst (λ z. IsBegin timing (if z then erase_group c.args.rules.now c.args.ready.now else []) c.of.result) (sym asked)
    (subst (λ z. IsBegin timing z c.of.result) (c.as_slice.ensures.value ∙ erase) (c.of.ensures.begin timing spans))
