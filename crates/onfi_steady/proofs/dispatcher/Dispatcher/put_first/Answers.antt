use Rattle.std.proofs.Common.{◌∷◌, ◌∙◌, ap, get_or, refl, subst, sym}
use Rattle.std.proofs.lemmas.Option.{slice_get_within}
use Rattle.onfi_steady.specs.declared.waiter.Waiter.{Waiter}
use Rattle.onfi_steady.specs.LunBooks.{IsLun, states_in}
use Rattle.onfi_steady.specs.Dispatcher.{accepted_again, luns_of}
use Rattle.onfi_steady.proofs.Changing.{again_on, changed_at, changed_is, lun_there, off_first, on_first}
use Rattle.onfi_steady.proofs.Dispatching.{line_at, lun_at, states_kept}
use Rattle.onfi_steady.proofs.Distinct.{accepts_distinct_again}
use Rattle.onfi_steady.proofs.dispatcher.Dispatcher.put_first.Goals as goal

pub returns-clause-accepted : goal.returns-clause-accepted
returns-clause-accepted c = λ timing books is.
    let old = c.args.self.now in
    let want = c.args.want.now in
    let w : Waiter = record { want = want; passed = 0 } in
    let l = get_or old.lun c.from.result c.index-self-from.result in
    let after = c.accept_again.new.self in
    let on = again_on old want c.requires.accepted in
    let there = lun_there old want.lun c.from.result c.index-self-from.result on.0 c.from.ensures on.1 in
    let lun : IsLun timing books.rules l = lun_at timing books (luns_of old) want.lun l is.luns there in
    changed_is timing books (accepted_again books want) old _ want.lun l after is (record { spans = refl; rules = refl }) refl refl refl there (changed_at old want.lun c.from.result after c.from.ensures)
    (c.requires.plane, is.planes) (slice_get_within (luns_of old) want.lun l there, is.there)
    (subst (λ z. IsLun timing z after) is.rules (c.accept_again.ensures.lun timing is.spans (subst (λ z. IsLun timing z l) (sym is.rules) lun)))
    (c.accept_again.ensures.line ∙ (ap (λ z. w ∷ z) (line_at timing books (luns_of old) want.lun l is.luns there) ∙ sym (on_first w books.waiting)))
    (λ at d. off_first at w books.waiting d) (accepts_distinct_again timing books old want l is there c.requires.accepted)

pub returns-clause-states : goal.returns-clause-states
returns-clause-states c =
    let old = c.args.self.now in
    let want = c.args.want.now in
    let l = get_or old.lun c.from.result c.index-self-from.result in
    let after = c.accept_again.new.self in
    let on = again_on old want c.requires.accepted in
    let there = lun_there old want.lun c.from.result c.index-self-from.result on.0 c.from.ensures on.1 in
    ap states_in (changed_at old want.lun c.from.result after c.from.ensures) ∙ states_kept (luns_of old) want.lun l after there c.accept_again.ensures.run
