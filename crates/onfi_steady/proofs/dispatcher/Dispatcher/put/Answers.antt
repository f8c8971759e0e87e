use Rattle.std.proofs.Common.{◌≡◌, ◌∙◌, Some, ap, get_or, refl, subst, sym}
use Rattle.std.specs.Prelude.{slice_get, slice_set}
use Rattle.std.proofs.lemmas.Option.{get_or_from_slice_get}
use Rattle.onfi_steady.specs.LunBooks.{IsLun, states_in}
use Rattle.onfi_steady.specs.Dispatcher.{luns_of}
use Rattle.onfi_steady.proofs.Dispatching.{accepted_is, accepted_on, lun_at, states_kept, take_changed}
use Rattle.onfi_steady.proofs.Distinct.{accepts_distinct}
use Rattle.onfi_steady.proofs.dispatcher.Dispatcher.put.Goals as goal

pub returns-clause-accepted : goal.returns-clause-accepted
returns-clause-accepted c = λ timing books is.
    let old = c.args.self.now in
    let want = c.args.want.now in
    let l = get_or old.lun c.from.result c.index-self-from.result in
    let after = c.accept.new.self in
    let on = accepted_on old want c.requires.accepted in
    let kept : slice_get old.lun c.from.result ≡ Some on.lun = subst (λ i. slice_get old.lun i ≡ Some on.lun) (sym c.from.ensures) on.kept in
    let same : l ≡ on.lun = get_or_from_slice_get old.lun c.from.result on.lun c.index-self-from.result kept in
    let there : slice_get (luns_of old) want.lun ≡ Some l = on.there ∙ ap Some (sym same) in
    let changed = take_changed old.due.luns old.lun c.from.result after ∙ ap (λ i. slice_set (luns_of old) i after) c.from.ensures in
    let lun : IsLun timing books.rules l = lun_at timing books (luns_of old) want.lun l is.luns there in
    accepted_is timing books want old _ l after is (record { spans = refl; rules = refl }) there changed c.with-self.ensures c.requires.plane c.accept.ensures.line
    (subst (λ z. IsLun timing z after) is.rules (c.accept.ensures.lun timing is.spans (subst (λ z. IsLun timing z l) (sym is.rules) lun)))
    (accepts_distinct timing books old want l is there c.requires.accepted)

pub returns-clause-states : goal.returns-clause-states
returns-clause-states c =
    let old = c.args.self.now in
    let want = c.args.want.now in
    let l = get_or old.lun c.from.result c.index-self-from.result in
    let after = c.accept.new.self in
    let on = accepted_on old want c.requires.accepted in
    let kept : slice_get old.lun c.from.result ≡ Some on.lun = subst (λ i. slice_get old.lun i ≡ Some on.lun) (sym c.from.ensures) on.kept in
    let same : l ≡ on.lun = get_or_from_slice_get old.lun c.from.result on.lun c.index-self-from.result kept in
    let there : slice_get (luns_of old) want.lun ≡ Some l = on.there ∙ ap Some (sym same) in
    let changed = take_changed old.due.luns old.lun c.from.result after ∙ ap (λ i. slice_set (luns_of old) i after) c.from.ensures in
    ap states_in changed ∙ states_kept (luns_of old) want.lun l after there c.accept.ensures.run
