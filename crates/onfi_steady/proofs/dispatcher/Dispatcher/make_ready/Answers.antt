use Rattle.std.proofs.Common.{◌∙◌, ap, get_or, refl, sym}
use Rattle.std.specs.Prelude.{slice_set}
use Rattle.onfi_steady.specs.Slots.{slots_in, waiters_in}
use Rattle.onfi_steady.specs.LunBooks.{state_in, states_in}
use Rattle.onfi_steady.specs.Dispatcher.{luns_of, states_of}
use Rattle.onfi_steady.specs.declared.line.Line.{Line}
use Rattle.onfi_steady.proofs.Changing.{changed_at, changed_is, lun_there, ready_states, working_on}
use Rattle.onfi_steady.proofs.Dispatching.{line_at, lun_at, states_changed}
use Rattle.onfi_steady.proofs.Dispatching.{state_there}
use Rattle.onfi_steady.proofs.dispatcher.Dispatcher.make_ready.Goals as goal

pub returns-clause-ready : goal.returns-clause-ready
returns-clause-ready c =
    let old = c.args.self.now in
    let lun = c.args.lun in
    let l = get_or old.lun c.from.result c.index-self-from.result in
    let after = c.make_ready.new.self in
    let on = working_on old lun c.requires in
    let there = lun_there old lun c.from.result c.index-self-from.result on.books c.from.ensures on.there in
    ap states_in (changed_at old lun c.from.result after c.from.ensures) ∙ (states_changed (luns_of old) lun after
    ∙ (ap (slice_set (states_of old) lun) c.make_ready.ensures.state ∙ sym (ready_states (states_of old) lun c.args.moment (state_in l.run) (state_there (luns_of old) lun l there))))

pub returns-clause-is : goal.returns-clause-is
returns-clause-is c = λ timing books is.
    let old = c.args.self.now in
    let lun = c.args.lun in
    let l = get_or old.lun c.from.result c.index-self-from.result in
    let after = c.make_ready.new.self in
    let on = working_on old lun c.requires in
    let there = lun_there old lun c.from.result c.index-self-from.result on.books c.from.ensures on.there in
    changed_is timing books books old _ lun l after is (record { spans = refl; rules = refl }) refl refl refl there (changed_at old lun c.from.result after c.from.ensures) is.planes is.there
    (c.make_ready.ensures.lun timing books.rules (lun_at timing books (luns_of old) lun l is.luns there))
    (ap (λ (z : Line). waiters_in (slots_in z)) c.make_ready.ensures.line ∙ line_at timing books (luns_of old) lun l is.luns there) (λ at d. refl) is.distinct
