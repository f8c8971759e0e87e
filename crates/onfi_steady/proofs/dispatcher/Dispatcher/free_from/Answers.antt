use Rattle.std.proofs.Common.{◌≡◌, ◌<◌, ◌∙◌, inl, inr, Some, ap, get_or, subst, sym}
use Rattle.std.proofs.lemmas.List.{length-map}
use Rattle.onfi_problem.specs.Moves.{free_from}
use Rattle.onfi_problem.proofs.Places.{get_within}
use Rattle.onfi_steady.specs.declared.lun_books.LunBooks.{LunBooks}
use Rattle.onfi_steady.specs.declared.run.Run.{Run}
use Rattle.onfi_steady.specs.Dispatcher.{luns_of}
use Rattle.onfi_steady.specs.LunBooks.{state_in}
use Rattle.onfi_steady.proofs.Changing.{lun_there}
use Rattle.onfi_steady.proofs.Dispatching.{state_there}
use Rattle.onfi_steady.proofs.Selecting.{none_or_some, state_free, state_going}
use Rattle.onfi_steady.proofs.dispatcher.Dispatcher.free_from.Goals as goal

-- what is kept of a LUN says from when on it is free
since_is : (r : Run) → r.since ≡ free_from (Some (state_in r))
since_is r = elim (none_or_some r.members) [
  | inl e ↦ sym (ap (λ s. free_from (Some s)) (state_free r e))
  | inr h ↦ sym (ap (λ s. free_from (Some s)) (state_going r h))
]

pub returns : goal.returns
returns c =
    let d = c.args.self.now in
    let lun = c.args.lun in
    let at = get_within (luns_of d) lun (subst (λ n. lun < n) (length-map (luns_of d) (λ (l : LunBooks). state_in l.run)) c.requires) in
    let there = lun_there d lun c.from.result c.index-self-from.result at.0 c.from.ensures at.1 in
    let l = get_or d.lun c.from.result c.index-self-from.result in
    since_is l.run ∙ ap free_from (sym (state_there (luns_of d) lun l there))
