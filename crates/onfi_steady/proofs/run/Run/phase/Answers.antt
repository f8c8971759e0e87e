use Rattle.std.proofs.Common.{◌≡◌, ◌∙◌, Some, ap, refl, subst, sym, take}
use Rattle.std.specs.Prelude.{slice_get}
use Rattle.std.proofs.lemmas.Option.{slice_get-get_or}
use Rattle.onfi_steady.proofs.Beginning.{member_there}
use Rattle.onfi_steady.proofs.run.Run.phase.Goals as goal

pub returns-in-Some-clause-phase : goal.returns-in-Some-clause-phase
returns-in-Some-clause-phase c = λ timing some going.
    let r = c.args.self.now in
    let m = c.in-Some.member.now in
    let look = c.in-Some.ensures.lookup in
    let there = slice_get-get_or (take c.from.result r.member) c.from-2.result m look.3.0 ∙ ap Some (sym look.1) in
    let here = subst (λ n. slice_get (take n r.member) c.member_at-at.result ≡ Some m) c.from.ensures (subst (λ i. slice_get (take c.from.result r.member) i ≡ Some m) c.from-2.ensures there) in
    record {
      want = member_there r c.member_at-at.result m c.want.result going.size c.member_at-at.ensures here c.want.ensures;
      number_is = refl;
      members = sym going.size;
      length_is = going.span;
    }
