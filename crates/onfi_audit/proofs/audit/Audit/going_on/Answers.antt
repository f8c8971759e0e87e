use Rattle.std.proofs.Common.{◌≡◌, ◌≤◌, ◌<◌, List, length, get_or, ap, ◌∙◌, subst, arith}
use Rattle.std.specs.Prelude.{max}
use Rattle.std.proofs.lemmas.Bool.{le-leb, lt-leb}
use Rattle.onfi_request.specs.declared.want.Want.{Want}
use Rattle.onfi_audit.specs.Audit.{Audit}
use Rattle.onfi_audit.specs.declared.audit.judging.Coming.TheVariants as coming
use Rattle.onfi_audit.proofs.Judging.{IsFound, command_found, post_found}
use Rattle.onfi_audit.proofs.audit.Audit.going_on.Goals.{then-is_post, else-is_post}
use Rattle.onfi_audit.proofs.audit.Audit.going_on.Goals as goal

pub returns-clause-ok : goal.returns-clause-ok
returns-clause-ok c =
    let line = c.args.line.now in
    let group = c.args.group.now in
    let m = c.in-Some.member.now in
    let low = subst (λ (ws : List Want). c.if-is_post.at < length ws) c.members.ensures.value c.in-Some.ensures.lookup.3.0 in
    let elem : m ≡ get_or group c.if-is_post.at m = c.in-Some.ensures.lookup.1 ∙ ap (λ ws. get_or ws c.if-is_post.at m) c.members.ensures.value in
    let named = c.names.ensures.0 c.if-not-names.false in
    let size = c.len-members.ensures.value in
    let number = c.from-number.ensures in
    let found : IsFound line group c.args.phase =
    elim c.if-is_post.branch [
      | then-is_post w ↦ post_found line group c.args.phase c.if-is_post.at m _ low elem named c.if-is_post-line.false (omega (arith, w.if-is_post.true, size, number)) (omega (arith, w.at-is, size, number)) (le-leb _ _ w.if-is_post.true)
      | else-is_post w ↦ command_found line group c.args.phase c.if-is_post.at m _ low elem named c.if-is_post-line.false (omega (arith, w.if-is_post.false, size, number)) (omega (arith, w.at-is, number)) (lt-leb _ _ w.if-is_post.false)
    ] in
    let bus = ap (λ (a : Audit). a.bus_free) c.self.view_is in
    let late : max c.args.self.now.bus_free c.args.ready ≤ line.start = omega (arith, bus, c.if-line-self.false, c.if-line-ready.false) in
    (record { is = found.is; on_time = late }, ap (λ g. coming.GoesOn g c.args.phase) c.copy.ensures, found.within)
