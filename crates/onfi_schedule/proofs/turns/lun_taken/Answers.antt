use Rattle.std.proofs.Common.{◌+◌, List, inl, refl, subst, sym}
use Rattle.onfi_schedule.specs.Schedule.{Placed}
use Rattle.onfi_schedule.specs.Tells.{ArePair}
use Rattle.onfi_schedule.proofs.Twos.{has_taken, pair_at}
use Rattle.onfi_schedule.proofs.turns.lun_taken.Goals as goal

pub returns-then-is_some-clause-told : goal.returns-then-is_some-clause-told
returns-then-is_some-clause-told c = λ p s et eg.
    let groups = c.args.groups.now in
    let at = c.loop-at.at in
    let group = c.index-groups-at.result in
    c.without_turn_among-breach.ensures.told p s et (λ h there.
    inl (subst (λ (gs : List Placed). ArePair gs group h) (sym eg)
    (subst (λ (z : Placed). ArePair groups z h) (sym c.index-groups-at.is) (pair_at groups at (at + 1) group h refl c.loop-at-test.true (has_taken _ _ h there)))))
