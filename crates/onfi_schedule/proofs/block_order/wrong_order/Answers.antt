use Rattle.std.proofs.Common.{◌+◌, List, get_or, refl, subst, sym}
use Rattle.onfi_request.specs.declared.want.Want.{Want}
use Rattle.onfi_schedule.specs.Tells.{ArePair}
use Rattle.onfi_schedule.proofs.Telling.{no_want}
use Rattle.onfi_schedule.proofs.Twos.{has_taken, pair_at}
use Rattle.onfi_schedule.proofs.block_order.wrong_order.Goals as goal

pub returns-then-is_some-clause-told : goal.returns-then-is_some-clause-told
returns-then-is_some-clause-told c = λ p s et eg ew.
    let wants = c.args.wants.now in
    let at = c.loop-at.at in
    c.out_of_order_among-breach.ensures.told p s et eg (λ w there.
    subst (λ (ws : List Want). ArePair ws (get_or wants at no_want) w) (sym ew) (pair_at wants at (at + 1) no_want w refl c.loop-at-test.true (has_taken _ _ w there)))
