use Rattle.onfi_steady.proofs.Following.{accept_follows}
use Rattle.onfi_steady.proofs.laws.channel_follows_request.Goals as goal

pub returns : goal.returns
returns c = accept_follows
