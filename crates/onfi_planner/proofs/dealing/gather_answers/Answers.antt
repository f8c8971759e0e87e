use Rattle.std.proofs.Common.{Err, [], ◌∷◌}
use Rattle.onfi_planner.proofs.Turns.{still_done, still_refused}
use Rattle.onfi_planner.proofs.dealing.gather_answers.Goals as goal
use Rattle.onfi_group.proofs.Lists.{Has-append_left}

pub loop-share-preserved : goal.loop-share-preserved
loop-share-preserved g c = record {
  done = λ n. cc;
  refused = λ r e. still_refused c.loop-share.yielded c.in-Some.share c.loop-share.first c.in-Err.refusal c.earlier.result r c.in-Err.is c.earlier.ensures e c.loop-share.invariant.refused;
}

pub loop-share-preserved-in-Ok-push : goal.loop-share-preserved-in-Ok-push
loop-share-preserved-in-Ok-push g c = record {
  done = λ n. still_done c.loop-share.yielded c.in-Some.share c.loop-share.all.items c.push.new.self.items c.in-Ok.answers c.in-Ok.is c.in-Ok-push.ensures.items (c.loop-share.invariant.done n);
  refused = λ r e. Has-append_left c.loop-share.yielded (c.in-Some.share ∷ []) (Err r) (c.loop-share.invariant.refused r e);
}
