use Rattle.std.proofs.Common.{◌≡◌, ℕ, zero, suc, [], ◌∷◌, Some, refl, subst}
use Rattle.std.specs.Prelude.{slice_get}
use Rattle.onfi_core.specs.declared.setup.Setup.{Setup}
use Rattle.onfi_reply.specs.Ends.{PosterView}
use Rattle.onfi_seq.specs.Sequencer.{IsFreshPoster}
use Rattle.onfi_channel_tests.proofs.plain.open_sequencer.Goals as goal

each_fresh : (s : Setup) (p q r t : PosterView) → IsFreshPoster s 0 0 p → IsFreshPoster s 0 1 q → IsFreshPoster s 0 2 r → IsFreshPoster s 0 3 t
    → (host : ℕ) (x : PosterView) → slice_get (p ∷ q ∷ r ∷ t ∷ []) host ≡ Some x → IsFreshPoster s 0 host x
each_fresh s p q r t first second third fourth zero x there = let is : p ≡ x = cc in subst (IsFreshPoster s 0 0) is first
each_fresh s p q r t first second third fourth (suc zero) x there = let is : q ≡ x = cc in subst (IsFreshPoster s 0 1) is second
each_fresh s p q r t first second third fourth (suc (suc zero)) x there = let is : r ≡ x = cc in subst (IsFreshPoster s 0 2) is third
each_fresh s p q r t first second third fourth (suc (suc (suc zero))) x there = let is : t ≡ x = cc in subst (IsFreshPoster s 0 3) is fourth
each_fresh s p q r t first second third fourth (suc (suc (suc (suc host)))) x there = cc

pub open-requires-2-clause-posters : goal.open-requires-2-clause-posters
open-requires-2-clause-posters c = record {
  count = refl;
  each = each_fresh c.args.setup.now c.in_ok-first.first c.in_ok-second.second c.in_ok-third.third c.in_ok-fourth.fourth
      c.in_ok-first.ensures.poster c.in_ok-second.ensures.poster c.in_ok-third.ensures.poster c.in_ok-fourth.ensures.poster;
}
