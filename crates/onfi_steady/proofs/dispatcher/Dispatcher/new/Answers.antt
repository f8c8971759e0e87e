use Rattle.std.proofs.Common.{◌≡◌, [], ap, refl}
use Rattle.onfi_problem.specs.declared.lun_state.LunState.TheVariants.{Free}
use Rattle.onfi_steady.specs.declared.lun_books.LunBooks.{LunBooks}
use Rattle.onfi_steady.specs.Offer.{on_lun}
use Rattle.onfi_steady.specs.Slots.{slots_in, waiters_in}
use Rattle.onfi_steady.specs.LunBooks.{IsLun}
use Rattle.onfi_steady.proofs.Dispatching.{each_state, get_each}
use Rattle.onfi_steady.proofs.dispatcher.Dispatcher.new.Goals as goal

pub returns-clause-is : goal.returns-clause-is
returns-clause-is c = record {
  spans = c.of-spans.ensures;
  rules = refl;
  newest = refl;
  planes = tt;
  there = tt;
  distinct = tt;
  luns = record {
    each = get_each (λ at l. IsLun c.args.timing.now c.args.rules l) c.new.result (λ at. c.new.ensures.lun c.args.timing.now c.args.rules c.of-spans.ensures) _ (refl, (refl, (refl, (refl, (refl, (refl, (refl, (refl, tt)))))))) c.args.luns;
    waiting = get_each (λ at (l : LunBooks). waiters_in (slots_in l.line) ≡ on_lun at []) c.new.result (λ at. ap waiters_in c.new.ensures.line) _ (refl, (refl, (refl, (refl, (refl, (refl, (refl, (refl, tt)))))))) c.args.luns;
  };
}

pub returns-clause-free : goal.returns-clause-free
returns-clause-free c = each_state (Free 0) c.new.result c.new.ensures.state _ (refl, (refl, (refl, (refl, (refl, (refl, (refl, (refl, tt)))))))) c.args.luns
