use Rattle.std.proofs.Common.{◌≡◌, [], ap, refl}
use Rattle.std.specs.Prelude.{IfSome, slice_get}
use Rattle.onfi_steady.specs.declared.lun_books.LunBooks.{LunBooks}
use Rattle.onfi_steady.specs.Slots.{slots_in, waiters_in}
use Rattle.onfi_steady.specs.LunBooks.{IsLun, state_in}
use Rattle.onfi_steady.specs.Selecting.{IsBegunAt}
use Rattle.onfi_steady.proofs.Beginning.{each_taken, if_weaker, states_are}
use Rattle.onfi_steady.proofs.dispatcher.Dispatcher.begin.Goals as goal

pub returns-clause-is : goal.returns-clause-is
returns-clause-is c =
    let timing = c.args.timing.now in
    let spans = c.of-self.result in
    let begun = c.begin_luns.ensures.begun in
    record {
      spans = c.of-self.ensures;
      rules = refl;
      newest = refl;
      planes = tt;
      there = tt;
      distinct = tt;
      luns = record {
        each = each_taken (IsLun timing c.args.rules) _ (λ at. if_weaker (IsBegunAt spans c.args.luns.now at) (IsLun timing c.args.rules) _ (λ l b. b.lun timing c.args.rules c.of-self.ensures) (begun at)) _;
        waiting = each_taken (λ (l : LunBooks). waiters_in (slots_in l.line) ≡ []) _ (λ at. if_weaker (IsBegunAt spans c.args.luns.now at) (λ (l : LunBooks). waiters_in (slots_in l.line) ≡ []) _ (λ l b. ap waiters_in b.line) (begun at)) _;
      };
    }

pub returns-clause-states : goal.returns-clause-states
returns-clause-states c =
    states_are c.args.luns.now _ c.begin_luns.ensures.few (λ at. if_weaker (IsBegunAt c.of-self.result c.args.luns.now at) (λ (l : LunBooks). IfSome (slice_get c.args.luns.now at) (λ state. state_in l.run ≡ state)) _ (λ l b. b.state) (c.begin_luns.ensures.begun at))
