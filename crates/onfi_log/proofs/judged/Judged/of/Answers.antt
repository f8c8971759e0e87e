use Rattle.onfi_log.proofs.judged.Judged.of.Goals.{in-Accepted, in-Mentioned+in_ok-greatest-in-Mentioned}
use Rattle.onfi_log.proofs.judged.Judged.of.Goals as goal

pub returns-clause-fresh : goal.returns-clause-fresh
returns-clause-fresh c = elim c.match-requests.branch [
  | in-Accepted w ↦ rw (w.in-Accepted.is, w.greatest-is) w.new-greatest.ensures.items
  | in-Mentioned+in_ok-greatest-in-Mentioned w ↦ (let e = w.in_ok-greatest-in-Mentioned.ensures in rw (w.in-Mentioned.is, w.greatest-is) (e.count, e.zero))
]
