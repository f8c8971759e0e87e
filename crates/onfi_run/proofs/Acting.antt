-- What hosts do at a moment, one row after another.
use Rattle.std.proofs.Common.{◌≡◌, ◌<◌, ◌≤◌, ◌+◌, ℕ, List, [], ◌∷◌, ◌++◌, length, get_or, map, take, sym, ap, ◌∙◌, subst}
use Rattle.std.proofs.lemmas.List.{take_more}
use Rattle.onfi_addr.specs.declared.geometry.Geometry.{Geometry}
use Rattle.onfi_script.specs.declared.row.Row.{Row}
use Rattle.onfi_run.specs.declared.station.Station.{Station}
use Rattle.onfi_run.specs.Arriving.{HaveCome, comes_at}
use Rattle.onfi_run.specs.Keys.{HasSamePorts, SendsNothing, port_key}
use Rattle.onfi_run.specs.Moments.{Acts, AtMoment}
use Rattle.onfi_run.specs.Operations.{requests_on}
use Rattle.onfi_run.specs.Sending.{HasSent}
use Rattle.onfi_run.proofs.Arrivals.{come_more}
use Rattle.onfi_run.proofs.Moments.{moment_then, same_moment}
use Rattle.onfi_run.proofs.Sends.{all_still_sending, same_keys}

-- nothing was done
pub acts_still : (geometry : Geometry) (rows : List Row) (now : ℕ) (old new : Station) → new.number ≡ old.number → new.passed ≡ old.passed
    → new.ports.items ≡ old.ports.items → Acts geometry rows now old new
acts_still geometry rows now old new number passed same = record {
  number = number;
  same = ap (map port_key) same;
  sent = λ sent. subst (λ n. HasSent geometry (take n rows) old.number new.ports.items) (sym passed) (subst (HasSent geometry (take old.passed rows) old.number) (sym same) sent);
  come = λ come. subst (λ n. HaveCome now (take n rows)) (sym passed) come;
  moments = same_moment now old.ports.items new.ports.items same;
}

-- what a host of that number sent, one step further
pub sent_then : (geometry : Geometry) (rows : List Row) (now : ℕ) (a b : Station) (number : ℕ) → Acts geometry rows now a b → a.number ≡ number
    → HasSent geometry (take a.passed rows) number a.ports.items → HasSent geometry (take b.passed rows) number b.ports.items
sent_then geometry rows now a b number acts is sent =
    let here = subst (λ n. HasSent geometry (take a.passed rows) n a.ports.items) (sym is) sent in
    subst (λ n. HasSent geometry (take b.passed rows) n b.ports.items) is (acts.sent here)

pub acts_then : (geometry : Geometry) (rows : List Row) (now : ℕ) (a b c : Station) → Acts geometry rows now a b → Acts geometry rows now b c
    → Acts geometry rows now a c
acts_then geometry rows now a b c first second = record {
  number = second.number ∙ first.number;
  same = second.same ∙ first.same;
  sent = λ sent. sent_then geometry rows now b c a.number second first.number (first.sent sent);
  come = λ come. second.come (first.come come);
  moments = moment_then now a.ports.items b.ports.items c.ports.items first.moments second.moments;
}

-- replies were collected
pub acts_collecting : (geometry : Geometry) (rows : List Row) (now : ℕ) (old new : Station) → new.number ≡ old.number → new.passed ≡ old.passed
    → SendsNothing old.ports.items new.ports.items → AtMoment now old.ports.items new.ports.items → Acts geometry rows now old new
acts_collecting geometry rows now old new number passed nothing moments = record {
  number = number;
  same = same_keys old.ports.items new.ports.items nothing;
  sent = λ sent.
      let still = all_still_sending old.ports.items new.ports.items nothing (requests_on geometry (take old.passed rows) old.number) sent in
      subst (λ n. HasSent geometry (take n rows) old.number new.ports.items) (sym passed) still;
  come = λ come. subst (λ n. HaveCome now (take n rows)) (sym passed) come;
  moments = moments;
}

-- the host went past a row more, whose moment has come
pub acts_more : (geometry : Geometry) (rows : List Row) (now : ℕ) (old new : Station) (d : Row) → old.passed < length rows → comes_at rows old.passed ≤ now
    → new.passed ≡ old.passed + 1 → new.number ≡ old.number → HasSamePorts old.ports.items new.ports.items
    → (HasSent geometry (take old.passed rows) old.number old.ports.items → HasSent geometry (take old.passed rows ++ get_or rows old.passed d ∷ []) old.number new.ports.items)
    → AtMoment now old.ports.items new.ports.items → Acts geometry rows now old new
acts_more geometry rows now old new d within by passed number same sent moments = record {
  number = number;
  same = same;
  sent = λ before.
      let behind = subst (λ l. HasSent geometry l old.number new.ports.items) (sym (take_more rows old.passed d within)) (sent before) in
      subst (λ n. HasSent geometry (take n rows) old.number new.ports.items) (sym passed) behind;
  come = λ come. subst (λ n. HaveCome now (take n rows)) (sym passed) (come_more now rows old.passed d within by come);
  moments = moments;
}
