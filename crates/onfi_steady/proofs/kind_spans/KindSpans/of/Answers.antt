use Rattle.std.proofs.Common.{◌≡◌, ◌∙◌, ap}
use Rattle.onfi_timing.specs.declared.kind.Kind.{Kind}
use Rattle.onfi_timing.specs.declared.spans.Spans.{Spans}
use Rattle.onfi_timing.specs.Kinds.{spans_of}
use Rattle.onfi_steady.proofs.KindPlaces.{at_places}
use Rattle.onfi_steady.proofs.kind_spans.KindSpans.of.Goals as goal

pub returns : goal.returns
returns c =
    let timing = c.args.timing.now in
    let of : (s : Spans) (kind other : Kind) → kind ≡ other → s ≡ spans_of timing kind → s ≡ spans_of timing other = λ s kind other e h. h ∙ ap (spans_of timing) e in
    at_places timing _ _ _ _ _ _ _ _ _ _ c.spans.ensures c.spans-2.ensures c.spans-3.ensures
    (of _ _ _ c.sectors.ensures c.spans-4.ensures) (of _ _ _ c.sectors-2.ensures c.spans-5.ensures) (of _ _ _ c.sectors-3.ensures c.spans-6.ensures)
    (of _ _ _ c.sectors-4.ensures c.spans-7.ensures) (of _ _ _ c.sectors-5.ensures c.spans-8.ensures) (of _ _ _ c.sectors-6.ensures c.spans-9.ensures)
    (of _ _ _ c.sectors-7.ensures c.spans-10.ensures)
