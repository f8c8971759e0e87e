-- The lengths of each kind, by their places.
use Rattle.std.proofs.Common.{◌≡◌, ℕ, zero, suc, ◌≤◌, ◌∙◌, List, ◌∷◌, [], length, Option, Some, None, ap, arith, refl, sym}
use Rattle.std.specs.Prelude.{slice_get, slice_index_or, unwrap_or}
use Rattle.std.proofs.lemmas.Bool.{lt-ltb}
use Rattle.onfi_timing.specs.declared.kind.Kind.{Kind}
use Rattle.onfi_timing.specs.declared.kind.Kind.TheVariants.{Read, Program, Erase, ReadSectors}
use Rattle.onfi_timing.specs.declared.spans.Spans.{Spans}
use Rattle.onfi_timing.specs.declared.timing.Timing.{Timing}
use Rattle.onfi_timing.specs.Kinds.{sector_spans, spans_of}
use Rattle.onfi_steady.specs.Slots.{place_of}

past_end : (xs : List (Option Spans)) (n : ℕ) → length xs ≤ n → slice_index_or xs n None ≡ None
past_end [] n h = refl
past_end (x ∷ xs) zero h = absurd (omega arith)
past_end (x ∷ xs) (suc n) h = past_end xs n (omega arith)

-- more sectors than lengths are stated of
unstated : (timing : Timing) (n : ℕ) → 7 ≤ n → sector_spans timing (suc n) ≡ timing.read
unstated timing n h = let long = timing.long in ap (λ z. unwrap_or z timing.read) (past_end timing.sectors n (omega arith))

pub at_places : (timing : Timing) (s0 s1 s2 s3 s4 s5 s6 s7 s8 s9 : Spans) → s0 ≡ timing.read → s1 ≡ timing.program → s2 ≡ timing.erase →
    s3 ≡ sector_spans timing 1 → s4 ≡ sector_spans timing 2 → s5 ≡ sector_spans timing 3 → s6 ≡ sector_spans timing 4 → s7 ≡ sector_spans timing 5 →
    s8 ≡ sector_spans timing 6 → s9 ≡ sector_spans timing 7 → (kind : Kind) →
    slice_get (s0 ∷ s1 ∷ s2 ∷ s3 ∷ s4 ∷ s5 ∷ s6 ∷ s7 ∷ s8 ∷ s9 ∷ []) (place_of kind) ≡ Some (spans_of timing kind)
at_places timing s0 s1 s2 s3 s4 s5 s6 s7 s8 s9 e0 e1 e2 e3 e4 e5 e6 e7 e8 e9 Read = ap Some e0
at_places timing s0 s1 s2 s3 s4 s5 s6 s7 s8 s9 e0 e1 e2 e3 e4 e5 e6 e7 e8 e9 Program = ap Some e1
at_places timing s0 s1 s2 s3 s4 s5 s6 s7 s8 s9 e0 e1 e2 e3 e4 e5 e6 e7 e8 e9 Erase = ap Some e2
at_places timing s0 s1 s2 s3 s4 s5 s6 s7 s8 s9 e0 e1 e2 e3 e4 e5 e6 e7 e8 e9 (ReadSectors first count) = by_count count
  where
    by_count : (n : ℕ) → slice_get (s0 ∷ s1 ∷ s2 ∷ s3 ∷ s4 ∷ s5 ∷ s6 ∷ s7 ∷ s8 ∷ s9 ∷ []) (place_of (ReadSectors first n)) ≡ Some (sector_spans timing n)
    by_count zero = ap Some e0
    by_count (suc zero) = ap Some e3
    by_count (suc (suc zero)) = ap Some e4
    by_count (suc (suc (suc zero))) = ap Some e5
    by_count (suc (suc (suc (suc zero)))) = ap Some e6
    by_count (suc (suc (suc (suc (suc zero))))) = ap Some e7
    by_count (suc (suc (suc (suc (suc (suc zero)))))) = ap Some e8
    by_count (suc (suc (suc (suc (suc (suc (suc zero))))))) = ap Some e9
    by_count (suc (suc (suc (suc (suc (suc (suc (suc n)))))))) =
        let place : place_of (ReadSectors first (suc (suc (suc (suc (suc (suc (suc (suc n))))))))) ≡ 0 = rw (lt-ltb 7 (suc (suc (suc (suc (suc (suc (suc (suc n)))))))) (omega arith)) refl in
        ap (slice_get (s0 ∷ s1 ∷ s2 ∷ s3 ∷ s4 ∷ s5 ∷ s6 ∷ s7 ∷ s8 ∷ s9 ∷ [])) place
        ∙ (ap Some e0 ∙ ap Some (sym (unstated timing (suc (suc (suc (suc (suc (suc (suc n))))))) (omega arith))))
