-- What kinds of one operation share, and what their posts take at least.
use Rattle.std.proofs.Common.{◌≡◌, ℕ, zero, suc, ◌+◌, ◌≤◌, List, [], ◌∷◌, Option, Some, None, slice_get, slice_index_or, refl, sym, ◌∙◌, subst, arith}
use Rattle.std.specs.Prelude.{min}
use Rattle.std.proofs.Math.Nat.{min-le_left, min-le_right}
use Rattle.onfi_timing.specs.declared.kind.Kind.{Kind}
use Rattle.onfi_timing.specs.declared.kind.Kind.TheVariants.{Read, Program, Erase, ReadSectors}
use Rattle.onfi_timing.specs.declared.spans.Spans.{Spans}
use Rattle.onfi_timing.specs.declared.timing.Timing.{Timing}
use Rattle.onfi_timing.specs.Sectors.{IsAlike, least_post, lesser_post}
use Rattle.onfi_timing.specs.Kinds.{operation_of, operation_spans, spans_of, least_rest}

all_alike : (spans : Spans) → IsAlike spans spans
all_alike spans = record { cmd = refl; gap = refl; array = refl }

some_at : (sectors : List (Option Spans)) (i : ℕ) (spans : Spans) → slice_index_or sectors i None ≡ Some spans → slice_get sectors i ≡ Some (Some spans)
some_at [] i spans e = absurd cc
some_at (one ∷ more) zero spans e = rw e refl
some_at (one ∷ more) (suc i) spans e = some_at more i spans e

-- all but the post of a kind is that of its operation
pub of_operation : (timing : Timing) (kind : Kind) → IsAlike (operation_spans timing (operation_of kind)) (spans_of timing kind)
of_operation timing Read = all_alike timing.read
of_operation timing Program = all_alike timing.program
of_operation timing Erase = all_alike timing.erase
of_operation timing (ReadSectors first zero) = all_alike timing.read
of_operation timing (ReadSectors first (suc before)) = go (slice_index_or timing.sectors before None) refl
  where
    go : (one : Option Spans) → slice_index_or timing.sectors before None ≡ one → IsAlike timing.read (spans_of timing (ReadSectors first (suc before)))
    go None e = rw e (all_alike timing.read)
    go (Some spans) e = rw e (timing.alike before spans (some_at timing.sectors before spans e))

-- two kinds of one operation differ by their posts alone
pub one_operation : (timing : Timing) (a b : Kind) → operation_of a ≡ operation_of b → IsAlike (spans_of timing a) (spans_of timing b)
one_operation timing a b e =
    let x = subst (λ o. IsAlike (operation_spans timing o) (spans_of timing a)) e (of_operation timing a) in
    let y = of_operation timing b in
    record {
      cmd = y.cmd ∙ sym x.cmd;
      gap = y.gap ∙ sym x.gap;
      array = y.array ∙ sym x.array;
    }

least_of_all : (post : ℕ) (sectors : List (Option Spans)) → least_post post sectors ≤ post
unfolding least_post
least_of_all post [] = omega arith
least_of_all post (None ∷ more) = least_of_all post more
least_of_all post (Some s ∷ more) = let a = least_of_all (min post s.post) more in let b = min-le_left post s.post in omega arith

least_of_stated : (post : ℕ) (sectors : List (Option Spans)) (i : ℕ) (spans : Spans) → slice_get sectors i ≡ Some (Some spans) → least_post post sectors ≤ spans.post
unfolding least_post
least_of_stated post [] i spans e = absurd cc
least_of_stated post (one ∷ more) (suc i) spans e = least_of_stated (lesser_post post one) more i spans e
least_of_stated post (None ∷ more) zero spans e = absurd cc
least_of_stated post (Some s ∷ more) zero spans e = let a = least_of_all (min post s.post) more in let b = min-le_right post s.post in let s_is : s ≡ spans = cc in rw (sym s_is) (omega arith)

-- nothing that an operation puts out is over sooner after its last command
pub least_below : (timing : Timing) (kind : Kind) → least_rest timing (operation_of kind) ≤ (spans_of timing kind).array + (spans_of timing kind).post
least_below timing Program = omega arith
least_below timing Erase = omega arith
least_below timing Read = let a = least_of_all timing.read.post timing.sectors in omega arith
least_below timing (ReadSectors first zero) = let a = least_of_all timing.read.post timing.sectors in omega arith
least_below timing (ReadSectors first (suc before)) = go (slice_index_or timing.sectors before None) refl
  where
    go : (one : Option Spans) → slice_index_or timing.sectors before None ≡ one → least_rest timing (operation_of (ReadSectors first (suc before))) ≤ (spans_of timing (ReadSectors first (suc before))).array + (spans_of timing (ReadSectors first (suc before))).post
    go None e = rw e (let a = least_of_all timing.read.post timing.sectors in omega arith)
    go (Some spans) e =
        let at = some_at timing.sectors before spans e in
        let a = least_of_stated timing.read.post timing.sectors before spans at in
        let b = (timing.alike before spans at).array in
        rw e (omega arith)
