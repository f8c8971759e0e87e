-- Pieces of a log that are found line by line.
use Rattle.std.proofs.Common.{◌≡◌, ℕ, true, false, append-nil, ◌+◌, ◌<◌, ◌≤◌, length, inl, inr, List, [], ◌∷◌, ◌++◌, refl, sym, ap, ◌∙◌, subst, arith}
use Rattle.std.proofs.lemmas.List.{append_assoc}
use Rattle.std.proofs.lemmas.List.Sorted.{length_permutation}
use Rattle.onfi_timing.specs.declared.timing.Timing.{Timing}
use Rattle.onfi_request.specs.declared.want.Want.{Want}
use Rattle.onfi_group.specs.declared.rules.Rules.{Rules}
use Rattle.onfi_group.proofs.Lists.{All-append, All-has, All-weaker, Pairs-append}
use Rattle.onfi_problem.specs.Left.{InLimits}
use Rattle.onfi_problem.specs.Problem.{Problem, IsProblem}
use Rattle.onfi_schedule.specs.Schedule.{Schedule, Legal, finish}
use Rattle.onfi_check.specs.Nodes.{HasMoreNodes}
use Rattle.onfi_known_check.specs.Laws.{NoneBefore}
use Rattle.onfi_gap.specs.declared.piece.Piece.{Piece}
use Rattle.onfi_audit.specs.declared.line.Line.{Line}
use Rattle.onfi_gap.specs.Cuts.{Cut, begins_at, cut_at, cuts_from, groups_from}
use Rattle.onfi_gap.specs.Following.{Followed, Noted, followed}
use Rattle.onfi_gap.specs.Pieces.{AreBefore, AreOf, ArePieces, IsPiece, Puts, problem_with}

-- what stands before a line stands before the next one
pub before_next : {n : ℕ} {pieces : List Piece} → AreBefore n pieces → AreBefore (n + 1) pieces
before_next {n} {pieces} are = record {
  rising = are.rising;
  lines = All-weaker (λ p. p.line < n) (λ p. p.line < n + 1) (λ p lt. omega arith) pieces are.lines;
}

-- .. and so does a further piece that begins with that line
with_piece : (n : ℕ) (pieces : List Piece) (piece : Piece) → AreBefore n pieces → piece.line ≡ n → AreBefore (n + 1) (pieces ++ piece ∷ [])
with_piece n pieces piece are at = record {
  rising = Pairs-append (λ a b. a.line < b.line) pieces (piece ∷ []) are.rising (tt, tt) (λ x y has one.
      let lt = All-has (λ p. p.line < n) pieces x are.lines has in
      elim one [ inl e ↦ subst (λ z. x.line < z.line) e (omega arith) | inr none ↦ absurd none ]);
  lines = All-append (λ p. p.line < n + 1) pieces (piece ∷ []) (before_next are).lines (omega arith, tt);
}

module _ {timing : Timing} {rules : Rules} {limit : ℕ} {cut : Cut} {before after : List Piece} where
  pub put_before : Puts timing rules limit cut before after → AreBefore cut.line before → AreBefore (cut.line + 1) after
  put_before (inl (out, e)) are = subst (λ ps. AreBefore (cut.line + 1) ps) (sym e) (before_next are)
  put_before (inr (piece, e, is)) are = subst (λ ps. AreBefore (cut.line + 1) ps) (sym e) (with_piece cut.line before piece are is.line)

-- a plan of the problem is that of the piece
module _ {timing : Timing} {rules : Rules} {limit : ℕ} {cut : Cut} {piece : Piece} {wants : List Want} where
  pub planned : (p : Problem) (s : Schedule) → p ≡ problem_with timing rules cut wants → AreOf cut wants → 1 ≤ length wants → InLimits p
      → piece.line ≡ cut.line → piece.begin ≡ cut.bus_free → piece.end ≡ cut.end → piece.requests ≡ length wants
      → Legal p s → finish p s ≡ piece.best → NoneBefore p piece.below → piece.below ≤ piece.best → (piece.below < piece.best → HasMoreNodes p limit)
      → IsPiece timing rules limit cut piece
  planned p s e same some limits line begin end count legal best least below short =
      let few : length wants ≤ 8 = subst (λ q. length q.wants ≤ 8) e limits.small.wants in
      record {
        line = line;
        begin = begin;
        end = end;
        requests = count ∙ length_permutation cut.wants wants same;
        some = rw count some;
        few = rw count few;
        wants = wants;
        same = same;
        is = subst IsProblem e limits.problem;
        schedule = s;
        legal = subst (λ q. Legal q s) e legal;
        best = subst (λ q. finish q s ≡ piece.best) e best;
        least = subst (λ q. NoneBefore q piece.below) e least;
        below = below;
        short = subst (λ q. piece.below < piece.best → HasMoreNodes q limit) e short;
      }

-- these pieces, and those of the cuts that are left after them, are the pieces of all
abbrev pub GoOn : Timing → Rules → ℕ → List Cut → List Cut → List Piece → Type 0
GoOn timing rules limit all left pieces = (rest : List Piece) → ArePieces timing rules limit left rest → ArePieces timing rules limit all (pieces ++ rest)

module _ (timing : Timing) (rules : Rules) (limit : ℕ) (all : List Cut) where
  put_on : (left : List Cut) (cut : Cut) (before after : List Piece) → Puts timing rules limit cut before after → GoOn timing rules limit all (cut ∷ left) before → GoOn timing rules limit all left after
  put_on left cut before after (inl (out, e)) goes rest are = subst (λ ps. ArePieces timing rules limit all (ps ++ rest)) (sym e) (goes rest (inl (out, are)))
  put_on left cut before after (inr (piece, e, is)) goes rest are =
      subst (λ ps. ArePieces timing rules limit all ps) (sym (ap (λ ps. ps ++ rest) e ∙ append_assoc before (piece ∷ []) rest)) (goes (piece ∷ rest) (inr (piece, rest, refl, is, are)))

  -- at the end nothing is left
  pub all_found : (notes : List Noted) (f : Followed) (from line : ℕ) (lines : List Line) (pieces : List Piece) → lines ≡ []
      → GoOn timing rules limit all (cuts_from notes f from line lines) pieces → ArePieces timing rules limit all pieces
  all_found notes f from line lines pieces none goes =
      let last : ArePieces timing rules limit (cuts_from notes f from line lines) [] = subst (λ ls. ArePieces timing rules limit (cuts_from notes f from line ls) []) (sym none) refl in
      subst (λ ps. ArePieces timing rules limit all ps) (append-nil pieces) (goes [] last)

  module _ (notes : List Noted) (f g : Followed) (from line : ℕ) (l : Line) (lines more : List Line) (here : lines ≡ l ∷ more) (after_is : g ≡ followed f l) where
    -- a piece begins with the line
    pub on_with : (from' : ℕ) (before after : List Piece) → begins_at f from l ≡ true → from' ≡ from + length (groups_from notes from)
        → Puts timing rules limit (cut_at notes f (groups_from notes from) line) before after
        → GoOn timing rules limit all (cuts_from notes f from line lines) before → GoOn timing rules limit all (cuts_from notes g from' (line + 1) more) after
    on_with from' before after begins next put goes =
        let cut = cut_at notes f (groups_from notes from) line in
        let e : cuts_from notes f from line lines ≡ cut ∷ cuts_from notes g from' (line + 1) more = rw (here, after_is, next) (rw begins refl) in
        put_on (cuts_from notes g from' (line + 1) more) cut before after put (subst (λ cs. GoOn timing rules limit all cs before) e goes)

    -- .. or none
    pub on_without : (before : List Piece) → begins_at f from l ≡ false
        → GoOn timing rules limit all (cuts_from notes f from line lines) before → GoOn timing rules limit all (cuts_from notes g from (line + 1) more) before
    on_without before begins goes =
        let e : cuts_from notes f from line lines ≡ cuts_from notes g from (line + 1) more = rw (here, after_is) (rw begins refl) in
        subst (λ cs. GoOn timing rules limit all cs before) e goes
