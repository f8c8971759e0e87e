-- The posts of a group's members, as a sum.
use Rattle.std.proofs.Common.{◌≡◌, ℕ, ◌*◌, ◌-◌, ◌^◌, ◌≤◌, List, [], ◌∷◌, length, map, refl, sym, ◌∙◌, arith}
use Rattle.std.specs.List.{sum}
use Rattle.std.proofs.lemmas.List.Sums.{sum_by-cons, sum_by-take-drop}
use Rattle.onfi_timing.specs.declared.timing.Timing.{Timing}
use Rattle.onfi_timing.specs.Kinds.{spans_of}
use Rattle.onfi_timing.specs.Phases.{posts_from}
use Rattle.onfi_timing.proofs.Phases.{posts_of_all}
use Rattle.onfi_request.specs.declared.want.Want.{Want}
use Rattle.onfi_group.specs.Words.{total}
use Rattle.onfi_group.specs.Group.{group_spans, kind_of}
use Rattle.onfi_problem.specs.Left.{want_post}

pub total_few : (f : Want → ℕ) (ws : List Want) → ((w : Want) → f w ≤ 2 ^ 50) → total f ws ≤ length ws * 2 ^ 50
total_few f [] h = omega arith
total_few f (w ∷ ws) h = let a = h w in let b = total_few f ws h in omega arith

members_posts : (timing : Timing) (g : List Want) → total (want_post timing) g ≡ sum (map (λ m. (spans_of timing m.kind).post) g)
members_posts timing [] = refl
members_posts timing (m ∷ ms) =
    let r = members_posts timing ms in
    let q = sum_by-cons (λ x. x) (spans_of timing m.kind).post (map (λ m. (spans_of timing m.kind).post) ms) in
    omega arith

-- a group that is about to start has the posts of all its members before it
pub start_posts : (timing : Timing) (g : List Want) → posts_from (group_spans timing g) (length g) 0 ≡ total (want_post timing) g
start_posts timing g = posts_of_all (group_spans timing g) (length g) 0 (omega arith) ∙ sym (members_posts timing g)

-- .. so has one that is about to post first, and one of them is of the group's kind
pub first_post : (timing : Timing) (g : List Want) (n : ℕ) → 1 ≤ length g → n ≤ length g → (spans_of timing (kind_of g)).post ≤ posts_from (group_spans timing g) (length g) n
first_post timing [] n some h = absurd (omega arith)
first_post timing (m ∷ ms) n some h =
    let all = posts_of_all (group_spans timing (m ∷ ms)) (length (m ∷ ms)) n h in
    let sums = members_posts timing (m ∷ ms) in
    omega arith

-- a group of one that isn't over has the post of its kind
pub only_post : (timing : Timing) (g : List Want) (n : ℕ) → length g ≡ 1 → n ≤ 1 → posts_from (group_spans timing g) (length g) n ≡ (spans_of timing (kind_of g)).post
only_post timing [] n one h = absurd (omega arith)
only_post timing (m ∷ []) n one h =
    let all = posts_of_all (group_spans timing (m ∷ [])) 1 n h in
    let sums = members_posts timing (m ∷ []) in
    omega arith
only_post timing (m ∷ w ∷ ms) n one h = absurd (omega arith)

-- four posts are short
pub posts_short : (timing : Timing) (g : List Want) (n : ℕ) → length g ≤ 4 → posts_from (group_spans timing g) (length g) n ≤ 2 ^ 52
posts_short timing g n few =
    let part = sum_by-take-drop (λ x. x) (group_spans timing g).posts (n - length g) in
    let sums = members_posts timing g in
    let all = total_few (want_post timing) g (λ w. let r = (spans_of timing w.kind).in_range in omega arith) in
    omega arith
