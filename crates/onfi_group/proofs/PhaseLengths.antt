-- Lengths of a group's phases.
use Rattle.std.proofs.Common.{◌≡◌, ℕ, ◌+◌, ◌*◌, ◌-◌, ◌^◌, ◌≤◌, ◌<◌, inl, inr, List, length, drop, get_or, ap, ◌∙◌, arith}
use Rattle.std.specs.List.{sum}
use Rattle.std.proofs.lemmas.Bool.{cases_lt}
use Rattle.std.proofs.lemmas.List.{length-map, get_or-map, get_or_past}
use Rattle.std.proofs.lemmas.List.Sums.{sum_by-drop_more}
use Rattle.onfi_timing.specs.declared.kind.Kind.TheVariants.{Read}
use Rattle.onfi_timing.specs.declared.spans.Spans.{Spans}
use Rattle.onfi_timing.specs.declared.timing.Timing.{Timing}
use Rattle.onfi_timing.specs.Kinds.{spans_of}
use Rattle.onfi_timing.specs.Phases.{phase_length, posts_from}
use Rattle.onfi_timing.proofs.Phases.{command_length, post_length, posts_past_command, posts_past_post}
use Rattle.onfi_request.specs.declared.want.Want.{Want}
use Rattle.onfi_group.specs.Group.{group_spans, kind_of}

pub no_want : Want
no_want = record { id = 0; kind = Read; lun = 0; plane = 0; block = 0; page = 0 }

module _ (timing : Timing) (g : List Want) where
  -- each member has a post
  pub posts_length : length (group_spans timing g).posts ≡ length g
  posts_length = length-map g (λ m. (spans_of timing m.kind).post)

  -- a post is as long as its member's kind says
  pub member_post : (n : ℕ) (d : Want) → length g ≤ n → n < 2 * length g → phase_length (group_spans timing g) (length g) n ≡ (spans_of timing (get_or g (n - length g) d).kind).post
  member_post n d h k = post_length (group_spans timing g) (length g) n h ∙ get_or-map (λ m. (spans_of timing m.kind).post) g (n - length g) d 0 (omega arith)

  -- one member's post, and those of the members after it
  pub one_post : (i : ℕ) (d : Want) (spans : Spans) → i < length g → spans ≡ spans_of timing (get_or g i d).kind →
      spans.post + sum (drop (i + 1) (group_spans timing g).posts) ≡ sum (drop i (group_spans timing g).posts)
  one_post i d spans h e =
      let l = posts_length in
      let p = get_or-map (λ m. (spans_of timing m.kind).post) g i d 0 h in
      let q = ap (λ s. s.post) e in
      let m = sum_by-drop_more (λ x. x) (group_spans timing g).posts i 0 (omega arith) in
      omega arith

  -- each phase takes some time
  pub phase_some : (n : ℕ) → n < 2 * length g → 1 ≤ phase_length (group_spans timing g) (length g) n
  phase_some n h =
      elim (cases_lt n (length g)) [
        | inl a ↦ (let e = command_length (group_spans timing g) (length g) n a in let s = (spans_of timing (kind_of g)).in_range.cmd_some in omega arith)
        | inr a ↦ (let e = member_post n no_want a h in let s = (spans_of timing (get_or g (n - length g) no_want).kind).in_range.post_some in omega arith)
      ]

  -- .. and less than 2^50 ns
  pub phase_short : (n : ℕ) → phase_length (group_spans timing g) (length g) n < 2 ^ 50
  phase_short n =
      elim (cases_lt n (length g)) [
        | inl a ↦ (let e = command_length (group_spans timing g) (length g) n a in let s = (spans_of timing (kind_of g)).in_range.cmd_short in omega arith)
        | inr a ↦ elim (cases_lt n (2 * length g)) [
          | inl b ↦ (let e = member_post n no_want a b in let s = (spans_of timing (get_or g (n - length g) no_want).kind).in_range.post_short in omega arith)
          | inr b ↦ (
              let l = posts_length in
              let e = post_length (group_spans timing g) (length g) n a in
              let z = get_or_past (group_spans timing g).posts (n - length g) 0 (omega arith) in
              omega arith)
        ]
      ]

  -- a phase and the posts after it
  pub posts_behind_command : (n : ℕ) → n < length g → posts_from (group_spans timing g) (length g) n ≡ posts_from (group_spans timing g) (length g) (n + 1)
  posts_behind_command n h = posts_past_command (group_spans timing g) (length g) n h

  pub posts_behind_post : (n : ℕ) → length g ≤ n → n < 2 * length g → posts_from (group_spans timing g) (length g) n ≡ phase_length (group_spans timing g) (length g) n + posts_from (group_spans timing g) (length g) (n + 1)
  posts_behind_post n h k = let l = posts_length in posts_past_post (group_spans timing g) (length g) n h (omega arith)
