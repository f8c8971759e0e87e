-- The posts and the sectors of what is left, as they are kept.
use Rattle.std.proofs.Common.{◌≡◌, ℕ, ◌+◌, ◌-◌, ◌≤◌, ◌<◌, inl, inr, List, ◌++◌, length, map, take, drop, replicate, get_or, sym, ap, ◌∙◌, subst, arith}
use Rattle.std.proofs.lemmas.Bool.{cases_lt}
use Rattle.std.proofs.lemmas.List.{ext_get_or, get_or-append-add, get_or-map, get_or-replicate, get_or-take, get_or_append_left, get_or-drop, length-append, length-drop, length-map, length-replicate, length-take-le}
use Rattle.onfi_timing.specs.declared.operation.Operation.{Operation}
use Rattle.onfi_timing.specs.declared.timing.Timing.{Timing}
use Rattle.onfi_timing.specs.Kinds.{sectors_of}
use Rattle.onfi_request.specs.declared.want.Want.{Want}
use Rattle.onfi_group.proofs.PhaseLengths.{no_want}
use Rattle.onfi_demand.specs.Left.{sectors_left}
use Rattle.onfi_demand.specs.Remaining.{lengths_of, post_of, posts_count, posts_left}
use Rattle.onfi_demand.specs.declared.group_lengths.GroupLengths.{GroupLengths}
use Rattle.onfi_demand.proofs.Agreeing.{sectors_length}

abbrev zeros : ℕ → List ℕ
zeros n = replicate n 0

-- the elements of two lists, one after the other
pub first_part : {A : Type 0} (xs ys : List A) (i : ℕ) (d : A) → i < length xs → get_or (xs ++ ys) i d ≡ get_or xs i d
first_part xs ys i d h = get_or_append_left xs ys d i h

pub second_part : {A : Type 0} (xs ys : List A) (i n : ℕ) (d : A) → length xs ≡ n → n ≤ i → get_or (xs ++ ys) i d ≡ get_or ys (i - n) d
second_part xs ys i n d size h =
    let at : length xs + (i - n) ≡ i = omega arith in
    subst (λ j. get_or (xs ++ ys) j d ≡ get_or ys (i - n) d) at (get_or-append-add xs ys (i - n) d)

-- each member has a post
pub kept_size : (kept : GroupLengths) → length (lengths_of kept).posts ≡ kept.members
kept_size kept = let few = kept.few in let long = kept.long in length-take-le kept.members kept.posts (omega arith)

-- posts that were written one by one, where those before member j are over
module _ (timing : Timing) (operation : Operation) (k n : ℕ) (sectors posts : List ℕ) where
  abbrev left : List ℕ
  left = take (posts_count k n) sectors

  pub posts_are : k ≤ 4 → length sectors ≡ 4 → length posts ≡ 4 → ((i : ℕ) → i < n - k → get_or posts i 0 ≡ 0) → ((i : ℕ) → n - k ≤ i → i < k → get_or posts i 0 ≡ post_of timing operation (get_or sectors (i - (n - k)) 0)) → take k posts ≡ posts_left timing operation k (take (posts_count k n) sectors)
  posts_are few long own over there = ext_get_or 0 (take k posts) (posts_left timing operation k left) (size ∙ sym whole) at
    where
      size : length (take k posts) ≡ k
      size = length-take-le k posts (omega arith)

      count : length left ≡ posts_count k n
      count = length-take-le (posts_count k n) sectors (omega arith)

      over_count : length (zeros (k - length left)) ≡ k - length left
      over_count = length-replicate (k - length left) 0

      whole : length (posts_left timing operation k left) ≡ k
      whole =
          let a = length-append (zeros (k - length left)) (map (post_of timing operation) left) in
          let b = length-map left (post_of timing operation) in
          let c = over_count in
          let d = count in
          omega arith

      at : (i : ℕ) → i < length (take k posts) → get_or (take k posts) i 0 ≡ get_or (posts_left timing operation k left) i 0
      at i h =
          let s = size in
          let own = get_or-take k posts i 0 (omega arith) in
          let c = count in
          let z = over_count in
          elim (cases_lt i (k - length left)) [
            | inl less ↦ (
                let first = first_part (zeros (k - length left)) (map (post_of timing operation) left) i 0 (omega arith) in
                let none : get_or (zeros (k - length left)) i 0 ≡ 0 = get_or-replicate (k - length left) i 0 0 less in
                own ∙ (over i (omega arith) ∙ sym (first ∙ none)))
            | inr more ↦ (
                let j = i - (k - length left) in
                let second = second_part (zeros (k - length left)) (map (post_of timing operation) left) i (k - length left) 0 z more in
                let post = get_or-map (post_of timing operation) left j 0 0 (omega arith) in
                let sector = get_or-take (posts_count k n) sectors j 0 (omega arith) in
                let same : i - (n - k) ≡ j = omega arith in
                own ∙ (there i (omega arith) (omega arith) ∙ (ap (λ m. post_of timing operation (get_or sectors m 0)) same ∙ sym (second ∙ (post ∙ ap (post_of timing operation) sector)))))
          ]

-- sectors that were written one by one
pub sectors_are : (g : List Want) (n : ℕ) (sectors : List ℕ) → length g ≤ 4 → length sectors ≡ 4 → ((i : ℕ) → i + (n - length g) < length g → get_or sectors i 0 ≡ sectors_of (get_or g (i + (n - length g)) no_want).kind) → ((i : ℕ) → length g ≤ i + (n - length g) → get_or sectors i 0 ≡ 0) → sectors ≡ sectors_left g n ++ zeros (4 - posts_count (length g) n)
sectors_are g n sectors few long there over = ext_get_or 0 sectors (sectors_left g n ++ zeros (4 - posts_count (length g) n)) (long ∙ sym whole) at
  where
    over_count : length (zeros (4 - posts_count (length g) n)) ≡ 4 - posts_count (length g) n
    over_count = length-replicate (4 - posts_count (length g) n) 0

    whole : length (sectors_left g n ++ zeros (4 - posts_count (length g) n)) ≡ 4
    whole =
        let a = length-append (sectors_left g n) (zeros (4 - posts_count (length g) n)) in
        let b = sectors_length g n in
        let c = over_count in
        omega arith

    at : (i : ℕ) → i < length sectors → get_or sectors i 0 ≡ get_or (sectors_left g n ++ zeros (4 - posts_count (length g) n)) i 0
    at i h =
        let size = sectors_length g n in
        elim (cases_lt i (posts_count (length g) n)) [
          | inl less ↦ (
              let first = first_part (sectors_left g n) (zeros (4 - posts_count (length g) n)) i 0 (omega arith) in
              let count = length-drop (n - length g) g in
              let one = get_or-map (λ m. sectors_of m.kind) (drop (n - length g) g) i no_want 0 (omega arith) in
              let member = get_or-drop (n - length g) g i no_want in
              let same : i + (n - length g) ≡ n - length g + i = omega arith in
              there i (omega arith) ∙ (ap (λ j. sectors_of (get_or g j no_want).kind) same ∙ sym (first ∙ (one ∙ ap (λ (m : Want). sectors_of m.kind) member))))
          | inr more ↦ (
              let second = second_part (sectors_left g n) (zeros (4 - posts_count (length g) n)) i (posts_count (length g) n) 0 size more in
              let none : get_or (zeros (4 - posts_count (length g) n)) (i - posts_count (length g) n) 0 ≡ 0 = get_or-replicate (4 - posts_count (length g) n) (i - posts_count (length g) n) 0 0 (omega arith) in
              over i (omega arith) ∙ sym (second ∙ none))
        ]
