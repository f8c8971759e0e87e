-- The counts of a class and the waits of a LUN's wants, with one more want.
use Rattle.std.proofs.Common.{◌≡◌, ◌≢◌, ℕ, zero, suc, ◌+◌, ◌*◌, ◌-◌, ◌^◌, ◌≤◌, ◌<◌, ◌⊎◌, inl, inr, Bool, true, false, if◌then◌else◌, List, [], ◌∷◌, ◌++◌, length, get_or, take, refl, sym, add-zero, ◌∙◌, arith}
use Rattle.std.specs.Prelude.{min, max, ◌==◌, slice_set}
use Rattle.std.proofs.lemmas.Bool.{cases_Bool, cases_eq, eq-eqb, ne_eqb}
use Rattle.std.proofs.lemmas.List.{append-nil, take_more, length-take}
use Rattle.std.proofs.lemmas.List.Elements.{filter-append}
use Rattle.onfi_timing.specs.declared.operation.Operation.{Operation}
use Rattle.onfi_timing.specs.declared.operation.Operation.TheVariants.{Read, Program, Erase}
use Rattle.onfi_timing.specs.declared.spans.Spans.{Spans}
use Rattle.onfi_timing.specs.declared.timing.Timing.{Timing}
use Rattle.onfi_timing.specs.Kinds.{operation_of, operation_spans, spans_of}
use Rattle.onfi_timing.proofs.Shared.{of_operation}
use Rattle.onfi_request.specs.declared.want.Want.{Want}
use Rattle.onfi_group.specs.declared.rules.Rules.{Rules}
use Rattle.onfi_group.specs.Words.{number}
use Rattle.onfi_problem.specs.Left.{want_command, want_post}
use Rattle.onfi_problem.proofs.Wants.{total-append, filter_shorter}
use Rattle.onfi_bound.specs.Bounds.{on_lun, sum_upto, same_operation, page_class, above_class, in_class, on_plane, deepest, class_waits, waits_of, operation_waits, wants_work}
use Rattle.onfi_bound.specs.Parts.{plane_counts, added_wait}
use Rattle.onfi_bound.proofs.Classes.{same_operation_is, same_operation_self, deepest_in, not_in}
use Rattle.onfi_bound.proofs.Steps.{one_operation_of}

-- one more want on the LUN, or on another
pub on_lun_with : (lun : ℕ) (ws : List Want) (w : Want) → w.lun ≡ lun → on_lun lun (ws ++ w ∷ []) ≡ on_lun lun ws ++ w ∷ []
on_lun_with lun ws w e = rw (filter-append (λ v. v.lun == lun) ws (w ∷ [])) (rw (eq-eqb w.lun lun e) refl)

pub on_lun_without : (lun : ℕ) (ws : List Want) (w : Want) → w.lun ≢ lun → on_lun lun (ws ++ w ∷ []) ≡ on_lun lun ws
on_lun_without lun ws w e = rw (filter-append (λ v. v.lun == lun) ws (w ∷ [])) (rw (ne_eqb w.lun lun e) (append-nil (on_lun lun ws)))

on_lun_yes : (lun : ℕ) (ws : List Want) (i : ℕ) (d : Want) → i < length ws → (get_or ws i d).lun ≡ lun → on_lun lun (take (i + 1) ws) ≡ on_lun lun (take i ws) ++ get_or ws i d ∷ []
on_lun_yes lun ws i d h e = rw (take_more ws i d h) (on_lun_with lun (take i ws) (get_or ws i d) e)

on_lun_no : (lun : ℕ) (ws : List Want) (i : ℕ) (d : Want) → i < length ws → (get_or ws i d).lun ≢ lun → on_lun lun (take (i + 1) ws) ≡ on_lun lun (take i ws)
on_lun_no lun ws i d h e = rw (take_more ws i d h) (on_lun_without lun (take i ws) (get_or ws i d) e)

number_more : (test : Want → Bool) (ws : List Want) (x : Want) → number test (ws ++ x ∷ []) ≡ number test ws + (if test x then 1 else 0)
number_more test ws x = let e = total-append (λ w. if test w then 1 else 0) ws (x ∷ []) in omega arith

-- the counts on each plane, with one more want of the class
one_more_on : (rules : Rules) (operation : Operation) (page above plane : ℕ) (ws : List Want) (x : Want) → in_class rules operation page above x ≡ true → number (on_plane rules operation page above plane) (ws ++ x ∷ []) ≡ number (on_plane rules operation page above plane) ws + (if x.plane == plane then 1 else 0)
one_more_on rules operation page above plane ws x e = number_more (on_plane rules operation page above plane) ws x ∙ rw e refl

none_more_on : (rules : Rules) (operation : Operation) (page above plane : ℕ) (ws : List Want) (x : Want) → in_class rules operation page above x ≡ false → number (on_plane rules operation page above plane) (ws ++ x ∷ []) ≡ number (on_plane rules operation page above plane) ws
none_more_on rules operation page above plane ws x e = let q = number_more (on_plane rules operation page above plane) ws x in let z : number (on_plane rules operation page above plane) (ws ++ x ∷ []) ≡ number (on_plane rules operation page above plane) ws + 0 = q ∙ rw e refl in omega arith

counts_in : (rules : Rules) (w : Want) (ws : List Want) (x : Want) (n : ℕ) → x.plane ≡ n → n ≤ 3 → in_class rules (operation_of w.kind) (page_class w) (above_class rules w) x ≡ true → plane_counts rules w (ws ++ x ∷ []) ≡ slice_set (plane_counts rules w ws) n (get_or (plane_counts rules w ws) n 0 + 1)
counts_in rules w ws x n e le q =
    let a : (plane : ℕ) → number (on_plane rules (operation_of w.kind) (page_class w) (above_class rules w) plane) (ws ++ x ∷ []) ≡ number (on_plane rules (operation_of w.kind) (page_class w) (above_class rules w) plane) ws + (if n == plane then 1 else 0) = λ plane. one_more_on rules (operation_of w.kind) (page_class w) (above_class rules w) plane ws x q ∙ rw e refl in
    rw (a 0, a 1, a 2, a 3) (go n le _ _ _ _)
  where
    go : (n : ℕ) → n ≤ 3 → (b c d f : ℕ) → (b + (if n == 0 then 1 else 0)) ∷ (c + (if n == 1 then 1 else 0)) ∷ (d + (if n == 2 then 1 else 0)) ∷ (f + (if n == 3 then 1 else 0)) ∷ [] ≡ slice_set (b ∷ c ∷ d ∷ f ∷ []) n (get_or (b ∷ c ∷ d ∷ f ∷ []) n 0 + 1)
    go zero le b c d f = simp add-zero refl
    go (suc zero) le b c d f = simp add-zero refl
    go (suc (suc zero)) le b c d f = simp add-zero refl
    go (suc (suc (suc zero))) le b c d f = simp add-zero refl
    go (suc (suc (suc (suc n)))) le b c d f = absurd (omega arith)

counts_out : (rules : Rules) (w : Want) (ws : List Want) (x : Want) → in_class rules (operation_of w.kind) (page_class w) (above_class rules w) x ≡ false → plane_counts rules w (ws ++ x ∷ []) ≡ plane_counts rules w ws
counts_out rules w ws x out =
    let a = λ (plane : ℕ). none_more_on rules (operation_of w.kind) (page_class w) (above_class rules w) plane ws x out in
    rw (a 0, a 1, a 2, a 3) refl

-- a loop's counts with one more want
pub counts_more : (rules : Rules) (w : Want) (before : List Want) (i : ℕ) (d : Want) (counts next : List ℕ) → i < length before → (get_or before i d).plane ≤ 3 → (get_or before i d).lun ≡ w.lun → in_class rules (operation_of w.kind) (page_class w) (above_class rules w) (get_or before i d) ≡ true → counts ≡ plane_counts rules w (on_lun w.lun (take i before)) → next ≡ slice_set counts (get_or before i d).plane (get_or counts (get_or before i d).plane 0 + 1) → next ≡ plane_counts rules w (on_lun w.lun (take (i + 1) before))
counts_more rules w before i d counts next h le lun q a b = b ∙ rw (a, on_lun_yes w.lun before i d h lun) (sym (counts_in rules w (on_lun w.lun (take i before)) (get_or before i d) _ refl le q))

pub counts_same : (rules : Rules) (w : Want) (before : List Want) (i : ℕ) (d : Want) (counts : List ℕ) → i < length before → in_class rules (operation_of w.kind) (page_class w) (above_class rules w) (get_or before i d) ≡ false → counts ≡ plane_counts rules w (on_lun w.lun (take i before)) → counts ≡ plane_counts rules w (on_lun w.lun (take (i + 1) before))
counts_same rules w before i d counts h q a = elim (cases_eq (get_or before i d).lun w.lun) [
  | inl e ↦ a ∙ rw (on_lun_yes w.lun before i d h e) (sym (counts_out rules w (on_lun w.lun (take i before)) (get_or before i d) q))
  | inr n ↦ a ∙ rw (on_lun_no w.lun before i d h n) refl
]

pub counts_other : (rules : Rules) (w : Want) (before : List Want) (i : ℕ) (d : Want) (counts : List ℕ) → i < length before → (get_or before i d).lun ≢ w.lun → counts ≡ plane_counts rules w (on_lun w.lun (take i before)) → counts ≡ plane_counts rules w (on_lun w.lun (take (i + 1) before))
counts_other rules w before i d counts h n a = a ∙ rw (on_lun_no w.lun before i d h n) refl

-- no count leaves its type
number_few : (test : Want → Bool) (ws : List Want) → number test ws ≤ length ws
number_few test [] = omega arith
number_few test (w ∷ ws) = let e = number_few test ws in elim (cases_Bool (test w)) [ inl k ↦ rw k (omega arith) | inr k ↦ rw k (omega arith) ]

count_few : (rules : Rules) (w : Want) (ws : List Want) (n : ℕ) → get_or (plane_counts rules w ws) n 0 ≤ length ws
count_few rules w ws zero = number_few _ ws
count_few rules w ws (suc zero) = number_few _ ws
count_few rules w ws (suc (suc zero)) = number_few _ ws
count_few rules w ws (suc (suc (suc zero))) = number_few _ ws
count_few rules w ws (suc (suc (suc (suc n)))) = omega arith

pub counts_fit : (rules : Rules) (w : Want) (before : List Want) (i n : ℕ) (counts : List ℕ) → counts ≡ plane_counts rules w (on_lun w.lun (take i before)) → get_or counts n 0 ≤ i
counts_fit rules w before i n counts a =
    let b = count_few rules w (on_lun w.lun (take i before)) n in
    let c = filter_shorter (λ v. v.lun == w.lun) (take i before) in
    let d = length-take i before in
    rw a (omega arith)

-- sums that differ at one place
sum_same : (n : ℕ) (f g : ℕ → ℕ) → ((i : ℕ) → f i ≡ g i) → sum_upto n f ≡ sum_upto n g
unfolding sum_upto
sum_same zero f g h = refl
sum_same (suc n) f g h = let a = h n in let b = sum_same n f g h in omega arith

sum_before : (n : ℕ) (f g : ℕ → ℕ) (here : ℕ) → n ≤ here → ((i : ℕ) → i ≢ here → f i ≡ g i) → sum_upto n f ≡ sum_upto n g
unfolding sum_upto
sum_before zero f g here le h = refl
sum_before (suc n) f g here le h = let a = h n (λ e. omega arith) in let b = sum_before n f g here (omega arith) h in omega arith

sum_more : (n : ℕ) (f g : ℕ → ℕ) (here c : ℕ) → here < n → ((i : ℕ) → i ≢ here → f i ≡ g i) → f here ≡ c + g here → sum_upto n f ≡ c + sum_upto n g
unfolding sum_upto
sum_more zero f g here c lt h k = absurd (omega arith)
sum_more (suc n) f g here c lt h k =
    elim (cases_eq n here) [
      | inl e ↦ (
          let b = sum_before n f g here (omega arith) h in
          let k' : f n ≡ c + g n = rw e k in
          omega arith)
      | inr d ↦ (let b = sum_more n f g here c (omega arith) h k in let a = h n d in omega arith)
    ]

grid_same : (n m : ℕ) (f g : ℕ → ℕ → ℕ) → ((i j : ℕ) → f i j ≡ g i j) → sum_upto n (λ i. sum_upto m (λ j. f i j)) ≡ sum_upto n (λ i. sum_upto m (λ j. g i j))
grid_same n m f g h = sum_same n (λ i. sum_upto m (λ j. f i j)) (λ i. sum_upto m (λ j. g i j)) (λ i. sum_same m (λ j. f i j) (λ j. g i j) (h i))

grid_more : (n m : ℕ) (f g : ℕ → ℕ → ℕ) (i j c : ℕ) → i < n → j < m → ((i' j' : ℕ) → (i' ≢ i) ⊎ (j' ≢ j) → f i' j' ≡ g i' j') → f i j ≡ c + g i j → sum_upto n (λ i. sum_upto m (λ j. f i j)) ≡ c + sum_upto n (λ i. sum_upto m (λ j. g i j))
grid_more n m f g i j c a b h k =
    sum_more n (λ i'. sum_upto m (λ j'. f i' j')) (λ i'. sum_upto m (λ j'. g i' j')) i c a
    (λ i' d. sum_same m (λ j'. f i' j') (λ j'. g i' j') (λ j'. h i' j' (inl d)))
    (sum_more m (λ j'. f i j') (λ j'. g i j') j c b (λ j' e. h i j' (inr e)) k)

-- the waits of a class with one more want, which is on the deepest plane or not
class_more : (spans : Spans) (n g : ℕ) → g ≤ n → class_waits spans (n + 1) (g + 1) ≡ spans.array + class_waits spans n g
class_more spans n g h = let e : n + 1 - (g + 1) ≡ n - g = omega arith in let q : (g + 1) * spans.array ≡ spans.array + g * spans.array = omega arith in rw (e, q) (omega arith)

class_wider : (spans : Spans) (n g : ℕ) → g ≤ n → class_waits spans (n + 1) g ≡ min spans.gap spans.array + class_waits spans n g
class_wider spans n g h = let e : n + 1 - g ≡ (n - g) + 1 = omega arith in let q : (n - g + 1) * min spans.gap spans.array ≡ min spans.gap spans.array + (n - g) * min spans.gap spans.array = omega arith in rw (e, q) (omega arith)

module _ (timing : Timing) (rules : Rules) (ws : List Want) (w : Want) (plane : w.plane ≤ 3) where
  abbrev page : ℕ
  page = page_class w

  abbrev above : ℕ
  above = above_class rules w

  abbrev count : ℕ → ℕ
  count q = number (on_plane rules (operation_of w.kind) page above q) ws

  own : in_class rules (operation_of w.kind) page above w ≡ true
  own = rw (same_operation_self (operation_of w.kind), eq-eqb page page refl, eq-eqb above above refl) refl

  same_waits : (operation : Operation) (page' above' : ℕ) → (same_operation operation (operation_of w.kind) ≡ false) ⊎ ((page' ≢ page) ⊎ (above' ≢ above)) → waits_of timing rules (ws ++ w ∷ []) operation page' above' ≡ waits_of timing rules ws operation page' above'
  same_waits operation page' above' d =
      let out = not_in rules operation page' above' w d in
      let n : number (in_class rules operation page' above') (ws ++ w ∷ []) ≡ number (in_class rules operation page' above') ws = (let q = number_more (in_class rules operation page' above') ws w in let z : number (in_class rules operation page' above') (ws ++ w ∷ []) ≡ number (in_class rules operation page' above') ws + 0 = q ∙ rw out refl in omega arith) in
      let a = λ (q : ℕ). none_more_on rules operation page' above' q ws w out in
      rw (n, a 0, a 1, a 2, a 3) refl

  -- the greatest count once the want is on that plane too
  abbrev deepest_with : ℕ → ℕ
  deepest_with n = max (max (count 0 + (if n == 0 then 1 else 0)) (count 1 + (if n == 1 then 1 else 0))) (max (count 2 + (if n == 2 then 1 else 0)) (count 3 + (if n == 3 then 1 else 0)))

  -- it is greater by one where the want's plane was the deepest
  abbrev Deepens : ℕ → ℕ → Type 0
  Deepens n now = (count n ≡ deepest rules (operation_of w.kind) page above ws → now ≡ deepest rules (operation_of w.kind) page above ws + 1) × (count n ≢ deepest rules (operation_of w.kind) page above ws → now ≡ deepest rules (operation_of w.kind) page above ws)

  deepens : (n : ℕ) → n ≤ 3 → Deepens n (deepest_with n)
  deepens zero le = ((λ h. omega arith), (λ h. omega arith))
  deepens (suc zero) le = ((λ h. omega arith), (λ h. omega arith))
  deepens (suc (suc zero)) le = ((λ h. omega arith), (λ h. omega arith))
  deepens (suc (suc (suc zero))) le = ((λ h. omega arith), (λ h. omega arith))
  deepens (suc (suc (suc (suc n)))) le = absurd (omega arith)

  depth : Deepens w.plane (deepest rules (operation_of w.kind) page above (ws ++ w ∷ []))
  depth =
      let a = λ (q : ℕ). one_more_on rules (operation_of w.kind) page above q ws w own in
      rw (a 0, a 1, a 2, a 3) (deepens w.plane plane)

  own_waits : waits_of timing rules (ws ++ w ∷ []) (operation_of w.kind) page above ≡ added_wait (operation_spans timing (operation_of w.kind)) rules ws w + waits_of timing rules ws (operation_of w.kind) page above
  own_waits =
      let n : number (in_class rules (operation_of w.kind) page above) (ws ++ w ∷ []) ≡ number (in_class rules (operation_of w.kind) page above) ws + 1 = number_more (in_class rules (operation_of w.kind) page above) ws w ∙ rw own refl in
      let few = deepest_in rules (operation_of w.kind) page above ws in
      elim (cases_eq (count w.plane) (deepest rules (operation_of w.kind) page above ws)) [
        | inl e ↦ rw (n, depth.0 e, eq-eqb (count w.plane) (deepest rules (operation_of w.kind) page above ws) e) (class_more (operation_spans timing (operation_of w.kind)) (number (in_class rules (operation_of w.kind) page above) ws) (deepest rules (operation_of w.kind) page above ws) few)
        | inr d ↦ rw (n, depth.1 d, ne_eqb (count w.plane) (deepest rules (operation_of w.kind) page above ws) d) (class_wider (operation_spans timing (operation_of w.kind)) (number (in_class rules (operation_of w.kind) page above) ws) (deepest rules (operation_of w.kind) page above ws) few)
      ]

  same_added : added_wait (spans_of timing w.kind) rules ws w ≡ added_wait (operation_spans timing (operation_of w.kind)) rules ws w
  same_added = let same = of_operation timing w.kind in rw (same.gap, same.array) refl

  kind_more : (operation : Operation) → page < 2 ^ 16 → above < 2 ^ 16 → operation_waits timing rules (ws ++ w ∷ []) operation ≡ (if same_operation operation (operation_of w.kind) then added_wait (spans_of timing w.kind) rules ws w else 0) + operation_waits timing rules ws operation
  kind_more operation a b =
      elim (cases_Bool (same_operation operation (operation_of w.kind))) [
        | inl k ↦ (
            let e = same_operation_is operation (operation_of w.kind) k in
            let here : waits_of timing rules (ws ++ w ∷ []) operation page above ≡ added_wait (spans_of timing w.kind) rules ws w + waits_of timing rules ws operation page above = rw (e, same_added) own_waits in
            rw k (grid_more (2 ^ 16) (2 ^ 16) (waits_of timing rules (ws ++ w ∷ []) operation) (waits_of timing rules ws operation) page above (added_wait (spans_of timing w.kind) rules ws w) a b (λ page' above' d. same_waits operation page' above' (inr d)) here))
        | inr k ↦ (
            let same = grid_same (2 ^ 16) (2 ^ 16) (waits_of timing rules (ws ++ w ∷ []) operation) (waits_of timing rules ws operation) (λ page' above'. same_waits operation page' above' (inl k)) in
            rw k (omega arith))
      ]

  pub work_with : page < 2 ^ 16 → above < 2 ^ 16 → wants_work timing rules (ws ++ w ∷ []) ≡ wants_work timing rules ws + ((spans_of timing w.kind).cmd + (spans_of timing w.kind).post + added_wait (spans_of timing w.kind) rules ws w)
  work_with a b =
      let r = kind_more Read a b in let p = kind_more Program a b in let e = kind_more Erase a b in
      let o = one_operation_of (operation_of w.kind) (added_wait (spans_of timing w.kind) rules ws w) in
      let t = total-append (λ v. want_command timing v + want_post timing v) ws (w ∷ []) in
      omega arith

-- a loop's work with one more want
pub work_more : (timing : Timing) (rules : Rules) (lun : ℕ) (ws : List Want) (i : ℕ) (d : Want) (s : Spans) (work wait next : ℕ) → i < length ws → (get_or ws i d).plane ≤ 3 → page_class (get_or ws i d) < 2 ^ 16 → above_class rules (get_or ws i d) < 2 ^ 16 → (get_or ws i d).lun ≡ lun → s ≡ spans_of timing (get_or ws i d).kind → work ≡ wants_work timing rules (on_lun lun (take i ws)) → wait ≡ added_wait s rules (on_lun (get_or ws i d).lun (take i ws)) (get_or ws i d) → next ≡ work + (s.cmd + s.post + wait) → next ≡ wants_work timing rules (on_lun lun (take (i + 1) ws))
work_more timing rules lun ws i d s work wait next h plane page above e t a b c =
    c ∙ rw (a, b, t, e, on_lun_yes lun ws i d h e) (sym (work_with timing rules (on_lun lun (take i ws)) (get_or ws i d) plane page above))

pub work_same : (timing : Timing) (rules : Rules) (lun : ℕ) (ws : List Want) (i : ℕ) (d : Want) (work : ℕ) → i < length ws → (get_or ws i d).lun ≢ lun → work ≡ wants_work timing rules (on_lun lun (take i ws)) → work ≡ wants_work timing rules (on_lun lun (take (i + 1) ws))
work_same timing rules lun ws i d work h n a = a ∙ rw (on_lun_no lun ws i d h n) refl
