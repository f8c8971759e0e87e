-- What a started group takes from the waits that are counted for its class.
use Rattle.std.proofs.Common.{◌≡◌, ◌≢◌, ℕ, zero, suc, ◌+◌, ◌*◌, ◌-◌, ◌≤◌, ◌<◌, ◌⊎◌, inl, inr, Bool, true, false, List, [], ◌∷◌, length, refl, sym, ap, ◌∙◌, arith, mul-le-mul_right}
use Rattle.std.specs.Prelude.{min, ◌==◌, ◌^◌, if◌then◌else◌}
use Rattle.std.specs.List.{AllByRecursion as All}
use Rattle.std.proofs.lemmas.Bool.{cases_Bool, cases_eq, false≢true, eqb-true, eq-eqb, ne_eqb, lt-ltb}
use Rattle.onfi_timing.proofs.Shared.{of_operation}
use Rattle.onfi_timing.specs.declared.operation.Operation.{Operation}
use Rattle.onfi_timing.specs.declared.operation.Operation.TheVariants.{Read, Program, Erase}
use Rattle.onfi_timing.specs.declared.spans.Spans.{Spans}
use Rattle.onfi_timing.specs.declared.timing.Timing.{Timing}
use Rattle.onfi_timing.specs.Kinds.{operation_of, operation_spans, spans_of}
use Rattle.onfi_timing.specs.Phases.{Lengths}
use Rattle.onfi_request.specs.declared.want.Want.{Want}
use Rattle.onfi_group.specs.Words.{Has, Pairs, total, number}
use Rattle.onfi_group.specs.Group.{group_operation, IsGroup, kind_of, page_of, above_planes_of, group_spans}
use Rattle.onfi_problem.specs.Moves.{without}
use Rattle.onfi_problem.specs.Left.{waits_left}
use Rattle.onfi_group.specs.declared.rules.Rules.{Rules}
use Rattle.onfi_bound.specs.Bounds.{sum_upto, same_operation, page_class, above_class, in_class, on_plane, deepest, class_waits, waits_of, operation_waits, all_waits}
use Rattle.onfi_problem.proofs.Perm.{All-weaker, All-both, All-each}
use Rattle.onfi_problem.proofs.Wants.{Rising}
use Rattle.onfi_problem.proofs.Limits.{times_le}
use Rattle.onfi_problem.proofs.Totals.{split_total}
use Rattle.onfi_bound.proofs.Steps.{one_operation_of}

sum_zero : (n : ℕ) (f : ℕ → ℕ) → ((i : ℕ) → f i ≡ 0) → sum_upto n f ≡ 0
unfolding sum_upto
sum_zero zero f h = refl
sum_zero (suc n) f h = let a = h n in let b = sum_zero n f h in omega arith

sum_step : (n : ℕ) (f g : ℕ → ℕ) (here c : ℕ) → ((i : ℕ) → i ≢ here → f i ≤ g i) → f here ≤ c + g here → sum_upto n f ≤ c + sum_upto n g
unfolding sum_upto
sum_step zero f g here c h k = omega arith
sum_step (suc n) f g here c h k =
    elim (cases_eq n here) [
      | inl e ↦ (
          let b = sum_before n f g here (omega arith) h in
          let k' : f n ≤ c + g n = rw e k in
          omega arith)
      | inr d ↦ (let b = sum_step n f g here c h k in let a = h n d in omega arith)
    ]
  where
    sum_before : (m : ℕ) (f g : ℕ → ℕ) (here : ℕ) → m ≤ here → ((i : ℕ) → i ≢ here → f i ≤ g i) → sum_upto m f ≤ sum_upto m g
    sum_before zero f g here le h = omega arith
    sum_before (suc m) f g here le h = let a = h m (λ e. omega arith) in let b = sum_before m f g here (omega arith) h in omega arith

grid_zero : (n m : ℕ) (f : ℕ → ℕ → ℕ) → ((i j : ℕ) → f i j ≡ 0) → sum_upto n (λ i. sum_upto m (λ j. f i j)) ≡ 0
grid_zero n m f h = sum_zero n _ (λ i. sum_zero m _ (h i))

-- sums that differ at one place at most
grid_step : (n m : ℕ) (f g : ℕ → ℕ → ℕ) (i j c : ℕ) → ((i' j' : ℕ) → (i' ≢ i) ⊎ (j' ≢ j) → f i' j' ≤ g i' j') → f i j ≤ c + g i j → sum_upto n (λ i. sum_upto m (λ j. f i j)) ≤ c + sum_upto n (λ i. sum_upto m (λ j. g i j))
grid_step n m f g i j c h k =
    sum_step n (λ i'. sum_upto m (λ j'. f i' j')) (λ i'. sum_upto m (λ j'. g i' j')) i c
    (λ i' d. let a = h i' 0 (inl d) in let b = sum_step m (λ j'. f i' j') (λ j'. g i' j') 0 0 (λ j' e. h i' j' (inl d)) (omega arith) in omega arith)
    (sum_step m (λ j'. f i j') (λ j'. g i j') j c (λ j' e. h i j' (inr e)) k)

total_le : {A : Type 0} (f g : A → ℕ) (xs : List A) → ((x : A) → f x ≤ g x) → total f xs ≤ total g xs
total_le f g [] h = omega arith
total_le f g (x ∷ xs) h = let e = total_le f g xs h in let a = h x in omega arith

pub same_operation_is : (a b : Operation) → same_operation a b ≡ true → a ≡ b
same_operation_is Read Read h = refl
same_operation_is Program Program h = refl
same_operation_is Erase Erase h = refl
same_operation_is Read Program h = absurd (false≢true h)
same_operation_is Read Erase h = absurd (false≢true h)
same_operation_is Program Read h = absurd (false≢true h)
same_operation_is Program Erase h = absurd (false≢true h)
same_operation_is Erase Read h = absurd (false≢true h)
same_operation_is Erase Program h = absurd (false≢true h)

pub same_operation_self : (a : Operation) → same_operation a a ≡ true
same_operation_self Read = refl
same_operation_self Program = refl
same_operation_self Erase = refl

-- the class of a group's members
abbrev InClass : Rules → Operation → ℕ → ℕ → List Want → Type 0
InClass rules operation page above ms = All (λ m. (operation_of m.kind ≡ operation) × (page_class m ≡ page) × (above_class rules m ≡ above)) ms

abbrev group_page : List Want → ℕ
group_page ms = if same_operation Erase (group_operation ms) then 0 else page_of ms

abbrev group_above : Rules → List Want → ℕ
group_above rules ms = if rules.strict then above_planes_of rules ms else 0

-- another class
abbrev Other : Operation → ℕ → ℕ → Operation → ℕ → ℕ → Type 0
Other operation page above operation' page' above' = (same_operation operation' operation ≡ false) ⊎ ((page' ≢ page) ⊎ (above' ≢ above))

pub not_in : (rules : Rules) (operation : Operation) (page above : ℕ) (w : Want) → Other (operation_of w.kind) (page_class w) (above_class rules w) operation page above → in_class rules operation page above w ≡ false
not_in rules operation page above w (inl k) = rw k refl
not_in rules operation page above w (inr (inl d)) = elim (cases_Bool (same_operation operation (operation_of w.kind))) [ inl k ↦ rw (k, ne_eqb (page_class w) page (λ e. d (sym e))) refl | inr k ↦ rw k refl ]
not_in rules operation page above w (inr (inr d)) = elim (cases_Bool (same_operation operation (operation_of w.kind))) [
  | inl k ↦ elim (cases_Bool (page_class w == page)) [ inl q ↦ rw (k, q, ne_eqb (above_class rules w) above (λ e. d (sym e))) refl | inr q ↦ rw (k, q) refl ]
  | inr k ↦ rw k refl
]

none_in : (rules : Rules) (operation : Operation) (page above : ℕ) (operation' : Operation) (page' above' : ℕ) (ms : List Want) → InClass rules operation page above ms → Other operation page above operation' page' above' → number (in_class rules operation' page' above') ms ≡ 0
none_in rules operation page above operation' page' above' [] h d = refl
none_in rules operation page above operation' page' above' (m ∷ ms) h d =
    let r = none_in rules operation page above operation' page' above' ms h.1 d in
    let no = not_in rules operation' page' above' m (rw (h.0.1, h.0.2, h.0.0) d) in
    rw no (omega arith)

all_in : (rules : Rules) (operation : Operation) (page above : ℕ) (ms : List Want) → InClass rules operation page above ms → number (in_class rules operation page above) ms ≡ length ms
all_in rules operation page above [] h = refl
all_in rules operation page above (m ∷ ms) h =
    let r = all_in rules operation page above ms h.1 in
    let k : same_operation operation (operation_of m.kind) ≡ true = rw h.0.0 (same_operation_self operation) in
    let yes : in_class rules operation page above m ≡ true = rw (k, eq-eqb (page_class m) page h.0.1, eq-eqb (above_class rules m) above h.0.2) refl in
    rw yes (omega arith)

plane_in : (rules : Rules) (operation : Operation) (page above plane : ℕ) (ws : List Want) → number (on_plane rules operation page above plane) ws ≤ number (in_class rules operation page above) ws
plane_in rules operation page above plane ws = total_le _ _ ws (λ w. elim (cases_Bool (in_class rules operation page above w)) [
  | inl k ↦ elim (cases_Bool (w.plane == plane)) [ inl q ↦ simp (k, q) (omega arith) | inr q ↦ simp (k, q) (omega arith) ]
  | inr k ↦ simp k (omega arith)
])

-- at most one member on a plane
none_on : (rules : Rules) (operation : Operation) (page above plane : ℕ) (ms : List Want) → All (λ m. plane < m.plane) ms → number (on_plane rules operation page above plane) ms ≡ 0
none_on rules operation page above plane [] h = refl
none_on rules operation page above plane (m ∷ ms) h =
    let r = none_on rules operation page above plane ms h.1 in
    let lt = h.0 in
    let d : (m.plane == plane) ≡ false = ne_eqb m.plane plane (λ e. omega arith) in
    elim (cases_Bool (in_class rules operation page above m)) [ inl k ↦ simp (k, d) (omega arith) | inr k ↦ simp k (omega arith) ]

one_on : (rules : Rules) (operation : Operation) (page above plane : ℕ) (ms : List Want) → Pairs (λ a b. a.plane < b.plane) ms → number (on_plane rules operation page above plane) ms ≤ 1
one_on rules operation page above plane [] h = omega arith
one_on rules operation page above plane (m ∷ ms) h =
    let r = one_on rules operation page above plane ms h.1 in
    elim (cases_Bool (in_class rules operation page above m)) [
      | inl k ↦ elim (cases_Bool (m.plane == plane)) [
        | inl q ↦ (
            let e = eqb-true m.plane plane q in
            let z = none_on rules operation page above plane ms (All-weaker _ _ (λ b lt. omega arith) ms h.0) in
            simp (k, q) (omega arith))
        | inr q ↦ simp (k, q) (omega arith)
      ]
      | inr k ↦ simp k (omega arith)
    ]

pub deepest_in : (rules : Rules) (operation : Operation) (page above : ℕ) (vs : List Want) → deepest rules operation page above vs ≤ number (in_class rules operation page above) vs
deepest_in rules operation page above vs =
    let a = plane_in rules operation page above 0 vs in let b = plane_in rules operation page above 1 vs in let c = plane_in rules operation page above 2 vs in let d = plane_in rules operation page above 3 vs in
    omega arith

-- g·array + (n-g)·min(gap, array), as n·min + g·(array - min)
class_form : (spans : Spans) (n g : ℕ) → g ≤ n → class_waits spans n g ≡ n * min spans.gap spans.array + g * (spans.array - min spans.gap spans.array)
class_form spans n g h = go (min spans.gap spans.array) (spans.array - min spans.gap spans.array) (n - g) (omega arith) (omega arith)
  where
    go : (m d j : ℕ) → spans.array ≡ m + d → n ≡ g + j → g * spans.array + j * m ≡ n * m + g * d
    go m d j e q = rw (e, q) (omega arith)

pub times_left : (a b d : ℕ) → a ≤ b → a * d ≤ b * d
times_left a b d h = mul-le-mul_right d h

-- a group whose members share these lengths, whatever their posts
abbrev sharing : Spans → List ℕ → Lengths
sharing spans posts = record { cmd = spans.cmd; gap = spans.gap; array = spans.array; posts = posts }

class_step : (spans : Spans) (posts : List ℕ) (k n n' g g' : ℕ) → 1 ≤ k → n ≡ k + n' → g ≤ 1 + g' → g ≤ n → g' ≤ n' → class_waits spans n g ≤ waits_left (sharing spans posts) k 0 + class_waits spans n' g'
class_step spans posts zero n n' g g' h q a b c = absurd (omega arith)
class_step spans posts (suc j) n n' g g' h q a b c =
    let m = min spans.gap spans.array in
    let d = spans.array - m in
    let e : suc j - 1 - 0 ≡ j = omega arith in
    let x = times_le j m spans.gap (omega arith) in
    let y = times_left g (1 + g') d a in
    let z : spans.array ≡ m + d = omega arith in
    let w : n * m ≡ m + j * m + n' * m = rw q (omega arith) in
    let u : (1 + g') * d ≡ d + g' * d = omega arith in
    rw (class_form spans n g b, class_form spans n' g' c, lt-ltb 0 (suc j) (omega arith), e) (omega arith)

module _ (timing : Timing) (rules : Rules) (ms ws : List Want) (group : IsGroup rules ms) (rising : Rising ws) (wanted : All (Has ws) ms) (apart : Pairs (λ a b. a.id ≢ b.id) ms) where
  abbrev left : List Want
  left = without ms ws

  abbrev own_wait : ℕ
  own_wait = waits_left (group_spans timing ms) (length ms) 0

  pages : All (λ m. page_class m ≡ group_page ms) ms
  pages = elim (cases_Bool (same_operation Erase (group_operation ms))) [
    | inl k ↦ All-weaker _ _ (λ m e. simp (e, k) refl) ms group.operation
    | inr k ↦ All-both _ _ _ (λ m e q. simp (e, k) q) ms group.operation (group.page (λ e. false≢true (sym k ∙ ap (same_operation Erase) e)))
  ]

  aboves : All (λ m. above_class rules m ≡ group_above rules ms) ms
  aboves = elim (cases_Bool rules.strict) [
    | inl k ↦ All-weaker _ _ (λ m e. simp k e) ms (group.strict k)
    | inr k ↦ All-each _ ms (λ m h. simp k refl)
  ]

  classes : InClass rules (group_operation ms) (group_page ms) (group_above rules ms) ms
  classes = All-both _ _ _ (λ m a b. (a, b.0, b.1)) ms group.operation (All-both _ _ (λ m. (page_class m ≡ group_page ms) × (above_class rules m ≡ group_above rules ms)) (λ m a b. (a, b)) ms pages aboves)

  split_number : (test : Want → Bool) → number test ws ≡ number test ms + number test left
  split_number test = split_total (λ w. if test w then 1 else 0) ms ws rising wanted apart

  plane_step : (operation : Operation) (page above plane : ℕ) → number (on_plane rules operation page above plane) ws ≤ 1 + number (on_plane rules operation page above plane) left
  plane_step operation page above plane = let a = split_number (on_plane rules operation page above plane) in let b = one_on rules operation page above plane ms group.planes in omega arith

  same_class : (operation : Operation) (page above : ℕ) → Other (group_operation ms) (group_page ms) (group_above rules ms) operation page above → waits_of timing rules ws operation page above ≡ waits_of timing rules left operation page above
  same_class operation page above d =
      let z = none_in rules (group_operation ms) (group_page ms) (group_above rules ms) operation page above ms classes d in
      let n : number (in_class rules operation page above) ws ≡ number (in_class rules operation page above) left = omega (arith, split_number (in_class rules operation page above)) in
      let p : (plane : ℕ) → number (on_plane rules operation page above plane) ws ≡ number (on_plane rules operation page above plane) left = λ plane. omega (arith, split_number (on_plane rules operation page above plane), plane_in rules operation page above plane ms) in
      rw (n, p 0, p 1, p 2, p 3) refl

  own_class : waits_of timing rules ws (group_operation ms) (group_page ms) (group_above rules ms) ≤ own_wait + waits_of timing rules left (group_operation ms) (group_page ms) (group_above rules ms)
  own_class =
      let operation = group_operation ms in
      let page = group_page ms in
      let above = group_above rules ms in
      let q : number (in_class rules operation page above) ws ≡ length ms + number (in_class rules operation page above) left = omega (arith, split_number (in_class rules operation page above), all_in rules operation page above ms classes) in
      let a : deepest rules operation page above ws ≤ 1 + deepest rules operation page above left = omega (arith, plane_step operation page above 0, plane_step operation page above 1, plane_step operation page above 2, plane_step operation page above 3) in
      let same = of_operation timing (kind_of ms) in
      rw (sym same.gap, sym same.array) (class_step (spans_of timing (kind_of ms)) (group_spans timing ms).posts (length ms) (number (in_class rules operation page above) ws) (number (in_class rules operation page above) left) (deepest rules operation page above ws) (deepest rules operation page above left) group.some q a (deepest_in rules operation page above ws) (deepest_in rules operation page above left))

  kind_step : (operation : Operation) → operation_waits timing rules ws operation ≤ (if same_operation operation (group_operation ms) then own_wait else 0) + operation_waits timing rules left operation
  kind_step operation =
      elim (cases_Bool (same_operation operation (group_operation ms))) [
        | inl k ↦ (
            let e = same_operation_is operation (group_operation ms) k in
            let here : waits_of timing rules ws operation (group_page ms) (group_above rules ms) ≤ own_wait + waits_of timing rules left operation (group_page ms) (group_above rules ms) = rw e own_class in
            rw k (grid_step (2 ^ 16) (2 ^ 16) (waits_of timing rules ws operation) (waits_of timing rules left operation) (group_page ms) (group_above rules ms) own_wait (λ page above d. let q = same_class operation page above (inr d) in omega arith) here))
        | inr k ↦ rw k (grid_step (2 ^ 16) (2 ^ 16) (waits_of timing rules ws operation) (waits_of timing rules left operation) 0 0 0 (λ page above d. let q = same_class operation page above (inl k) in omega arith) (let q = same_class operation 0 0 (inl k) in omega arith))
      ]

  -- a started group takes at least the waits after its first command
  pub waits_step : all_waits timing rules ws ≤ own_wait + all_waits timing rules left
  waits_step =
      let a = kind_step Read in let b = kind_step Program in let c = kind_step Erase in
      let d = one_operation_of (group_operation ms) own_wait in
      omega arith

pub no_waits_left : (timing : Timing) (rules : Rules) → all_waits timing rules [] ≡ 0
no_waits_left timing rules =
    let a = grid_zero (2 ^ 16) (2 ^ 16) (waits_of timing rules [] Read) (λ i j. omega arith) in
    let b = grid_zero (2 ^ 16) (2 ^ 16) (waits_of timing rules [] Program) (λ i j. omega arith) in
    let c = grid_zero (2 ^ 16) (2 ^ 16) (waits_of timing rules [] Erase) (λ i j. omega arith) in
    omega arith
