-- A group may be started exactly where its marks are met.
use mathlib.Core.Bool.{beq, ◌&&◌}
use Rattle.std.proofs.Common.{◌≡◌, ℕ, zero, suc, ◌+◌, ◌≤◌, ◌<◌, inl, inr, Bool, true, false, List, [], ◌∷◌, length, take, drop, get_or, replicate, refl, sym, ap, subst, ◌∙◌, arith}
use Rattle.std.specs.Prelude.{slice_set, if◌then◌else◌, not, ◌==◌, nat_lt}
use Rattle.std.specs.List.{AllByRecursion as All}
use Rattle.std.proofs.lemmas.Bool.{cases_Bool, eq-eqb, eqb-true, lt-ltb, ltb-true, false≢true}
use Rattle.std.proofs.lemmas.List.{drop_more, drop_all}
use Rattle.onfi_request.specs.declared.want.Want.{Want}
use Rattle.onfi_group.specs.Words.{Has}
use Rattle.onfi_group.specs.Group.{is_member, on_block}
use Rattle.onfi_problem.specs.Position.{waiting_of}
use Rattle.onfi_problem.specs.Starts.{waits_first, can_start}
use Rattle.onfi_problem.specs.StartMarks.{is_ahead, is_asked, marks_by, start_marks, are_met}
use Rattle.onfi_problem.proofs.Firsts.{waiting_in, not_later, member_in, first_of_test}
use Rattle.onfi_problem.proofs.Perm.{All-has, All-each}
use Rattle.onfi_problem.proofs.Wants.{Rising, first_has}

-- Marks compared one after another.

with_one : (met one rest : Bool) → (if met then (if one then rest else false) else false) ≡ (if met && one then rest else false)
with_one true one rest = refl
with_one false one rest = refl

-- what is left to compare once one more was
pub met_more : (waiting asked members : List Bool) (i : ℕ) (met : Bool) → i < length waiting → i < length asked → i < length members →
    (if met then are_met (drop i waiting) (drop i asked) (drop i members) else false)
    ≡ (if met && beq (get_or waiting i false && get_or asked i false) (get_or members i false)
    then are_met (drop (i + 1) waiting) (drop (i + 1) asked) (drop (i + 1) members) else false)
met_more waiting asked members i met w a m =
    let one = beq (get_or waiting i false && get_or asked i false) (get_or members i false) in
    rw (drop_more waiting i false w, drop_more asked i false a, drop_more members i false m)
    (with_one met one (are_met (drop (i + 1) waiting) (drop (i + 1) asked) (drop (i + 1) members)))

pub met_all : (waiting asked members : List Bool) (i : ℕ) (met : Bool) → length waiting ≤ i →
    (if met then are_met (drop i waiting) (drop i asked) (drop i members) else false) ≡ met
met_all waiting asked members i true w = rw (drop_all i waiting w) refl
met_all waiting asked members i false w = refl

-- Marks made one after another.

by_suc : (test : Want → Bool) (marks : List Bool) (ws : List Want) (i : ℕ) (d : Want) → i < length ws → length ws ≤ length marks →
    marks_by test (take (suc i) ws) marks ≡ slice_set (marks_by test (take i ws) marks) i (test (get_or ws i d))
by_suc test marks [] i d h k = absurd (omega arith)
by_suc test [] (w ∷ ws) i d h k = absurd (omega arith)
by_suc test (b ∷ marks) (w ∷ ws) zero d h k = refl
by_suc test (b ∷ marks) (w ∷ ws) (suc i) d h k = ap (λ z. test w ∷ z) (by_suc test marks ws i d (omega arith) (omega arith))

-- one want more has its mark
pub by_more : (test : Want → Bool) (marks : List Bool) (ws : List Want) (i : ℕ) (d : Want) → i < length ws → length ws ≤ length marks →
    marks_by test (take (i + 1) ws) marks ≡ slice_set (marks_by test (take i ws) marks) i (test (get_or ws i d))
by_more test marks ws i d h k =
    let e : suc i ≡ i + 1 = omega arith in
    subst (λ n. marks_by test (take n ws) marks ≡ slice_set (marks_by test (take i ws) marks) i (test (get_or ws i d))) e (by_suc test marks ws i d h k)

-- What one mark says.

both : (a b : Bool) → (if a then b else false) ≡ true → (a ≡ true) × (b ≡ true)
both true b h = (refl, h)
both false b h = absurd (false≢true h)

-- a member's mark is set
member_set : (b m a : Bool) → beq (b && not (beq m a)) m ≡ true → m ≡ true → b ≡ true
member_set true m a h e = refl
member_set false true a h e = absurd (false≢true h)
member_set false false a h e = absurd (false≢true e)

-- that of a want ahead of a member isn't
ahead_clear : (b m a : Bool) → beq (b && not (beq m a)) m ≡ true → a ≡ true → b ≡ false
ahead_clear false m a h e = refl
ahead_clear true m false h e = absurd (false≢true e)
ahead_clear true true true h e = absurd (false≢true h)
ahead_clear true false true h e = absurd (false≢true h)

one_met : (b m a : Bool) → (m ≡ true → b ≡ true) → (m ≡ true → a ≡ true → ⊥) → (a ≡ true → b ≡ false) → beq (b && not (beq m a)) m ≡ true
one_met b true true f g h = absurd (g refl refl)
one_met b true false f g h = rw (f refl) refl
one_met b false true f g h = rw (h refl) refl
one_met true false false f g h = refl
one_met false false false f g h = refl

-- Members, and what is ahead of them.

pub member_of : (g : List Want) (m : Want) → Has g m → is_member g m ≡ true
member_of [] m h = absurd h
member_of (v ∷ g) m h = elim (cases_Bool (v.id == m.id)) [
  | inl k ↦ rw k refl
  | inr k ↦ elim h [
    | inl e ↦ absurd (false≢true (sym k ∙ eq-eqb v.id m.id (ap (λ z. z.id) e)))
    | inr i ↦ rw k (member_of g m i)
  ]
]

abbrev before : Want → Want → Bool
before w m = if on_block m w then nat_lt w.id m.id else false

before_of : (w m : Want) → on_block m w ≡ true → w.id < m.id → before w m ≡ true
before_of w m o lt = rw o (lt-ltb w.id m.id lt)

ahead_of : (g : List Want) (w m : Want) → Has g m → before w m ≡ true → is_ahead g w ≡ true
ahead_of [] w m h t = absurd h
ahead_of (v ∷ g) w m h t = elim (cases_Bool (before w v)) [
  | inl k ↦ rw k refl
  | inr k ↦ elim h [
    | inl e ↦ absurd (false≢true (sym k ∙ (ap (before w) e ∙ t)))
    | inr i ↦ rw k (ahead_of g w m i t)
  ]
]

-- of what is ahead, a member that it is ahead of
record IsAheadOf (g : List Want) (w : Want) : Type 0 where
  pub of : Want
  pub has : Has g of
  pub block : on_block of w ≡ true
  pub earlier : w.id < of.id

ahead_by : (g : List Want) (w : Want) → is_ahead g w ≡ true → IsAheadOf g w
ahead_by [] w h = absurd (false≢true h)
ahead_by (v ∷ g) w h = elim (cases_Bool (before w v)) [
  | inl k ↦ (let t = both (on_block v w) (nat_lt w.id v.id) k in record { of = v; has = inl refl; block = t.0; earlier = ltb-true w.id v.id t.1 })
  | inr k ↦ (let q : is_ahead g w ≡ true = rw k at h in let a = ahead_by g w q in record { of = a.of; has = inr a.has; block = a.block; earlier = a.earlier })
]

-- who waits first has the least number of those that wait on the block
first_least : (ws : List Want) (m w : Want) → Rising ws → waits_first ws m ≡ true → Has ws w → on_block m w ≡ true → m.id ≤ w.id
first_least [] m w r t h o = absurd h
first_least (v ∷ ws) m w r t h o = elim (cases_Bool (on_block m v)) [
  | inl k ↦ (
      let q : (v.id == m.id) ≡ true = rw k at t in
      let i = eqb-true v.id m.id q in
      elim h [
        | inl e ↦ (let j : v.id ≡ w.id = ap (λ z. z.id) e in omega arith)
        | inr l ↦ (let j = All-has (λ (z : Want). v.id < z.id) ws w r.0 l in omega arith)
      ])
  | inr k ↦ (
      let q : waits_first ws m ≡ true = rw k at t in
      elim h [
        | inl e ↦ absurd (false≢true (sym k ∙ (ap (on_block m) e ∙ o)))
        | inr l ↦ first_least ws m w r.1 q l o
      ])
]

first_each : (left g : List Want) (m : Want) → can_start left g ≡ true → Has g m → waits_first left m ≡ true
first_each left [] m t h = absurd h
first_each left (v ∷ g) m t h = elim (cases_Bool (waits_first left v)) [
  | inl k ↦ (let q : can_start left g ≡ true = rw k at t in elim h [ inl e ↦ ap (waits_first left) (sym e) ∙ k | inr i ↦ first_each left g m q i ])
  | inr k ↦ (let q : false ≡ true = rw k at t in absurd (false≢true q))
]

each_first : (left g : List Want) → ((m : Want) → Has g m → waits_first left m ≡ true) → can_start left g ≡ true
each_first left [] f = refl
each_first left (v ∷ g) f = rw (f v (inl refl)) (each_first left g (λ m h. f m (inr h)))

module _ (g : List Want) where
  abbrev members : ℕ → List Want → List Bool
  members n ws = marks_by (is_member g) ws (replicate n false)

  abbrev asked : ℕ → List Want → List Bool
  asked n ws = marks_by (is_asked g) ws (replicate n false)

  -- where the marks are met each member waits first on its block
  first_met : (m : Want) → Has g m → (bs : List Bool) (n : ℕ) (ws : List Want) → length bs ≡ n → length ws ≤ n → Rising ws → Has ws m →
      are_met bs (asked n ws) (members n ws) ≡ true → waits_first (waiting_of bs ws) m ≡ true
  first_met m k bs n [] e l r h t = absurd h
  first_met m k bs zero (w ∷ ws) e l r h t = absurd (omega arith)
  first_met m k [] (suc n) (w ∷ ws) e l r h t = absurd (omega arith)
  first_met m k (b ∷ bs) (suc n) (w ∷ ws) e l r h t =
      let t2 = both (beq (b && is_asked g w) (is_member g w)) (are_met bs (asked n ws) (members n ws)) t in
      elim h [
        | inl q ↦ (
            let set : b ≡ true = member_set b (is_member g w) (is_ahead g w) t2.0 (ap (is_member g) q ∙ member_of g m k) in
            let same : (w.id == m.id) ≡ true = eq-eqb w.id m.id (ap (λ z. z.id) q) in
            let lun : (w.lun == m.lun) ≡ true = eq-eqb w.lun m.lun (ap (λ z. z.lun) q) in
            let block : (w.block == m.block) ≡ true = eq-eqb w.block m.block (ap (λ z. z.block) q) in
            rw (set, lun, block, same) refl)
        | inr i ↦ (
            let rest = first_met m k bs n ws (omega arith) (omega arith) r.1 i t2.1 in
            let lt = All-has (λ (z : Want). w.id < z.id) ws m r.0 i in
            elim (cases_Bool (on_block m w)) [
              | inl o ↦ (
                  let clear : b ≡ false = ahead_clear b (is_member g w) (is_ahead g w) t2.0 (ahead_of g w m k (before_of w m o lt)) in
                  rw clear rest)
              | inr o ↦ passed b bs ws w m o rest
            ])
      ]
    where
      passed : (b : Bool) (bs : List Bool) (ws : List Want) (w m : Want) → on_block m w ≡ false → waits_first (waiting_of bs ws) m ≡ true →
          waits_first (waiting_of (b ∷ bs) (w ∷ ws)) m ≡ true
      passed true bs ws w m o t = rw o t
      passed false bs ws w m o t = t

  none_met : (bs : List Bool) (n : ℕ) → are_met bs (replicate n false) (replicate n false) ≡ true
  none_met [] n = refl
  none_met (b ∷ bs) zero = refl
  none_met (true ∷ bs) (suc n) = none_met bs n
  none_met (false ∷ bs) (suc n) = none_met bs n

  -- where members wait, and nothing ahead of one does, the marks are met
  met_by : (left : List Want) → ((w : Want) → Has left w → is_ahead g w ≡ true → ⊥) →
      (bs : List Bool) (n : ℕ) (ws : List Want) → length bs ≡ n → length ws ≤ n → Rising ws →
      ((w : Want) → Has ws w → is_member g w ≡ true → Has left w) →
      ((w : Want) → Has (waiting_of bs ws) w → Has left w) →
      ((w : Want) → Has ws w → Has left w → Has (waiting_of bs ws) w) →
      are_met bs (asked n ws) (members n ws) ≡ true
  met_by left clear bs n [] e l r wait up down = none_met bs n
  met_by left clear bs zero (w ∷ ws) e l r wait up down = absurd (omega arith)
  met_by left clear [] (suc n) (w ∷ ws) e l r wait up down = absurd (omega arith)
  met_by left clear (true ∷ bs) (suc n) (w ∷ ws) e l r wait up down =
      let here = up w (inl refl) in
      let none : is_ahead g w ≡ true → ⊥ = clear w here in
      let one = one_met true (is_member g w) (is_ahead g w) (λ m. refl) (λ m a. none a) (λ a. absurd (none a)) in
      rw one (met_by left clear bs n ws (omega arith) (omega arith) r.1 (λ v h m. wait v (inr h) m) (λ v h. up v (inr h))
      (λ v h k. elim (down v (inr h) k) [ inl q ↦ absurd (not_later w ws r.0 (subst (Has ws) (sym q) h)) | inr i ↦ i ]))
  met_by left clear (false ∷ bs) (suc n) (w ∷ ws) e l r wait up down =
      let gone : Has left w → ⊥ = λ k. not_later w ws r.0 (waiting_in bs ws w (down w (inl refl) k)) in
      let no : is_member g w ≡ true → ⊥ = λ m. gone (wait w (inl refl) m) in
      let one = one_met false (is_member g w) (is_ahead g w) (λ m. absurd (no m)) (λ m a. no m) (λ a. refl) in
      rw one (met_by left clear bs n ws (omega arith) (omega arith) r.1 (λ v h m. wait v (inr h) m) up (λ v h k. down v (inr h) k))

same_truth : (a b : Bool) → (a ≡ true → b ≡ true) → (b ≡ true → a ≡ true) → a ≡ b
same_truth true b f h = sym (f refl)
same_truth false true f h = h refl
same_truth false false f h = refl

module _ (all g : List Want) (marks : List Bool) (rising : Rising all) (listed : All (Has all) g) where
  abbrev left : List Want
  left = waiting_of marks all

  left_listed : All (Has all) left
  left_listed = All-each (Has all) left (λ w h. waiting_in marks all w h)

  -- nothing that waits is ahead of who waits first
  none_ahead : Rising left → can_start left g ≡ true → (w : Want) → Has left w → is_ahead g w ≡ true → ⊥
  none_ahead r t w h a =
      let x = ahead_by g w a in
      let least = first_least left x.of w r (first_each left g x.of t x.has) h x.block in
      omega arith

  -- members wait
  each_waits : can_start left g ≡ true → (w : Want) → Has all w → is_member g w ≡ true → Has left w
  each_waits t w h m =
      let k = member_in all g w rising listed h m in
      first_has (on_block w) left w (first_of_test all left w rising h left_listed (first_each left g w t k))

  -- of wants of the list, a group's marks are met exactly where it can be started
  pub met_starts : Rising left → length all ≤ 8 → length marks ≡ 8 →
      are_met marks (start_marks all g).asked (start_marks all g).members ≡ can_start left g
  met_starts r few long =
      same_truth (are_met marks (start_marks all g).asked (start_marks all g).members) (can_start left g)
      (λ t. each_first left g (λ m h. first_met g m h marks 8 all long few rising (All-has (Has all) g m listed h) t))
      (λ t. met_by g left (none_ahead r t) marks 8 all long few rising (each_waits t) (λ w h. h) (λ w h k. k))
