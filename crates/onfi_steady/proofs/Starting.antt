-- The group of a request, with its mates, may be started.
use Rattle.std.proofs.Common.{◌≡◌, ◌≢◌, ℕ, zero, suc, ◌+◌, ◌<◌, ◌≤◌, inl, inr, Bool, true, false, List, [], ◌∷◌, length, Option, Some, None, refl, sym, ap, ◌∙◌, subst, arith}
use Rattle.std.specs.Prelude.{◌==◌, IsTrue}
use Rattle.std.specs.List.{AllByRecursion as All, cons_option, filter_map, find}
use Rattle.std.specs.Option.{option_map}
use Rattle.std.proofs.lemmas.Bool.{cases_Bool, eq-eqb, eqb-true, false≢true}
use Rattle.onfi_timing.specs.declared.kind.Kind.TheVariants.{Read, Program, Erase}
use Rattle.onfi_timing.specs.declared.operation.Operation.{Operation}
use Rattle.onfi_timing.specs.declared.operation.Operation.TheVariants.{Read as Reads, Program as Programs, Erase as Erases}
use Rattle.onfi_timing.specs.Kinds.{operation_of}
use Rattle.onfi_request.specs.declared.want.Want.{Want}
use Rattle.onfi_group.specs.declared.rules.Rules.{Rules}
use Rattle.onfi_group.specs.Words.{Has, Pairs}
use Rattle.onfi_group.specs.Group.{IsFirst, IsGroup, IsStartable, above_planes, lun_of, may_group}
use Rattle.onfi_group.specs.Joining.{GoesWith}
use Rattle.onfi_group.proofs.Lists.{All-each, All-has}
use Rattle.onfi_steady.specs.declared.waiter.Waiter.{Waiter}
use Rattle.onfi_steady.specs.Ranks.{operation_rank}
use Rattle.onfi_steady.specs.Waiting.{want_of, wants_of}
use Rattle.onfi_steady.specs.Offer.{erase_group, goes_with, group_with, is_due, is_kind, is_mate, is_same_page, is_same_row, member_on, or_else, own_group, ready_on, turned_to}
use Rattle.onfi_steady.proofs.Firsts.{ready_is}

-- what a look-up finds
pub found : {A : Type 0} (test : A → Bool) (xs : List A) (x : A) → find test xs ≡ Some x → Has xs x × (test x ≡ true)
found test [] x h = absurd cc
found test (y ∷ ys) x h = elim (cases_Bool (test y)) [
  | inl k ↦ (let q : Some y ≡ Some x = rw k at h in let e : y ≡ x = cc in (inl e, ap test (sym e) ∙ k))
  | inr k ↦ (let q : find test ys ≡ Some x = rw k at h in let f = found test ys x q in (inr f.0, f.1))
]

not_found : {A : Type 0} (test : A → Bool) (x : A) (xs : List A) → find test (x ∷ xs) ≡ None → test x ≡ false
not_found test x xs h = elim (cases_Bool (test x)) [
  | inl k ↦ (let q : Some x ≡ None = rw k at h in absurd cc)
  | inr k ↦ k
]

-- of two options the first that is there
or_else_in : (P : Waiter → Type 0) (a b : Option Waiter) → ((w : Waiter) → a ≡ Some w → P w) → ((w : Waiter) → b ≡ Some w → P w) → (w : Waiter) →
    or_else a b ≡ Some w → P w
or_else_in P None b f g w h = g w h
or_else_in P (Some v) b f g w h = f w h

pub turned_in : (ready : List Waiter) (w : Waiter) → turned_to ready ≡ Some w → Has ready w
turned_in ready w h =
    or_else_in (Has ready) (find is_due ready) _ (λ v e. (found is_due ready v e).0)
    (or_else_in (Has ready) (find (is_kind Read) ready) _ (λ v e. (found (is_kind Read) ready v e).0)
    (or_else_in (Has ready) (find (is_kind Program) ready) _ (λ v e. (found (is_kind Program) ready v e).0)
    (λ v e. (found (is_kind Erase) ready v e).0))) w h

or_else_none : (a b : Option Waiter) → or_else a b ≡ None → (a ≡ None) × (b ≡ None)
or_else_none None b h = (refl, h)
or_else_none (Some v) b h = absurd cc

-- where a LUN turns to no request, none may begin
pub none_ready : (ready : List Waiter) → turned_to ready ≡ None → ready ≡ []
none_ready [] h = refl
none_ready (w ∷ ws) h =
    let due = or_else_none (find is_due (w ∷ ws)) _ h in
    let read = or_else_none (find (is_kind Read) (w ∷ ws)) _ due.1 in
    let program = or_else_none (find (is_kind Program) (w ∷ ws)) _ read.1 in
    absurd (some_operation (operation_of w.want.kind) (not_found (is_kind Read) w ws read.0) (not_found (is_kind Program) w ws program.0) (not_found (is_kind Erase) w ws program.1))
  where
    some_operation : (o : Operation) → (operation_rank o == 0) ≡ false → (operation_rank o == 1) ≡ false → (operation_rank o == 2) ≡ false → ⊥
    some_operation Reads a b c = false≢true (sym a)
    some_operation Programs a b c = false≢true (sym b)
    some_operation Erases a b c = false≢true (sym c)

of_one_rank : (a b : Operation) → (operation_rank a == operation_rank b) ≡ true → a ≡ b
of_one_rank Reads Reads h = refl
of_one_rank Programs Programs h = refl
of_one_rank Erases Erases h = refl
of_one_rank Reads Programs h = absurd (false≢true h)
of_one_rank Reads Erases h = absurd (false≢true h)
of_one_rank Programs Reads h = absurd (false≢true h)
of_one_rank Programs Erases h = absurd (false≢true h)
of_one_rank Erases Reads h = absurd (false≢true h)
of_one_rank Erases Programs h = absurd (false≢true h)

-- members that share with a request what members share are a group
all_go : (rules : Rules) (head : Want) (g : List Want) → 1 ≤ length g → length g ≤ 4 → All (GoesWith rules head) g →
    Pairs (λ a b. a.plane < b.plane) g → (1 < length g → IsTrue (may_group rules (operation_of head.kind))) → IsGroup rules g
all_go rules head [] some few go rises rule = absurd (omega arith)
all_go rules head (y ∷ ys) some few go rises rule =
    let each = λ (x : Want) (h : Has (y ∷ ys) x). All-has (GoesWith rules head) (y ∷ ys) x go h in
    let own = go.0 in
    record {
      some = some;
      few = few;
      operation = All-each (λ m. operation_of m.kind ≡ operation_of y.kind) (y ∷ ys) (λ x h. (each x h).operation ∙ sym own.operation);
      lun = All-each (λ m. m.lun ≡ y.lun) (y ∷ ys) (λ x h. (each x h).lun ∙ sym own.lun);
      planes = rises;
      page = λ n. All-each (λ m. m.page ≡ y.page) (y ∷ ys) (λ x h. (each x h).page (λ e. n (own.operation ∙ e)) ∙ sym (own.page (λ e. n (own.operation ∙ e))));
      rule = λ several. subst (λ o. IsTrue (may_group rules o)) (sym own.operation) (rule several);
      strict = λ s. All-each (λ m. above_planes rules m ≡ above_planes rules y) (y ∷ ys) (λ x h. (each x h).strict s ∙ sym (own.strict s));
    }

-- what is made of these planes
module _ (on : ℕ → Option Want) where
  mapped_by : (p : ℕ) (ps : List ℕ) (m : Want) (o : Option Want) → on p ≡ o → (Has (filter_map on ps) m → (q : ℕ) × Has ps q × (on q ≡ Some m)) →
      Has (cons_option o (filter_map on ps)) m → (q : ℕ) × Has (p ∷ ps) q × (on q ≡ Some m)
  mapped_by p ps m None e later h = let f = later h in (f.0, inr f.1, f.2)
  mapped_by p ps m (Some x) e later (inl q) = (p, inl refl, e ∙ ap Some q)
  mapped_by p ps m (Some x) e later (inr i) = let f = later i in (f.0, inr f.1, f.2)

  mapped : (ps : List ℕ) (m : Want) → Has (filter_map on ps) m → (p : ℕ) × Has ps p × (on p ≡ Some m)
  mapped [] m h = absurd h
  mapped (p ∷ ps) m h = mapped_by p ps m (on p) refl (mapped ps m) h

  behind_option : (o : Option Want) (xs : List Want) (m : Want) → Has xs m → Has (cons_option o xs) m
  behind_option None xs m h = h
  behind_option (Some x) xs m h = inr h

  in_mapped : (ps : List ℕ) (p : ℕ) (m : Want) → Has ps p → on p ≡ Some m → Has (filter_map on ps) m
  in_mapped [] p m h e = absurd h
  in_mapped (q ∷ ps) p m (inl k) e = let a : on q ≡ Some m = ap on k ∙ e in rw a (inl refl)
  in_mapped (q ∷ ps) p m (inr i) e = behind_option (on q) (filter_map on ps) m (in_mapped ps p m i e)

  short_by : (o : Option Want) (xs : List Want) (n : ℕ) → length xs ≤ n → length (cons_option o xs) ≤ n + 1
  short_by None xs n h = omega arith
  short_by (Some x) xs n h = omega arith

  short : (ps : List ℕ) → length (filter_map on ps) ≤ length ps
  short [] = omega arith
  short (p ∷ ps) = let s = short_by (on p) (filter_map on ps) (length ps) (short ps) in omega arith

  module _ (each : (p : ℕ) (m : Want) → on p ≡ Some m → m.plane ≡ p) where
    later : (p : ℕ) (ps : List ℕ) → All (λ q. p < q) ps → (m : Want) → on p ≡ Some m → (x : Want) → Has (filter_map on ps) x → m.plane < x.plane
    later p ps h m e x i =
        let f = mapped ps x i in
        let a = each p m e in
        let b = each f.0 x f.2 in
        let c : p < f.0 = All-has (λ q. p < q) ps f.0 h f.1 in
        omega arith

    rises_by : (p : ℕ) (ps : List ℕ) → All (λ q. p < q) ps → Pairs (λ a b. a.plane < b.plane) (filter_map on ps) → (o : Option Want) → on p ≡ o →
        Pairs (λ a b. a.plane < b.plane) (cons_option o (filter_map on ps))
    rises_by p ps h rest None e = rest
    rises_by p ps h rest (Some m) e = (All-each (λ x. m.plane < x.plane) (filter_map on ps) (later p ps h m e), rest)

    rises : (ps : List ℕ) → Pairs (λ a b. a < b) ps → Pairs (λ a b. a.plane < b.plane) (filter_map on ps)
    rises [] h = tt
    rises (p ∷ ps) h = rises_by p ps h.0 (rises ps h.1) (on p) refl

abbrev planes : List ℕ
planes = 0 ∷ 1 ∷ 2 ∷ 3 ∷ []

planes_rise : Pairs (λ a b. a < b) planes
planes_rise = search arith

has_plane : (p : ℕ) → p ≤ 3 → Has planes p
has_plane zero h = inl refl
has_plane (suc zero) h = inr (inl refl)
has_plane (suc (suc zero)) h = inr (inr (inl refl))
has_plane (suc (suc (suc zero))) h = inr (inr (inr (inl refl)))
has_plane (suc (suc (suc (suc p)))) h = absurd (omega arith)

module _ (rules : Rules) (waiting : List Waiter) (lun : ℕ) (small : All (λ w. w.want.plane ≤ 3) waiting) where
  abbrev ready : List Waiter
  ready = ready_on lun waiting

  module _ (head : Waiter) (has : Has ready head) where
    abbrev on : ℕ → Option Want
    on = member_on rules ready head.want

    -- what is known of what stands on a plane
    record IsMember (p : ℕ) (m : Want) : Type 0 where
      pub plane : m.plane ≡ p
      pub goes : GoesWith rules head.want m
      pub first : IsFirst (wants_of waiting) m
      pub single : may_group rules (operation_of head.want.kind) ≡ false → m ≡ head.want

    own_member : (p : ℕ) → p ≡ head.want.plane → IsMember p head.want
    own_member p e = record {
      plane = sym e;
      goes = record { operation = refl; lun = refl; page = λ n. refl; strict = λ y. refl };
      first = (ready_is waiting lun head has).first;
      single = λ n. refl;
    }

    goes_by : (m : Want) → m.lun ≡ head.want.lun → goes_with rules head.want m ≡ true → GoesWith rules head.want m
    goes_by m at h = elim (cases_Bool (operation_rank (operation_of m.kind) == operation_rank (operation_of head.want.kind))) [
      | inl k ↦ elim (cases_Bool (is_same_page head.want m)) [
        | inl q ↦ (let r : is_same_row rules head.want m ≡ true = rw (k, q) at h in record { operation = of_one_rank (operation_of m.kind) (operation_of head.want.kind) k; lun = at; page = λ n. by_page n q; strict = λ y. by_row y r })
        | inr q ↦ (let bad : false ≡ true = rw (k, q) at h in absurd (false≢true bad))
      ]
      | inr k ↦ (let bad : false ≡ true = rw k at h in absurd (false≢true bad))
    ]
      where
        by_page : operation_of head.want.kind ≢ Erases → is_same_page head.want m ≡ true → m.page ≡ head.want.page
        by_page n q = elim (cases_Bool (operation_rank (operation_of head.want.kind) == operation_rank Erases)) [
          | inl e ↦ absurd (n (of_one_rank (operation_of head.want.kind) Erases e))
          | inr e ↦ (let r : (m.page == head.want.page) ≡ true = rw e at q in eqb-true m.page head.want.page r)
        ]

        by_row : IsTrue rules.strict → is_same_row rules head.want m ≡ true → above_planes rules m ≡ above_planes rules head.want
        by_row y r = elim (cases_Bool rules.strict) [
          | inl e ↦ (let q : (above_planes rules m == above_planes rules head.want) ≡ true = rw e at r in eqb-true (above_planes rules m) (above_planes rules head.want) q)
          | inr e ↦ absurd (false≢true (sym e ∙ y))
        ]

    mate_member : (p : ℕ) (v : Waiter) → Has ready v → is_mate rules head.want p v ≡ true → IsMember p v.want
    mate_member p v i h = elim (cases_Bool (v.want.plane == p)) [
      | inl k ↦ elim (cases_Bool (may_group rules (operation_of head.want.kind))) [
        | inl q ↦ (
            let r : goes_with rules head.want v.want ≡ true = rw (k, q) at h in
            let is = ready_is waiting lun v i in
            let own = ready_is waiting lun head has in
            record { plane = eqb-true v.want.plane p k; goes = goes_by v.want (is.on ∙ sym own.on) r; first = is.first; single = λ n. absurd (false≢true (sym n ∙ q)) })
        | inr q ↦ (let bad : false ≡ true = rw (k, q) at h in absurd (false≢true bad))
      ]
      | inr k ↦ (let bad : false ≡ true = rw k at h in absurd (false≢true bad))
    ]

    member : (p : ℕ) (m : Want) → on p ≡ Some m → IsMember p m
    member p m h = elim (cases_Bool (p == head.want.plane)) [
      | inl k ↦ (let q : Some head.want ≡ Some m = rw k at h in let e : head.want ≡ m = cc in subst (IsMember p) e (own_member p (eqb-true p head.want.plane k)))
      | inr k ↦ (let q : option_map want_of (find (is_mate rules head.want p) ready) ≡ Some m = rw k at h in by_mate (find (is_mate rules head.want p) ready) refl q)
    ]
      where
        by_mate : (o : Option Waiter) → find (is_mate rules head.want p) ready ≡ o → option_map want_of o ≡ Some m → IsMember p m
        by_mate None e q = absurd cc
        by_mate (Some v) e q =
            let f = found (is_mate rules head.want p) ready v e in
            let s : v.want ≡ m = cc in
            subst (IsMember p) s (mate_member p v f.0 f.1)

    abbrev group : List Want
    group = filter_map on planes

    pub has_head : Has group head.want
    has_head =
        let plane : head.want.plane ≤ 3 = All-has (λ w. w.want.plane ≤ 3) waiting head small (ready_is waiting lun head has).has in
        in_mapped on planes head.want.plane head.want (has_plane head.want.plane plane) (rw (eq-eqb head.want.plane head.want.plane refl) refl)

    some : (g : List Want) → Has g head.want → 1 ≤ length g
    some [] h = absurd h
    some (x ∷ xs) h = omega arith

    one_alone : may_group rules (operation_of head.want.kind) ≡ false → (g : List Want) → Pairs (λ a b. a.plane < b.plane) g → All (λ m. m ≡ head.want) g → 1 < length g → ⊥
    one_alone n [] rise same several = omega arith
    one_alone n (x ∷ []) rise same several = omega arith
    one_alone n (x ∷ y ∷ ys) rise same several =
        let a : x.plane ≡ head.want.plane = ap (λ m. m.plane) same.0 in
        let b : y.plane ≡ head.want.plane = ap (λ m. m.plane) same.1.0 in
        let c = rise.0.0 in
        omega arith

    each_member : (m : Want) → Has group m → (p : ℕ) × IsMember p m
    each_member m h = let f = mapped on planes m h in (f.0, member f.0 m f.2)

    group_rises : Pairs (λ a b. a.plane < b.plane) group
    group_rises = rises on (λ p m e. (member p m e).plane) planes planes_rise

    rule : 1 < length group → IsTrue (may_group rules (operation_of head.want.kind))
    rule several = elim (cases_Bool (may_group rules (operation_of head.want.kind))) [
      | inl k ↦ k
      | inr k ↦ absurd (one_alone k group group_rises (All-each (λ m. m ≡ head.want) group (λ m h. (each_member m h).1.single k)) several)
    ]

    pub may_start : IsStartable rules (wants_of waiting) group
    may_start = record {
      group = all_go rules head.want group (some group has_head) (short on planes) (All-each (GoesWith rules head.want) group (λ m h. (each_member m h).1.goes)) group_rises rule;
      first = All-each (IsFirst (wants_of waiting)) group (λ m h. (each_member m h).1.first);
    }

    pub group_lun : lun_of group ≡ lun
    group_lun = by_first group has_head (All-each (λ m. m.lun ≡ lun) group (λ m h. (each_member m h).1.goes.lun ∙ (ready_is waiting lun head has).on))
      where
        by_first : (g : List Want) → Has g head.want → All (λ m. m.lun ≡ lun) g → lun_of g ≡ lun
        by_first [] h all = absurd h
        by_first (x ∷ xs) h all = all.0

  -- what is known of a group that a LUN gives
  pub record Starts (g : List Want) : Type 0 where
    pub startable : IsStartable rules (wants_of waiting) g
    pub on : lun_of g ≡ lun

  starts_by : (o : Option Waiter) → ((w : Waiter) → o ≡ Some w → Has ready w) → (m : Want) (ms : List Want) → group_with rules ready o ≡ m ∷ ms →
      Starts (m ∷ ms)
  starts_by None f m ms h = absurd cc
  starts_by (Some w) f m ms h = subst Starts h (record { startable = may_start w (f w refl); on = group_lun w (f w refl) })

  pub own_starts : (m : Want) (ms : List Want) → own_group rules ready ≡ m ∷ ms → Starts (m ∷ ms)
  own_starts = starts_by (turned_to ready) (turned_in ready)

  pub erase_starts : (m : Want) (ms : List Want) → erase_group rules ready ≡ m ∷ ms → Starts (m ∷ ms)
  erase_starts = starts_by (find (is_kind Erase) ready) (λ w e. (found (is_kind Erase) ready w e).0)

  -- where the group is empty, nothing may begin
  pub none_begins : own_group rules ready ≡ [] → ready ≡ []
  none_begins h = by_turn (turned_to ready) refl
    where
      by_turn : (o : Option Waiter) → turned_to ready ≡ o → ready ≡ []
      by_turn None e = none_ready ready e
      by_turn (Some w) e =
          let i = has_head w (turned_in ready w e) in
          let g : group_with rules ready (Some w) ≡ [] = subst (λ z. group_with rules ready z ≡ []) e h in
          absurd (subst (λ z. Has z w.want) g i)
