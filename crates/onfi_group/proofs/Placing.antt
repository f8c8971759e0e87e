-- A want that is put among the members of a group, and one that is taken out.
use Rattle.std.proofs.Common.{◌≡◌, ◌≢◌, ◌+◌, ◌<◌, ◌≤◌, inl, inr, List, [], ◌∷◌, length, refl, sym, ap, ◌∙◌, subst, arith}
use Rattle.std.specs.Prelude.{nat_lt, IsTrue}
use Rattle.std.specs.List.{AllByRecursion as All}
use Rattle.std.proofs.lemmas.Bool.{cases_Bool, lt-ltb, le-ltb, ltb-true}
use Rattle.onfi_timing.specs.Kinds.{operation_of}
use Rattle.onfi_request.specs.declared.want.Want.{Want}
use Rattle.onfi_group.specs.declared.rules.Rules.{Rules}
use Rattle.onfi_group.specs.Words.{Has}
use Rattle.onfi_group.specs.Group.{IsGroup, group_operation, lun_of, page_of, above_planes, above_planes_of, may_group}
use Rattle.onfi_group.specs.Joining.{joined}
use Rattle.onfi_group.proofs.Rising.{PlanesRise}
use Rattle.onfi_group.proofs.Lists.{All-weaker, All-has, All-each}

pub length-joined : (w : Want) (g : List Want) → length (joined w g) ≡ length g + 1
length-joined w [] = refl
length-joined w (m ∷ ms) =
    let e = length-joined w ms in
    elim (cases_Bool (nat_lt m.plane w.plane)) [
      | inl k ↦ rw k (omega arith)
      | inr k ↦ rw k (omega arith)
    ]

-- after a member on a lower plane
joined_later : (w m : Want) (ms : List Want) → m.plane < w.plane → joined w (m ∷ ms) ≡ m ∷ joined w ms
joined_later w m ms h = rw (lt-ltb m.plane w.plane h) refl

-- before one that isn't on a lower plane
joined_here : (w m : Want) (ms : List Want) → w.plane ≤ m.plane → joined w (m ∷ ms) ≡ w ∷ m ∷ ms
joined_here w m ms h = rw (le-ltb m.plane w.plane h) refl

-- before all others where they are on higher planes
pub joined_front : (w : Want) (ms : List Want) → All (λ x. w.plane < x.plane) ms → joined w ms ≡ w ∷ ms
joined_front w [] h = refl
joined_front w (m ∷ ms) h = let q = h.0 in joined_here w m ms (omega arith)

-- what holds of the want and of each member
pub All-joined : (P : Want → Type 0) (w : Want) (g : List Want) → P w → All P g → All P (joined w g)
All-joined P w [] p h = (p, tt)
All-joined P w (m ∷ ms) p h = elim (cases_Bool (nat_lt m.plane w.plane)) [
  | inl k ↦ rw k (h.0, All-joined P w ms p h.1)
  | inr k ↦ rw k (p, h)
]

pub Has-joined_want : (w : Want) (g : List Want) → Has (joined w g) w
Has-joined_want w [] = inl refl
Has-joined_want w (m ∷ ms) = elim (cases_Bool (nat_lt m.plane w.plane)) [
  | inl k ↦ rw k (inr (Has-joined_want w ms))
  | inr k ↦ rw k (inl refl)
]

pub Has-joined_member : (w : Want) (g : List Want) (x : Want) → Has g x → Has (joined w g) x
Has-joined_member w [] x h = absurd h
Has-joined_member w (m ∷ ms) x h = elim (cases_Bool (nat_lt m.plane w.plane)) [
  | inl k ↦ (rw k (elim h as (λ q. Has (m ∷ joined w ms) x) [ inl e ↦ inl e | inr q ↦ inr (Has-joined_member w ms x q) ]))
  | inr k ↦ rw k (inr h)
]

-- the members are on other planes than the want where planes rise with it
pub apart : (w : Want) (g : List Want) → PlanesRise (joined w g) → All (λ m. m.plane ≢ w.plane) g
apart w [] r = tt
apart w (m ∷ ms) r = elim (cases_Bool (nat_lt m.plane w.plane)) [
  | inl k ↦ (
      let q : PlanesRise (m ∷ joined w ms) = rw k at r in
      let lt = ltb-true m.plane w.plane k in
      ((λ e. omega arith), apart w ms q.1))
  | inr k ↦ (
      let q : PlanesRise (w ∷ m ∷ ms) = rw k at r in
      All-weaker (λ x. w.plane < x.plane) (λ x. x.plane ≢ w.plane) (λ x lt e. omega arith) (m ∷ ms) q.0)
]

-- a group without one of its members
pub record Without (w : Want) (group : List Want) : Type 0 where
  pub rest : List Want
  pub joins : joined w rest ≡ group
  pub rises : PlanesRise rest
  pub length : length group ≡ length rest + 1
  pub others : (x : Want) → Has rest x → Has group x × (x.plane ≢ w.plane)

pub taken_out : (w : Want) (g : List Want) → PlanesRise g → Has g w → Without w g
taken_out w [] r h = absurd h
taken_out w (m ∷ ms) r (inl e) = record {
  rest = ms;
  joins = joined_front w ms (subst (λ z. All (λ x. z.plane < x.plane) ms) e r.0) ∙ ap (λ z. z ∷ ms) (sym e);
  rises = r.1;
  length = omega arith;
  others = λ x k. (inr k, (λ q. let lower : m.plane < x.plane = All-has (λ x. m.plane < x.plane) ms x r.0 k in let at : m.plane ≡ w.plane = ap (λ z. z.plane) e in omega arith));
}
taken_out w (m ∷ ms) r (inr h) =
    let t = taken_out w ms r.1 h in
    let below : m.plane < w.plane = All-has (λ x. m.plane < x.plane) ms w r.0 h in
    record {
      rest = m ∷ t.rest;
      joins = joined_later w m t.rest below ∙ ap (λ xs. m ∷ xs) t.joins;
      rises = (All-each (λ x. m.plane < x.plane) t.rest (λ x k. All-has (λ x. m.plane < x.plane) ms x r.0 (t.others x k).0), t.rises);
      length = let q = t.length in omega arith;
      others = λ x k. elim k as (λ q. Has (m ∷ ms) x × (x.plane ≢ w.plane)) [
        | inl e ↦ (inl e, (λ q. let at : m.plane ≡ x.plane = ap (λ z. z.plane) e in omega arith))
        | inr q ↦ (inr (t.others x q).0, (t.others x q).1)
      ];
    }

-- some of a group's members, in their order, are a group
pub part_is_group : (rules : Rules) (group part : List Want) → IsGroup rules group → 1 ≤ length part → length part ≤ length group → PlanesRise part → ((x : Want) → Has part x → Has group x) → IsGroup rules part
part_is_group rules group [] g some short rises each = absurd (omega arith)
part_is_group rules group (y ∷ ys) g some short rises each =
    let kinds = λ (x : Want) (h : Has (y ∷ ys) x). All-has (λ m. operation_of m.kind ≡ group_operation group) group x g.operation (each x h) in
    let luns = λ (x : Want) (h : Has (y ∷ ys) x). All-has (λ m. m.lun ≡ lun_of group) group x g.lun (each x h) in
    let kind : operation_of y.kind ≡ group_operation group = kinds y (inl refl) in
    record {
      some = some;
      few = let few = g.few in omega arith;
      operation = All-each (λ m. operation_of m.kind ≡ operation_of y.kind) (y ∷ ys) (λ x h. kinds x h ∙ sym kind);
      lun = All-each (λ m. m.lun ≡ y.lun) (y ∷ ys) (λ x h. luns x h ∙ sym (luns y (inl refl)));
      planes = rises;
      page = λ no.
          let pages = λ (x : Want) (h : Has (y ∷ ys) x). All-has (λ m. m.page ≡ page_of group) group x (g.page (λ e. no (kind ∙ e))) (each x h) in
          All-each (λ m. m.page ≡ y.page) (y ∷ ys) (λ x h. pages x h ∙ sym (pages y (inl refl)));
      rule = λ several. subst (λ k. IsTrue (may_group rules k)) (sym kind) (g.rule (omega arith));
      strict = λ yes.
          let above = λ (x : Want) (h : Has (y ∷ ys) x). All-has (λ m. above_planes rules m ≡ above_planes_of rules group) group x (g.strict yes) (each x h) in
          All-each (λ m. above_planes rules m ≡ above_planes rules y) (y ∷ ys) (λ x h. above x h ∙ sym (above y (inl refl)));
    }

-- a want alone is a group
pub one_is_group : (rules : Rules) (w : Want) → IsGroup rules (w ∷ [])
one_is_group rules w = record {
  some = omega arith;
  few = omega arith;
  operation = (refl, tt);
  lun = (refl, tt);
  planes = (tt, tt);
  page = λ no. (refl, tt);
  rule = λ several. absurd (omega arith);
  strict = λ yes. (refl, tt);
}
