-- The requests of a LUN that may begin: request after request, and each the first of its block among all that waits.
use Rattle.std.proofs.Common.{◌≡◌, ℕ, ◌+◌, ◌<◌, inl, inr, Bool, true, false, List, [], ◌∷◌, ◌++◌, length, take, get_or, Some, refl, sym, ap, ◌∙◌, subst}
use Rattle.std.specs.Prelude.{◌||◌, ◌==◌, cond, not, if◌then◌else◌, slice_get}
use Rattle.std.specs.List.{filter, list_any}
use Rattle.std.proofs.lemmas.Bool.{cases_Bool, eq-eqb, eqb-true, false≢true}
use Rattle.std.proofs.lemmas.List.{append-nil, take_more}
use Rattle.std.proofs.lemmas.List.Elements.{filter-append}
use Rattle.std.proofs.lemmas.List.Folds.{list_any-append}
use Rattle.std.proofs.lemmas.Map.Views.{any-filter_same}
use Rattle.onfi_timing.specs.declared.kind.Kind.TheVariants.{Read}
use Rattle.onfi_request.specs.declared.want.Want.{Want}
use Rattle.onfi_group.specs.Words.{Has}
use Rattle.onfi_group.specs.Group.{IsFirst, on_block}
use Rattle.onfi_group.proofs.Firsts.{on_own_block}
use Rattle.onfi_steady.specs.declared.waiter.Waiter.{Waiter}
use Rattle.onfi_steady.specs.Waiting.{is_on, wants_of}
use Rattle.onfi_steady.specs.Offer.{firsts, is_kind, on_lun, ready_on}

abbrev beside : Waiter → Waiter → Bool
beside w v = not (on_block w.want v.want)

abbrev is_behind : Waiter → Waiter → Bool
is_behind x v = on_block v.want x.want

record Shares (a b : Want) : Type 0 where
  pub lun : b.lun ≡ a.lun
  pub block : b.block ≡ a.block

shares : (a b : Want) → on_block a b ≡ true → Shares a b
shares a b h = elim (cases_Bool (b.lun == a.lun)) [
  | inl k ↦ (let q : (b.block == a.block) ≡ true = rw k at h in record { lun = eqb-true b.lun a.lun k; block = eqb-true b.block a.block q })
  | inr k ↦ (let q : false ≡ true = rw k at h in absurd (false≢true q))
]

on_same : (a b : Want) → Shares a b → on_block a b ≡ true
on_same a b s = rw (eq-eqb b.lun a.lun s.lun, eq-eqb b.block a.block s.block) refl

through : (a b c : Want) → on_block a b ≡ true → on_block b c ≡ true → on_block a c ≡ true
through a b c h k = let s = shares a b h in let t = shares b c k in on_same a c (record { lun = t.lun ∙ s.lun; block = t.block ∙ s.block })

turned : (a b : Want) → on_block a b ≡ false → on_block b a ≡ false
turned a b h = elim (cases_Bool (on_block b a)) [
  | inl k ↦ (let s = shares b a k in absurd (false≢true (sym h ∙ on_same a b (record { lun = sym s.lun; block = sym s.block }))))
  | inr k ↦ k
]

any_beside : (w x : Waiter) → on_block w.want x.want ≡ false → (vs : List Waiter) → list_any (is_behind x) (filter (beside w) vs) ≡ list_any (is_behind x) vs
any_beside w x h vs = any-filter_same (is_behind x) (beside w) true each vs
  where
    each : (v : Waiter) → is_behind x v ≡ true → beside w v ≡ true
    each v k = elim (cases_Bool (on_block w.want v.want)) [
      | inl q ↦ absurd (false≢true (sym h ∙ through w.want v.want x.want q k))
      | inr q ↦ ap not q
    ]

pushed : (w x : Waiter) (ready : List Waiter) (b a : Bool) → on_block w.want x.want ≡ b → list_any (is_behind x) ready ≡ a →
    w ∷ filter (beside w) (if a then ready else ready ++ x ∷ []) ≡ (if (b || list_any (is_behind x) (filter (beside w) ready)) then w ∷ filter (beside w) ready else w ∷ filter (beside w) ready ++ x ∷ [])
pushed w x ready true true h k = refl
pushed w x ready true false h k = ap (λ z. w ∷ z) (filter-append (beside w) ready (x ∷ []) ∙ (ap (λ z. filter (beside w) ready ++ cond (not z) (x ∷ []) []) h ∙ append-nil (filter (beside w) ready)))
pushed w x ready false true h k = rw (any_beside w x h ready ∙ k) refl
pushed w x ready false false h k = rw (any_beside w x h ready ∙ k) (ap (λ z. w ∷ z) (filter-append (beside w) ready (x ∷ []) ∙ ap (λ z. filter (beside w) ready ++ cond (not z) (x ∷ []) []) h))

pub firsts_push : (ws : List Waiter) (x : Waiter) → firsts (ws ++ x ∷ []) ≡ (if list_any (is_behind x) (firsts ws) then firsts ws else firsts ws ++ x ∷ [])
firsts_push [] x = refl
firsts_push (w ∷ ws) x = ap (λ z. w ∷ filter (beside w) z) (firsts_push ws x) ∙ pushed w x (firsts ws) _ _ refl refl

pub filter_has : {A : Type 0} (test : A → Bool) (xs : List A) (x : A) → Has (filter test xs) x → Has xs x × (test x ≡ true)
filter_has test [] x h = absurd h
filter_has test (y ∷ ys) x h = elim (cases_Bool (test y)) [
  | inl k ↦ (let q : Has (y ∷ filter test ys) x = rw k at h in elim q [
    | inl e ↦ (inl e, ap test (sym e) ∙ k)
    | inr i ↦ (let f = filter_has test ys x i in (inr f.0, f.1))
  ])
  | inr k ↦ (let q : Has (filter test ys) x = rw k at h in let f = filter_has test ys x q in (inr f.0, f.1))
]

first_in : (ws : List Waiter) (w : Waiter) → Has (firsts ws) w → IsFirst (wants_of ws) w.want
first_in [] w h = absurd h
first_in (v ∷ ws) w (inl e) = subst (λ z. IsFirst (wants_of (v ∷ ws)) z.want) e (rw (on_own_block v.want) refl)
first_in (v ∷ ws) w (inr h) =
    let f = filter_has (beside v) (firsts ws) w h in
    let off : on_block v.want w.want ≡ false = unbeside (on_block v.want w.want) f.1 in
    rw (turned v.want w.want off) (first_in ws w f.0)
  where
    unbeside : (b : Bool) → not b ≡ true → b ≡ false
    unbeside true e = sym e
    unbeside false e = refl

has_first : (ws : List Waiter) (w : Waiter) → Has (firsts ws) w → Has ws w
has_first [] w h = absurd h
has_first (v ∷ ws) w (inl e) = inl e
has_first (v ∷ ws) w (inr h) = inr (has_first ws w (filter_has (beside v) (firsts ws) w h).0)

same_block : (m : Want) (lun : ℕ) → m.lun ≡ lun → (waiting : List Waiter) →
    filter (on_block m) (wants_of (on_lun lun waiting)) ≡ filter (on_block m) (wants_of waiting)
same_block m lun e [] = refl
same_block m lun e (w ∷ ws) = elim (cases_Bool (is_on lun w)) [
  | inl k ↦ rw k (ap (λ z. cond (on_block m w.want) (w.want ∷ z) z) (same_block m lun e ws))
  | inr k ↦ (let off : on_block m w.want ≡ false = elsewhere k in rw (k, off) (same_block m lun e ws))
]
  where
    elsewhere : is_on lun w ≡ false → on_block m w.want ≡ false
    elsewhere k = elim (cases_Bool (on_block m w.want)) [
      | inl q ↦ absurd (false≢true (sym k ∙ eq-eqb w.want.lun lun ((shares m w.want q).lun ∙ e)))
      | inr q ↦ q
    ]

-- what is known of a request of the LUN that may begin
pub record IsReady (waiting : List Waiter) (lun : ℕ) (w : Waiter) : Type 0 where
  pub has : Has waiting w
  pub on : w.want.lun ≡ lun
  pub first : IsFirst (wants_of waiting) w.want

pub ready_is : (waiting : List Waiter) (lun : ℕ) (w : Waiter) → Has (ready_on lun waiting) w → IsReady waiting lun w
ready_is waiting lun w h =
    let f = filter_has (is_on lun) waiting w (has_first (on_lun lun waiting) w h) in
    let on : w.want.lun ≡ lun = eqb-true w.want.lun lun f.1 in
    record {
      has = f.0;
      on = on;
      first = subst (λ z. slice_get z 0 ≡ Some w.want) (same_block w.want lun on waiting) (first_in (on_lun lun waiting) w h);
    }
