-- Lists that are filtered, and the requests that wait first.
use Rattle.std.proofs.Common.{◌≡◌, ℕ, inl, inr, Bool, true, false, List, [], ◌∷◌, ◌++◌, None, Some, refl, sym, ap, ◌∙◌}
use Rattle.std.specs.Prelude.{◌==◌, not, if◌then◌else◌, slice_get}
use Rattle.std.specs.List.{AllByRecursion as All, filter}
use Rattle.std.proofs.lemmas.Bool.{cases_Bool, eq-eqb, eqb-false, eqb-true, false≢true, ne_eqb}
use Rattle.onfi_request.specs.declared.want.Want.{Want}
use Rattle.onfi_group.specs.Words.{Has}
use Rattle.onfi_group.specs.Group.{IsFirst, is_member, on_block}
use Rattle.onfi_group.proofs.Firsts.{same_by_id}
use Rattle.onfi_problem.specs.Moves.{without}
use Rattle.onfi_problem.proofs.Wants.{Rising}
use Rattle.onfi_audit.specs.Audit.{Names, first_at, is_at}
use Rattle.onfi_audit.specs.declared.line.Line.{Line}

-- tests that agree on a list keep the same of it
pub filter_same : {A : Type 0} (f g : A → Bool) (xs : List A) → ((x : A) → Has xs x → f x ≡ g x) → filter f xs ≡ filter g xs
filter_same f g [] h = refl
filter_same f g (x ∷ xs) h =
    let rest = filter_same f g xs (λ y k. h y (inr k)) in
    let here = h x (inl refl) in
    elim (cases_Bool (g x)) [
      | inl k ↦ (let k' : f x ≡ true = here ∙ k in rw (k, k') (ap (λ ys. x ∷ ys) rest))
      | inr k ↦ (let k' : f x ≡ false = here ∙ k in rw (k, k') rest)
    ]

pub filter_twice : {A : Type 0} (f g : A → Bool) (xs : List A) → filter f (filter g xs) ≡ filter (λ x. if g x then f x else false) xs
filter_twice f g [] = refl
filter_twice f g (x ∷ xs) =
    let rest = filter_twice f g xs in
    elim (cases_Bool (g x)) [
      | inl k ↦ elim (cases_Bool (f x)) [ inl j ↦ rw (k, j) (ap (λ ys. x ∷ ys) rest) | inr j ↦ rw (k, j) rest ]
      | inr k ↦ rw k rest
    ]

pub filter_all : {A : Type 0} (f : A → Bool) (xs : List A) → ((x : A) → Has xs x → f x ≡ true) → filter f xs ≡ xs
filter_all f [] h = refl
filter_all f (x ∷ xs) h = let k = h x (inl refl) in rw k (ap (λ ys. x ∷ ys) (filter_all f xs (λ y j. h y (inr j))))

pub filter-append : {A : Type 0} (f : A → Bool) (xs ys : List A) → filter f (xs ++ ys) ≡ filter f xs ++ filter f ys
filter-append f [] ys = refl
filter-append f (x ∷ xs) ys =
    let rest = filter-append f xs ys in
    elim (cases_Bool (f x)) [ inl k ↦ rw k (ap (λ zs. x ∷ zs) rest) | inr k ↦ rw k rest ]

-- what is on one block is of one LUN
pub same_lun : (m w : Want) → on_block m w ≡ true → w.lun ≡ m.lun
same_lun m w h = elim (cases_Bool (w.lun == m.lun)) [ inl k ↦ eqb-true w.lun m.lun k | inr k ↦ (let q : false ≡ true = rw k at h in absurd (false≢true q)) ]

pub same_block : (m w : Want) → on_block m w ≡ true → w.block ≡ m.block
same_block m w h = elim (cases_Bool (w.lun == m.lun)) [
  | inl k ↦ (let q : (w.block == m.block) ≡ true = rw k at h in eqb-true w.block m.block q)
  | inr k ↦ (let q : false ≡ true = rw k at h in absurd (false≢true q))
]

-- the first on a block stays that where all on it are kept
pub kept_on_block : (keep : Want → Bool) (wants : List Want) (m : Want) → ((w : Want) → Has wants w → on_block m w ≡ true → keep w ≡ true) → filter (on_block m) (filter keep wants) ≡ filter (on_block m) wants
kept_on_block keep wants m h = filter_twice (on_block m) keep wants ∙ filter_same _ (on_block m) wants (λ w there.
    elim (cases_Bool (on_block m w)) [
      | inl k ↦ (let q = h w there k in rw (q, k) refl)
      | inr k ↦ elim (cases_Bool (keep w)) [ inl j ↦ rw (j, k) refl | inr j ↦ rw (j, k) refl ]
    ])

pub first_kept : (keep : Want → Bool) (wants : List Want) (m : Want) → ((w : Want) → Has wants w → on_block m w ≡ true → keep w ≡ true) → IsFirst wants m → IsFirst (filter keep wants) m
first_kept keep wants m h first = ap (λ ws. slice_get ws 0) (kept_on_block keep wants m h) ∙ first

pub first_unkept : (keep : Want → Bool) (wants : List Want) (m : Want) → ((w : Want) → Has wants w → on_block m w ≡ true → keep w ≡ true) → IsFirst (filter keep wants) m → IsFirst wants m
first_unkept keep wants m h first = sym (ap (λ ws. slice_get ws 0) (kept_on_block keep wants m h)) ∙ first

-- who isn't the one has another number
pub no_member : (wants : List Want) (m w : Want) → Rising wants → Has wants m → Has wants w → (w ≡ m → ⊥) → is_member (m ∷ []) w ≡ false
no_member wants m w rise a b other = elim (cases_Bool (m.id == w.id)) [
  | inl k ↦ absurd (other (same_by_id wants w m rise b a (sym (eqb-true m.id w.id k))))
  | inr k ↦ rw k refl
]

-- on another block the first stays that where the one leaves
others_kept : (wants : List Want) (m x : Want) → Rising wants → Has wants m → on_block x m ≡ false → (w : Want) → Has wants w → on_block x w ≡ true → not (is_member (m ∷ []) w) ≡ true
others_kept wants m x rise there apart w has on =
    let e = no_member wants m w rise there has (λ q. let bad : true ≡ false = sym on ∙ ap (on_block x) q ∙ apart in absurd (false≢true (sym bad))) in
    rw e refl

pub first_left : (wants : List Want) (m x : Want) → Rising wants → Has wants m → on_block x m ≡ false → IsFirst wants x → IsFirst (without (m ∷ []) wants) x
first_left wants m x rise there apart first = first_kept (λ w. not (is_member (m ∷ []) w)) wants x (others_kept wants m x rise there apart) first

pub first_before : (wants : List Want) (m x : Want) → Rising wants → Has wants m → on_block x m ≡ false → IsFirst (without (m ∷ []) wants) x → IsFirst wants x
first_before wants m x rise there apart first = first_unkept (λ w. not (is_member (m ∷ []) w)) wants x (others_kept wants m x rise there apart) first

-- blocks that differ
pub other_block : (x m : Want) → (x.block ≡ m.block → ⊥) → on_block x m ≡ false
other_block x m h = elim (cases_Bool (on_block x m)) [ inl k ↦ absurd (h (sym (same_block x m k))) | inr k ↦ k ]

-- the first on a line's block
pub first_is : (wants : List Want) (line : Line) (m : Want) → Names line m → first_at wants line.lun line.block ≡ slice_get (filter (on_block m) wants) 0
first_is wants line m named = ap (λ l. first_at wants l line.block) (sym named.lun) ∙ ap (λ b. first_at wants m.lun b) (sym named.block)

pub first_there : (wants : List Want) (line : Line) (m : Want) → Names line m → first_at wants line.lun line.block ≡ Some m → IsFirst wants m
first_there wants line m named h = sym (first_is wants line m named) ∙ h

pub first_told : (wants : List Want) (line : Line) (m : Want) → Names line m → IsFirst wants m → first_at wants line.lun line.block ≡ Some m
first_told wants line m named h = first_is wants line m named ∙ h

-- those on one block are the first of one list
pub same_first : (wants : List Want) (a b : Want) → on_block a b ≡ true → IsFirst wants a → IsFirst wants b → a ≡ b
same_first wants a b on fa fb =
    let l = same_lun a b on in
    let k = same_block a b on in
    let e : slice_get (filter (on_block a) wants) 0 ≡ slice_get (filter (on_block b) wants) 0 =
    ap (λ n. first_at wants n a.block) (sym l) ∙ ap (λ n. first_at wants b.lun n) (sym k) in
    let q : Some a ≡ Some b = sym fa ∙ e ∙ fb in
    cc

-- who is kept was there
pub has_kept : {A : Type 0} (test : A → Bool) (xs : List A) (x : A) → Has (filter test xs) x → Has xs x
has_kept test [] x h = absurd h
has_kept test (y ∷ ys) x h = elim (cases_Bool (test y)) [
  | inl k ↦ (let q : Has (y ∷ filter test ys) x = rw k at h in elim q [ inl e ↦ inl e | inr r ↦ inr (has_kept test ys x r) ])
  | inr k ↦ (let q : Has (filter test ys) x = rw k at h in inr (has_kept test ys x q))
]

-- all but the one of that number
pub by_number : (wants : List Want) (want : Want) (number : ℕ) → want.id ≡ number → filter (λ w. not (w.id == number)) wants ≡ without (want ∷ []) wants
by_number wants want number e = filter_same _ _ wants (λ w h. elim (cases_Bool (want.id == w.id)) [
  | inl k ↦ (let t : (w.id == number) ≡ true = eq-eqb w.id number (sym (eqb-true want.id w.id k) ∙ e) in rw (k, t) refl)
  | inr k ↦ (let t : (w.id == number) ≡ false = ne_eqb w.id number (λ q. eqb-false want.id w.id k (e ∙ sym q)) in rw (k, t) refl)
])

-- where none waits on a line's block none is named
pub none_first : (wants : List Want) (line : Line) → first_at wants line.lun line.block ≡ None → All (λ w. Names line w → ⊥) wants
none_first [] line h = tt
none_first (w ∷ wants) line h = elim (cases_Bool (is_at line.lun line.block w)) [
  | inl k ↦ (let q : Some w ≡ None = rw k at h in cc)
  | inr k ↦ (
    (λ named. let t : is_at line.lun line.block w ≡ true = rw (eq-eqb w.lun line.lun named.lun) (eq-eqb w.block line.block named.block) in absurd (false≢true (sym k ∙ t))),
    none_first wants line (rw k at h),
  )
]
