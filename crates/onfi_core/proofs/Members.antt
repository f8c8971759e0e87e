-- The members of a group, as items that were accepted.
use Rattle.std.proofs.Common.{◌≡◌, ◌≢◌, ℕ, ◌<◌, inl, inr, true, false, List, [], ◌∷◌, ◌++◌, take, refl, sym, ap, ◌∙◌, subst, arith, ◌+◌, length, Some, append_assoc, append-nil, length-append}
use Rattle.std.specs.Prelude.{map, slice_get}
use Rattle.std.specs.List.{AllByRecursion as All, filter}
use Rattle.std.proofs.lemmas.Bool.{cases_Bool}
use Rattle.std.proofs.lemmas.Bool.Decides.{nat_tests}
use Rattle.onfi_addr.specs.Rows.{plane_of_block}
use Rattle.onfi_request.specs.Words.{Pairs as EachPair}
use Rattle.onfi_request.specs.declared.answer.Answer.{Answer}
use Rattle.onfi_request.specs.declared.request.Item.{Item}
use Rattle.onfi_request.specs.declared.request.Request.{Request}
use Rattle.onfi_request.specs.declared.want.Want.{Want}
use Rattle.onfi_group.specs.Words.{Has, Pairs}
use Rattle.onfi_problem.proofs.Perm.{All-has}
use Rattle.onfi_die.specs.Answers.{requests_on}
use Rattle.onfi_die.specs.Apart.{OnOthers, answer_now}
use Rattle.onfi_die.specs.Blocks.{is_on, Blocks, changed}
use Rattle.onfi_die.specs.Contents.{Contents, runs, fresh, answer_of, contents_after}
use Rattle.onfi_die.specs.Shapes.{Device}
use Rattle.onfi_die.proofs.Apart.{apart}
use Rattle.onfi_chip.specs.Alone.{post_now}
use Rattle.onfi_chip.specs.Chip.{posts_of}
use Rattle.onfi_chip.specs.declared.post.Post.{Post}
use Rattle.onfi_core.specs.Kept.{on, is_want_on, IsTaken, answer_for}
use Rattle.onfi_core.specs.State.{HalfState, wants_from, item_at, request_of, no_item, want_of}
use Rattle.onfi_core.specs.declared.setup.Setup.{Setup}
use Rattle.onfi_core.proofs.Lists.{index_get, get_at_length, head_same, index_at_length, not_nil, tail_same}
use Rattle.std.proofs.lemmas.List.{map-append, take_at}
use Rattle.std.proofs.lemmas.List.Elements.{filter-append}
use Rattle.onfi_addr.specs.declared.geometry.Geometry.{Geometry}

-- On a block, the wants before one are those of the items accepted before it

pub request_at : (all pre : List Item) (x : Item) (xs : List Item) → all ≡ pre ++ x ∷ xs → item_at all (length pre) ≡ x
request_at all pre x xs e = ap (λ zs. item_at zs (length pre)) e ∙ index_at_length pre x xs no_item

requests_more : (l b : ℕ) (pre : List Item) (x : Item) → is_on l b x.request ≡ true → requests_on l b (pre ++ x ∷ []) ≡ requests_on l b pre ++ x.request ∷ []
requests_more l b pre x k = ap (filter (is_on l b)) (map-append (λ (x : Item). x.request) pre (x ∷ [])) ∙ filter-append (is_on l b) (map (λ (x : Item). x.request) pre) (x.request ∷ []) ∙ rw k refl

requests_same : (l b : ℕ) (pre : List Item) (x : Item) → is_on l b x.request ≡ false → requests_on l b (pre ++ x ∷ []) ≡ requests_on l b pre
requests_same l b pre x k = ap (filter (is_on l b)) (map-append (λ (x : Item). x.request) pre (x ∷ [])) ∙ filter-append (is_on l b) (map (λ (x : Item). x.request) pre) (x.request ∷ []) ∙ rw k (append-nil (requests_on l b pre))

-- what stands before the item of a want
pub record CutAt (l b : ℕ) (all pre : List Item) (before : List Want) (w : Want) : Type 0 where
  pub requests : requests_on l b (take w.id all) ≡ requests_on l b pre ++ map (request_of all) before
  pub there : slice_get all w.id ≡ Some (item_at all w.id)

-- one item more, which is of the block
cut_here : (geometry : Geometry) (l b : ℕ) (all : List Item) (n : ℕ) (pre : List Item) (x : Item) (xs : List Item) (before : List Want) (w : Want) (behind : List Want) → all ≡ pre ++ x ∷ xs → n ≡ length pre → is_on l b x.request ≡ true → ((more : List Want) → on l b (wants_from geometry (n + 1) xs) ≡ more ++ w ∷ behind → CutAt l b all (pre ++ x ∷ []) more w) → want_of geometry n x ∷ on l b (wants_from geometry (n + 1) xs) ≡ before ++ w ∷ behind → CutAt l b all pre before w
cut_here geometry l b all n pre x xs [] w behind e f k rest h =
    let i : n ≡ w.id = ap (λ (v : Want). v.id) (head_same _ _ _ _ h) in
    let j : w.id ≡ length pre = sym i ∙ f in
    let t : take (length pre) all ≡ pre = ap (take (length pre)) e ∙ take_at pre (x ∷ xs) (length pre) refl in
    let g : slice_get all (length pre) ≡ Some x = ap (λ zs. slice_get zs (length pre)) e ∙ get_at_length pre x xs in
    record {
      requests = rw (j, t) (sym (append-nil (requests_on l b pre)));
      there = rw j (g ∙ ap Some (sym (request_at all pre x xs e)));
    }
cut_here geometry l b all n pre x xs (v ∷ before) w behind e f k rest h =
    let i : n ≡ v.id = ap (λ (v : Want). v.id) (head_same _ _ _ _ h) in
    let j : v.id ≡ length pre = sym i ∙ f in
    let c = rest before (tail_same _ _ _ _ h) in
    let r : request_of all v ≡ x.request = ap (λ (y : Item). y.request) (ap (item_at all) j ∙ request_at all pre x xs e) in
    record {
      requests = c.requests ∙ ap (λ rs. rs ++ map (request_of all) before) (requests_more l b pre x k) ∙ append_assoc (requests_on l b pre) (x.request ∷ []) (map (request_of all) before) ∙ ap (λ r. requests_on l b pre ++ r ∷ map (request_of all) before) (sym r);
      there = c.there;
    }

pub cut : (geometry : Geometry) (l b : ℕ) (all : List Item) (n : ℕ) (pre xs : List Item) (before : List Want) (w : Want) (behind : List Want) → all ≡ pre ++ xs → n ≡ length pre → on l b (wants_from geometry n xs) ≡ before ++ w ∷ behind → CutAt l b all pre before w
cut geometry l b all n pre [] before w behind e f h = absurd (not_nil before w behind h)
cut geometry l b all n pre (x ∷ xs) before w behind e f h =
    let e' : all ≡ (pre ++ x ∷ []) ++ xs = e ∙ sym (append_assoc pre (x ∷ []) xs) in
    let f' : n + 1 ≡ length (pre ++ x ∷ []) = omega (arith, length-append pre (x ∷ [])) in
    elim (cases_Bool (is_on l b x.request)) [
      | inl k ↦ (let h' : want_of geometry n x ∷ on l b (wants_from geometry (n + 1) xs) ≡ before ++ w ∷ behind = rw k at h in cut_here geometry l b all n pre x xs before w behind e f k (λ more q. cut geometry l b all (n + 1) (pre ++ x ∷ []) xs more w behind e' f' q) h')
      | inr k ↦ (
          let h' : on l b (wants_from geometry (n + 1) xs) ≡ before ++ w ∷ behind = rw k at h in
          let c = cut geometry l b all (n + 1) (pre ++ x ∷ []) xs before w behind e' f' h' in
          record { requests = c.requests ∙ ap (λ rs. rs ++ map (request_of all) before) (requests_same l b pre x k); there = c.there })
    ]

-- Members

-- the item at the place of a want that a plan took
pub item_of : (s : Setup) (h : HalfState) (w : Want) → (t : IsTaken s h.planned h.accepted w) → item_at h.accepted w.id ≡ t.item
item_of s h w t = index_get h.accepted w.id t.item no_item t.there

pub place_lun : (s : Setup) (h : HalfState) (w : Want) → IsTaken s h.planned h.accepted w → (request_of h.accepted w).place.lun ≡ w.lun
place_lun s h w t = ap (λ (x : Item). x.request.place.lun) (item_of s h w t) ∙ sym (ap (λ (v : Want). v.lun) t.is)

pub place_block : (s : Setup) (h : HalfState) (w : Want) → IsTaken s h.planned h.accepted w → (request_of h.accepted w).place.block ≡ w.block
place_block s h w t = ap (λ (x : Item). x.request.place.block) (item_of s h w t) ∙ sym (ap (λ (v : Want). v.block) t.is)

pub place_kind : (s : Setup) (h : HalfState) (w : Want) → IsTaken s h.planned h.accepted w → (request_of h.accepted w).kind ≡ w.kind
place_kind s h w t = ap (λ (x : Item). x.request.kind) (item_of s h w t) ∙ sym (ap (λ (v : Want). v.kind) t.is)

pub place_page : (s : Setup) (h : HalfState) (w : Want) → IsTaken s h.planned h.accepted w → (request_of h.accepted w).place.page ≡ w.page
place_page s h w t = ap (λ (x : Item). x.request.place.page) (item_of s h w t) ∙ sym (ap (λ (v : Want). v.page) t.is)

pub same_test : (s : Setup) (h : HalfState) (w : Want) → IsTaken s h.planned h.accepted w → (l b : ℕ) → is_on l b (request_of h.accepted w) ≡ is_want_on l b w
same_test s h w t l b = let e = place_lun s h w t in let f = place_block s h w t in rw (e, f) refl

-- the requests of the members on a block
pub requests_of_on : (s : Setup) (h : HalfState) (l b : ℕ) (g : List Want) → All (IsTaken s h.planned h.accepted) g → filter (is_on l b) (map (request_of h.accepted) g) ≡ map (request_of h.accepted) (on l b g)
requests_of_on s h l b [] t = refl
requests_of_on s h l b (w ∷ g) t =
    let e = requests_of_on s h l b g t.1 in
    let q = same_test s h w t.0 l b in
    elim (cases_Bool (is_want_on l b w)) [
      | inl k ↦ (let m : is_on l b (request_of h.accepted w) ≡ true = q ∙ k in rw (m, k) (ap (λ rs. request_of h.accepted w ∷ rs) e))
      | inr k ↦ (let m : is_on l b (request_of h.accepted w) ≡ false = q ∙ k in rw (m, k) e)
    ]

planes_differ : (s : Setup) (h : HalfState) (a b : Want) → IsTaken s h.planned h.accepted a → IsTaken s h.planned h.accepted b → a.plane < b.plane → a.block ≢ b.block
planes_differ s h a b t u lower e =
    let pa : a.plane ≡ plane_of_block s.geometry a.block = ap (λ (v : Want). v.plane) t.is ∙ ap (plane_of_block s.geometry) (sym (ap (λ (v : Want). v.block) t.is)) in
    let pb : b.plane ≡ plane_of_block s.geometry b.block = ap (λ (v : Want). v.plane) u.is ∙ ap (plane_of_block s.geometry) (sym (ap (λ (v : Want). v.block) u.is)) in
    let q : a.plane ≡ b.plane = pa ∙ ap (plane_of_block s.geometry) e ∙ sym pb in
    omega arith

not_on : (a b : Want) → a.block ≢ b.block → is_want_on b.lun b.block a ≡ false
not_on a b d = grind (arith, nat_tests)

is_on_self : (m : Want) → is_want_on m.lun m.block m ≡ true
is_on_self m = grind (arith, nat_tests)

others_differ : (s : Setup) (h : HalfState) (w : Want) (g : List Want) → IsTaken s h.planned h.accepted w → All (IsTaken s h.planned h.accepted) g → All (λ (v : Want). w.plane < v.plane) g → All (OnOthers (request_of h.accepted w)) (map (request_of h.accepted) g)
others_differ s h w [] t u p = tt
others_differ s h w (v ∷ g) t u p =
    let d = planes_differ s h w v t u.0 p.0 in
    (inr (λ e. d (sym (place_block s h w t) ∙ e ∙ place_block s h v u.0)), others_differ s h w g t u.1 p.1)

-- the requests of a group are on different blocks
pub members_apart : (s : Setup) (h : HalfState) (g : List Want) → All (IsTaken s h.planned h.accepted) g → Pairs (λ (a b : Want). a.plane < b.plane) g → EachPair OnOthers (map (request_of h.accepted) g)
members_apart s h [] t p = tt
members_apart s h (w ∷ g) t p = (others_differ s h w g t.0 t.1 p.0, members_apart s h g t.1 p.1)

-- a member is the first on its block
pub own_block : (s : Setup) (h : HalfState) (g : List Want) (m : Want) → All (IsTaken s h.planned h.accepted) g → Pairs (λ (a b : Want). a.plane < b.plane) g → Has g m → (more : List Want) × (on m.lun m.block g ≡ m ∷ more)
own_block s h [] m t p k = absurd k
own_block s h (w ∷ g) m t p (inl e) =
    let j : is_want_on m.lun m.block w ≡ true = ap (is_want_on m.lun m.block) e ∙ is_on_self m in
    (on m.lun m.block g, rw j (ap (λ v. v ∷ on m.lun m.block g) e))
own_block s h (w ∷ g) m t p (inr k) =
    let d = planes_differ s h w m t.0 (All-has (IsTaken s h.planned h.accepted) g m t.1 k) (All-has (λ (v : Want). w.plane < v.plane) g m p.0 k) in
    let j = not_on w m d in
    let r = own_block s h g m t.1 p.1 k in
    let q = r.1 in
    (r.0, rw j q)

-- a want in front of all that is to run on its block gets the answer of its place
pub front_answer : (s : Setup) (h : HalfState) (device : Device) (blocks : Blocks) (w : Want) (ran behind : List Want) → IsTaken s h.planned h.accepted w → blocks w.lun w.block ≡ runs device (map (request_of h.accepted) ran) (fresh device) → on w.lun w.block (wants_from s.geometry 0 h.accepted) ≡ ran ++ w ∷ behind → answer_now device blocks (request_of h.accepted w) ≡ answer_for device h.accepted w
front_answer s h device blocks w ran behind t contents order =
    let c = cut s.geometry w.lun w.block h.accepted 0 [] h.accepted ran w behind refl refl order in
    let r = request_of h.accepted w in
    let el = place_lun s h w t in
    let eb = place_block s h w t in
    let P : ℕ → ℕ → Type 0 = λ i j. blocks i j ≡ runs device (requests_on i j (take w.id h.accepted)) (fresh device) in
    let here : P w.lun w.block = contents ∙ ap (λ rs. runs device rs (fresh device)) (sym c.requests) in
    let there : P r.place.lun r.place.block = subst (P r.place.lun) (sym eb) (subst (λ i. P i w.block) (sym el) here) in
    ap (answer_of device r) there

pub runs-append : (device : Device) (rs qs : List Request) (b : Contents) → runs device (rs ++ qs) b ≡ runs device qs (runs device rs b)
runs-append device [] qs b = refl
runs-append device (r ∷ rs) qs b = runs-append device rs qs (contents_after device r b)

unmoved : (device : Device) (a : Request) (blocks : Blocks) (rs : List Request) → All (OnOthers a) rs → map (post_now device (changed device a blocks)) rs ≡ map (post_now device blocks) rs
unmoved device a blocks [] h = refl
unmoved device a blocks (r ∷ rs) h =
    let here : post_now device (changed device a blocks) r ≡ post_now device blocks r = ap (λ (x : Answer). record { kind = r.kind; place = r.place; answer = x }) (apart.two device a r blocks h.0).second in
    ap (λ (p : Post). p ∷ map (post_now device (changed device a blocks)) rs) here ∙ ap (λ ps. post_now device blocks r ∷ ps) (unmoved device a blocks rs h.1)

-- the posts of requests on different blocks are those that each has alone
pub posts_alone : (device : Device) (rs : List Request) (blocks : Blocks) → EachPair OnOthers rs → posts_of device rs blocks ≡ map (post_now device blocks) rs
posts_alone device [] blocks h = refl
posts_alone device (r ∷ rs) blocks h = ap (λ ps. post_now device blocks r ∷ ps) (posts_alone device rs (changed device r blocks) h.1 ∙ unmoved device r blocks rs h.0)
