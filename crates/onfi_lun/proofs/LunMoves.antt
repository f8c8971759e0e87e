-- The moves of the LUNs of a channel.
use Rattle.std.proofs.Common.{◌≡◌, ◌≢◌, ℕ, zero, suc, ◌+◌, ◌<◌, ◌≤◌, ◌⊎◌, inl, inr, Bool, true, false, IsTrue, List, [], ◌∷◌, ◌++◌, length, replicate, Option, Some, None, Result, Ok, Err, IfOk, IfErr, refl, sym, ap, subst, ◌∙◌, length-append, arith}
use Rattle.std.specs.Prelude.{slice_get, slice_set}
use Rattle.std.proofs.lemmas.List.{get_or-replicate, length-replicate}
use Rattle.std.proofs.lemmas.Option.{slice_get-get_or}
use Rattle.onfi_addr.specs.declared.geometry.Geometry.{Geometry}
use Rattle.onfi_addr.specs.declared.place.Place.{Place}
use Rattle.onfi_addr.specs.Rows.{IsInRange, row_of}
use Rattle.onfi_addr.proofs.RowLemmas.{fields_of, place_is}
use Rattle.onfi_timing.specs.Kinds.{spans_of}
use Rattle.onfi_request.specs.Parts.{has_part}
use Rattle.onfi_request.specs.declared.request.Item.{Item}
use Rattle.onfi_request.specs.declared.request.Request.{Request}
use Rattle.onfi_problem.proofs.Places.{get_set_other, length_set, set_back, within_get}
use Rattle.onfi_chip.specs.declared.closer.Closer.{Closer}
use Rattle.onfi_chip.specs.declared.closer.Closer.TheVariants as closer
use Rattle.onfi_chip.specs.declared.fetch.Fetch.{Fetch}
use Rattle.onfi_chip.specs.declared.post.Post.{Post}
use Rattle.onfi_chip.specs.Chip.{Chip, Lun, after_post, found_ready, luns_ready_by, posted, ready_by}
use Rattle.onfi_chip.specs.Chip.Lun.{Idle as DoesNothing, Posting as HasPosts}
use Rattle.onfi_chip.specs.Calls.{command_of, HasDone, IsNextPost, MayTake}
use Rattle.onfi_chip.proofs.SimCalls.{in_range}
use Rattle.onfi_flight.specs.declared.due.Due.{Due}
use Rattle.onfi_lun.specs.declared.lun.Lun.{Lun as Typed}
use Rattle.onfi_lun.specs.declared.lun.Posted.{Posted}
use Rattle.onfi_lun.specs.declared.lun.Posted.TheVariants as behind
use Rattle.onfi_lun.specs.declared.states.Posting.{Posting as InPosts}
use Rattle.onfi_lun.specs.declared.lanes.any_lun.AnyLun.{AnyLun}
use Rattle.onfi_lun.specs.declared.lanes.any_lun.AnyLun.TheVariants.{Idle, Queuing, Working, Posting, Moving}
use Rattle.onfi_lun.specs.declared.target.Target.{Target}
use Rattle.onfi_lun.specs.Phases.{IsOf, IsDue, IsPosted, OthersStay}
use Rattle.onfi_lun.specs.Lanes.{IsThere, LanesAgree, AreIdle, IsIdleAt, MayRunDue, OthersKept, IsPostOf, IsRipe, number_in, left_in, ready_in, behind_post}
use Rattle.onfi_lun.proofs.Phases.{same_posts}
use Rattle.onfi_lun.proofs.Places.{each_set}

set_twice : {A : Type 0} (xs : List A) (i : ℕ) (a b : A) → slice_set (slice_set xs i a) i b ≡ slice_set xs i b
set_twice [] i a b = refl
set_twice (x ∷ xs) zero a b = refl
set_twice (x ∷ xs) (suc i) a b = ap (λ ys. x ∷ ys) (set_twice xs i a b)

-- A row names one place, and one post comes next there

pub one_place : (geometry : Geometry) (p q : Place) → IsInRange geometry p → IsInRange geometry q → row_of geometry p ≡ row_of geometry q → p ≡ q
one_place geometry p q there here same =
    let a = fields_of geometry (row_of geometry q) p there same in
    let b = fields_of geometry (row_of geometry q) q here refl in
    place_is q p.lun p.block p.page (a.lun_is ∙ sym b.lun_is) (a.block_is ∙ sym b.block_is) (a.page_is ∙ sym b.page_is)

pub one_post : (chip : Chip) (now row : ℕ) (post other : Post) (left rest : List Post) → IsNextPost chip now row post left → IsNextPost chip now row other rest → (other ≡ post) × (rest ≡ left)
one_post chip now row post other left rest a b =
    let place : other.place ≡ post.place = one_place chip.geometry other.place post.place b.in_range a.in_range (b.row_is ∙ sym a.row_is) in
    let there : slice_get chip.luns post.place.lun ≡ Some (HasPosts (other ∷ rest) b.ready) = subst (λ (p : Place). slice_get chip.luns p.lun ≡ Some (HasPosts (other ∷ rest) b.ready)) place b.there in
    let lists : other ∷ rest ≡ post ∷ left = (same_posts (slice_get chip.luns post.place.lun) (other ∷ rest) (post ∷ left) b.ready a.ready there a.there).0 in
    (cc, cc)

-- Where the LUNs are

-- a LUN that the chip leaves as it is stays in its phase
pub there_still : (old new : Chip) (lun : AnyLun) → slice_get new.luns (number_in lun) ≡ slice_get old.luns (number_in lun) → IsThere old lun → IsThere new lun
there_still old new (Idle lun) e h = e ∙ h
there_still old new (Queuing lun) e (requests, is) = (requests, record { there = e ∙ is.there; count = is.count })
there_still old new (Working lun) e (posts, is) = (posts, record { there = e ∙ is.there; count = is.count })
there_still old new (Posting lun) e (posts, is) = (posts, record { there = e ∙ is.there; count = is.count })
there_still old new Moving e h = h

-- one LUN moves on with the chip's
module _ (old new : Chip) (lanes : List AnyLun) (at : ℕ) (before after : AnyLun) (agree : LanesAgree old lanes) (there : slice_get lanes at ≡ Some before) (size : length new.luns ≡ length old.luns) (others : OthersStay at old new) (number : number_in after ≡ at) (is : IsThere new after) where
  moved : (i : ℕ) (lun : AnyLun) → slice_get (slice_set lanes at after) i ≡ Some lun → (number_in lun ≡ i) × IsThere new lun
  moved i lun e = each_set (λ j x. (number_in x ≡ j) × IsThere new x) lanes at before after there (number, is) (λ j x d here.
      let n = agree.number j x here in
      (n, there_still old new x (subst (λ k. slice_get new.luns k ≡ slice_get old.luns k) (sym n) (others j d)) (agree.there j x here))) i lun e

  pub agree_on : LanesAgree new (slice_set lanes at after)
  agree_on = record {
    count = length_set lanes at after ∙ agree.count ∙ sym size;
    number = λ i lun e. (moved i lun e).0;
    there = λ i lun e. (moved i lun e).1;
  }

-- idle LUNs are where those of an opened chip are

get_more : {A : Type 0} (xs : List A) (x y : A) (i : ℕ) → slice_get (xs ++ x ∷ []) i ≡ Some y → (slice_get xs i ≡ Some y) ⊎ ((i ≡ length xs) × (x ≡ y))
get_more [] x y zero e = inr (refl, cc)
get_more [] x y (suc i) e = absurd (let f : None ≡ Some y = e in cc)
get_more (z ∷ xs) x y zero e = inl e
get_more (z ∷ xs) x y (suc i) e = elim (get_more xs x y i e) [ inl p ↦ inl p | inr p ↦ inr (ap suc p.0, p.1) ]

pub idle_more : (count : ℕ) (lanes : List AnyLun) (lun : AnyLun) → AreIdle count lanes → IsIdleAt count lun → AreIdle (count + 1) (lanes ++ lun ∷ [])
idle_more count lanes lun are here = record {
  count_is = length-append lanes (lun ∷ []) ∙ ap (λ n. n + 1) are.count_is;
  each = λ at x e. elim (get_more lanes lun x at e) [
    | inl p ↦ are.each at x p
    | inr p ↦ subst (IsIdleAt at) p.1 (subst (λ n. IsIdleAt n lun) (sym (p.0 ∙ are.count_is)) here)
  ];
}

get_replicate : {A : Type 0} (n i : ℕ) (x : A) → i < n → slice_get (replicate n x) i ≡ Some x
get_replicate n i x l = let e = length-replicate n x in slice_get-get_or (replicate n x) i x (omega (arith, e, l)) ∙ ap Some (get_or-replicate n i x x l)

idle_there : (chip : Chip) (at : ℕ) (lun : AnyLun) → slice_get chip.luns at ≡ Some DoesNothing → IsIdleAt at lun → (number_in lun ≡ at) × IsThere chip lun
idle_there chip at (Idle lun) there is = (is, ap (λ n. slice_get chip.luns n) is ∙ there)
idle_there chip at _ there is = absurd is

pub opened_agree : (count : ℕ) (lanes : List AnyLun) → AreIdle count lanes → (chip : Chip) → chip.luns ≡ replicate count DoesNothing → LanesAgree chip lanes
opened_agree count lanes are chip opened =
    let each : (at : ℕ) (lun : AnyLun) → slice_get lanes at ≡ Some lun → (number_in lun ≡ at) × IsThere chip lun = λ at lun e.
    let within = within_get lanes at lun e in
    let size = are.count_is in
    idle_there chip at lun (ap (λ (ls : List Lun). slice_get ls at) opened ∙ get_replicate count at DoesNothing (omega (arith, within, size))) (are.each at lun e) in
    record {
      count = are.count_is ∙ sym (ap length opened ∙ length-replicate count DoesNothing);
      number = λ at lun e. (each at lun e).0;
      there = λ at lun e. (each at lun e).1;
    }

-- a LUN that is replaced, and put back

pub others_kept : (lanes : List AnyLun) (at number : ℕ) (moving after : AnyLun) → at ≡ number → OthersKept number lanes (slice_set (slice_set lanes at moving) at after)
others_kept lanes at number moving after e other d =
    let apart : other ≢ at = λ q. d (q ∙ e) in
    get_set_other (slice_set lanes at moving) at other after apart ∙ get_set_other lanes at other moving apart

pub put_back : {A E : Type 0} (r : Result A E) (lanes : List AnyLun) (at : ℕ) (before moving after : AnyLun) → slice_get lanes at ≡ Some before → IfErr r (λ _. after ≡ before) → IfErr r (λ _. slice_set (slice_set lanes at moving) at after ≡ lanes)
put_back (Ok x) lanes at before moving after there same = tt
put_back (Err e) lanes at before moving after there same = ap (slice_set (slice_set lanes at moving) at) same ∙ set_back lanes at moving before there

-- Commands

pub takes_within : (geometry : Geometry) (now : ℕ) (r : Request) (luns : List Lun) (n : ℕ) → MayTake geometry now r (slice_get luns n) → n < length luns
takes_within geometry now r [] n h = absurd h
takes_within geometry now r (x ∷ luns) zero h = omega arith
takes_within geometry now r (x ∷ luns) (suc n) h = let k = takes_within geometry now r luns n h in omega (arith, k)

pub command_size : (c : Closer) (old new : Chip) (r : Request) (now : ℕ) → HasDone (command_of c old r now) new → length new.luns ≡ length old.luns
command_size closer.More old new r now done = ap (λ (x : Chip). length x.luns) done.state ∙ length_set old.luns r.place.lun _
command_size closer.Last old new r now done = ap (λ (x : Chip). length x.luns) done.state ∙ length_set old.luns r.place.lun _

-- the LUNs after a command, where it was taken
pub command_agrees :
    {A E : Type 0} (result : Result A E) (c : Closer) (old new : Chip) (r : Request) (now : ℕ) (lanes : List AnyLun) (at : ℕ) (before moving after : AnyLun) → LanesAgree old lanes → slice_get lanes at ≡ Some before → number_in after ≡ number_in before
    → IfOk result (λ _. HasDone (command_of c old r now) new) → IfOk result (λ _. IsThere new after) → IfOk result (λ _. OthersStay (number_in before) old new) → IfOk result (λ _. LanesAgree new (slice_set (slice_set lanes at moving) at after))
command_agrees (Ok x) c old new r now lanes at before moving after agree there same done is others =
    let n = agree.number at before there in
    subst (LanesAgree new) (sym (set_twice lanes at moving after)) (agree_on old new lanes at before after agree there (command_size c old new r now done) (subst (λ i. OthersStay i old new) n others) (same ∙ n) is)
command_agrees (Err e) c old new r now lanes at before moving after agree there same done is others = tt

-- Posts

pub post_size : (old new : Chip) (post : Post) (left : List Post) (now : ℕ) → HasDone (posted old post left now) new → length new.luns ≡ length old.luns
post_size old new post left now done = ap (λ (x : Chip). length x.luns) done.state ∙ length_set old.luns post.place.lun (after_post left (now + (spans_of old.timing post.kind).post))

pub posted_there : (left : List Post) (chip : Chip) (number : ℕ) (made : Posted) → IsPosted left chip number made → (number_in (behind_post made) ≡ number) × IsThere chip (behind_post made)
posted_there left chip number (behind.More lun) (n, is) = (n, (left, is))
posted_there left chip number (behind.Last lun) (n, is) = (n, is)

-- what a LUN of posts has left, and since when
posts_in : (chip : Chip) (lun : AnyLun) (posts : List Post) (ready now : ℕ) → IsThere chip lun → slice_get chip.luns (number_in lun) ≡ Some (HasPosts posts ready) → ready ≤ now → (ready_in lun ≡ ready) × (left_in lun ≡ length posts) × IsRipe now lun
posts_in chip (Idle lun) posts ready now h e over = absurd (let d : slice_get chip.luns lun.number ≡ Some (HasPosts posts ready) = e in cc)
posts_in chip (Queuing lun) posts ready now (requests, is) e over = absurd (let d : slice_get chip.luns lun.number ≡ Some (HasPosts posts ready) = e in let k = is.there in cc)
posts_in chip (Working lun) posts ready now (these, is) e over =
    let s = same_posts (slice_get chip.luns lun.number) these posts lun.state.ready ready is.there e in
    (s.1, is.count ∙ ap length s.0, (let t = s.1 in omega (arith, t, over)))
posts_in chip (Posting lun) posts ready now (these, is) e over =
    let s = same_posts (slice_get chip.luns lun.number) these posts lun.state.ready ready is.there e in
    (s.1, is.count ∙ ap length s.0, tt)
posts_in chip Moving posts ready now h e over = absurd h

module _ (target : Target) (chip : Chip) (lun : AnyLun) (now : ℕ) (fetch : Fetch) (post : Post) (left : List Post) (there : IsThere chip lun) (next : IsPostOf target.geometry chip now fetch post left) (lun_is : fetch.place.lun ≡ number_in lun) where
  number_is : post.place.lun ≡ number_in lun
  number_is = ap (λ (p : Place). p.lun) next.place ∙ lun_is

  here : slice_get chip.luns (number_in lun) ≡ Some (HasPosts (post ∷ left) next.fetch_is.next.ready)
  here = subst (λ n. slice_get chip.luns n ≡ Some (HasPosts (post ∷ left) next.fetch_is.next.ready)) number_is next.fetch_is.next.there

  waits : (ready_in lun ≡ next.fetch_is.next.ready) × (left_in lun ≡ length (post ∷ left)) × IsRipe now lun
  waits = posts_in chip lun (post ∷ left) next.fetch_is.next.ready now there here next.fetch_is.next.over

  pub due_is : IsOf target chip → (posting : Typed InPosts) → posting.number ≡ number_in lun → posting.state.left ≡ left_in lun → posting.state.ready ≡ ready_in lun → IsDue target.geometry chip posting now fetch post left
  due_is of posting number left_is ready =
      let time : posting.state.ready ≡ next.fetch_is.next.ready = ready ∙ waits.0 in
      let over = next.fetch_is.next.over in
      record {
        posting = record {
          there = subst (λ n. slice_get chip.luns n ≡ Some (HasPosts (post ∷ left) posting.state.ready)) (sym number) (here ∙ ap (λ t. Some (HasPosts (post ∷ left) t)) (sym time));
          count = left_is ∙ waits.1;
        };
        over = omega (arith, time, over);
        kind = next.fetch_is.kind;
        place = next.place;
        lun_is = number_is ∙ sym number;
        in_range = subst (λ (x : Geometry). IsInRange x post.place) of.geometry next.fetch_is.next.in_range;
        part = subst (λ (x : Geometry). has_part x post.kind ≡ true) of.geometry next.fetch_is.next.part;
      }

-- the LUNs after a post, where it gave its answer
pub post_agrees :
    {A E : Type 0} (result : Result A E) (old new : Chip) (now row : ℕ) (post : Post) (left : List Post) (lanes : List AnyLun) (at : ℕ) (before moving after : AnyLun) → LanesAgree old lanes → slice_get lanes at ≡ Some before → number_in after ≡ number_in before → IsNextPost old now row post left
    → IfOk result (λ _. (p : Post) (ps : List Post) → IsNextPost old now row p ps → HasDone (posted old p ps now) new) → IfOk result (λ _. IsThere new after) → IfOk result (λ _. OthersStay (number_in before) old new) → IfOk result (λ _. LanesAgree new (slice_set (slice_set lanes at moving) at after))
post_agrees (Ok x) old new now row post left lanes at before moving after agree there same next done is others =
    let n = agree.number at before there in
    subst (LanesAgree new) (sym (set_twice lanes at moving after)) (agree_on old new lanes at before after agree there (post_size old new post left now (done post left next)) (subst (λ i. OthersStay i old new) n others) (same ∙ n) is)
post_agrees (Err e) old new now row post left lanes at before moving after agree there same next done is others = tt

-- the post of a due phase
pub post_of : (target : Target) (chip : Chip) (due : Due) (item : Item) (fetch : Fetch) → MayRunDue target chip due item → length due.group ≤ due.phase → fetch.kind ≡ item.request.kind → fetch.place ≡ item.request.place → (post : Post) × (left : List Post) × IsPostOf target.geometry chip due.start fetch post left
post_of target chip due item fetch may le kind place =
    let there = may.may_run.post le in
    let post = there.0 in
    let left = there.1 in
    let next = there.2 in
    let here : post.place ≡ item.request.place =
    one_place target.geometry post.place item.request.place (subst (λ (x : Geometry). IsInRange x post.place) may.of.geometry next.in_range) (in_range target.geometry item.request may.fits) (ap (λ (x : Geometry). row_of x post.place) (sym may.of.geometry) ∙ next.row_is) in (
      post,
      left,
      record {
        fetch_is = record { kind = there.3 ∙ sym kind; next = subst (λ (p : Place). IsNextPost chip due.start (row_of target.geometry p) post left) (sym place) next };
        place = here ∙ sym place;
      },
    )

-- Polls

-- a LUN that is found ready leaves the others, and their number
found_others : (chip : Chip) (lun now other : ℕ) → other ≢ lun → slice_get (found_ready chip lun now).luns other ≡ slice_get chip.luns other
found_others chip lun now other d = elim-state (slice_get chip.luns lun)
  where
    elim-state : (state : Option Lun) → slice_get (luns_ready_by now lun state chip.luns) other ≡ slice_get chip.luns other
    elim-state None = refl
    elim-state (Some x) = get_set_other chip.luns lun other (ready_by now x) d

found_size : (now lun : ℕ) (state : Option Lun) (luns : List Lun) → length (luns_ready_by now lun state luns) ≡ length luns
found_size now lun None luns = refl
found_size now lun (Some x) luns = length_set luns lun (ready_by now x)

pub poll_agrees : (ready : Bool) (old new : Chip) (now : ℕ) (lanes : List AnyLun) (at : ℕ) (before moving after : AnyLun) → LanesAgree old lanes → slice_get lanes at ≡ Some before → number_in after ≡ number_in before
    → (IsTrue ready → new ≡ found_ready old (number_in before) now) → (ready ≡ false → new ≡ old) → IsThere new after → LanesAgree new (slice_set (slice_set lanes at moving) at after)
poll_agrees ready old new now lanes at before moving after agree there same found busy is =
    let n = agree.number at before there in
    let (size, others) = changed ready found busy in
    subst (LanesAgree new) (sym (set_twice lanes at moving after)) (agree_on old new lanes at before after agree there size (subst (λ i. OthersStay i old new) n others) (same ∙ n) is)
  where
    changed : (b : Bool) → (IsTrue b → new ≡ found_ready old (number_in before) now) → (b ≡ false → new ≡ old) → (length new.luns ≡ length old.luns) × OthersStay (number_in before) old new
    changed true found busy = (
      ap (λ (x : Chip). length x.luns) (found refl) ∙ found_size now (number_in before) (slice_get old.luns (number_in before)) old.luns,
      λ other d. ap (λ (x : Chip). slice_get x.luns other) (found refl) ∙ found_others old (number_in before) now other d,
    )
    changed false found busy = (ap (λ (x : Chip). length x.luns) (busy refl), λ other d. ap (λ (x : Chip). slice_get x.luns other) (busy refl))
