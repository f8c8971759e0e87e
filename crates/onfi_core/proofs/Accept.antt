-- An accepted item keeps what every reachable state keeps.
use Rattle.std.proofs.Common.{◌≡◌, ℕ, ◌+◌, ◌-◌, ◌<◌, ◌≤◌, inl, inr, List, [], ◌∷◌, ◌++◌, length, Option, Some, None, take, drop, refl, sym, ap, ◌∙◌, subst, append-nil, append_assoc, length-append, length-drop, arith}
use Rattle.std.specs.Prelude.{slice_get, map}
use Rattle.std.specs.List.{AllByRecursion as All}
use Rattle.std.proofs.lemmas.List.{drop-append-le, drop_all}
use Rattle.std.proofs.lemmas.List.Elements.{filter-append}
use Rattle.onfi_request.specs.Range.{Fits}
use Rattle.onfi_request.specs.declared.answer.Answer.{Answer}
use Rattle.onfi_request.specs.declared.reply.Reply.{Reply}
use Rattle.onfi_request.specs.declared.request.Item.{Item}
use Rattle.onfi_request.specs.declared.want.Want.{Want}
use Rattle.onfi_group.specs.Words.{number}
use Rattle.onfi_problem.specs.Problem.{IsProblem, IsWant, has_id}
use Rattle.onfi_problem.specs.declared.lun_state.LunState.TheVariants.{Free, Running}
use Rattle.onfi_problem.proofs.Perm.{All-weaker, All-append, All-front}
use Rattle.onfi_problem.proofs.Places.{get_within}
use Rattle.onfi_problem.proofs.Wants.{All-filter}
use Rattle.onfi_die.specs.Answers.{answer_behind}
use Rattle.onfi_die.specs.Contents.{fresh, runs}
use Rattle.onfi_die.specs.Rightful.{IsRightful}
use Rattle.onfi_die.specs.Shapes.{Device}
use Rattle.onfi_die.proofs.Lists.{get_more, take_of_more}
use Rattle.onfi_die.proofs.Stable.{stays_right}
use Rattle.onfi_chip.specs.Chip.{Chip}
use Rattle.onfi_chip.specs.Chip.Lun.{Commanding, Posting}
use Rattle.onfi_chip.specs.declared.post.Post.{Post}
use Rattle.onfi_core.specs.Kept.{GoesBy, Progress, on, is_want_on, IsTaken, IsSound, ChipAgrees, IsReached, LunAgrees, commanding, answer_for, post_for}
use Rattle.onfi_core.specs.State.{HalfState, ChannelState, device_for, want_of, wants_from, item_at, request_of, no_item}
use Rattle.onfi_steady.specs.Waiting.{Books}
use Rattle.onfi_steady.proofs.Following.{accept_follows}
use Rattle.onfi_core.specs.Steps.{Accepts, accepting, books_with, planned_with, unplanned, wants_with}
use Rattle.onfi_core.specs.declared.setup.Setup.{Setup}
use Rattle.onfi_core.proofs.Bus.{number-append}
use Rattle.onfi_core.proofs.Lists.{All-drop, All-take, get_at_length, index_get}
use Rattle.onfi_core.proofs.Made.{made_more}
use Rattle.onfi_core.proofs.Numbered.{Rising-push, wants_from-append, below_length}
use Rattle.onfi_core.proofs.Plan.{is_want}

-- what stands below the length stays
stay_right : (device : Device) (accepted more : List Item) (rs : List Reply) → All (IsRightful device accepted) rs → All (IsRightful device (accepted ++ more)) rs
stay_right device accepted more rs h = All-weaker (IsRightful device accepted) (IsRightful device (accepted ++ more)) (λ r k. stays_right device accepted more r k) rs h

item_stays : (xs ys : List Item) (i : ℕ) → i < length xs → item_at (xs ++ ys) i ≡ item_at xs i
item_stays xs ys i h = let g = get_within xs i h in index_get (xs ++ ys) i g.0 no_item (get_more xs ys i g.0 g.1) ∙ sym (index_get xs i g.0 no_item g.1)

answer_stays : (device : Device) (xs ys : List Item) (w : Want) → w.id < length xs → answer_for device (xs ++ ys) w ≡ answer_for device xs w
answer_stays device xs ys w h =
    let g = get_within xs w.id h in
    ap (λ before. answer_behind device before (item_at (xs ++ ys) w.id)) (take_of_more xs ys w.id g.0 g.1) ∙ ap (answer_behind device (take w.id xs)) (item_stays xs ys w.id h)

post_stays : (device : Device) (xs ys : List Item) (w : Want) → w.id < length xs → post_for device (xs ++ ys) w ≡ post_for device xs w
post_stays device xs ys w h =
    let a = answer_stays device xs ys w h in
    let i = item_stays xs ys w.id h in
    ap (λ (z : Answer). let p : Post = record { kind = (item_at (xs ++ ys) w.id).request.kind; place = (item_at (xs ++ ys) w.id).request.place; answer = z } in p) a
    ∙ ap (λ (y : Item). let p : Post = record { kind = y.request.kind; place = y.request.place; answer = answer_for device xs w } in p) i

map_where : {A B : Type 0} (P : A → Type 0) (f g : A → B) → ((x : A) → P x → f x ≡ g x) → (xs : List A) → All P xs → map f xs ≡ map g xs
map_where P f g e [] h = refl
map_where P f g e (x ∷ xs) h = let a = e x h.0 in let b = map_where P f g e xs h.1 in rw (a, b) refl

-- the half with one item more, where it goes by these books or by a plan
abbrev more_by : Option Books → Setup → HalfState → Item → HalfState
more_by books s h x = record h {
  accepted = h.accepted ++ x ∷ [];
  planned = planned_with books h.planned;
  now = record h.now { wants = wants_with books (want_of s.geometry (length h.accepted) x) h.now.wants };
  books = books_with books (want_of s.geometry (length h.accepted) x);
}

module _ (s : Setup) (h : HalfState) (half : IsSound s h) (x : Item) where
  abbrev Below : Want → Type 0
  Below w = w.id < length h.accepted

  abbrev new : Want
  new = want_of s.geometry (length h.accepted) x

  abbrev progress : Progress
  progress = record { planned = h.planned; accepted = length h.accepted; outdated = h.outdated; stopped = h.stopped }

  all_wants : wants_from s.geometry 0 (h.accepted ++ x ∷ []) ≡ wants_from s.geometry 0 h.accepted ++ want_of s.geometry (length h.accepted) x ∷ []
  all_wants = let e : 0 + length h.accepted ≡ length h.accepted = omega arith in wants_from-append s.geometry 0 h.accepted (x ∷ []) ∙ ap (λ n. wants_from s.geometry 0 h.accepted ++ want_of s.geometry n x ∷ []) e

  -- in order it is unplanned
  one_more : wants_from s.geometry h.planned (drop h.planned (h.accepted ++ x ∷ [])) ≡ unplanned s h ++ new ∷ []
  one_more =
      let a = length-drop h.planned h.accepted in
      let b = half.planned in
      let e : h.planned + length (drop h.planned h.accepted) ≡ length h.accepted = omega arith in
      let W = wants_from s.geometry h.planned (drop h.planned h.accepted) in
      ap (wants_from s.geometry h.planned) (drop-append-le h.planned h.accepted (x ∷ []) half.planned)
      ∙ wants_from-append s.geometry h.planned (drop h.planned h.accepted) (x ∷ [])
      ∙ ap (λ n. W ++ want_of s.geometry n x ∷ []) e

  -- either way it comes after all that isn't started
  tail_more : (books : Option Books) → GoesBy s books h.now h.left progress → (more_by books s h x).now.wants ++ unplanned s (more_by books s h x) ≡ (h.now.wants ++ unplanned s h) ++ new ∷ []
  tail_more None way = ap (λ ws. h.now.wants ++ ws) one_more ∙ sym (append_assoc h.now.wants (unplanned s h) (new ∷ []))
  tail_more (Some books) way =
      let all = way.all in
      let l = length-append h.accepted (x ∷ []) in
      let after : wants_from s.geometry (h.planned + 1) (drop (h.planned + 1) (h.accepted ++ x ∷ [])) ≡ [] = ap (wants_from s.geometry (h.planned + 1)) (drop_all (h.planned + 1) (h.accepted ++ x ∷ []) (omega (arith, all, l))) in
      let before : unplanned s h ≡ [] = ap (wants_from s.geometry h.planned) (drop_all h.planned h.accepted (omega (arith, all))) in
      ap (λ ws. (h.now.wants ++ new ∷ []) ++ ws) after ∙ append-nil (h.now.wants ++ new ∷ []) ∙ ap (λ ws. ws ++ new ∷ []) (sym (append-nil h.now.wants) ∙ ap (λ ws. h.now.wants ++ ws) (sym before))

  stays : (n : ℕ) → h.planned ≤ n → (w : Want) → IsTaken s h.planned h.accepted w → IsTaken s n (h.accepted ++ x ∷ []) w
  stays n low w t = let q = t.below in record { below = omega (arith, low, q); item = t.item; there = get_more h.accepted (x ∷ []) w.id t.item t.there; is = t.is }

  taken_below : (w : Want) → IsTaken s h.planned h.accepted w → w.id < length h.accepted
  taken_below w t = let a = t.below in let b = half.planned in omega arith

  pub wants_below : All Below h.now.wants
  wants_below = All-weaker _ Below taken_below h.now.wants half.wants

  planned_more : (books : Option Books) → h.planned ≤ planned_with books h.planned
  planned_more None = omega arith
  planned_more (Some books) = omega arith

  few_more : (books : Option Books) → GoesBy s books h.now h.left progress → planned_with books h.planned ≤ length (h.accepted ++ x ∷ [])
  few_more None way = let a = half.planned in omega (arith, length-append h.accepted (x ∷ []))
  few_more (Some books) way = let a = half.planned in omega (arith, length-append h.accepted (x ∷ []))

  problem_more : (books : Option Books) → Fits s.geometry x.request → IsProblem (more_by books s h x).now
  problem_more None fits = record { wants = half.problem.wants; in_range = half.problem.in_range; ids = half.problem.ids; running = half.problem.running }
  problem_more (Some books) fits = record {
    wants = All-append IsWant h.now.wants (new ∷ []) half.problem.wants (is_want s (length h.accepted) x fits, tt);
    in_range = All-append _ h.now.wants (new ∷ []) half.problem.in_range (let e = half.luns in let low = fits.lun in omega (arith, e, low), tt);
    ids = Rising-push h.now.wants new half.problem.ids wants_below;
    running = half.problem.running;
  }

  way_more : (books : Option Books) → GoesBy s books h.now h.left progress
      → GoesBy s (books_with books new) (more_by books s h x).now h.left (record { planned = planned_with books h.planned; accepted = length (h.accepted ++ x ∷ []); outdated = h.outdated; stopped = h.stopped })
  way_more None way = record { choice = way.choice; few = way.few; legal = way.legal }
  way_more (Some books) way = record {
    choice = way.choice;
    waiting = ap (λ ws. ws ++ new ∷ []) way.waiting ∙ sym (accept_follows h.now.timing h.now.bus_free h.now.luns books new).wants;
    rules = way.rules;
    all = let a = way.all in omega (arith, a, length-append h.accepted (x ∷ []));
    current = way.current;
    in_time = λ going. (let t = way.in_time going in record { bus = t.bus; luns = t.luns });
  }

  taken_more : (books : Option Books) → GoesBy s books h.now h.left progress → All (IsTaken s (planned_with books h.planned) (h.accepted ++ x ∷ [])) (more_by books s h x).now.wants
  taken_more None way = All-weaker _ _ (stays h.planned (omega arith)) h.now.wants half.wants
  taken_more (Some books) way =
      let a = way.all in
      All-append _ h.now.wants (new ∷ []) (All-weaker _ _ (stays (h.planned + 1) (omega arith)) h.now.wants half.wants)
      (record { below = omega (arith, a); item = x; there = get_at_length h.accepted x []; is = refl }, tt)

  sound_more : (books : Option Books) → GoesBy s books h.now h.left progress → Fits s.geometry x.request → IsSound s (more_by books s h x)
  sound_more books way right = record {
    planned = few_more books way;
    some_batch = half.some_batch;
    few_batch = half.few_batch;
    timing = half.timing;
    rules = half.rules;
    problem = problem_more books right;
    luns = half.luns;
    way = way_more books way;
    in_range = All-append _ h.accepted (x ∷ []) half.in_range (right, tt);
    wants = taken_more books way;
    running = λ lun group next ready at. All-weaker _ _ (stays (planned_with books h.planned) (planned_more books)) group (half.running lun group next ready at);
    once = λ i. (
        let a = half.once i in
        let b = ap (number (has_id i)) (tail_more books way) in
        let p = number-append (has_id i) (more_by books s h x).now.wants (unplanned s (more_by books s h x)) in
        let q = number-append (has_id i) (h.now.wants ++ unplanned s h) (new ∷ []) in
        let r = number-append (has_id i) h.now.wants (unplanned s h) in
        let c = ap (number (has_id i)) all_wants ∙ number-append (has_id i) (wants_from s.geometry 0 h.accepted) (new ∷ []) in
        omega arith);
    last = half.last;
  }

  pub sound_accepted : Fits s.geometry x.request → IsSound s (accepting s h x)
  sound_accepted right = sound_more h.books half.way right

  pub chip_accepted : (chip : Chip) → ChipAgrees s h chip → ChipAgrees s (accepting s h x) chip
  chip_accepted chip agrees = record {
    geometry = agrees.geometry;
    timing = agrees.timing;
    blocks = λ l b. (
        let old = agrees.blocks l b in
        let all : All Below (wants_from s.geometry 0 h.accepted) = below_length s.geometry 0 h.accepted (length h.accepted) (omega arith) in
        let all' : All Below (on l b (wants_from s.geometry 0 h.accepted)) = All-filter Below (is_want_on l b) (wants_from s.geometry 0 h.accepted) all in
        let ran : All Below old.ran = All-front Below old.ran _ (subst (All Below) old.order all') in
        let m = map_where Below (request_of (h.accepted ++ x ∷ [])) (request_of h.accepted) (λ w k. ap (λ (y : Item). y.request) (item_stays h.accepted (x ∷ []) w.id k)) old.ran ran in
        let a = filter-append (is_want_on l b) (wants_from s.geometry 0 h.accepted) (new ∷ []) in
        let C = on l b (commanding (slice_get h.now.luns l)) in
        let W = on l b h.now.wants in
        let U = on l b (unplanned s h) in
        let X = on l b (new ∷ []) in
        let W' = (accepting s h x).now.wants in
        let U' = unplanned s (accepting s h x) in
        let tail : on l b W' ++ on l b U' ≡ (W ++ U) ++ X =
        sym (filter-append (is_want_on l b) W' U') ∙ ap (on l b) (tail_more h.books half.way) ∙ filter-append (is_want_on l b) (h.now.wants ++ unplanned s h) (new ∷ [])
        ∙ ap (λ zs. zs ++ X) (filter-append (is_want_on l b) h.now.wants (unplanned s h)) in
        record {
          ran = old.ran;
          contents = old.contents ∙ ap (λ rs. runs (device_for s chip) rs (fresh (device_for s chip))) (sym m);
          order = ap (on l b) all_wants ∙ a ∙ ap (λ zs. zs ++ X) old.order
              ∙ append_assoc old.ran (C ++ (W ++ U)) X ∙ ap (λ zs. old.ran ++ zs) (append_assoc C (W ++ U) X ∙ ap (λ zs. C ++ zs) (sym tail));
        });
    luns = λ l. lun_accepted chip (slice_get h.now.luns l) (slice_get chip.luns l) (λ group next ready at. half.running l group next ready at) (agrees.luns l);
  }
    where
      lun_accepted : (chip : Chip) (state : _) (lun : _) → ((group : List Want) (next ready : ℕ) → state ≡ Some (Running group next ready) → All (IsTaken s h.planned h.accepted) group) → LunAgrees (device_for s chip) h.accepted state lun → LunAgrees (device_for s chip) (h.accepted ++ x ∷ []) state lun
      lun_accepted chip None lun r a = a
      lun_accepted chip (Some (Free since)) lun r a = a
      lun_accepted chip (Some (Running group next ready)) lun r (inl a) =
          let t = All-weaker _ Below taken_below group (r group next ready refl) in
          let m = map_where Below (request_of (h.accepted ++ x ∷ [])) (request_of h.accepted) (λ w k. ap (λ (y : Item). y.request) (item_stays h.accepted (x ∷ []) w.id k)) (take next group) (All-take Below next group t) in
          inl (a.0, a.1 ∙ ap (λ rs. Some (Commanding rs ready)) (sym m))
      lun_accepted chip (Some (Running group next ready)) lun r (inr a) =
          let t = All-weaker _ Below taken_below group (r group next ready refl) in
          let m = map_where Below (post_for (device_for s chip) (h.accepted ++ x ∷ [])) (post_for (device_for s chip) h.accepted) (λ w k. post_stays (device_for s chip) h.accepted (x ∷ []) w k) (drop (next - length group) group) (All-drop Below (next - length group) group t) in
          inr (a.0, a.1 ∙ ap (λ rs. Some (Posting rs ready)) (sym m))

pub accept_kept : (s : Setup) (c c' : ChannelState) → IsReached s c → Accepts s c c' → IsReached s c'
accept_kept s c c' reached (x, behind, waits, after) =
    let w : All (λ (y : Item). Fits s.geometry y.request) (x ∷ behind) = subst (All (λ (y : Item). Fits s.geometry y.request)) waits reached.in_range in
    let next : IsReached s (record c { half = accepting s c.half x; waiting = behind }) = record {
      half = record {
        sound = sound_accepted s c.half reached.half.sound x w.0;
        held = stay_right (device_for s c.chip) c.half.accepted (x ∷ []) c.half.held reached.half.held;
        posted = stay_right (device_for s c.chip) c.half.accepted (x ∷ []) c.half.posted reached.half.posted;
        made = λ host. made_more (device_for s c.chip) c.half.accepted x _ (reached.half.made host);
      };
      chip = λ going. chip_accepted s c.half reached.half.sound x c.chip (reached.chip going);
      sent = reached.sent ∙ ap (λ zs. c.half.accepted ++ zs) waits ∙ sym (append_assoc c.half.accepted (x ∷ []) behind);
      in_range = w.1;
      hosts = reached.hosts;
      fit = reached.fit;
      serials = reached.serials;
      collected = reached.collected;
    } in
    subst (IsReached s) (sym after) next
