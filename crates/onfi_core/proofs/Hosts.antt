-- What hosts do, and posts, keep what every reachable state keeps.
use Rattle.std.proofs.Common.{◌≡◌, ℕ, ◌+◌, ◌<◌, ◌≤◌, ◌^◌, inl, inr, true, List, [], ◌∷◌, ◌++◌, length, Some, refl, sym, ap, ◌∙◌, subst, append_assoc, append-nil, length-append, arith}
use Rattle.std.specs.Prelude.{slice_get, ◌==◌}
use Rattle.std.specs.List.{AllByRecursion as All, filter}
use Rattle.std.proofs.lemmas.Bool.{cases_Bool}
use Rattle.std.proofs.lemmas.Bool.Decides.{nat_tests}
use Rattle.std.proofs.lemmas.List.Elements.{filter-append}
use Rattle.onfi_request.specs.Range.{Fits}
use Rattle.onfi_request.specs.declared.reply.Reply.{Reply}
use Rattle.onfi_request.specs.declared.request.Item.{Item}
use Rattle.onfi_request.specs.declared.request.Request.{Request}
use Rattle.onfi_group.specs.Words.{number}
use Rattle.onfi_problem.proofs.Perm.{All-append, All-front, All-back}
use Rattle.onfi_die.specs.Order.{IsBeginning}
use Rattle.onfi_die.specs.Rightful.{IsRightful}
use Rattle.onfi_core.specs.Kept.{IsSound, IsReached, SerialsFrom, is_of_place, AreMade}
use Rattle.onfi_core.specs.State.{HalfState, ChannelState, device_for, is_to, sent_by, posted_to, collected_by}
use Rattle.onfi_core.specs.Steps.{submitted, GoesOut}
use Rattle.onfi_core.specs.declared.setup.Setup.{Setup}
use Rattle.onfi_core.proofs.Bus.{number-append}
use Rattle.onfi_core.proofs.Lists.{get_has}
use Rattle.onfi_core.proofs.Startable.{from_filter}
use Rattle.onfi_core.proofs.Halves.{sound_but}
use Rattle.onfi_core.proofs.Hosted.{from_each}

-- Submit

serials_more : (n : ℕ) (xs : List Item) (x : Item) → SerialsFrom n xs → x.serial ≡ n + length xs → SerialsFrom n (xs ++ x ∷ [])
serials_more n [] x h e = (omega arith, tt)
serials_more n (y ∷ xs) x h e = (h.0, serials_more (n + 1) xs x h.1 (omega arith))

pub submit_kept : (s : Setup) (c : ChannelState) (host : ℕ) (r : Request) → IsReached s c → Fits s.geometry r → host < s.hosts → length (sent_by host c) < 2 ^ 32 → IsReached s (submitted c host r)
submit_kept s c host r reached right known low =
    let x : Item = record { host = host; serial = length (sent_by host c); request = r } in
    record {
      half = reached.half;
      chip = reached.chip;
      sent = ap (λ zs. zs ++ x ∷ []) reached.sent ∙ append_assoc c.half.accepted c.waiting (x ∷ []);
      in_range = All-append _ c.waiting (x ∷ []) reached.in_range (right, tt);
      hosts = All-append _ c.sent (x ∷ []) reached.hosts (known, tt);
      fit = from_each (λ h ys. length ys ≤ 2 ^ 32) c.sent x reached.fit (omega (arith, length-append (sent_by host c) (x ∷ []), low));
      serials = from_each (λ h ys. SerialsFrom 0 ys) c.sent x reached.serials (serials_more 0 (sent_by host c) x (reached.serials host) (omega arith));
      collected = reached.collected;
    }

-- Post

-- a post doesn't change what was made for a host, posted or held, in order of making
pub made_same : (h h' : HalfState) (host : ℕ) (r : Reply) → GoesOut h h' host r → (i : ℕ) → filter (is_to i) h'.posted ++ filter (is_to i) h'.held ≡ filter (is_to i) h.posted ++ filter (is_to i) h.held
made_same h h' host r out i =
    let moved : HalfState = record h { held = out.before ++ out.behind; posted = h.posted ++ r ∷ [] } in
    let P : HalfState → Type 0 = λ m. filter (is_to i) m.posted ++ filter (is_to i) m.held ≡ filter (is_to i) h.posted ++ filter (is_to i) h.held in
    let a = filter-append (is_to i) h.posted (r ∷ []) in
    let b = filter-append (is_to i) out.before out.behind in
    let c : filter (is_to i) h.held ≡ filter (is_to i) out.before ++ filter (is_to i) (r ∷ out.behind) = ap (filter (is_to i)) out.held ∙ filter-append (is_to i) out.before (r ∷ out.behind) in
    let own = out.own in
    let goal : P moved = rw (a, b, c) (elim (cases_Bool (r.host == i)) [
      | inl k ↦ (
          let e : host ≡ i = sym own ∙ (let q : r.host ≡ i = grind (arith, nat_tests) in q) in
          let z : filter (is_to i) out.before ≡ [] = subst (λ j. filter (is_to j) out.before ≡ []) e out.oldest in
          rw (k, z) (append_assoc (filter (is_to i) h.posted) (r ∷ []) (filter (is_to i) out.behind)))
      | inr k ↦ rw (k, append-nil (filter (is_to i) h.posted)) refl
    ]) in
    subst P (sym out.after) goal

pub sound_posted : (s : Setup) (h : HalfState) (host : ℕ) (r : Reply) (h' : HalfState) → IsSound s h → GoesOut h h' host r → IsSound s h'
sound_posted s h host r h' old out =
    let moved : HalfState = record h { held = out.before ++ out.behind; posted = h.posted ++ r ∷ [] } in
    let next : IsSound s moved = sound_but s h old h.now h.left h.books h.outdated moved.held moved.posted h.stopped refl refl refl old.problem old.way old.wants old.running (λ i.
    let a = old.once i in
    let b = ap (number (is_of_place i)) out.held ∙ number-append (is_of_place i) out.before (r ∷ out.behind) in
    let d = number-append (is_of_place i) out.before out.behind in
    let e = number-append (is_of_place i) h.posted (r ∷ []) in
    omega arith) in
    subst (IsSound s) (sym out.after) next

pub post_kept : (s : Setup) (c : ChannelState) (host : ℕ) (r : Reply) (h : HalfState) → IsReached s c → GoesOut c.half h host r → IsReached s (record c { half = h })
post_kept s c host r h reached out =
    let old = reached.half in
    let moved : HalfState = record c.half { held = out.before ++ out.behind; posted = c.half.posted ++ r ∷ [] } in
    let held' : All (IsRightful (device_for s c.chip) c.half.accepted) (out.before ++ r ∷ out.behind) = subst (All (IsRightful (device_for s c.chip) c.half.accepted)) out.held old.held in
    let front = All-front (IsRightful (device_for s c.chip) c.half.accepted) out.before (r ∷ out.behind) held' in
    let back = All-back (IsRightful (device_for s c.chip) c.half.accepted) out.before (r ∷ out.behind) held' in
    let next : IsReached s (record c { half = moved }) = record {
      half = record {
        sound = sound_posted s c.half host r moved old.sound (record { before = out.before; behind = out.behind; held = out.held; oldest = out.oldest; own = out.own; after = refl });
        held = All-append (IsRightful (device_for s c.chip) c.half.accepted) out.before out.behind front back.1;
        posted = All-append (IsRightful (device_for s c.chip) c.half.accepted) c.half.posted (r ∷ []) old.posted (back.0, tt);
        made = λ i. (let P : List Reply → Type 0 = λ rs. AreMade (device_for s c.chip) c.half.accepted rs in subst P (sym (made_same c.half moved host r (record { before = out.before; behind = out.behind; held = out.held; oldest = out.oldest; own = out.own; after = refl }) i)) (old.made i));
      };
      chip = λ going. (let g = reached.chip going in record { geometry = g.geometry; timing = g.timing; blocks = λ l b. (let o = g.blocks l b in record { ran = o.ran; contents = o.contents; order = o.order }); luns = g.luns });
      sent = reached.sent;
      in_range = reached.in_range;
      hosts = reached.hosts;
      fit = reached.fit;
      serials = reached.serials;
      collected = λ i. (
          let a = filter-append (is_to i) c.half.posted (r ∷ []) in
          let b = reached.collected i in
          (b.0 ++ filter (is_to i) (r ∷ []), sym (append_assoc (collected_by i c) b.0 (filter (is_to i) (r ∷ []))) ∙ ap (λ zs. zs ++ filter (is_to i) (r ∷ [])) b.1 ∙ sym a));
    } in
    subst (λ m. IsReached s (record c { half = m })) (sym out.after) next

-- Collect

next_of : {A : Type 0} (xs ys : List A) (x : A) → IsBeginning xs ys → slice_get ys (length xs) ≡ Some x → IsBeginning (xs ++ x ∷ []) ys
next_of [] [] x b h = cc
next_of [] (y ∷ ys) x b h = let e : y ≡ x = cc in (ys, ap (λ z. z ∷ ys) (sym e))
next_of (z ∷ xs) [] x b h = cc
next_of (z ∷ xs) (y ∷ ys) x (rest, e) h =
    let a : xs ++ rest ≡ ys = cc in
    let q : z ≡ y = cc in
    let r = next_of xs ys x (rest, a) h in
    (r.0, ap (λ zs. z ∷ zs) r.1 ∙ ap (λ w. w ∷ ys) q)

pub own_reply : (host : ℕ) (rs : List Reply) (i : ℕ) (r : Reply) → slice_get (filter (is_to host) rs) i ≡ Some r → r.host ≡ host
own_reply host rs i r h =
    let f = from_filter (is_to host) rs r (get_has (filter (is_to host) rs) i r h) in
    let k : (r.host == host) ≡ true = f.1 in
    grind (arith, nat_tests)

pub collect_kept : (s : Setup) (c : ChannelState) (host : ℕ) (r : Reply) → IsReached s c → slice_get (posted_to host c) (length (collected_by host c)) ≡ Some r → IsReached s (record c { collected = c.collected ++ r ∷ [] })
collect_kept s c host r reached next =
    let own = own_reply host c.half.posted (length (collected_by host c)) r next in
    record {
      half = reached.half;
      chip = reached.chip;
      sent = reached.sent;
      in_range = reached.in_range;
      hosts = reached.hosts;
      fit = reached.fit;
      serials = reached.serials;
      collected = λ i. (
          let a = filter-append (is_to i) c.collected (r ∷ []) in
          rw a (elim (cases_Bool (r.host == i)) [
            | inl k ↦ (let e : host ≡ i = grind (arith, nat_tests) in let P : ℕ → Type 0 = λ j. slice_get (posted_to j c) (length (collected_by j c)) ≡ Some r in rw k (next_of (collected_by i c) (posted_to i c) r (reached.collected i) (subst P e next)))
            | inr k ↦ rw (k, append-nil (filter (is_to i) c.collected)) (reached.collected i)
          ]));
    }
