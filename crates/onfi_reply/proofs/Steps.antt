-- Each step keeps the rule of the completion queue.
use Rattle.std.proofs.Common.{◌≡◌, ◌≢◌, ℕ, Bool, true, false, true≢false, List, [], ◌∷◌, ◌++◌, length, set, Option, Some, None, sym, refl, ap, ◌∙◌, subst, inl, inr, append_assoc}
use mathlib.Core.Option.{some}
use lib.ListN.{get_elem?}
use Rattle.crossbeam_queue.specs.Fifo.{Pushes, Pops, Forks, Merges, Learns}
use Rattle.onfi_request.specs.declared.reply.Reply.{Reply}
use Rattle.onfi_queue.proofs.Ports.{Every, every-set, every-snoc, at_other, only}
use Rattle.onfi_reply.specs.declared.opened_for.OpenedFor.{OpenedFor}
use Rattle.onfi_reply.specs.declared.view.View.{View}
use Rattle.onfi_reply.specs.declared.view.View.TheVariants.{Unopened, AtPoster, AtInbox, Spent}
use Rattle.onfi_reply.specs.Replies.{IsNext, AreProper}
use Rattle.onfi_reply.specs.Rule.{History, IsBack, Sits, IsKept, IsRuled, after_posted, after_popped, ComesNext, with_inbox_made, new_inbox, with_back, Completes, PosterSees, InboxSees}
use Rattle.onfi_reply.proofs.Proper.{AreProper-nil, AreProper-snoc, AreProper-middle}

-- ---- the opening
opened_at : (items : List Reply) (views : List View) (port : ℕ) (v : View) → v ≢ Unopened → get_elem? views port ≡ some v → IsRuled items views → IsKept items views
opened_at items views port v n at (inl x) = absurd (n (sym (only Unopened port v (ap (λ (l : List View). get_elem? l port) (sym x.1) ∙ at)).1))
opened_at items views port v n at (inr k) = k

abbrev first_history : OpenedFor → History
first_history opened = record { opened = opened; posted = []; popped = []; poster = 0; inbox = 0; made = false; gone = false }

opened_first : (opened : OpenedFor) → IsKept [] (AtPoster opened [] false None ∷ Spent ∷ [])
opened_first opened = record {
  history = first_history opened;
  whole = refl;
  proper = AreProper-nil opened;
  unmade = λ _. refl;
  gone_made = λ e. absurd (true≢false (sym e));
  sits = every-snoc (Sits (first_history opened)) (AtPoster opened [] false None ∷ []) Spent
      (λ j u e. let t = only (AtPoster opened [] false None) j u e in subst (λ (y : ℕ × View). Sits (first_history opened) y.0 y.1) (λ i. (sym t.0 i, t.1 i)) (refl, refl, refl, refl, refl)) tt;
}

opened_next : (opened : OpenedFor) (port : ℕ) → port ≡ 0 → IsKept [] (set (Unopened ∷ []) port (AtPoster opened [] false None) ++ Spent ∷ [])
opened_next opened port e = subst (λ (p : ℕ). IsKept [] (set (Unopened ∷ []) p (AtPoster opened [] false None) ++ Spent ∷ [])) (sym e) (opened_first opened)

pub opens : (port : ℕ) (opened : OpenedFor) → Forks IsRuled port Unopened (AtPoster opened [] false None) Spent
opens port opened items views (inl x) at =
    inr (subst (λ (y : List Reply × List View). IsKept y.0 (set y.1 port (AtPoster opened [] false None) ++ Spent ∷ [])) (λ i. (sym x.0 i, sym x.1 i))
    (opened_next opened port (only Unopened port Unopened (ap (λ (l : List View). get_elem? l port) (sym x.1) ∙ at)).0))
opens port opened items views (inr k) at = absurd (k.sits port Unopened at)

pub opens_as : (port : ℕ) (opened : OpenedFor) (v w : View) → v ≡ Unopened → AtPoster opened [] false None ≡ w → Forks IsRuled port v w Spent
opens_as port opened v w is is' = subst (λ (y : View × View). Forks IsRuled port y.0 y.1 Spent) (λ i. (sym is i, is' i)) (opens port opened)

-- ---- the poster posts x
abbrev with_posted : History → Reply → History
with_posted history x = record history { posted = history.posted ++ x ∷ [] }

not_posters : (history : History) (x : Reply) (j : ℕ) (u : View) → j ≢ history.poster → Sits history j u → Sits (with_posted history x) j u
not_posters history x j (AtPoster opened posted made back) away s = absurd (away s.1)
not_posters history x j (AtInbox opened popped) away s = s
not_posters history x j Spent away s = tt
not_posters history x j Unopened away s = s

posts_kept : (c port : ℕ) (opened : OpenedFor) (posted : List Reply) (made : Bool) (back : Option (List Reply)) (x : Reply) → IsNext opened posted x
    → Pushes IsKept c port (AtPoster opened posted made back) x (λ w. w ≡ AtPoster opened (posted ++ x ∷ []) made back)
posts_kept c port opened posted made back x next items views room k at =
    let history = k.history in
    let mine = k.sits port (AtPoster opened posted made back) at in
    let w : View = AtPoster opened (posted ++ x ∷ []) made back in (
      w,
      record {
        history = with_posted history x;
        whole = ap (λ (l : List Reply). l ++ x ∷ []) k.whole ∙ append_assoc history.popped items (x ∷ []);
        proper = AreProper-snoc history.opened history.posted x k.proper (subst (λ (y : OpenedFor × List Reply). IsNext y.0 y.1 x) (λ i. (mine.0 i, mine.2 i)) next);
        unmade = k.unmade;
        gone_made = k.gone_made;
        sits = every-set (Sits (with_posted history x)) views port w (mine.0, mine.1, ap (λ (l : List Reply). l ++ x ∷ []) mine.2, mine.3, mine.4)
            (λ j u other e. not_posters history x j u (λ (q : j ≡ history.poster). other (q ∙ sym mine.1)) (k.sits j u e));
      },
      refl,
    )

-- ---- the inbox pops x
abbrev with_popped : History → Reply → History
with_popped history x = record history { popped = history.popped ++ x ∷ [] }

not_back : (popped popped' : List Reply) (gone : Bool) (back : Option (List Reply)) → gone ≡ false → IsBack gone popped back → IsBack gone popped' back
not_back popped popped' gone None isnt s = s
not_back popped popped' gone (Some l) isnt s = absurd (true≢false (sym s.0 ∙ isnt))

not_inboxes : (history : History) (x : Reply) → history.gone ≡ false → (j : ℕ) (u : View) → j ≢ history.inbox → Sits history j u → Sits (with_popped history x) j u
not_inboxes history x isnt j (AtPoster opened posted made back) away s = (s.0, s.1, s.2, s.3, not_back history.popped (history.popped ++ x ∷ []) history.gone back isnt s.4)
not_inboxes history x isnt j (AtInbox opened popped) away s = absurd (away s.1)
not_inboxes history x isnt j Spent away s = tt
not_inboxes history x isnt j Unopened away s = s

pops_kept : (port : ℕ) (opened : OpenedFor) (popped : List Reply)
    → Pops IsKept port (AtInbox opened popped) (λ x w. (w ≡ AtInbox opened (popped ++ x ∷ [])) × IsNext opened popped x)
pops_kept port opened popped x items views k at =
    let history = k.history in
    let mine = k.sits port (AtInbox opened popped) at in
    let w : View = AtInbox opened (popped ++ x ∷ []) in
    let is_made = mine.2 in
    let next : IsNext history.opened history.popped x = AreProper-middle history.opened history.posted history.popped x items k.proper k.whole in (
      w,
      record {
        history = with_popped history x;
        whole = k.whole ∙ sym (append_assoc history.popped (x ∷ []) items);
        proper = k.proper;
        unmade = λ e. absurd (true≢false (sym is_made ∙ e));
        gone_made = k.gone_made;
        sits = every-set (Sits (with_popped history x)) views port w (mine.0, mine.1, mine.2, mine.3, ap (λ (l : List Reply). l ++ x ∷ []) mine.4)
            (λ j u other e. not_inboxes history x mine.3 j u (λ (q : j ≡ history.inbox). other (q ∙ sym mine.1)) (k.sits j u e));
      },
      (refl, subst (λ (y : OpenedFor × List Reply). IsNext y.0 y.1 x) (λ i. (sym mine.0 i, sym mine.4 i)) next),
    )

-- ---- the poster makes the inbox's pass
abbrev with_inbox : History → ℕ → History
with_inbox history port = record history { inbox = port; made = true }

unseated : (history : History) (port : ℕ) → history.made ≡ false → (j : ℕ) (u : View) → j ≢ history.poster → Sits history j u → Sits (with_inbox history port) j u
unseated history port isnt j (AtPoster opened posted made back) away s = absurd (away s.1)
unseated history port isnt j (AtInbox opened popped) away s = absurd (true≢false (sym s.2 ∙ isnt))
unseated history port isnt j Spent away s = tt
unseated history port isnt j Unopened away s = s

not_gone : (gone made : Bool) → (gone ≡ true → made ≡ true) → made ≡ false → gone ≡ false
not_gone true made f e = absurd (true≢false (sym (f refl) ∙ e))
not_gone false made f e = refl

forks_kept : (port : ℕ) (opened : OpenedFor) (posted : List Reply) (back : Option (List Reply))
    → Forks IsKept port (AtPoster opened posted false back) (AtPoster opened posted true back) (AtInbox opened [])
forks_kept port opened posted back items views k at =
    let history = k.history in
    let mine = k.sits port (AtPoster opened posted false back) at in
    let left : View = AtPoster opened posted true back in
    let right : View = AtInbox opened [] in
    let vs : List View = set views port left in
    let isnt : history.made ≡ false = sym mine.3 in
    let after : History = with_inbox history (length vs) in
    record {
      history = after;
      whole = k.whole;
      proper = k.proper;
      unmade = λ e. absurd (true≢false e);
      gone_made = λ _. refl;
      sits = every-snoc (Sits after) vs right
          (every-set (Sits after) views port left (mine.0, mine.1, mine.2, refl, mine.4)
          (λ j u other e. unseated history (length vs) isnt j u (λ (q : j ≡ history.poster). other (q ∙ sym mine.1)) (k.sits j u e)))
          (mine.0, refl, refl, not_gone history.gone history.made k.gone_made isnt, sym (k.unmade isnt));
    }

-- ---- the poster takes the inbox's pass back
abbrev with_gone : History → History
with_gone history = record history { gone = true }

no_inbox : (history : History) (other : ℕ) → other ≡ history.inbox → (j : ℕ) (u : View) → j ≢ other → j ≢ history.poster → Sits history j u → Sits (with_gone history) j u
no_inbox history other at j (AtPoster opened posted made back) apart away s = absurd (away s.1)
no_inbox history other at j (AtInbox opened popped) apart away s = absurd (apart (s.1 ∙ sym at))
no_inbox history other at j Spent apart away s = tt
no_inbox history other at j Unopened apart away s = s

merges_kept : (port : ℕ) (opened : OpenedFor) (posted : List Reply) (made : Bool) (back : Option (List Reply)) (other : ℕ) (opened' : OpenedFor) (popped : List Reply)
    → Merges IsKept port (AtPoster opened posted made back) other (AtInbox opened' popped) (AtPoster opened posted made (Some popped)) Spent
merges_kept port opened posted made back other opened' popped items views k at two at' =
    let history = k.history in
    let mine = k.sits port (AtPoster opened posted made back) at in
    let both : View = AtPoster opened posted made (Some popped) in
    let theirs = k.sits other (AtInbox opened' popped) (at_other views port other both (AtInbox opened' popped) two at') in
    let is_made = theirs.2 in
    let after : History = with_gone history in
    let all : Every (λ j u. j ≢ other → Sits after j u) (set views port both) = every-set (λ j u. j ≢ other → Sits after j u) views port both
    (λ _. (mine.0, mine.1, mine.2, mine.3, (refl, theirs.4)))
    (λ j u away e apart. no_inbox history other theirs.1 j u apart (λ (q : j ≡ history.poster). away (q ∙ sym mine.1)) (k.sits j u e)) in
    record {
      history = after;
      whole = k.whole;
      proper = k.proper;
      unmade = k.unmade;
      gone_made = λ _. is_made;
      sits = every-set (Sits after) (set views port both) other Spent tt (λ j u apart e. all j u e apart);
    }

-- ---- what is learned
completes : (posted posted' popped items : List Reply) (gone : Bool) (back : Option (List Reply)) → posted ≡ posted' → posted' ≡ popped ++ items → IsBack gone popped back → Completes posted items back
completes posted posted' popped items gone None e whole s = tt
completes posted posted' popped items gone (Some l) e whole s = e ∙ whole ∙ ap (λ (y : List Reply). y ++ items) (sym s.1)

poster_learns_kept : (port : ℕ) (opened : OpenedFor) (posted : List Reply) (made : Bool) (back : Option (List Reply))
    → Learns IsKept port (AtPoster opened posted made back) (PosterSees (AtPoster opened posted made back))
poster_learns_kept port opened posted made back items views k at =
    let history = k.history in
    let mine = k.sits port (AtPoster opened posted made back) at in
    ((history.popped, mine.2 ∙ k.whole), completes posted history.posted history.popped items history.gone back mine.2 k.whole mine.4)

inbox_learns_kept : (port : ℕ) (opened : OpenedFor) (popped : List Reply) → Learns IsKept port (AtInbox opened popped) (InboxSees (AtInbox opened popped))
inbox_learns_kept port opened popped items views k at =
    let history = k.history in
    let mine = k.sits port (AtInbox opened popped) at in
    let same : history.posted ≡ popped ++ items = k.whole ∙ ap (λ (l : List Reply). l ++ items) (sym mine.4) in
    subst (λ (y : OpenedFor × List Reply). AreProper y.0 y.1) (λ i. (sym mine.0 i, same i)) k.proper

-- ---- the same for the rule, which also holds of a queue that isn't opened
poster_is : (opened : OpenedFor) (posted : List Reply) (made : Bool) (back : Option (List Reply)) → AtPoster opened posted made back ≢ Unopened
poster_is opened posted made back e = cc

inbox_is : (opened : OpenedFor) (popped : List Reply) → AtInbox opened popped ≢ Unopened
inbox_is opened popped e = cc

pub posts : (c port : ℕ) (v : View) (opened : OpenedFor) (posted : List Reply) (made : Bool) (back : Option (List Reply)) (x : Reply) → v ≡ AtPoster opened posted made back → IsNext opened posted x
    → Pushes IsRuled c port v x (λ w. w ≡ after_posted v x)
posts c port v opened posted made back x is next = subst (λ (y : View). Pushes IsRuled c port y x (λ w. w ≡ after_posted y x)) (sym is)
    (λ items views room r at. let s = posts_kept c port opened posted made back x next items views room (opened_at items views port (AtPoster opened posted made back) (poster_is opened posted made back) at r) at in (s.0, inr s.1, s.2))

pub pops : (port : ℕ) (v : View) (opened : OpenedFor) (popped : List Reply) → v ≡ AtInbox opened popped → Pops IsRuled port v (λ x w. (w ≡ after_popped v x) × ComesNext v x)
pops port v opened popped is = subst (λ (y : View). Pops IsRuled port y (λ x w. (w ≡ after_popped y x) × ComesNext y x)) (sym is)
    (λ x items views r at. let s = pops_kept port opened popped x items views (opened_at (x ∷ items) views port (AtInbox opened popped) (inbox_is opened popped) at r) at in (s.0, inr s.1, s.2))

pub forks : (port : ℕ) (v : View) (opened : OpenedFor) (posted : List Reply) (made : Bool) (back : Option (List Reply)) → v ≡ AtPoster opened posted made back → made ≡ false
    → Forks IsRuled port v (with_inbox_made v) (new_inbox v)
forks port v opened posted made back is isnt = subst (λ (y : View). Forks IsRuled port y (with_inbox_made y) (new_inbox y)) (sym (is ∙ ap (λ (b : Bool). AtPoster opened posted b back) isnt))
    (λ items views r at. inr (forks_kept port opened posted back items views (opened_at items views port (AtPoster opened posted false back) (poster_is opened posted false back) at r) at))

pub merges : (port : ℕ) (v : View) (other : ℕ) (u : View) (opened : OpenedFor) (posted : List Reply) (made : Bool) (back : Option (List Reply)) (opened' : OpenedFor) (popped : List Reply)
    → v ≡ AtPoster opened posted made back → u ≡ AtInbox opened' popped → Merges IsRuled port v other u (with_back v u) Spent
merges port v other u opened posted made back opened' popped is is' = subst (λ (y : View × View). Merges IsRuled port y.0 other y.1 (with_back y.0 y.1) Spent) (λ i. (sym is i, sym is' i))
    (λ items views r at two at'. inr (merges_kept port opened posted made back other opened' popped items views (opened_at items views port (AtPoster opened posted made back) (poster_is opened posted made back) at r) at two at'))

pub poster_learns : (port : ℕ) (v : View) (opened : OpenedFor) (posted : List Reply) (made : Bool) (back : Option (List Reply)) → v ≡ AtPoster opened posted made back → Learns IsRuled port v (PosterSees v)
poster_learns port v opened posted made back is = subst (λ (y : View). Learns IsRuled port y (PosterSees y)) (sym is)
    (λ items views r at. poster_learns_kept port opened posted made back items views (opened_at items views port (AtPoster opened posted made back) (poster_is opened posted made back) at r) at)

pub inbox_learns : (port : ℕ) (v : View) (opened : OpenedFor) (popped : List Reply) → v ≡ AtInbox opened popped → Learns IsRuled port v (InboxSees v)
inbox_learns port v opened popped is = subst (λ (y : View). Learns IsRuled port y (InboxSees y)) (sym is)
    (λ items views r at. inbox_learns_kept port opened popped items views (opened_at items views port (AtInbox opened popped) (inbox_is opened popped) at r) at)

-- after the inbox's pass came back
pub merged_learns : (port : ℕ) (w v u : View) (opened : OpenedFor) (posted : List Reply) (made : Bool) (back : Option (List Reply)) (opened' : OpenedFor) (popped : List Reply)
    → w ≡ with_back v u → v ≡ AtPoster opened posted made back → u ≡ AtInbox opened' popped → Learns IsRuled port w (PosterSees w)
merged_learns port w v u opened posted made back opened' popped is is' is'' =
    poster_learns port w opened posted made (Some popped) (is ∙ (λ i. with_back (is' i) (is'' i)))
