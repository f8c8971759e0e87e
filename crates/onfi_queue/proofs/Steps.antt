-- Each step keeps the rule of the submission queue.
use Rattle.std.proofs.Common.{◌≡◌, ◌≢◌, ℕ, ◌+◌, ◌<◌, ◌≤◌, Bool, cond, eqb, List, [], ◌∷◌, ◌++◌, length, get_or, set, sym, refl, ap, ◌∙◌, subst, inl, inr, eq-eqb, ne_eqb, append_assoc, length-append, arith}
use Rattle.std.proofs.lemmas.List.{get_or_append_left}
use Rattle.std.proofs.Math.Seq.{get_or-append_seam}
use mathlib.Core.Option.{some}
use native.Mathlib.Decide.{ℕ_discrete}
use lib.ListN.{get_elem?}
use Rattle.crossbeam_queue.specs.Fifo.{Pushes, Pops, Forks, Merges, Learns}
use Rattle.onfi_addr.specs.declared.geometry.Geometry.{Geometry}
use Rattle.onfi_request.specs.declared.request.Item.{Item}
use Rattle.onfi_request.specs.Range.{Fits}
use Rattle.onfi_queue.specs.declared.opened.Opened.{Opened}
use Rattle.onfi_queue.specs.declared.view.View.{View}
use Rattle.onfi_queue.specs.declared.view.View.TheVariants.{Unopened, AtHost, AtIntake, Spent}
use Rattle.onfi_queue.specs.Items.{items_from, AreNumbered, IsNext}
use Rattle.onfi_queue.specs.Rule.{History, Sits, IsKept, IsRuled, after_sent, after_accepted, ComesNext, with_host_made, next_host, with_back, HostSees, IntakeSees}
use Rattle.onfi_queue.proofs.Numbering.{items_from-append, last-own, last-other, middle-own, AreNumbered-snoc, AreNumbered-middle, not_of}
use Rattle.onfi_queue.proofs.Ports.{Every, every-set, every-snoc, at_other, only}

-- ---- the opening
opened_at : (items : List Item) (views : List View) (port : ℕ) (v : View) → v ≢ Unopened → get_elem? views port ≡ some v → IsRuled items views → IsKept items views
opened_at items views port v n at (inl x) = absurd (n (sym (only Unopened port v (ap (λ (l : List View). get_elem? l port) (sym x.1) ∙ at)).1))
opened_at items views port v n at (inr k) = k

abbrev first_history : Opened → History
first_history opened = record { opened = opened; accepted = []; log = []; intake = 0; seat = λ h. 0; gone = 0; made = 0 }

opened_first : (opened : Opened) → IsKept [] (AtIntake opened [] 0 [] ∷ Spent ∷ [])
opened_first opened = record {
  history = first_history opened;
  whole = refl;
  back_first = omega arith;
  numbered = λ h. tt;
  unsent = λ h le. refl;
  sits = every-snoc (Sits (first_history opened)) (AtIntake opened [] 0 [] ∷ []) Spent
      (λ j u e. let t = only (AtIntake opened [] 0 []) j u e in subst (λ (y : ℕ × View). Sits (first_history opened) y.0 y.1) (λ i. (sym t.0 i, t.1 i)) (refl, refl, refl, refl, refl, λ h lt. absurd (omega arith))) tt;
}

opened_next : (opened : Opened) (port : ℕ) → port ≡ 0 → IsKept [] (set (Unopened ∷ []) port (AtIntake opened [] 0 []) ++ Spent ∷ [])
opened_next opened port e = subst (λ (p : ℕ). IsKept [] (set (Unopened ∷ []) p (AtIntake opened [] 0 []) ++ Spent ∷ [])) (sym e) (opened_first opened)

pub opens : (port : ℕ) (opened : Opened) → Forks IsRuled port Unopened (AtIntake opened [] 0 []) Spent
opens port opened items views (inl x) at =
    inr (subst (λ (y : List Item × List View). IsKept y.0 (set y.1 port (AtIntake opened [] 0 []) ++ Spent ∷ [])) (λ i. (sym x.0 i, sym x.1 i))
    (opened_next opened port (only Unopened port Unopened (ap (λ (l : List View). get_elem? l port) (sym x.1) ∙ at)).0))
opens port opened items views (inr k) at = absurd (k.sits port Unopened at)

pub opens_as : (port : ℕ) (opened : Opened) (v w : View) → v ≡ Unopened → AtIntake opened [] 0 [] ≡ w → Forks IsRuled port v w Spent
opens_as port opened v w is is' = subst (λ (y : View × View). Forks IsRuled port y.0 y.1 Spent) (λ i. (sym is i, is' i)) (opens port opened)

-- ---- a host sends x
abbrev with_sent : History → Item → History
with_sent history x = record history { log = history.log ++ x ∷ [] }

-- another pass still knows what it is to know
not_hers : (history : History) (port h : ℕ) (x : Item) → x.host ≡ h → port ≡ history.seat h → history.gone ≤ h
    → (j : ℕ) (u : View) → j ≢ port → Sits history j u → Sits (with_sent history x) j u
not_hers history port h x own at le j (AtHost opened h' sent) other s =
    let apart : x.host ≢ h' = λ e. other (s.1 ∙ ap history.seat (sym e ∙ own) ∙ sym at) in
    (s.0, s.1, s.2, s.3, s.4 ∙ sym (last-other h' history.log x apart))
not_hers history port h x own at le j (AtIntake opened accepted made back) other s =
    (s.0, s.1, s.2, s.3, s.4, λ k lt. s.5 k lt ∙ sym (last-other k history.log x (λ e. let c : h ≡ k = sym own ∙ e in absurd (omega arith))))
not_hers history port h x own at le j Spent other s = tt
not_hers history port h x own at le j Unopened other s = s

still_numbered : (g : Geometry) (h : ℕ) (log : List Item) (x : Item) → x.host ≡ h → x.serial ≡ length (items_from h log) → Fits g x.request
    → ((j : ℕ) → AreNumbered g j 0 (items_from j log)) → (j : ℕ) → Dec (x.host ≡ j) → AreNumbered g j 0 (items_from j (log ++ x ∷ []))
still_numbered g h log x own serial fits before j (yes e) =
    let q : x.serial ≡ length (items_from j log) = serial ∙ ap (λ (i : ℕ). length (items_from i log)) (sym own ∙ e) in
    subst (λ (l : List Item). AreNumbered g j 0 l) (sym (last-own j log x e)) (AreNumbered-snoc g j 0 (items_from j log) x (before j) e (omega arith) fits)
still_numbered g h log x own serial fits before j (no n) = subst (λ (l : List Item). AreNumbered g j 0 l) (sym (last-other j log x n)) (before j)

sends_kept : (n port : ℕ) (opened : Opened) (h : ℕ) (sent : List Item) (x : Item) → x.host ≡ h → x.serial ≡ length sent → Fits opened.geometry x.request
    → Pushes IsKept n port (AtHost opened h sent) x (λ w. w ≡ AtHost opened h (sent ++ x ∷ []))
sends_kept n port opened h sent x own serial fits items views room k at =
    let history = k.history in
    let mine = k.sits port (AtHost opened h sent) at in
    let is_made = mine.3 in
    let w : View = AtHost opened h (sent ++ x ∷ []) in (
      w,
      record {
        history = with_sent history x;
        whole = ap (λ (l : List Item). l ++ x ∷ []) k.whole ∙ append_assoc history.accepted items (x ∷ []);
        back_first = k.back_first;
        numbered = λ j. still_numbered history.opened.geometry h history.log x own (serial ∙ ap length mine.4) (subst (λ (o : Opened). Fits o.geometry x.request) mine.0 fits) k.numbered j (ℕ_discrete x.host j);
        unsent = λ j le. last-other j history.log x (λ e. let c : h ≡ j = sym own ∙ e in absurd (omega arith)) ∙ k.unsent j le;
        sits = every-set (Sits (with_sent history x)) views port w (mine.0, mine.1, mine.2, mine.3, ap (λ (l : List Item). l ++ x ∷ []) mine.4 ∙ sym (last-own h history.log x own))
            (λ j u other e. not_hers history port h x own mine.1 mine.2 j u other (k.sits j u e));
      },
      refl,
    )

-- ---- the intake accepts x
abbrev with_accepted : History → Item → History
with_accepted history x = record history { accepted = history.accepted ++ x ∷ [] }

not_its : (history : History) (x : Item) (j : ℕ) (u : View) → j ≢ history.intake → Sits history j u → Sits (with_accepted history x) j u
not_its history x j (AtHost opened h sent) other s = s
not_its history x j (AtIntake opened accepted made back) other s = absurd (other s.1)
not_its history x j Spent other s = tt
not_its history x j Unopened other s = s

below : (m n : ℕ) → (m ≤ n → ⊥) → n < m
below m n not = omega arith

takes_kept : (port : ℕ) (opened : Opened) (accepted : List Item) (made : ℕ) (back : List (List Item))
    → Pops IsKept port (AtIntake opened accepted made back) (λ x w. (w ≡ AtIntake opened (accepted ++ x ∷ []) made back) × IsNext opened.geometry made accepted x)
takes_kept port opened accepted made back x items views k at =
    let history = k.history in
    let mine = k.sits port (AtIntake opened accepted made back) at in
    let w : View = AtIntake opened (accepted ++ x ∷ []) made back in
    let whole : history.log ≡ accepted ++ x ∷ items = k.whole ∙ ap (λ (l : List Item). l ++ x ∷ items) (sym mine.2) in
    let its : items_from x.host history.log ≡ items_from x.host accepted ++ x ∷ items_from x.host items = ap (items_from x.host) whole ∙ middle-own accepted x items in
    let told = AreNumbered-middle opened.geometry x.host 0 (items_from x.host accepted) x (items_from x.host items)
    (subst (λ (y : Opened × List Item). AreNumbered y.0.geometry x.host 0 y.1) (λ i. (sym mine.0 i, its i)) (k.numbered x.host)) in
    let serial = told.0 in
    let no_more : history.made ≤ x.host → ⊥ = λ le. not_of x.host accepted x items (sym (ap (items_from x.host) whole) ∙ k.unsent x.host le) refl in (
      w,
      record {
        history = with_accepted history x;
        whole = k.whole ∙ sym (append_assoc history.accepted (x ∷ []) items);
        back_first = k.back_first;
        numbered = k.numbered;
        unsent = k.unsent;
        sits = every-set (Sits (with_accepted history x)) views port w (mine.0, mine.1, ap (λ (l : List Item). l ++ x ∷ []) mine.2, mine.3, mine.4, mine.5)
            (λ j u other e. not_its history x j u (λ (q : j ≡ history.intake). other (q ∙ sym mine.1)) (k.sits j u e));
      },
      (refl, record { host = subst (λ (m : ℕ). x.host < m) (sym mine.3) (below history.made x.host no_more); serial = omega arith; fits = told.1 }),
    )

-- ---- the intake makes a host's pass
-- the host h stands at the next port
abbrev seated : (ℕ → ℕ) → ℕ → ℕ → ℕ → ℕ
seated seat made port h = cond (eqb h made) port (seat h)

abbrev with_host : History → ℕ → History
with_host history port = record history { seat = seated history.seat history.made port; made = history.made + 1 }

still : (seat : ℕ → ℕ) (made port h : ℕ) → h < made → seated seat made port h ≡ seat h
still seat made port h lt = ap (λ (b : Bool). cond b port (seat h)) (ne_eqb h made (λ e. absurd (omega arith)))

now_there : (seat : ℕ → ℕ) (made port : ℕ) → seated seat made port made ≡ port
now_there seat made port = ap (λ (b : Bool). cond b port (seat made)) (eq-eqb made made refl)

unmoved : (history : History) (port j : ℕ) (u : View) → j ≢ history.intake → Sits history j u → Sits (with_host history port) j u
unmoved history port j (AtHost opened h sent) other s =
    let lt = s.3 in (s.0, s.1 ∙ sym (still history.seat history.made port h lt), s.2, omega arith, s.4)
unmoved history port j (AtIntake opened accepted made back) other s = absurd (other s.1)
unmoved history port j Spent other s = tt
unmoved history port j Unopened other s = s

forks_kept : (port : ℕ) (opened : Opened) (accepted : List Item) (made : ℕ) (back : List (List Item))
    → Forks IsKept port (AtIntake opened accepted made back) (AtIntake opened accepted (made + 1) back) (AtHost opened made [])
forks_kept port opened accepted made back items views k at =
    let history = k.history in
    let mine = k.sits port (AtIntake opened accepted made back) at in
    let left : View = AtIntake opened accepted (made + 1) back in
    let right : View = AtHost opened made [] in
    let vs : List View = set views port left in
    let first = k.back_first in
    let made_is : made ≡ history.made = mine.3 in
    let after : History = with_host history (length vs) in
    record {
      history = after;
      whole = k.whole;
      back_first = omega arith;
      numbered = k.numbered;
      unsent = λ j le. k.unsent j (omega arith);
      sits = every-snoc (Sits after) vs right
          (every-set (Sits after) views port left (mine.0, mine.1, mine.2, ap (λ (n : ℕ). n + 1) made_is, mine.4, mine.5)
          (λ j u other e. unmoved history (length vs) j u (λ (q : j ≡ history.intake). other (q ∙ sym mine.1)) (k.sits j u e)))
          (mine.0, sym (now_there history.seat history.made (length vs)) ∙ ap after.seat (sym made_is), omega arith, omega arith, sym (k.unsent made (omega arith)));
    }

-- ---- the intake takes a host's pass back
abbrev with_gone : History → History
with_gone history = record history { gone = history.gone + 1 }

without : (history : History) (port : ℕ) → port ≡ history.seat history.gone
    → (j : ℕ) (u : View) → j ≢ port → j ≢ history.intake → Sits history j u → Sits (with_gone history) j u
without history port at j (AtHost opened h sent) other away s =
    let le = s.2 in let apart : h ≢ history.gone = λ e. other (s.1 ∙ ap history.seat e ∙ sym at) in (s.0, s.1, omega (arith, apart), s.3, s.4)
without history port at j (AtIntake opened accepted made back) other away s = absurd (away s.1)
without history port at j Spent other away s = tt
without history port at j Unopened other away s = s

back_too : (log sent : List Item) (back : List (List Item)) (gone : ℕ) → length back ≡ gone → sent ≡ items_from gone log → ((k : ℕ) → k < gone → get_or back k [] ≡ items_from k log)
    → (k : ℕ) → k < gone + 1 → Dec (k ≡ gone) → get_or (back ++ sent ∷ []) k [] ≡ items_from k log
back_too log sent back gone long is before k lt (yes e) =
    ap (λ (i : ℕ). get_or (back ++ sent ∷ []) i []) (e ∙ sym long) ∙ get_or-append_seam back sent [] [] ∙ is ∙ ap (λ (i : ℕ). items_from i log) (sym e)
back_too log sent back gone long is before k lt (no n) =
    let lt' : k < gone = omega (arith, n) in get_or_append_left back (sent ∷ []) [] k (omega arith) ∙ before k lt'

merges_kept : (port : ℕ) (opened : Opened) (accepted : List Item) (made : ℕ) (back : List (List Item)) (other : ℕ) (opened' : Opened) (h : ℕ) (sent : List Item) → h ≡ length back
    → Merges IsKept port (AtIntake opened accepted made back) other (AtHost opened' h sent) (AtIntake opened accepted made (back ++ sent ∷ [])) Spent
merges_kept port opened accepted made back other opened' h sent turn items views k at two at' =
    let history = k.history in
    let mine = k.sits port (AtIntake opened accepted made back) at in
    let both : View = AtIntake opened accepted made (back ++ sent ∷ []) in
    let theirs = k.sits other (AtHost opened' h sent) (at_other views port other both (AtHost opened' h sent) two at') in
    let h_is : h ≡ history.gone = turn ∙ mine.4 in
    let made_more = theirs.3 in
    let after : History = with_gone history in
    let all : Every (λ j u. j ≢ other → Sits after j u) (set views port both) = every-set (λ j u. j ≢ other → Sits after j u) views port both
    (λ _. (mine.0, mine.1, mine.2, mine.3, length-append back (sent ∷ []) ∙ ap (λ (n : ℕ). n + 1) mine.4, λ i lt. back_too history.log sent back history.gone mine.4 (theirs.4 ∙ ap (λ (n : ℕ). items_from n history.log) h_is) mine.5 i lt (ℕ_discrete i history.gone)))
    (λ j u away e apart. without history other (theirs.1 ∙ ap history.seat h_is) j u apart (λ (q : j ≡ history.intake). away (q ∙ sym mine.1)) (k.sits j u e)) in
    record {
      history = after;
      whole = k.whole;
      back_first = omega arith;
      numbered = k.numbered;
      unsent = k.unsent;
      sits = every-set (Sits after) (set views port both) other Spent tt (λ j u apart e. all j u e apart);
    }

-- ---- what is learned
host_learns_kept : (port : ℕ) (opened : Opened) (h : ℕ) (sent : List Item) → Learns IsKept port (AtHost opened h sent) (HostSees (AtHost opened h sent))
host_learns_kept port opened h sent items views k at =
    (k.history.accepted, (k.sits port (AtHost opened h sent) at).4 ∙ ap (items_from h) k.whole ∙ items_from-append h k.history.accepted items)

intake_learns_kept : (port : ℕ) (opened : Opened) (accepted : List Item) (made : ℕ) (back : List (List Item))
    → Learns IsKept port (AtIntake opened accepted made back) (IntakeSees (AtIntake opened accepted made back))
intake_learns_kept port opened accepted made back items views k at =
    let history = k.history in
    let mine = k.sits port (AtIntake opened accepted made back) at in
    let made_is : made ≡ history.made = mine.3 in
    let split : (h : ℕ) → items_from h history.log ≡ items_from h accepted ++ items_from h items = λ h. ap (items_from h) (k.whole ∙ ap (λ (l : List Item). l ++ items) (sym mine.2)) ∙ items_from-append h accepted items in
    record {
      sent = λ h lt. mine.5 h (subst (λ (n : ℕ). h < n) mine.4 lt) ∙ split h;
      numbered = λ h. subst (λ (y : Opened × List Item). AreNumbered y.0.geometry h 0 y.1) (λ i. (sym mine.0 i, split h i)) (k.numbered h);
      no_other = λ h le. sym (split h) ∙ k.unsent h (omega arith);
    }

-- ---- the same for the rule, which also holds of a queue that isn't opened
host_is : (opened : Opened) (h : ℕ) (sent : List Item) → AtHost opened h sent ≢ Unopened
host_is opened h sent e = cc

intake_is : (opened : Opened) (accepted : List Item) (made : ℕ) (back : List (List Item)) → AtIntake opened accepted made back ≢ Unopened
intake_is opened accepted made back e = cc

pub sends : (n port : ℕ) (v : View) (opened : Opened) (h : ℕ) (sent : List Item) (x : Item)
    → v ≡ AtHost opened h sent → x.host ≡ h → x.serial ≡ length sent → Fits opened.geometry x.request
    → Pushes IsRuled n port v x (λ w. w ≡ after_sent v x)
sends n port v opened h sent x is own serial fits = subst (λ (y : View). Pushes IsRuled n port y x (λ w. w ≡ after_sent y x)) (sym is)
    (λ items views room r at. let s = sends_kept n port opened h sent x own serial fits items views room (opened_at items views port (AtHost opened h sent) (host_is opened h sent) at r) at in (s.0, inr s.1, s.2))

pub takes : (port : ℕ) (v : View) (opened : Opened) (accepted : List Item) (made : ℕ) (back : List (List Item)) → v ≡ AtIntake opened accepted made back
    → Pops IsRuled port v (λ x w. (w ≡ after_accepted v x) × ComesNext v x)
takes port v opened accepted made back is = subst (λ (y : View). Pops IsRuled port y (λ x w. (w ≡ after_accepted y x) × ComesNext y x)) (sym is)
    (λ x items views r at. let s = takes_kept port opened accepted made back x items views (opened_at (x ∷ items) views port (AtIntake opened accepted made back) (intake_is opened accepted made back) at r) at in (s.0, inr s.1, s.2))

pub forks : (port : ℕ) (v : View) (opened : Opened) (accepted : List Item) (made : ℕ) (back : List (List Item)) → v ≡ AtIntake opened accepted made back
    → Forks IsRuled port v (with_host_made v) (next_host v)
forks port v opened accepted made back is = subst (λ (y : View). Forks IsRuled port y (with_host_made y) (next_host y)) (sym is)
    (λ items views r at. inr (forks_kept port opened accepted made back items views (opened_at items views port (AtIntake opened accepted made back) (intake_is opened accepted made back) at r) at))

pub merges : (port : ℕ) (v : View) (other : ℕ) (u : View) (opened : Opened) (accepted : List Item) (made : ℕ) (back : List (List Item)) (opened' : Opened) (h : ℕ) (sent : List Item)
    → v ≡ AtIntake opened accepted made back → u ≡ AtHost opened' h sent → h ≡ length back
    → Merges IsRuled port v other u (with_back v u) Spent
merges port v other u opened accepted made back opened' h sent is is' turn = subst (λ (y : View × View). Merges IsRuled port y.0 other y.1 (with_back y.0 y.1) Spent) (λ i. (sym is i, sym is' i))
    (λ items views r at two at'. inr (merges_kept port opened accepted made back other opened' h sent turn items views (opened_at items views port (AtIntake opened accepted made back) (intake_is opened accepted made back) at r) at two at'))

pub host_learns : (port : ℕ) (v : View) (opened : Opened) (h : ℕ) (sent : List Item) → v ≡ AtHost opened h sent → Learns IsRuled port v (HostSees v)
host_learns port v opened h sent is = subst (λ (y : View). Learns IsRuled port y (HostSees y)) (sym is)
    (λ items views r at. host_learns_kept port opened h sent items views (opened_at items views port (AtHost opened h sent) (host_is opened h sent) at r) at)

pub intake_learns : (port : ℕ) (v : View) (opened : Opened) (accepted : List Item) (made : ℕ) (back : List (List Item)) → v ≡ AtIntake opened accepted made back → Learns IsRuled port v (IntakeSees v)
intake_learns port v opened accepted made back is = subst (λ (y : View). Learns IsRuled port y (IntakeSees y)) (sym is)
    (λ items views r at. intake_learns_kept port opened accepted made back items views (opened_at items views port (AtIntake opened accepted made back) (intake_is opened accepted made back) at r) at)
