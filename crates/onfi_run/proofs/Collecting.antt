-- Answers that are collected, and reports that grow by a channel.
use Rattle.std.proofs.Common.{◌≡◌, ℕ, ◌+◌, Bool, true, false, List, [], ◌∷◌, ◌++◌, length, map, drop, refl, sym, ap, ◌∙◌, subst, arith, append-nil, append_assoc}
use Rattle.std.specs.Prelude.{IsTrue, ◌&&◌, ◌||◌}
use Rattle.std.specs.List.{AllZip, list_all, AllByRecursion as Each}
use Rattle.std.proofs.Math.Bool.{cond}
use Rattle.std.proofs.lemmas.Bool.{or_parts}
use Rattle.std.proofs.lemmas.List.{length_push}
use Rattle.onfi_request.specs.declared.reply.Reply.{Reply}
use Rattle.onfi_reply.specs.Ends.{InboxView, IsFirstOf, after_collecting}
use Rattle.onfi_run.specs.declared.channel_end.ChannelEnd.{ChannelEnd}
use Rattle.onfi_run.specs.declared.channel_end.ChannelEnd.TheVariants as end
use Rattle.onfi_run.specs.declared.finishing.Finished.{Finished}
use Rattle.onfi_run.specs.declared.port.Port.{Port}
use Rattle.onfi_run.specs.declared.station.Station.{Station}
use Rattle.onfi_run.specs.Answers.{AddsReplies, IsComplete, IsSuited, came, is_complete, with_replies, with_reply}
use Rattle.onfi_run.specs.ByHost.{host_numbers, with_each}
use Rattle.onfi_run.specs.Finishing.{AddsTo, AreDone, Empties, IsFinished, IsGathered, are_complete, report_of_none, report_with}
use Rattle.onfi_run.specs.Keys.{AreLinked, ChannelQueues, port_ends, port_places, ports_of}
use Rattle.onfi_run.specs.Report.{AnswersView, ReportView, is_any_cut_short, is_any_over, places, status_of}
use Rattle.onfi_run.proofs.Suited.{came_place, same_places}
use Rattle.onfi_run.proofs.ByHost.{each_with, map_with_each, tail_of}

-- ---- collecting
with_one_more : (now : ℕ) (got : AnswersView) (more : List Reply) (r : Reply) → with_replies now got (more ++ r ∷ []) ≡ with_reply now (with_replies now got more) r
with_one_more now got [] r = refl
with_one_more now got (x ∷ more) r = with_one_more now (with_reply now got x) more r

places_kept : (now : ℕ) (got : AnswersView) (more : List Reply) → places (with_replies now got more) ≡ places got
places_kept now got [] = refl
places_kept now got (r ∷ more) = places_kept now (with_reply now got r) more ∙ same_places (came now r.answer) (came_place now r.answer) got r.serial

adds_places : (now : ℕ) (old new : AnswersView) → AddsReplies now old new → places new ≡ places old
adds_places now old new (more, is) = ap places is ∙ places_kept now old more

-- an inbox gave replies, first those that it had taken in, of which some may wait still
pub record Emptying (now : ℕ) (old : InboxView) (a : AnswersView) (new : InboxView) (b : AnswersView) : Type 0 where
  pub replies : List Reply
  pub given : new.given ≡ old.given ++ replies
  pub later : List Reply
  pub waits : replies ++ new.waiting ≡ old.waiting ++ later
  pub kept : b ≡ with_replies now a replies

pub empties_none : (now : ℕ) (inbox : InboxView) (got : AnswersView) → Emptying now inbox got inbox got
empties_none now inbox got = record { replies = []; given = sym (append-nil inbox.given); later = []; waits = sym (append-nil inbox.waiting); kept = refl }

-- what is still to come after one reply more
one_given : (replies waiting old later : List Reply) (r : Reply) → replies ++ waiting ≡ old ++ later → IsFirstOf waiting r
    → (later' : List Reply) × ((replies ++ r ∷ []) ++ drop 1 waiting ≡ old ++ later')
one_given replies [] old later r waits first =
    (later ++ r ∷ [], append-nil (replies ++ r ∷ []) ∙ ap (λ l. l ++ r ∷ []) (sym (append-nil replies) ∙ waits) ∙ append_assoc old later (r ∷ []))
one_given replies (y ∷ waiting) old later r waits first =
    (later, append_assoc replies (r ∷ []) waiting ∙ ap (λ x. replies ++ x ∷ waiting) first ∙ waits)

pub empties_more : (now : ℕ) (old mid new : InboxView) (a b d : AnswersView) (r : Reply) → Emptying now old a mid b → IsFirstOf mid.waiting r → new ≡ after_collecting mid r
    → d ≡ with_reply now b r → Emptying now old a new d
empties_more now old mid new a b d r e first gave kept =
    let left = one_given e.replies mid.waiting old.waiting e.later r e.waits first in record {
      replies = e.replies ++ r ∷ [];
      given = ap (λ (i : InboxView). i.given) gave ∙ ap (λ l. l ++ r ∷ []) e.given ∙ append_assoc old.given e.replies (r ∷ []);
      later = left.0;
      waits = ap (λ (i : InboxView). (e.replies ++ r ∷ []) ++ i.waiting) gave ∙ left.1;
      kept = kept ∙ ap (λ x. with_reply now x r) e.kept ∙ sym (with_one_more now a e.replies r);
    }

pub emptied : (now : ℕ) (old new : InboxView) (a b : AnswersView) → Emptying now old a new b → new.waiting ≡ [] → Empties now (old, a) (new, b)
emptied now old new a b e none = record {
  replies = e.replies;
  given = e.given;
  later = e.later;
  taken_in = sym (append-nil e.replies) ∙ ap (λ l. e.replies ++ l) (sym none) ∙ e.waits;
  none = none;
  kept = e.kept;
}

and_true : (a b : Bool) → IsTrue (a && b) → IsTrue a × IsTrue b
and_true true b e = (refl, e)
and_true false b e = absurd (cc)

pub or_either : (a b d r : Bool) → r ≡ (a || d) → (IsTrue b → IsTrue d) → IsTrue (a || b) → IsTrue r
or_either true b d r is then e = is
or_either false b d r is then e = is ∙ then e

pub or_first : (a b : Bool) → IsTrue a → IsTrue (a || b)
or_first true b is = refl
or_first false b is = absurd (cc)

pub or_second : (a b : Bool) → IsTrue b → IsTrue (a || b)
or_second true b is = refl
or_second false b is = is

-- ---- channels one by one
each_front : {X : Type 0} (P : X → Type 0) (xs : List X) (x : X) → Each P (xs ++ x ∷ []) → Each P xs × P x
each_front P [] x (last, e) = (tt, last)
each_front P (y ∷ xs) x (here, e) = let rest = each_front P xs x e in ((here, rest.0), rest.1)

done_before : (r : ReportView) (f : Finished) → AreDone (report_with r f) → AreDone r × (f.end ≡ end.Done) × (f.short_of_memory ≡ false)
done_before r f done =
    let ends = each_front (λ (e : ChannelEnd). e ≡ end.Done) r.ends f.end done.ends in
    let flags = or_parts r.short_of_memory f.short_of_memory done.short_is in
    (record { ends = ends.0; short_is = flags.0 }, ends.1, flags.1)

each_complete : (got : List AnswersView) → IsTrue (are_complete got) → Each IsComplete got
each_complete [] all = tt
each_complete (a ∷ got) all = let both = and_true (is_complete a) (list_all is_complete got) all in (both.0, each_complete got both.1)

same_got : (now : ℕ) (ports : List Port) (got : List AnswersView) → AllZip (AddsReplies now) (map (λ (p : Port). p.answers) ports) got
    → map places got ≡ map port_places ports
same_got now [] [] all = refl
same_got now [] (a ∷ got) all = absurd all
same_got now (p ∷ ports) [] all = absurd all
same_got now (p ∷ ports) (a ∷ got) (here, all) =
    ap (λ k. k ∷ map places got) (adds_places now p.answers a here) ∙ ap (λ l. port_places p ∷ l) (same_got now ports got all)

adds_by_port : (now : ℕ) (ports : List Port) (got : List AnswersView) → AllZip (AddsReplies now) (map (λ (p : Port). p.answers) ports) got → AllZip (AddsTo now) ports got
adds_by_port now [] [] all = tt
adds_by_port now [] (a ∷ got) all = absurd all
adds_by_port now (p ∷ ports) [] all = absurd all
adds_by_port now (p ∷ ports) (a ∷ got) (here, all) = (here, adds_by_port now ports got all)

-- each of two lists of lists, one element longer
zip_longer : {A B : Type 0} (R : A → B → Type 0) (xs : List A) (ys : List B) (x : A) (y : B) → AllZip R xs ys → R x y → AllZip R (xs ++ x ∷ []) (ys ++ y ∷ [])
zip_longer R [] [] x y all one = (one, tt)
zip_longer R [] (b ∷ ys) x y all one = absurd all
zip_longer R (a ∷ xs) [] x y all one = absurd all
zip_longer R (a ∷ xs) (b ∷ ys) x y (here, all) one = (here, zip_longer R xs ys x y all one)

zip_with : {A B : Type 0} (R : A → B → Type 0) (xs : List (List A)) (ys : List (List B)) (more : List A) (others : List B) → AllZip (AllZip R) xs ys
    → AllZip R more others → AllZip (AllZip R) (with_each xs more) (with_each ys others)
zip_with R [] [] more others all ones = tt
zip_with R [] (b ∷ ys) more others all ones = absurd all
zip_with R (a ∷ xs) [] more others all ones = absurd all
zip_with R (a ∷ xs) (b ∷ ys) [] [] (here, all) ones = tt
zip_with R (a ∷ xs) (b ∷ ys) [] (o ∷ others) (here, all) ones = absurd ones
zip_with R (a ∷ xs) (b ∷ ys) (m ∷ more) [] (here, all) ones = absurd ones
zip_with R (a ∷ xs) (b ∷ ys) (m ∷ more) (o ∷ others) (here, all) (one, ones) = (zip_longer R a b m o here one, zip_with R xs ys more others all ones)

pub gathered_more : (now : ℕ) (all before : List (List Port)) (ports : List Port) (n : ℕ) (r : ReportView) (f : Finished) → all ≡ with_each before ports
    → IsGathered now before n r → IsFinished f
    → AllZip (AddsReplies now) (map (λ (p : Port). p.answers) ports) f.got → IsGathered now all (n + 1) (report_with r f)
gathered_more now all before ports n r f is had fine adds = record {
  replies = subst (λ l. AllZip (AllZip (AddsTo now)) l (with_each r.got f.got)) (sym is) (zip_with (AddsTo now) before r.got ports f.got had.replies (adds_by_port now ports f.got adds));
  count = length_push r.ends f.end ∙ ap (λ k. k + 1) had.count;
  places =
      map_with_each places r.got f.got ∙ ap (λ l. with_each l (map places f.got)) had.places ∙ ap (with_each (map (map port_places) before))
      (same_got now ports f.got adds)
      ∙ sym (map_with_each port_places before ports) ∙ ap (map (map port_places)) (sym is);
  suited = each_with (Each IsSuited) r.got f.got had.suited fine.suited;
  no_clock = had.no_clock;
  complete = λ done.
      let before = done_before r f done in
      each_with IsComplete r.got f.got (had.complete before.0) (each_complete f.got (fine.complete before.1 before.2));
}

-- lists that say nothing are empty, however they are seen
none_told : {A B D H : Type 0} (f : A → B) (g : A → D) (lists : List (List A)) (hs : List H) → map (map f) lists ≡ map (λ h. []) hs
    → map (λ h. []) hs ≡ map (map g) lists
none_told f g [] [] e = refl
none_told f g [] (h ∷ hs) e = absurd (cc)
none_told f g (xs ∷ lists) [] e = absurd (cc)
none_told f g ([] ∷ lists) (h ∷ hs) e = ap (λ l. [] ∷ l) (none_told f g lists hs (tail_of [] [] (map (map f) lists) (map (λ h. []) hs) e))
none_told f g ((x ∷ xs) ∷ lists) (h ∷ hs) e = absurd (cc)

-- lists that say nothing go with as many empty ones
none_added : {H : Type 0} (now : ℕ) (lists : List (List Port)) (hs : List H) → map (map port_ends) lists ≡ map (λ h. []) hs → AllZip (AllZip (AddsTo now)) lists (map (λ h. []) hs)
none_added now [] [] e = tt
none_added now [] (h ∷ hs) e = absurd (cc)
none_added now (xs ∷ lists) [] e = absurd (cc)
none_added now ([] ∷ lists) (h ∷ hs) e = (tt, none_added now lists hs (tail_of [] [] (map (map port_ends) lists) (map (λ h. []) hs) e))
none_added now ((x ∷ xs) ∷ lists) (h ∷ hs) e = absurd (cc)

pub gathered_none : {X : Type 0} (f : X → ChannelQueues) (now : ℕ) (xs : List X) (stations : List Station) (short : Bool) → length xs ≡ 0 → AreLinked (map f xs) stations
    → IsGathered now (ports_of stations) (length xs) (report_of_none short)
gathered_none f now [] stations short none linked = record {
  replies = none_added now (ports_of stations) host_numbers linked;
  count = refl;
  places = none_told port_ends port_places (ports_of stations) host_numbers linked;
  suited = (tt, (tt, (tt, (tt, tt))));
  no_clock = refl;
  complete = λ done. (tt, (tt, (tt, (tt, tt))));
}
gathered_none f now (x ∷ xs) stations short none linked = absurd (omega (arith, none))

-- ---- the status
abbrev flags_of : Bool → Bool → ℕ
flags_of cut over = cond cut 3 (cond over 6 0)

no_flag : (cut over : Bool) → flags_of cut over ≡ 0 → (cut ≡ false) × (over ≡ false)
no_flag true over e = let n : ◌≡◌ {A = ℕ} 3 0 = e in absurd (omega (arith, n))
no_flag false true e = let n : ◌≡◌ {A = ℕ} 6 0 = e in absurd (omega (arith, n))
no_flag false false e = (refl, refl)

all_done : (ends : List ChannelEnd) → is_any_cut_short ends ≡ false → is_any_over ends ≡ false → Each (λ e. e ≡ end.Done) ends
all_done [] cut over = tt
all_done (end.Done ∷ ends) cut over = (refl, all_done ends cut over)
all_done (end.Stopped cause ∷ ends) cut over = absurd (cc)
all_done (end.Over opened ∷ ends) cut over = absurd (cc)
all_done (end.Unfinished ∷ ends) cut over = absurd (cc)

-- with status 0 all channels are done, and memory wasn't refused
pub status_done : (r : ReportView) → status_of r.short_of_memory r.ends ≡ 0 → AreDone r
status_done r e = by_short r.short_of_memory refl e
  where
    by_short : (short : Bool) → r.short_of_memory ≡ short → status_of short r.ends ≡ 0 → AreDone r
    by_short true is e = let n : ◌≡◌ {A = ℕ} 4 0 = e in absurd (omega (arith, n))
    by_short false is e =
        let flags = no_flag (is_any_cut_short r.ends) (is_any_over r.ends) e in
        record { ends = all_done r.ends flags.0 flags.1; short_is = is }
