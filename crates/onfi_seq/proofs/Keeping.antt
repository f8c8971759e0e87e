-- What the fields of a sequencer keep from call to call.
use Rattle.std.proofs.Common.{◌≡◌, ◌≢◌, ℕ, ◌+◌, ◌<◌, Bool, false, List, [], ◌∷◌, ◌++◌, length, Some, refl, sym, ap, ◌∙◌, subst, length-append, arith}
use Rattle.std.specs.Prelude.{replicate, slice_get, slice_set}
use Rattle.std.specs.List.{filter}
use Rattle.onfi_request.specs.declared.request.Item.{Item}
use Rattle.onfi_request.specs.declared.reply.Reply.{Reply}
use Rattle.onfi_chip.specs.Chip.{Chip}
use Rattle.onfi_problem.proofs.Places.{get_within, length_set}
use Rattle.onfi_core.specs.declared.setup.Setup.{Setup}
use Rattle.onfi_core.specs.Kept.{first_half}
use Rattle.onfi_core.specs.State.{HalfState, Planning, is_from, is_to}
use Rattle.onfi_core.specs.Steps.{GoesOut}
use Rattle.onfi_seq.specs.declared.turn.TurnAt.{TurnAt}
use Rattle.onfi_seq.specs.Drained.{TurnPlans}
use Rattle.onfi_core.specs.Steps.{accepting}
use Rattle.onfi_core.specs.Reaching.{Reaches}
use Rattle.onfi_core.proofs.Opening.{same_element}
use Rattle.onfi_core.proofs.Promise.{rightful_reached}
use Rattle.onfi_core.proofs.Reaching.{events_reach}
use Rattle.onfi_core.proofs.Hosted.{from_other, from_own, to_other, to_own}
use Rattle.onfi_core.proofs.Lists.{each_set, set_self}
use Rattle.onfi_queue.specs.Ends.{IntakeView, after_accepting}
use Rattle.onfi_queue.specs.Items.{IsNext}
use Rattle.onfi_reply.specs.Ends.{PosterView, after_posting}
use Rattle.onfi_seq.specs.declared.offer.Offer.{Offer}
use Rattle.onfi_seq.specs.declared.offer.Offer.TheVariants as offer
use Rattle.onfi_seq.specs.Driver.{Offered}
use Rattle.onfi_seq.specs.Sequencer.{AreCounts, AreFreshPosters, IsFreshIntake, IsFreshPoster, IsKept, IsPosterFor, IsRight, Seen, SequencerFields, SequencerView, channel_of, opened_as, opened_for, seen_in}

-- What holds of a sequencer, of its fields and back
module _ {C : Type 0} where
  pub seen_within : (state : C → Chip) (P : Seen → Type 0) (inside now : SequencerView C) → inside ≡ now → P (seen_in state now) → P (seen_in state inside)
  seen_within state P inside now is h = subst (λ (x : SequencerView C). P (seen_in state x)) (sym is) h

  pub seen_outside : (state : C → Chip) (P : Seen → Type 0) (inside now : SequencerView C) → inside ≡ now → P (seen_in state inside) → P (seen_in state now)
  seen_outside state P inside now is h = subst (λ (x : SequencerView C). P (seen_in state x)) is h

-- What a planning leaves

pub kept_planning : (s s' : Setup) (h h' : HalfState) (intake : IntakeView) (posters : List PosterView) (refused short : Bool) (counts : List ℕ) → s' ≡ s → h'.accepted ≡ h.accepted → h'.posted ≡ h.posted
    → IsKept (record { setup = s; half = h; intake = intake; posters = posters; refused = refused; short = short }) counts
    → IsKept (record { setup = s'; half = h'; intake = intake; posters = posters; refused = refused; short = short }) counts
kept_planning s s' h h' intake posters refused short counts same accepted posted k = record {
  hosts = ap (λ z. z.hosts) same ∙ k.hosts;
  opened = k.opened ∙ ap (λ z. opened_as z intake.opened.channel) (sym same);
  room = k.room ∙ ap (λ z. z.submit_cap) (sym same);
  accepted = k.accepted ∙ sym accepted;
  posters = k.posters;
  each = λ host p there. (
      let is = k.each host p there in
      record {
        opened = is.opened ∙ ap (λ z. opened_for z intake.opened.channel host) (sym same);
        room = is.room ∙ ap (λ z. z.post_cap) (sym same);
        posted = is.posted ∙ ap (filter (is_to host)) (sym posted);
      });
  counts_are = record {
    hosts = k.counts_are.hosts;
    each = λ host count there. k.counts_are.each host count there ∙ ap (λ items. length (filter (is_from host) items)) (sym accepted);
  };
}

-- Opening

counts_opened : (q : SequencerFields) → q.half.accepted ≡ [] → AreCounts q (replicate 4 0)
counts_opened q none = record {
  hosts = refl;
  each = λ host count there. sym (same_element 4 0 host count there) ∙ sym (ap (λ (xs : List Item). length (filter (is_from host) xs)) none);
}

poster_opened : (q : SequencerFields) (channel host : ℕ) (p : PosterView) → q.intake.opened.channel ≡ channel → q.half.posted ≡ [] → IsFreshPoster q.setup channel host p → IsPosterFor q host p
poster_opened q channel host p number none fresh = record {
  opened = ap (λ (x : PosterView). x.opened) fresh ∙ ap (λ n. opened_for q.setup n host) (sym number);
  room = ap (λ (x : PosterView). x.capacity) fresh;
  posted = ap (λ (x : PosterView). x.posted) fresh ∙ sym (ap (filter (is_to host)) none);
}

pub kept_opened : (s : Setup) (channel : ℕ) (intake : IntakeView) (posters : List PosterView) (counts : List ℕ) → s.hosts ≡ 4 → IsFreshIntake s channel intake → AreFreshPosters s channel posters → counts ≡ replicate 4 0
    → IsKept (record { setup = s; half = first_half s; intake = intake; posters = posters; refused = false; short = false }) counts
kept_opened s channel intake posters counts hosts fresh_intake fresh_posters zeros =
    let q : SequencerFields = record { setup = s; half = first_half s; intake = intake; posters = posters; refused = false; short = false } in
    let number : intake.opened.channel ≡ channel = ap (λ (x : IntakeView). x.opened.channel) fresh_intake.is in
    record {
      hosts = hosts;
      opened = ap (λ (x : IntakeView). x.opened) fresh_intake.is ∙ ap (opened_as s) (sym number);
      room = ap (λ (x : IntakeView). x.capacity) fresh_intake.is;
      accepted = ap (λ (x : IntakeView). x.accepted) fresh_intake.is;
      posters = fresh_posters.count;
      each = λ host p there. poster_opened q channel host p number refl (fresh_posters.each host p there);
      counts_are = subst (AreCounts q) (sym zeros) (counts_opened q refl);
    }

-- Where neither what is accepted nor what is posted changes

-- An item more

module _ (q : SequencerFields) (counts : List ℕ) (x : Item) (kept : IsKept q counts) where
  one_more : (counts' : List ℕ) → IsNext q.intake.opened.geometry 4 q.intake.accepted x → counts' ≡ slice_set counts x.host (x.serial + 1) → AreCounts (record q { half = accepting q.setup q.half x; intake = after_accepting q.intake x }) counts'
  one_more counts' next set = record {
    hosts = ap length set ∙ length_set counts x.host (x.serial + 1) ∙ kept.counts_are.hosts;
    each = λ host count there.
        let low : x.host < length counts = (let a = next.host in let c = kept.counts_are.hosts in omega arith) in
        let at = get_within counts x.host low in
        let more : length (filter (is_from x.host) (q.half.accepted ++ x ∷ [])) ≡ length (filter (is_from x.host) q.half.accepted) + 1 = ap length (from_own x.host q.half.accepted x refl) ∙ length-append (filter (is_from x.host) q.half.accepted) (x ∷ []) in
        let serial : x.serial ≡ length (filter (is_from x.host) q.half.accepted) = next.serial ∙ ap (λ (xs : List Item). length (filter (is_from x.host) xs)) kept.accepted in
        each_set (λ j n. n ≡ length (filter (is_from j) (q.half.accepted ++ x ∷ []))) counts x.host at.0 (x.serial + 1) at.1 (omega (arith, more, serial))
        (λ j n d here. kept.counts_are.each j n here ∙ sym (ap length (from_other x.host j q.half.accepted x refl d))) host count (ap (λ (cs : List ℕ). slice_get cs host) (sym set) ∙ there);
  }

  pub kept_accepting : (counts' : List ℕ) → IsNext q.intake.opened.geometry 4 q.intake.accepted x → counts' ≡ slice_set counts x.host (x.serial + 1) → IsKept (record q { half = accepting q.setup q.half x; intake = after_accepting q.intake x }) counts'
  kept_accepting counts' next set = record {
    hosts = kept.hosts;
    opened = kept.opened;
    room = kept.room;
    accepted = ap (λ (xs : List Item). xs ++ x ∷ []) kept.accepted;
    posters = kept.posters;
    each = λ host p there. (let old = kept.each host p there in record { opened = old.opened; room = old.room; posted = old.posted });
    counts_are = one_more counts' next set;
  }

-- A reply more

module _ (q : SequencerFields) (counts : List ℕ) (host : ℕ) (p : PosterView) (r : Reply) (h : HalfState) (kept : IsKept q counts) (at : slice_get q.posters host ≡ Some p) (goes : GoesOut q.half h host r) where
  abbrev posted_there : SequencerFields
  posted_there = record q { half = h; posters = slice_set q.posters host (after_posting p r) }

  posted_is : h.posted ≡ q.half.posted ++ r ∷ []
  posted_is = ap (λ (x : HalfState). x.posted) goes.after

  own_poster : IsPosterFor posted_there host (after_posting p r)
  own_poster =
      let old = kept.each host p at in
      record {
        opened = old.opened;
        room = old.room;
        posted = ap (λ (rs : List Reply). rs ++ r ∷ []) old.posted ∙ sym (to_own host q.half.posted r goes.own) ∙ sym (ap (filter (is_to host)) posted_is);
      }

  other_poster : (j : ℕ) (p' : PosterView) → j ≢ host → slice_get q.posters j ≡ Some p' → IsPosterFor posted_there j p'
  other_poster j p' d there =
      let old = kept.each j p' there in
      record {
        opened = old.opened;
        room = old.room;
        posted = old.posted ∙ sym (to_other host j q.half.posted r goes.own d) ∙ sym (ap (filter (is_to j)) posted_is);
      }

  pub kept_posting : IsKept posted_there counts
  kept_posting = record {
    hosts = kept.hosts;
    opened = kept.opened;
    room = kept.room;
    accepted = kept.accepted ∙ sym (ap (λ (x : HalfState). x.accepted) goes.after);
    posters = length_set q.posters host (after_posting p r) ∙ kept.posters;
    each = each_set (IsPosterFor posted_there) q.posters host p (after_posting p r) at own_poster other_poster;
    counts_are = record {
      hosts = kept.counts_are.hosts;
      each = λ j count there. kept.counts_are.each j count there ∙ sym (ap (λ (x : HalfState). length (filter (is_from j) x.accepted)) goes.after);
    };
  }

-- An offer to a poster

kept_unposted : (q : SequencerFields) (counts : List ℕ) (host : ℕ) (p : PosterView) (h : HalfState) (p' : PosterView) → IsKept q counts → slice_get q.posters host ≡ Some p → h ≡ q.half → p' ≡ p
    → IsKept (record q { half = h; posters = slice_set q.posters host p' }) counts
kept_unposted q counts host p h p' kept at same is =
    let posters : slice_set q.posters host p' ≡ q.posters = ap (λ (x : PosterView). slice_set q.posters host x) is ∙ set_self q.posters host p at in
    let back : (let x : SequencerFields = record q { half = h; posters = slice_set q.posters host p' } in x) ≡ q =
    ap (λ (x : HalfState). let y : SequencerFields = record q { half = x; posters = slice_set q.posters host p' } in y) same ∙ ap (λ (ps : List PosterView). let y : SequencerFields = record q { posters = ps } in y) posters in
    subst (λ (x : SequencerFields). IsKept x counts) (sym back) kept

pub kept_offered : (q : SequencerFields) (counts : List ℕ) (host : ℕ) (p : PosterView) (o : Offer) (h : HalfState) (p' : PosterView) → IsKept q counts → slice_get q.posters host ≡ Some p → Offered host q.half p o h p'
    → IsKept (record q { half = h; posters = slice_set q.posters host p' }) counts
kept_offered q counts host p offer.Posted h p' kept at (r, goes, is) =
    subst (λ (x : PosterView). IsKept (record q { half = h; posters = slice_set q.posters host x }) counts) (sym is) (kept_posting q counts host p r h kept at goes)
kept_offered q counts host p offer.Full h p' kept at (same, is, some, saw) = kept_unposted q counts host p h p' kept at same is
kept_offered q counts host p offer.Nothing h p' kept at (same, is, none) = kept_unposted q counts host p h p' kept at same is

-- What always holds

pub right_is : (Such : Planning → Type 0) (q : Seen) (counts : List ℕ) → IsKept q.0 counts → Reaches Such q.0.setup (channel_of q) → IsRight Such q
right_is Such q counts kept reached =
    let keeps = (events_reach Such q.0.setup (channel_of q) reached).0 in
    record {
      accepted = kept.accepted;
      posters = kept.posters;
      posted = λ host p there. (kept.each host p there).posted;
      rightful = rightful_reached q.0.setup (channel_of q) keeps;
      made = keeps.half.made;
      reached = reached;
    }

-- the last plan is such, whatever the turn before it did
pub right_plans : (Such : Planning → Type 0) (answer : TurnAt) (q : Seen) → IsRight Such q → TurnPlans Such answer q
right_plans Such answer q right planned = (events_reach Such q.0.setup (channel_of q) right.reached).1
