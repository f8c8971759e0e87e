-- Lengths are stated for all that is said, where none is lacking.
use Rattle.std.proofs.Common.{◌≡◌, ◌<◌, ℕ, zero, suc, ◌+◌, ◌*◌, ◌-◌, ◌^◌, List, [], ◌∷◌, length, Bool, true, false, Option, Some, None, inl, inr, refl, sym, ap, ◌∙◌, subst, arith}
use Rattle.std.specs.Prelude.{◌==◌, nat_lt, not, is_some, slice_index_or}
use Rattle.std.specs.List.{AllByRecursion as Each, list_any}
use Rattle.std.proofs.lemmas.Bool.{cases_Bool, ne_eqb}
use Rattle.std.proofs.lemmas.Bool.Decides.{nat_tests}
use Rattle.onfi_timing.specs.declared.spans.Spans.{Spans}
use Rattle.onfi_timing.specs.declared.timing.Timing.{Timing}
use Rattle.onfi_timing.specs.Kinds.{IsStated, stated}
use Rattle.onfi_timing.specs.SectorPosts.{HasPosts, post_or_none}
use Rattle.onfi_request.specs.declared.want.Want.{Want}
use Rattle.onfi_group.specs.Group.{is_member, lun_of, on_block}
use Rattle.onfi_problem.specs.declared.fault.ProblemFault.{ProblemFault}
use Rattle.onfi_problem.specs.declared.fault.ProblemFault.TheVariants.{TooMany, BadLun, NoLengths, Clock, Memory}
use Rattle.onfi_problem.specs.Faults.{TellsFault}
use Rattle.onfi_problem.specs.declared.lun_state.LunState.TheVariants.{Running}
use Rattle.onfi_problem.specs.Moves.{Move, Next, Start, IsMove, lun_after, placed}
use Rattle.onfi_problem.specs.Problem.{Problem, AreStated, HasLengths, IsLunStated}
use Rattle.onfi_problem.proofs.Perm.{All-has, All-weaker}
use Rattle.onfi_problem.proofs.Places.{get_has}
use Rattle.onfi_problem.proofs.Wants.{All-filter, first_has}
use Rattle.onfi_flight.specs.Flight.{Flight}
use Rattle.onfi_flight.proofs.Lists.{All-set}
use Rattle.onfi_calls.specs.declared.channel.PlainChannel.{PlainChannel}
use Rattle.onfi_calls.specs.declared.channel.PlainLengths.{PlainLengths}
use Rattle.onfi_calls.specs.declared.channel.PlainLun.{PlainLun}
use Rattle.onfi_calls.specs.declared.channel.PlainWant.{PlainWant}
use Rattle.onfi_calls.specs.Problem.{IsSaid, have_lacking, kind_of, lacks_length, lacks_post, has_lacking, luns_of, members_of, operation_in, read_of, sectors_in, state_of, states_of, wants_of}
use Rattle.onfi_calls.specs.Refused.{IsBadProblem, IsMeasured, is_long}
use Rattle.onfi_calls.specs.Status.{lacking_status}
use Rattle.onfi_calls.proofs.InOrders.{both_false}

-- A kind whose length isn't lacking

is_post : (o : Option Spans) (post : ℕ) → post_or_none o ≡ post → (post == 0) ≡ false → is_some o ≡ true
is_post None post is some = absurd (let z : (0 == 0) ≡ false = ap (λ n. n == 0) is ∙ some in cc)
is_post (Some s) post is some = refl

read_stated : (posts : List ℕ) (timing : Timing) (count : ℕ) → HasPosts timing posts → lacks_post posts 0 count ≡ false → IsStated timing (read_of count)
read_stated posts timing zero has good = refl
read_stated posts timing (suc before) has good =
    let some : (suc before == 0) ≡ false = ne_eqb (suc before) 0 (λ e. omega (arith, e)) in
    let one : suc before - 1 ≡ before = omega arith in
    let post : (slice_index_or posts (suc before - 1) 0 == 0) ≡ false = rw some at good in
    let there : (slice_index_or posts before 0 == 0) ≡ false = ap (λ n. slice_index_or posts n 0 == 0) (sym one) ∙ post in
    rw some (is_post (stated timing (suc before)) (slice_index_or posts before 0) (has before) there)

sectors_stated : (lengths : PlainLengths) (timing : Timing) → HasPosts timing lengths.sectors → (w : PlainWant) → lacks_length lengths w ≡ false → IsStated timing (kind_of w.kind)
sectors_stated lengths timing has w good = elim (cases_Bool (operation_in w.kind == 0)) [
  | inl read ↦ (
      let same : lacks_post lengths.sectors 0 (sectors_in w.kind) ≡ false = elim (cases_Bool (sectors_in w.kind == 0)) [
        | inl none ↦ rw none refl
        | inr some ↦ (let z : (slice_index_or lengths.sectors (sectors_in w.kind - 1) 0 == 0) ≡ false = rw (some, read) at good in rw some z)
      ] in
      rw read (read_stated lengths.sectors timing (sectors_in w.kind) has same))
  | inr other ↦ elim (cases_Bool (operation_in w.kind == 1)) [ inl program ↦ rw (other, program) refl | inr erase ↦ rw (other, erase) refl ]
]

module _ (test : PlainWant → Bool) (timing : Timing) (bits : ℕ) (each : (w : PlainWant) → test w ≡ false → IsStated timing (kind_of w.kind)) where
  are_stated : (wants : List PlainWant) → list_any test wants ≡ false → AreStated timing (wants_of bits wants)
  are_stated [] good = tt
  are_stated (w ∷ wants) good = let (one, more) = both_false (test w) (list_any test wants) good in (each w one, are_stated wants more)

  lun_stated : (lun : PlainLun) → list_any test (members_of lun) ≡ false → IsLunStated timing (state_of bits lun)
  lun_stated lun good = elim (cases_Bool (lun.members == 0)) [ inl free ↦ rw free tt | inr runs ↦ rw runs (are_stated (members_of lun) good) ]

  luns_stated : (luns : List PlainLun) → list_any (λ lun. list_any test (members_of lun)) luns ≡ false → Each (IsLunStated timing) (states_of bits luns)
  luns_stated [] good = tt
  luns_stated (lun ∷ luns) good =
      let (one, more) = both_false (list_any test (members_of lun)) (list_any (λ l. list_any test (members_of l)) luns) good in
      (lun_stated lun one, luns_stated luns more)

pub are_lengths : (channel : PlainChannel) (wants : List PlainWant) (timing : Timing) (bits : ℕ) → HasPosts timing channel.lengths.sectors → have_lacking channel wants ≡ false
    → AreStated timing (wants_of bits wants) × Each (IsLunStated timing) (states_of bits (luns_of channel))
are_lengths channel wants timing bits has lacking =
    let lengths = channel.lengths in
    let luns = luns_of channel in
    let (in_luns, in_wants) = both_false (list_any (has_lacking lengths) luns) (list_any (lacks_length lengths) wants) lacking in
    let each = sectors_stated lengths timing has in
    (are_stated (lacks_length lengths) timing bits each wants in_wants, luns_stated (lacks_length lengths) timing bits each luns in_luns)

pub said_lengths : (channel : PlainChannel) (wants : List PlainWant) (p : Problem) → IsSaid channel wants p → have_lacking channel wants ≡ false → HasLengths p
said_lengths channel wants p said lacking =
    let stated = are_lengths channel wants p.timing channel.rules.plane_bits said.timing.sectors lacking in
    record { wants = subst (AreStated p.timing) (sym said.requests) stated.0; luns = subst (Each (IsLunStated p.timing)) (sym said.states) stated.1 }

-- Lengths stay stated

after_stated : (timing : Timing) (group : List Want) (n ended : ℕ) → AreStated timing group → IsLunStated timing (lun_after timing group n ended)
after_stated timing group n ended stated = elim (cases_Bool (nat_lt (n + 1) (2 * length group))) [ inl more ↦ rw more stated | inr over ↦ rw over tt ]

pub kept_lengths : (p : Problem) (m : Move) (t : ℕ) → HasLengths p → IsMove p m → HasLengths (placed p m t)
kept_lengths p (Next l) t has (g, n, r, at) =
    let stated : AreStated p.timing g = All-has (IsLunStated p.timing) p.luns (Running g n r) has.luns (get_has p.luns l (Running g n r) at) in
    rw at (record { wants = has.wants; luns = All-set (IsLunStated p.timing) p.luns l _ has.luns (after_stated p.timing g n _ stated) })
kept_lengths p (Start ms) t has (since, at, st) =
    let stated : AreStated p.timing ms = All-weaker _ _ (λ m f. All-has (λ w. IsStated p.timing w.kind) p.wants m has.wants (first_has (on_block m) p.wants m f)) ms st.first in
    record {
      wants = All-filter (λ w. IsStated p.timing w.kind) (λ w. not (is_member ms w)) p.wants has.wants;
      luns = All-set (IsLunStated p.timing) p.luns (lun_of ms) _ has.luns (after_stated p.timing ms 0 _ stated);
    }

-- Posts that aren't too long

pub short_posts : (posts : List ℕ) → list_any is_long posts ≡ false → Each (λ post. post < 2 ^ 50) posts
short_posts [] good = tt
short_posts (post ∷ posts) good =
    let (one, more) = both_false (is_long post) (list_any is_long posts) good in
    let short : post < 2 ^ 50 = grind (arith, nat_tests) in
    (short, short_posts posts more)

-- What is given with sectors that have no length

pub lacking_told : (p : Problem) (o : Option ProblemFault) → TellsFault p o → IsBadProblem true p (lacking_status o)
lacking_told p None tells = (tells.0.small, tells.0.problem, refl)
lacking_told p (Some TooMany) tells = tells
lacking_told p (Some BadLun) tells = tells
lacking_told p (Some NoLengths) tells = (tells.0, tells.1, refl)
lacking_told p (Some Clock) tells = (tells.0, tells.1, refl)
lacking_told p (Some Memory) tells = absurd tells

-- .. of a flight with those lengths
pub measured_by : {channel : PlainChannel} {wants : List PlainWant} (f g : Flight) → f ≡ g → IsMeasured channel wants g.now.timing → IsMeasured channel wants f.now.timing
measured_by {channel = channel} {wants = wants} f g is measured = subst (λ (h : Flight). IsMeasured channel wants h.now.timing) (sym is) measured
