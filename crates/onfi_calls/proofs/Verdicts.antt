-- From what is judged of a schedule to what a caller is answered.
use Rattle.std.proofs.Common.{◌≡◌, ◌≤◌, ℕ, List, false, sym, subst, inl, inr, refl, arith, ◌∙◌}
use Rattle.std.specs.Prelude.{◌==◌, IfOk, IfErr, Result, Ok, Err}
use Rattle.std.proofs.lemmas.Bool.{cases_Bool, ne_eqb}
use Rattle.onfi_cert.specs.declared.token.Token.{Token}
use Rattle.onfi_cert.specs.Text.{IsCertificate}
use Rattle.onfi_check.specs.Tree.{AcceptsTokens}
use Rattle.onfi_known_check.specs.Laws.{NoneBefore}
use Rattle.onfi_known_check.specs.Proves.{ProvesTokens}
use Rattle.onfi_known_check.specs.Text.{IsCertificate as IsKnownCertificate}
use Rattle.onfi_known_check.specs.declared.token.Token.{Token as KnownToken}
use Rattle.onfi_problem.specs.Position.{Position}
use Rattle.onfi_problem.specs.Problem.{Problem}
use Rattle.onfi_schedule.specs.Schedule.{Schedule, Legal, Optimal, finish}
use Rattle.onfi_calls.specs.declared.channel.PlainChannel.{PlainChannel}
use Rattle.onfi_calls.specs.declared.channel.PlainWant.{PlainWant}
use Rattle.onfi_calls.specs.declared.refusal.Refusal.{Refusal}
use Rattle.onfi_calls.specs.declared.schedule.PlainSchedule.{PlainSchedule}
use Rattle.onfi_calls.specs.declared.schedule.PlainVerdict.{PlainVerdict}
use Rattle.onfi_calls.specs.Check.{GivesVerdict, IsRefusedBy, IsShown, IsUnshown, accepts, asked, refuses as refuses_it}
use Rattle.onfi_calls.specs.Stand.{IsScheduleSaid}

pub verdict_given : {channel : PlainChannel} {wants : List PlainWant} {schedule : PlainSchedule} {certificate : List ℕ} {verdict : PlainVerdict} {result : ℕ}
    (p : Problem) (s : Schedule) (below : ℕ) (judged : Result ℕ Refusal) → IsScheduleSaid channel wants schedule p s
    → IfOk judged (λ ends. IsShown p s below certificate) → IfOk judged (λ ends. finish p s ≡ ends) → IfErr judged (λ refusal. IsUnshown p s below certificate refusal)
    → IfOk judged (λ ends. (verdict.finish ≡ ends) × (verdict.place ≡ 0) × (result ≡ 0)) → IfErr judged (λ refusal. IsRefusedBy refusal verdict result)
    → GivesVerdict channel wants schedule below certificate verdict result
verdict_given p s below (Ok ends) said shown is told accepted refused = let (at, place, done) = accepted in accepts p s said shown (is ∙ sym at) place done
verdict_given p s below (Err refusal) said shown is told accepted refused = refuses_it p s said refusal told refused

-- the time that is asked about is the one that is named
pub asked_named : (p : Problem) (s : Schedule) (below : ℕ) → (below ≡ 0 → ⊥) → asked p s below ≡ below
asked_named p s below some = let named : (below == 0) ≡ false = ne_eqb below 0 some in rw named refl

-- .. or the schedule's finish, and it is no more than that where the finish is no less than what is named
pub asked_low : (p : Problem) (s : Schedule) (below : ℕ) → below ≤ finish p s → asked p s below ≤ finish p s
asked_low p s below low = elim (cases_Bool (below == 0)) [ inl none ↦ rw none (omega arith) | inr some ↦ rw some low ]

-- a plain certificate shows it
pub shown_plain : (p : Problem) (s : Schedule) (below ends : ℕ) (text : List ℕ) → Optimal p s → finish p s ≡ ends → below ≤ ends
    → ((tokens : List Token) × IsCertificate text p.rules.strict tokens × AcceptsTokens tokens p ends) → IsShown p s below text
shown_plain p s below ends text optimal is low (tokens, certificate, accepted) = record {
  legal = optimal.legal;
  shown = finish p s;
  certificate = inl (tokens, certificate, subst (AcceptsTokens tokens p) (sym is) accepted);
  none_before = optimal.least;
  reaches = asked_low p s below (subst (λ n. below ≤ n) (sym is) low);
  least = omega arith;
}

-- so does one that remembers states, of all the wants that a problem began with
pub shown_known : (x : Position) (s : Schedule) (below at ends : ℕ) (text : List ℕ) → x.all ≡ x.problem.wants → asked x.problem s below ≡ at → Legal x.problem s → finish x.problem s ≡ ends
    → at ≤ ends → NoneBefore x.problem at → ((tokens : List KnownToken) × IsKnownCertificate text x.problem.rules.strict tokens × ProvesTokens x.all tokens x.problem at)
    → IsShown x.problem s below text
shown_known x s below at ends text begun is legal finishes low none (tokens, certificate, proves) = record {
  legal = legal;
  shown = at;
  certificate = inr (tokens, certificate, subst (λ all. ProvesTokens all tokens x.problem at) begun proves);
  none_before = none;
  reaches = omega (arith, is);
  least = subst (λ n. at ≤ n) (sym finishes) low;
}
