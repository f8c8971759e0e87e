-- A whole text: its header, and the line after it.
use Rattle.std.proofs.Common.{◌≡◌, ◌⊎◌, ◌≤◌, inl, inr, ℕ, ◌+◌, ◌-◌, List, [], ◌∷◌, ◌++◌, Bool, true, false, cond, length, drop, get_or, refl, sym, ap, ◌∙◌, subst, arith, append_assoc, append-nil, ap₂}
use Rattle.std.specs.Prelude.{Option, Some, None, Result, Ok, Err, All, ◌≢◌, IfOk, IfErr, MatchResult, option_map}
use Rattle.std.proofs.lemmas.Bool.{cases_eq, ne_eqb, eq-eqb}
use Rattle.std.proofs.lemmas.List.Elements.{All-head}
use Rattle.onfi_cert.specs.declared.token.Token.{Token}
use Rattle.onfi_cert.specs.declared.fault.CertTextFault.{CertTextFault}
use Rattle.onfi_cert.specs.declared.fault.CertTextFault.TheVariants as fault
use Rattle.onfi_cert.specs.declared.fault.LineFault.{LineFault}
use Rattle.onfi_cert.specs.declared.fault.LineFault.TheVariants as in_line
use Rattle.onfi_cert.specs.declared.limits.TheConstants.{MOST_TOKENS}
use Rattle.onfi_cert.specs.Text.{InRange, IsCertificate, fronted_of, header, joined_of, line, line_of, text_of}
use Rattle.onfi_cert.specs.Reading.{BeginsWithNeither, EndsBy, Holds, HoldsLine, IsFaultOf, Line, Reads, cert_fault, led}
use Rattle.onfi_cert.specs.Reading.IsWrongAfter.{no_token, no_end, goes_on}
use Rattle.onfi_cert.specs.Ahead.{ahead_of, walk}
use Rattle.onfi_cert.proofs.Fronted.{fronted_line}
use Rattle.onfi_cert.proofs.Language.{IsLanguage, first_byte, other_front}
use Rattle.onfi_cert.proofs.Spellings.{language}
use Rattle.onfi_cert.proofs.Words.{Ends}
use Rattle.onfi_cert.proofs.Walking.{Stops, cut, on, bad, walk_sound, walk_complete}

led_other : (bytes : List ℕ) → bytes ≢ 10 ∷ [] → led bytes ≡ 32 ∷ bytes
led_other [] h = refl
led_other (b ∷ []) h = rw (ne_eqb b 10 (λ e. h (ap (λ x. x ∷ []) e)))
led_other (b ∷ c ∷ rest) h = refl

led_ends : (bytes : List ℕ) → Ends (led bytes)
led_ends [] = inr refl
led_ends (b ∷ []) =
    elim (cases_eq b 10) [
      | inl e ↦ rw (eq-eqb b 10 e) (inl e)
      | inr n ↦ rw (ne_eqb b 10 n) (inr refl)
    ]
led_ends (b ∷ c ∷ rest) = inr refl

cut_front : (x : ℕ) (xs ys : List ℕ) → x ∷ xs ≡ x ∷ ys → xs ≡ ys
cut_front x xs ys e = cc

is_lf : (bytes : List ℕ) → (bytes ≡ 10 ∷ []) ⊎ (bytes ≢ 10 ∷ [])
is_lf [] = inr (λ e. cc)
is_lf (b ∷ []) =
    elim (cases_eq b 10) [
      | inl e ↦ inl (ap (λ x. x ∷ []) e)
      | inr n ↦ inr (λ e. n (ap (λ x. get_or x 0 0) e))
    ]
is_lf (b ∷ c ∷ rest) = inr (λ e. cc)

module _ {T : Type 0} {Kept : T → Type 0} {spelling : T → List ℕ} {token_of : List ℕ → Option T} (k : IsLanguage Kept spelling token_of) (most : ℕ) where
  abbrev joined : List T → List ℕ
  joined ts = joined_of spelling ts

  -- no line of tokens begins with LF
  not_empty : (t : T) (ts : List T) (more : List ℕ) → Kept t → joined (t ∷ ts) ++ more ≢ 10 ∷ []
  not_empty t [] more h e = first_byte k t more h e
  not_empty t (u ∷ ts) more h e = first_byte k t ((32 ∷ joined (u ∷ ts)) ++ more) h (sym (append_assoc (spelling t) (32 ∷ joined (u ∷ ts)) more) ∙ e)

  -- a whole line, and the same with a space in front of each token
  to_line : (bytes : List ℕ) (ts : List T) → led bytes ≡ fronted_of spelling ts ++ 10 ∷ [] → bytes ≡ line_of spelling ts
  to_line bytes ts e = by_lf ts (is_lf bytes) e
    where
      by_lf : (us : List T) → (bytes ≡ 10 ∷ []) ⊎ (bytes ≢ 10 ∷ []) → led bytes ≡ fronted_of spelling us ++ 10 ∷ [] → bytes ≡ line_of spelling us
      by_lf [] (inl f) g = f
      by_lf [] (inr n) g = absurd (other_front 32 10 bytes [] (λ q. omega arith) (sym (led_other bytes n) ∙ g))
      by_lf (t ∷ us) (inl f) g = absurd (other_front 10 32 [] ((spelling t ++ fronted_of spelling us) ++ 10 ∷ []) (λ q. omega arith) (sym (ap led f) ∙ g))
      by_lf (t ∷ us) (inr n) g = cut_front 32 bytes (line_of spelling (t ∷ us)) (sym (led_other bytes n) ∙ g ∙ fronted_line spelling t us (10 ∷ []))

  from_line : (ts : List T) → All Kept ts → led (line_of spelling ts) ≡ fronted_of spelling ts ++ 10 ∷ []
  from_line [] h = refl
  from_line (t ∷ ts) h =
      led_other (line_of spelling (t ∷ ts)) (not_empty t ts (10 ∷ []) (All-head Kept t ts h)) ∙ sym (fronted_line spelling t ts (10 ∷ []))

  at_tail : (bytes : List ℕ) (ts : List T) {tail rest : List ℕ} → led bytes ≡ fronted_of spelling ts ++ tail → tail ≡ rest → led bytes ≡ fronted_of spelling ts ++ rest
  at_tail bytes ts same e = same ∙ ap (λ x. fronted_of spelling ts ++ x) e

  -- how a line ends, from how its walk stops
  ends_by : (bytes : List ℕ) (ts : List T) (e : Option LineFault) (tail : List ℕ) → led bytes ≡ fronted_of spelling ts ++ tail
      → Stops Kept spelling most (length ts) e tail → EndsBy Kept spelling most ts bytes e
  ends_by bytes ts None tail same s = to_line bytes ts (at_tail bytes ts same s)
  ends_by bytes ts (Some (in_line.BadToken p)) tail same (at, cut e) = (at, no_end (at_tail bytes ts same e ∙ append-nil (fronted_of spelling ts)))
  ends_by bytes ts (Some (in_line.BadToken p)) tail same (at, on b more e) = (at, goes_on b more (at_tail bytes ts same e))
  ends_by bytes ts (Some (in_line.BadToken p)) tail same (at, bad more e none h) = (at, no_token more (at_tail bytes ts same e) none h)
  ends_by bytes ts (Some in_line.TooLong) tail same s = (s.0, (s.1.0, at_tail bytes ts same s.1.1))

  -- how its walk stops, from how a line ends
  stops_by : (ts : List T) (bytes : List ℕ) (e : Option LineFault) → All Kept ts → EndsBy Kept spelling most ts bytes e
      → (tail : List ℕ) × (led bytes ≡ fronted_of spelling ts ++ tail) × Stops Kept spelling most (length ts) e tail
  stops_by ts bytes None h same = (10 ∷ [], ap led same ∙ from_line ts h, refl)
  stops_by ts bytes (Some (in_line.BadToken p)) h (at, no_token rest same none room) = (32 ∷ rest, same, (at, bad rest refl none room))
  stops_by ts bytes (Some (in_line.BadToken p)) h (at, no_end same) = ([], same ∙ sym (append-nil (fronted_of spelling ts)), (at, cut refl))
  stops_by ts bytes (Some (in_line.BadToken p)) h (at, goes_on b more same) = (10 ∷ b ∷ more, same, (at, on b more refl))
  stops_by ts bytes (Some in_line.TooLong) h s = (32 ∷ s.1.0, s.1.1, (s.0, (s.1.0, refl)))

  all_ahead : (bytes : List ℕ) → ahead_of token_of most 0 bytes ≡ walk token_of most (most + 1) 0 (led bytes)
  unfolding ahead_of
  all_ahead bytes = let room : most + 1 - 0 ≡ most + 1 = omega arith in ap (λ n. walk token_of most n 0 (led bytes)) room

  -- what follows a header is what the text holds
  pub start_holds : (head : Bool → List ℕ) (strict : Bool) (text bytes : List ℕ) → text ≡ head strict ++ bytes
      → HoldsLine head Kept spelling most text strict (ahead_of token_of most 0 bytes)
  start_holds head strict text bytes e =
      let s = walk_sound k most (most + 1) 0 (led bytes) (omega arith) (omega arith) (led_ends bytes) in
      let l = walk token_of most (most + 1) 0 (led bytes) in
      let count : 0 + length l.tokens ≡ length l.tokens = omega arith in
      subst (HoldsLine head Kept spelling most text strict) (sym (all_ahead bytes)) (record {
        in_range = s.in_range;
        few = omega (arith, s.few);
        bytes = bytes;
        spelled = e;
        ends = ends_by bytes l.tokens l.fault s.tail s.spelled (subst (λ n. Stops Kept spelling most n l.fault s.tail) count s.stops);
      })

  held : (a : Line T) (bytes : List ℕ) → All Kept a.tokens → length a.tokens ≤ most → EndsBy Kept spelling most a.tokens bytes a.fault
      → ahead_of token_of most 0 bytes ≡ a
  held a bytes h few ends =
      let ts = a.tokens in
      let s = stops_by ts bytes a.fault h ends in
      let count : length ts ≡ 0 + length ts = omega arith in
      all_ahead bytes
      ∙ ap (walk token_of most (most + 1) 0) s.1
      ∙ walk_complete k most ts (most + 1) 0 a.fault s.0 (omega arith) h (omega arith) (subst (λ n. Stops Kept spelling most n a.fault s.0) count s.2)

  -- a text holds one thing, where one header isn't the beginning of the other
  pub holds_once : (head : Bool → List ℕ) (text : List ℕ) (s r : Bool) (a b : Line T)
      → ((x y : Bool) (xs ys : List ℕ) → head x ++ xs ≡ head y ++ ys → (x ≡ y) × (xs ≡ ys))
      → HoldsLine head Kept spelling most text s a → HoldsLine head Kept spelling most text r b → (s ≡ r) × (a ≡ b)
  holds_once head text s r a b apart h j =
      let same = apart s r h.bytes j.bytes (sym h.spelled ∙ j.spelled) in
      (same.0, sym (held a h.bytes h.in_range h.few h.ends) ∙ ap (ahead_of token_of most 0) same.1 ∙ held b j.bytes j.in_range j.few j.ends)

same_header : (s r : Bool) (x y : List ℕ) → header s ++ x ≡ header r ++ y → (s ≡ r) × (x ≡ y)
same_header true true x y e = (refl, ap (drop 18) e)
same_header false false x y e = (refl, ap (drop 11) e)
same_header true false x y e = absurd (let differ : 50 ≡ 49 = ap (λ l. get_or l 9 0) e in omega arith)
same_header false true x y e = absurd (let differ : 49 ≡ 50 = ap (λ l. get_or l 9 0) e in omega arith)

one_line : (text : List ℕ) (s r : Bool) (a b : Line Token) → Holds text s a → Holds text r b → (s ≡ r) × (a ≡ b)
one_line text s r a b h j = holds_once language MOST_TOKENS header text s r a b same_header h j

abbrev whole : List Token → Line Token
whole tokens = record { tokens = tokens; fault = None }

certificate_holds : (text : List ℕ) (strict : Bool) (tokens : List Token) → IsCertificate text strict tokens → Holds text strict (whole tokens)
certificate_holds text strict tokens c = record { in_range = c.in_range; few = c.few; bytes = line tokens; spelled = c.spelled; ends = refl }

pub one_certificate : (text : List ℕ) (s r : Bool) (ts us : List Token) → IsCertificate text s ts → IsCertificate text r us → (s ≡ r) × (ts ≡ us)
one_certificate text s r ts us c d =
    let same = one_line text s r (whole ts) (whole us) (certificate_holds text s ts c) (certificate_holds text r us d) in
    (same.0, ap (λ (a : Line Token). a.tokens) same.1)

-- what the text holds, where this is its fault
fault_holds : (text : List ℕ) (strict : Bool) (a : Line Token) (e : CertTextFault) → Holds text strict a → IsFaultOf text e
    → option_map cert_fault a.fault ≡ Some e
fault_holds text strict a e h (inl (at, none)) = absurd (none strict h.bytes h.spelled)
fault_holds text strict a e h (inr (r, b, j, f)) = ap (λ (x : Line Token). option_map cert_fault x.fault) (one_line text strict r a b h j).1 ∙ f

pub no_fault : (text : List ℕ) (strict : Bool) (tokens : List Token) (e : CertTextFault) → IsCertificate text strict tokens → IsFaultOf text e → ⊥
no_fault text strict tokens e c f =
    let known = fault_holds text strict (whole tokens) e (certificate_holds text strict tokens c) f in
    absurd (let differ : None ≡ Some e = known in cc)

same_some : (e f : CertTextFault) → Some e ≡ Some f → e ≡ f
same_some e f h = cc

pub one_fault : (text : List ℕ) (e f : CertTextFault) → IsFaultOf text e → IsFaultOf text f → e ≡ f
one_fault text e f (inl (at, none)) (inl (there, _)) = at ∙ sym there
one_fault text e f (inl (at, none)) (inr (r, b, j, g)) = absurd (none r j.bytes j.spelled)
one_fault text e f (inr (r, b, j, g)) k = same_some _ _ (sym g ∙ fault_holds text r b f j k)

pub neither : (plain strict text : List ℕ) → ((rest : List ℕ) → text ≢ plain ++ rest) → ((rest : List ℕ) → text ≢ strict ++ rest)
    → BeginsWithNeither (λ option. cond option strict plain) text
neither plain strict text one other true = other
neither plain strict text one other false = one

pub read_again : (strict : Bool) (tokens : List Token) → All InRange tokens → length tokens ≤ MOST_TOKENS → (answer : Result (Bool × List Token) CertTextFault)
    → Reads (text_of strict tokens) answer → (answer ≡ Ok (strict, tokens)) ⊎ (answer ≡ Err fault.Memory)
read_again strict tokens h few (Ok r) c =
    let same = one_certificate (text_of strict tokens) r.0 strict r.1 tokens c (record { in_range = h; few = few; spelled = refl }) in
    inl (ap₂ (λ s ts. Ok (s, ts)) same.0 same.1)
read_again strict tokens h few (Err e) (inl m) = inr (ap Err m)
read_again strict tokens h few (Err e) (inr f) =
    absurd (no_fault (text_of strict tokens) strict tokens e (record { in_range = h; few = few; spelled = refl }) f)

-- an answer of `read` to the text of these tokens
pub again : (text : List ℕ) {X : Type 0} (items : X → List Token) (r : Result (Bool × X) CertTextFault) → IfOk r (λ p. IsCertificate text p.0 (items p.1))
    → IfErr r (λ e. (e ≡ fault.Memory) ⊎ IsFaultOf text e) → (strict : Bool) (tokens : List Token) → IsCertificate text strict tokens
    → MatchResult r (λ p. (p.0 ≡ strict) × (items p.1 ≡ tokens)) (λ e. e ≡ fault.Memory)
again text items (Ok p) c f strict tokens d = one_certificate text p.0 strict (items p.1) tokens c d
again text items (Err e) c (inl m) strict tokens d = m
again text items (Err e) c (inr f) strict tokens d = absurd (no_fault text strict tokens e d f)
