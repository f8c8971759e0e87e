-- Reading a line token by token.
use Rattle.std.proofs.Common.{◌≡◌, ◌<◌, ◌≤◌, inl, inr, ℕ, zero, suc, ◌+◌, ◌-◌, List, [], ◌∷◌, ◌++◌, Bool, cond, length, refl, sym, ap, ◌∙◌, subst, arith, append_assoc}
use Rattle.std.specs.Prelude.{Option, Some, None, Result, Ok, Err, All, nat_lt}
use Rattle.std.proofs.lemmas.Bool.{cases_lt, lt-ltb, le-ltb, ne_eqb}
use Rattle.std.proofs.lemmas.List.Elements.{All-nil, All-cons, All-head, All-tail}
use Rattle.onfi_cert.specs.declared.fault.LineFault.{LineFault}
use Rattle.onfi_cert.specs.declared.fault.LineFault.TheVariants as fault
use Rattle.onfi_cert.specs.Word.{NoToken, behind_word, word}
use Rattle.onfi_cert.specs.Reading.{Line}
use Rattle.onfi_cert.specs.Ahead.{ahead_of, found, from, later, next_of, step, token_in, walk, walked}
use Rattle.onfi_cert.specs.Text.{fronted_of}
use Rattle.onfi_cert.proofs.Fronted.{fronted_ends}
use Rattle.onfi_cert.proofs.Language.{IsLanguage, front_token, no_token, no_token_of, token_in_front}
use Rattle.onfi_cert.proofs.Words.{Ends, behind_word_ends}

module _ {T : Type 0} (token_of : List ℕ → Option T) (most : ℕ) where
  abbrev behind : ℕ → List ℕ → Line T
  behind place text = walk token_of most (most + 1 - (place + 1)) (place + 1) text

  ahead_is : (place : ℕ) (text : List ℕ) {r : Result (Option (T × List ℕ)) LineFault} {line : Line T} → place ≤ most
      → r ≡ step token_of most place (from place text) → ahead_of token_of most place text ≡ line → line ≡ walked r (behind place)
  unfolding ahead_of walk
  ahead_is place text h e same =
      let more : most + 1 - place ≡ suc (most + 1 - (place + 1)) = omega arith in
      sym same ∙ ap (λ n. walk token_of most n place (from place text)) more ∙ ap (λ s. walked s (behind place)) (sym e)

  later_is : (place : ℕ) (rest : List ℕ) → ahead_of token_of most (place + 1) rest ≡ behind place rest
  unfolding ahead_of
  later_is place rest =
      let same : from (place + 1) rest ≡ rest = rw (ne_eqb (place + 1) 0 (λ e. omega arith)) in
      ap (behind place) same

  -- a token is given
  pub gives_token : (place : ℕ) (text : List ℕ) {rest : List ℕ} {t : T} {line : Line T} → place ≤ most
      → Ok (Some (t, rest)) ≡ step token_of most place (from place text)
      → ahead_of token_of most place text ≡ line → (Ok (Some t) ≡ next_of line) × (ahead_of token_of most (place + 1) rest ≡ later line)
  gives_token place text {rest} h e same = let is = ahead_is place text h e same in (sym (ap next_of is), later_is place rest ∙ sym (ap later is))

  -- the end is reported
  pub gives_end : (place : ℕ) (text : List ℕ) {line : Line T} → place ≤ most → Ok None ≡ step token_of most place (from place text)
      → ahead_of token_of most place text ≡ line → (Ok None ≡ next_of line) × (line ≡ later line)
  gives_end place text h e same = let is = ahead_is place text h e same in (sym (ap next_of is), is ∙ sym (ap later is))

  -- a fault is reported
  pub gives_fault : (place : ℕ) (text : List ℕ) {fault : LineFault} {line : Line T} → place ≤ most → Err fault ≡ step token_of most place (from place text)
      → ahead_of token_of most place text ≡ line → (Err fault ≡ next_of line) × (line ≡ later line)
  gives_fault place text h e same = let is = ahead_is place text h e same in (sym (ap next_of is), is ∙ sym (ap later is))

-- what is wrong after n tokens
pub data Wrong {T : Type 0} (Kept : T → Type 0) (spelling : T → List ℕ) (most n : ℕ) (tail : List ℕ) : Type 0 where
  cut : tail ≡ [] → Wrong Kept spelling most n tail
  on : (b : ℕ) (more : List ℕ) → tail ≡ 10 ∷ b ∷ more → Wrong Kept spelling most n tail
  bad : (more : List ℕ) → tail ≡ 32 ∷ more → NoToken Kept spelling (word more) → n < most → Wrong Kept spelling most n tail

-- how a line stops after n tokens
abbrev pub Stops : {T : Type 0} → (T → Type 0) → (T → List ℕ) → ℕ → ℕ → Option LineFault → List ℕ → Type 0
Stops Kept spelling most n None tail = tail ≡ 10 ∷ []
Stops Kept spelling most n (Some (fault.BadToken place)) tail = (place ≡ n) × Wrong Kept spelling most n tail
Stops Kept spelling most n (Some fault.TooLong) tail = (n ≡ most) × ((more : List ℕ) × (tail ≡ 32 ∷ more))

pub record Sound {T : Type 0} (Kept : T → Type 0) (spelling : T → List ℕ) (most place : ℕ) (text : List ℕ) (l : Line T) : Type 0 where
  pub in_range : All Kept l.tokens
  pub few : place + length l.tokens ≤ most
  pub tail : List ℕ
  pub spelled : text ≡ fronted_of spelling l.tokens ++ tail
  pub stops : Stops Kept spelling most (place + length l.tokens) l.fault tail

module _ {T : Type 0} {Kept : T → Type 0} {spelling : T → List ℕ} {token_of : List ℕ → Option T} (k : IsLanguage Kept spelling token_of) (most : ℕ) where
  abbrev Is : ℕ → List ℕ → Line T → Type 0
  Is place text line = Sound Kept spelling most place text line

  stopped : (place : ℕ) (text : List ℕ) (e : Option LineFault) → place ≤ most → Stops Kept spelling most place e text
      → Is place text (record { tokens = []; fault = e })
  stopped place text e h s =
      let same : place ≡ place + 0 = omega arith in
      record {
        in_range = All-nil Kept;
        few = omega arith;
        tail = text;
        spelled = refl;
        stops = subst (λ n. Stops Kept spelling most n e text) same s;
      }

  step_space : (place : ℕ) (rest : List ℕ) → step token_of most place (32 ∷ rest) ≡ cond (nat_lt place most) (token_in token_of place rest) (Err fault.TooLong)
  step_space place [] = refl
  step_space place (b ∷ rest) = refl

  longer : (place : ℕ) (rest : List ℕ) (t : T) (l : Line T) → token_of (word rest) ≡ Some t → Is (place + 1) (behind_word rest) l
      → Is place (32 ∷ rest) (record { tokens = t ∷ l.tokens; fault = l.fault })
  longer place rest t l e s =
      let front = front_token k t rest e in
      let count : place + 1 + length l.tokens ≡ place + suc (length l.tokens) = omega arith in
      record {
        in_range = All-cons Kept t l.tokens front.0 s.in_range;
        few = omega (arith, s.few);
        tail = s.tail;
        spelled = ap (λ x. 32 ∷ x) (front.1 ∙ ap (λ x. spelling t ++ x) s.spelled ∙ sym (append_assoc (spelling t) (fronted_of spelling l.tokens) s.tail));
        stops = subst (λ n. Stops Kept spelling most n l.fault s.tail) count s.stops;
      }

  at_token : (place : ℕ) (rest : List ℕ) (next : List ℕ → Line T) (o : Option T) → place < most → token_of (word rest) ≡ o
      → Is (place + 1) (behind_word rest) (next (behind_word rest)) → Is place (32 ∷ rest) (walked (found place o (behind_word rest)) next)
  at_token place rest next None h e s = stopped place (32 ∷ rest) (Some (fault.BadToken place)) (omega arith) (refl, bad rest refl (no_token k (word rest) e) h)
  at_token place rest next (Some t) h e s = longer place rest t (next (behind_word rest)) e s

  at_space : (place : ℕ) (rest : List ℕ) (next : List ℕ → Line T) → place ≤ most
      → (place < most → Is (place + 1) (behind_word rest) (next (behind_word rest))) → Is place (32 ∷ rest) (walked (step token_of most place (32 ∷ rest)) next)
  at_space place rest next h s =
      let here = step_space place rest in
      let P : Result (Option (T × List ℕ)) LineFault → Type 0 = λ r. Is place (32 ∷ rest) (walked r next) in
      let Q : Bool → Type 0 = λ b. P (cond b (token_in token_of place rest) (Err fault.TooLong)) in
      subst P (sym here) (elim (cases_lt place most) [
        | inl below ↦ subst Q (sym (lt-ltb place most below)) (at_token place rest next (token_of (word rest)) below refl (s below))
        | inr above ↦
            let full : place ≡ most = omega arith in
            subst Q (sym (le-ltb place most above)) (stopped place (32 ∷ rest) (Some fault.TooLong) h (full, (rest, refl)))
      ])

  at_end : (place b : ℕ) (rest : List ℕ) (next : List ℕ → Line T) → place ≤ most → b ≡ 10
      → Is place (b ∷ rest) (walked (step token_of most place (b ∷ rest)) next)
  at_end place b [] next h e =
      let P : ℕ → Type 0 = λ x. Is place (x ∷ []) (walked (step token_of most place (x ∷ [])) next) in
      subst P (sym e) (stopped place (10 ∷ []) None h refl)
  at_end place b (c ∷ rest) next h e =
      let P : ℕ → Type 0 = λ x. Is place (x ∷ c ∷ rest) (walked (step token_of most place (x ∷ c ∷ rest)) next) in
      subst P (sym e) (stopped place (10 ∷ c ∷ rest) (Some (fault.BadToken place)) h (refl, on c rest refl))

  -- what is read stands there
  pub walk_sound : (n place : ℕ) (text : List ℕ) → place + n ≡ most + 1 → place ≤ most → Ends text → Is place text (walk token_of most n place text)
  unfolding walk
  walk_sound zero place text all h ends = absurd (omega arith)
  walk_sound (suc n) place [] all h ends = stopped place [] (Some (fault.BadToken place)) h (refl, cut refl)
  walk_sound (suc n) place (b ∷ rest) all h (inl e) = at_end place b rest (walk token_of most n (place + 1)) h e
  walk_sound (suc n) place (b ∷ rest) all h (inr e) =
      let P : ℕ → Type 0 = λ x. Is place (x ∷ rest) (walked (step token_of most place (x ∷ rest)) (walk token_of most n (place + 1))) in
      let below : place + 1 + n ≡ most + 1 = omega arith in
      let next = walk token_of most n (place + 1) in
      subst P (sym e) (at_space place rest next h (λ room. walk_sound n (place + 1) (behind_word rest) below (omega arith) (behind_word_ends rest)))

  stops_end : (n : ℕ) (e : Option LineFault) (tail : List ℕ) → Stops Kept spelling most n e tail → Ends tail
  stops_end n None tail s = subst Ends (sym s) (inl refl)
  stops_end n (Some (fault.BadToken p)) tail (s, cut e) = subst Ends (sym e) tt
  stops_end n (Some (fault.BadToken p)) tail (s, on b more e) = subst Ends (sym e) (inl refl)
  stops_end n (Some (fault.BadToken p)) tail (s, bad more e none h) = subst Ends (sym e) (inr refl)
  stops_end n (Some fault.TooLong) tail s = subst Ends (sym s.1.1) (inr refl)

  abbrev stop : Option LineFault → Line T
  stop e = record { tokens = []; fault = e }

  -- a line that stops here is read so
  stop_again : (place n : ℕ) (e : Option LineFault) (tail : List ℕ) (next : List ℕ → Line T) → place ≡ n → Stops Kept spelling most n e tail
      → walked (step token_of most place tail) next ≡ stop e
  stop_again place n None tail next same s = ap (λ x. walked (step token_of most place x) next) s
  stop_again place n (Some (fault.BadToken p)) tail next same (at, cut e) =
      let here : place ≡ p = omega arith in
      ap (λ x. walked (step token_of most place x) next) e ∙ ap (λ q. stop (Some (fault.BadToken q))) here
  stop_again place n (Some (fault.BadToken p)) tail next same (at, on b more e) =
      let here : place ≡ p = omega arith in
      ap (λ x. walked (step token_of most place x) next) e ∙ ap (λ q. stop (Some (fault.BadToken q))) here
  stop_again place n (Some (fault.BadToken p)) tail next same (at, bad more e none h) =
      let here : place ≡ p = omega arith in
      let below : place < most = omega arith in
      ap (λ x. walked (step token_of most place x) next) e
      ∙ ap (λ r. walked r next) (step_space place more)
      ∙ ap (λ b. walked (cond b (token_in token_of place more) (Err fault.TooLong)) next) (lt-ltb place most below)
      ∙ ap (λ o. walked (found place o (behind_word more)) next) (no_token_of k (word more) none)
      ∙ ap (λ q. stop (Some (fault.BadToken q))) here
  stop_again place n (Some fault.TooLong) tail next same s =
      let more = s.1.0 in
      let full : most ≤ place = omega (arith, s.0) in
      ap (λ x. walked (step token_of most place x) next) s.1.1
      ∙ ap (λ r. walked r next) (step_space place more)
      ∙ ap (λ b. walked (cond b (token_in token_of place more) (Err fault.TooLong)) next) (le-ltb place most full)

  token_again : (place : ℕ) (t : T) (text rest : List ℕ) (next : List ℕ → Line T) (l : Line T) → place < most → Kept t → Ends rest → text ≡ spelling t ++ rest
      → next rest ≡ l → walked (step token_of most place (32 ∷ text)) next ≡ record { tokens = t ∷ l.tokens; fault = l.fault }
  token_again place t text rest next l h kept ends e f =
      let front = token_in_front k t text rest kept ends e in
      let With : Line T → Line T = λ m. record { tokens = t ∷ m.tokens; fault = m.fault } in
      ap (λ r. walked r next) (step_space place text)
      ∙ ap (λ b. walked (cond b (token_in token_of place text) (Err fault.TooLong)) next) (lt-ltb place most h)
      ∙ ap (λ o. walked (found place o (behind_word text)) next) front.0
      ∙ ap (λ r. With (next r)) front.1
      ∙ ap With f

  -- what stands there is read
  pub walk_complete : (ts : List T) (n place : ℕ) (e : Option LineFault) (tail : List ℕ) → place + n ≡ most + 1 → All Kept ts → place + length ts ≤ most
      → Stops Kept spelling most (place + length ts) e tail → walk token_of most n place (fronted_of spelling ts ++ tail) ≡ record { tokens = ts; fault = e }
  unfolding walk
  walk_complete ts zero place e tail all h few s = absurd (omega arith)
  walk_complete [] (suc n) place e tail all h few s =
      let same : place ≡ place + 0 = omega arith in
      stop_again place (place + 0) e tail (walk token_of most n (place + 1)) same s
  walk_complete (t ∷ ts) (suc n) place e tail all h few s =
      let below : place + 1 + n ≡ most + 1 = omega arith in
      let count : place + suc (length ts) ≡ place + 1 + length ts = omega arith in
      let further = subst (λ m. Stops Kept spelling most m e tail) count s in
      let ends = fronted_ends spelling ts tail (stops_end _ e tail s) in
      let next = walk token_of most n (place + 1) in
      let read = walk_complete ts n (place + 1) e tail below (All-tail Kept t ts h) (omega arith) further in
      let rest = fronted_of spelling ts ++ tail in
      let whole = append_assoc (spelling t) (fronted_of spelling ts) tail in
      let kept = All-head Kept t ts h in
      token_again place t ((spelling t ++ fronted_of spelling ts) ++ tail) rest next (record { tokens = ts; fault = e }) (omega arith) kept ends whole read
