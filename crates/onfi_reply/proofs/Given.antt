-- What an inbox gave, and what waits there, are what was popped.
use Rattle.std.proofs.Common.{◌≡◌, ◌-◌, List, [], ◌∷◌, ◌++◌, length, take, sym, refl, ap, ◌∙◌, subst, ⊎_elim, append_assoc, length-append, arith}
use Rattle.std.proofs.lemmas.List.{append-nil, nil_from_length, take_at}
use Rattle.onfi_request.specs.declared.reply.Reply.{Reply}
use Rattle.onfi_reply.specs.Replies.{IsNext}
use Rattle.onfi_reply.specs.Ends.{InboxSeatView, with_popped, given_of, IsWhole}
use Rattle.onfi_reply.proofs.Proper.{split_last, not_nil}

pub given_is : (popped given waiting : List Reply) → popped ≡ given ++ waiting → given_of popped waiting ≡ given
given_is popped given waiting e =
    let n : length popped - length waiting ≡ length given = omega (arith, ap length e, length-append given waiting) in
    (λ i. take (n i) (e i)) ∙ take_at given waiting (length given) refl

-- however what was popped is split before what waits, it is whole
whole_by : (seat : InboxSeatView) (given waiting : List Reply) → seat.popped ≡ given ++ waiting
    → ((before : List Reply) (r : Reply) (behind : List Reply) → waiting ≡ before ++ r ∷ behind → IsNext seat.opened (given ++ before) r) → IsWhole seat waiting
whole_by seat given waiting e next = record {
  split = e ∙ ap (λ (l : List Reply). l ++ waiting) (sym (given_is seat.popped given waiting e));
  next = λ before r behind at. subst (λ (l : List Reply). IsNext seat.opened (l ++ before) r) (sym (given_is seat.popped given waiting e)) (next before r behind at);
}

-- ---- the first of those that wait is given
front_split : (seat : InboxSeatView) (x : Reply) (waiting old : List Reply) → IsWhole seat old → old ≡ x ∷ waiting → seat.popped ≡ (given_of seat.popped old ++ x ∷ []) ++ waiting
front_split seat x waiting old whole is =
    whole.split ∙ ap (λ (l : List Reply). given_of seat.popped old ++ l) is ∙ sym (append_assoc (given_of seat.popped old) (x ∷ []) waiting)

pub front_whole : (seat : InboxSeatView) (x : Reply) (waiting old : List Reply) → IsWhole seat old → old ≡ x ∷ waiting → IsWhole seat waiting
front_whole seat x waiting old whole is =
    whole_by seat (given_of seat.popped old ++ x ∷ []) waiting (front_split seat x waiting old whole is)
    (λ before r behind at. subst (λ (l : List Reply). IsNext seat.opened l r) (sym (append_assoc (given_of seat.popped old) (x ∷ []) before))
    (whole.next (x ∷ before) r behind (is ∙ ap (λ (l : List Reply). x ∷ l) at)))

pub front_next : (seat : InboxSeatView) (x : Reply) (waiting old : List Reply) → IsWhole seat old → old ≡ x ∷ waiting → IsNext seat.opened (given_of seat.popped old) x
front_next seat x waiting old whole is =
    subst (λ (l : List Reply). IsNext seat.opened l x) (append-nil (given_of seat.popped old)) (whole.next [] x waiting is)

-- ---- one more is popped, and waits
taken_split : (seat : InboxSeatView) (x : Reply) (old : List Reply) → IsWhole seat old → seat.popped ++ x ∷ [] ≡ given_of seat.popped old ++ (old ++ x ∷ [])
taken_split seat x old whole = ap (λ (l : List Reply). l ++ x ∷ []) whole.split ∙ append_assoc (given_of seat.popped old) old (x ∷ [])

taken_next : (seat : InboxSeatView) (x : Reply) (old : List Reply) → IsWhole seat old → IsNext seat.opened seat.popped x
    → (before : List Reply) (r : Reply) (behind : List Reply) → old ++ x ∷ [] ≡ before ++ r ∷ behind → IsNext seat.opened (given_of seat.popped old ++ before) r
taken_next seat x old whole next before r behind at =
    ⊎_elim
    (λ (t : (before ≡ old) × (r ≡ x)). subst (λ (y : List Reply × Reply). IsNext seat.opened y.0 y.1) (λ i. ((whole.split ∙ ap (λ (l : List Reply). given_of seat.popped old ++ l) (sym t.0)) i, sym t.1 i)) next)
    (λ (t : (behind' : List Reply) × (old ≡ before ++ r ∷ behind')). whole.next before r t.0 t.1) (split_last old x before r behind at)

pub taken_whole : (seat after : InboxSeatView) (x : Reply) (waiting old : List Reply) → IsWhole seat old → after ≡ with_popped seat x → waiting ≡ old ++ x ∷ [] → IsNext seat.opened seat.popped x → IsWhole after waiting
taken_whole seat after x waiting old whole is longer next =
    subst (λ (y : InboxSeatView × List Reply). IsWhole y.0 y.1) (λ i. (sym is i, sym longer i))
    (whole_by (with_popped seat x) (given_of seat.popped old) (old ++ x ∷ []) (taken_split seat x old whole) (taken_next seat x old whole next))

alone_whole : (seat : InboxSeatView) → IsWhole seat []
alone_whole seat = whole_by seat seat.popped [] (sym (append-nil seat.popped)) (λ before r behind at. absurd (not_nil before r behind at))

pub popped_whole : (seat : InboxSeatView) (waiting : List Reply) → length waiting ≡ 0 → IsWhole seat waiting
popped_whole seat waiting none = subst (λ (l : List Reply). IsWhole seat l) (sym (nil_from_length waiting none)) (alone_whole seat)
