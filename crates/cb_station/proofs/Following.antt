-- A hand and what is stored of it, through several changes.
use Rattle.std.proofs.Common.{◌≡◌, ◌<◌, ℕ, suc, ◌+◌, List, ◌∷◌, length, drop, drop-cons, sym, ◌∙◌, ap, arith, Option, Some, None, inl, inr, slice_set, get_or}
use Rattle.std.proofs.lemmas.Bool.{cases_lt}
use Rattle.std.proofs.lemmas.List.{get_or_past, get_or-set_same, length-set, set-get_or, set-set}
use Rattle.cb_hands.specs.OwnHand.{all_restamped}
use Rattle.cb_hands.specs.Hands.{HandState, held_at, restamped}
use Rattle.cb_hands.specs.declared.grant.Held.{Held}
use Rattle.cb_hands.specs.Joined.{Follow, IsHeld, stored_at}

-- who is stored has a place
pub has_place : (hands : List (Option HandState)) (client : ℕ) (hand : HandState) → stored_at hands client ≡ Some hand → client < length hands
has_place hands client hand e = elim (cases_lt client (length hands)) [
  | inl lt ↦ lt
  | inr le ↦ absurd (let z : None ≡ Some hand = sym (get_or_past hands client None le) ∙ e in cc)
]

-- nothing changes
pub follow_same : (hands : List (Option HandState)) (hand : HandState) → IsHeld hands hand → Follow hands hands hand hand
follow_same hands hand held = record {
  hands = sym (set-get_or hands hand.client None) ∙ ap (λ (o : Option HandState). slice_set hands hand.client o) held;
  held = held;
}

-- one change after another
pub follow_then : (a b c : List (Option HandState)) (one two three : HandState) → Follow a b one two → Follow b c two three → two.client ≡ one.client → Follow a c one three
follow_then a b c one two three first second name = record {
  hands = second.hands ∙ ap (λ (k : ℕ). slice_set b k (Some three)) name ∙ ap (λ (l : List (Option HandState)). slice_set l one.client (Some three)) first.hands
      ∙ set-set a one.client (Some two) (Some three);
  held = second.held;
}

-- who has just joined is stored
pub joined_held : (old new : List (Option HandState)) (client : ℕ) (hand : HandState) → hand.client ≡ client → client < length old → new ≡ slice_set old client (Some hand) → IsHeld new hand
joined_held old new client hand name lt joined =
    ap (λ (l : List (Option HandState)). stored_at l hand.client) joined ∙ ap (λ (k : ℕ). stored_at (slice_set old client (Some hand)) k) name
    ∙ get_or-set_same old client (Some hand) None lt

-- and where it leaves again, all is as it was
pub left_again : (old mid new : List (Option HandState)) (client : ℕ) (hand : HandState) → hand.client ≡ client → stored_at old client ≡ None → mid ≡ slice_set old client (Some hand) → new ≡ slice_set mid hand.client None → new ≡ old
left_again old mid new client hand name none joined left =
    let nobody : Option HandState = None in
    left ∙ ap (λ (k : ℕ). slice_set mid k nobody) name ∙ ap (λ (l : List (Option HandState)). slice_set l client nobody) joined ∙ set-set old client (Some hand) nobody
    ∙ ap (λ (o : Option HandState). slice_set old client o) (sym none) ∙ set-get_or old client None

-- as many clients
pub follow_length : (a b : List (Option HandState)) (one two : HandState) → Follow a b one two → length b ≡ length a
follow_length a b one two follow = ap length follow.hands ∙ length-set a one.client (Some two)

-- what is held has a place
pub held_place : (held : List (Option Held)) (page : ℕ) (copy : Held) → held_at held page ≡ Some copy → page < length held
held_place held page copy e = elim (cases_lt page (length held)) [
  | inl lt ↦ lt
  | inr le ↦ absurd (let z : None ≡ Some copy = sym (get_or_past held page None le) ∙ e in cc)
]

-- one page more is restamped
pub restamp_left : (before after all : HandState) (pages : List ℕ) (i version page : ℕ) → i < length pages → page ≡ get_or pages i page → after ≡ restamped before page version
    → all_restamped before (drop i pages) version ≡ all → all_restamped after (drop (i + 1) pages) version ≡ all
restamp_left before after all pages i version page lt is e left =
    ap (λ (h : HandState). all_restamped h (drop (i + 1) pages) version) e ∙ ap (λ (ps : List ℕ). all_restamped before ps version) (sym first) ∙ left
  where
    next : suc i ≡ i + 1
    next = omega arith

    first : drop i pages ≡ page ∷ drop (i + 1) pages
    first = drop-cons pages i page lt ∙ ap (λ (p : ℕ). p ∷ drop (suc i) pages) (sym is) ∙ ap (λ (k : ℕ). page ∷ drop k pages) next
