-- What a client wrote it still holds, by what is stored.
use Rattle.std.proofs.Common.{◌≡◌, ◌≢◌, true≢false, ◌<◌, ℕ, true, false}
use Rattle.std.proofs.Common.{List, [], ◌∷◌, length, replicate, refl, sym, ◌∙◌, ap}
use Rattle.std.proofs.Common.{subst, arith, Option, Some, None, IsSome, inl, inr, ◌⊎◌, slice_set}
use Rattle.std.proofs.lemmas.Bool.{cases_eq, cases_lt}
use Rattle.std.proofs.lemmas.List.{get_or_past, get_or-set_other, get_or-set_same}
use Rattle.cb_hands.specs.Hands.{HandState, at_version, held_at, restamped}
use Rattle.cb_hands.specs.Joined.{stored_at}
use Rattle.cb_hands.specs.OwnHand.{all_restamped}
use Rattle.cb_hands.specs.declared.grant.Held.{Held}
use Rattle.cb_laws.specs.RowVersions.{HasRow, WroteByGrant}
use Rattle.cb_protocol.specs.Basics.{IsIn}
use Rattle.cb_protocol.specs.Server.{Server}
use Rattle.cb_station.proofs.Writing.{OfGrant, Written}
use Rattle.cb_station.specs.Written.{HoldsWritten}

-- the stored hand of that client's incarnation holds the page
abbrev pub Holds : List (Option HandState) → OfGrant
Holds hands c i p g = (hand : HandState) → stored_at hands c ≡ Some hand → hand.incarnation ≡ i
    → IsSome (held_at hand.held p)

pub written_of : (s : Server) (hands : List (Option HandState)) → HoldsWritten s hands
    → Written (Holds hands) s
written_of s hands h = record {
  rows = h.rows;
  writes = h.writes;
  held = λ c p g n row w hand e i. h.held c p g n hand e i row w;
}

pub of_written : (s : Server) (hands : List (Option HandState)) → Written (Holds hands) s
    → HoldsWritten s hands
of_written s hands w = record {
  rows = w.rows;
  writes = w.writes;
  held = λ c p g n hand e i row wrote. w.held c p g n row wrote hand e i;
}

-- once one entry was set
pub written_set : (s : Server) (old new : List (Option HandState)) (c : ℕ)
    (entry : Option HandState) → new ≡ slice_set old c entry → c < length old
    → ((hand : HandState) → entry ≡ Some hand → hand.incarnation ≡ (s.session c).current
    → (p g n : ℕ) → HasRow s c p g → WroteByGrant s.commits c (s.session c).current p g n
    → IsSome (held_at hand.held p)) → HoldsWritten s old → HoldsWritten s new
written_set s old new c entry set lt own h = record {
  rows = h.rows;
  writes = h.writes;
  held = λ d p g n hand e i row wrote. by (cases_eq d c) p g n hand e i row wrote;
}
  where
    by : {d : ℕ} → (d ≡ c) ⊎ (d ≢ c) → (p g n : ℕ) (hand : HandState)
        → stored_at new d ≡ Some hand → hand.incarnation ≡ (s.session d).current
        → HasRow s d p g → WroteByGrant s.commits d (s.session d).current p g n
        → IsSome (held_at hand.held p)
    by {d} (inl here) p g n hand e i row wrote =
        own hand
        (sym (get_or-set_same old c entry None lt) ∙ sym (ap (λ (l : List (Option HandState)). stored_at l c) set) ∙ ap (λ (k : ℕ). stored_at new k) (sym here) ∙ e)
        (i ∙ ap (λ (k : ℕ). (s.session k).current) here) p g n
        (subst (λ (k : ℕ). HasRow s k p g) here row)
        (subst (λ (k : ℕ). WroteByGrant s.commits k (s.session k).current p g n) here wrote)
    by {d} (inr apart) p g n hand e i row wrote =
        h.held d p g n hand (sym (get_or-set_other old c d entry None apart) ∙ sym (ap (λ (l : List (Option HandState)). stored_at l d) set) ∙ e) i row wrote

-- nobody is stored, and nothing was committed
pub written_new : (s : Server) (hands : List (Option HandState)) (count : ℕ) → s.commits ≡ []
    → ((c p g : ℕ) → HasRow s c p g → ⊥) → hands ≡ replicate count None → HoldsWritten s hands
written_new s hands count commits none empty = record {
  rows = λ c p g row. absurd (none c p g row);
  writes = λ x i p w e. absurd (subst (λ l. IsIn x l) commits i);
  held = λ c p g n hand e i row wrote. absurd (none c p g row);
}

-- where the server and the hands are the same
pub written_same : (s t : Server) (old new : List (Option HandState)) → t ≡ s → new ≡ old
    → HoldsWritten s old → HoldsWritten t new
written_same s t old new e f h =
    subst (λ (x : Server). HoldsWritten x new) (sym e)
    (subst (λ (l : List (Option HandState)). HoldsWritten s l) (sym f) h)

nothing : IsSome {T = Held} None → ⊥
nothing e = true≢false (sym e)

-- a hand that holds what it held
pub some_set : (held : List (Option Held)) (page p : ℕ) (o : Option Held) → IsSome o
    → IsSome (held_at held p) → IsSome (held_at (slice_set held page o) p)
some_set held page p o some is = elim (cases_eq p page) [
  | inl e ↦ elim (cases_lt page (length held)) [
    | inl lt ↦ subst (λ (k : ℕ). IsSome (held_at (slice_set held page o) k)) (sym e) (subst (λ (x : Option Held). IsSome x) (sym (get_or-set_same held page o None lt)) some)
    | inr le ↦ absurd (nothing (subst (λ (x : Option Held). IsSome x) (get_or_past held p None (omega (arith, le, e))) is))
  ]
  | inr apart ↦ subst (λ (x : Option Held). IsSome x) (sym (get_or-set_other held page p o None apart)) is
]

stamped : (version : ℕ) (o : Option Held) → IsSome o → IsSome (at_version version o)
stamped version (Some held) is = refl
stamped version None is = is

pub all_held : (hand : HandState) (pages : List ℕ) (version p : ℕ) → IsSome (held_at hand.held p)
    → IsSome (held_at (all_restamped hand pages version).held p)
all_held hand [] version p is = is
all_held hand (page ∷ pages) version p is =
    all_held (restamped hand page version) pages version p (one (cases_eq p page))
  where
    one : (p ≡ page) ⊎ (p ≢ page) → IsSome (held_at (restamped hand page version).held p)
    one (inl e) = some_set hand.held page p (at_version version (held_at hand.held page))
        (stamped version (held_at hand.held page) (subst (λ (k : ℕ). IsSome (held_at hand.held k)) e is)) is
    one (inr apart) = subst (λ (x : Option Held). IsSome x) (sym (get_or-set_other hand.held page p (at_version version (held_at hand.held page)) None apart)) is
