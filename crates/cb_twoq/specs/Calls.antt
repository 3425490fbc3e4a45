-- What a history of calls makes of a chooser.
use Rattle.std.specs.Prelude.{◌≡◌, ℕ, Bool, List, [], ◌∷◌, Option, Some, None}
use Rattle.cb_twoq.specs.Queues.{TwoQState, reference, forget}
use Rattle.cb_twoq.specs.declared.chooser.Chooser as chooser
use Rattle.cb_twoq.specs.declared.chooser.ChooserCall.{ChooserCall}
use Rattle.cb_twoq.specs.declared.chooser.ChooserCall.TheVariants.{Reference, Forget}

-- the calls that changed a chooser, the first one first, each with the pages that were fixed then
abbrev pub Calls : Type 0
Calls = List (ChooserCall × List Bool)

-- pages that were referred to, the first one first, each with the pages that were fixed then
abbrev pub References : Type 0
References = List (ℕ × List Bool)

-- the references among these calls
abbrev pub references_in : Calls → References
references_in [] = []
references_in ((Reference page, fixed) ∷ calls) = (page, fixed) ∷ references_in calls
references_in ((Forget page, fixed) ∷ calls) = references_in calls

module _ {Q : Type 0} (choose : chooser.Ghosts Q) where
  -- one call makes this of a chooser
  abbrev pub Makes : (before : Q) → ChooserCall × List Bool → (after : Q) → Type 0
  Makes before (Reference page, fixed) after =
      (gone : Option ℕ) × choose.refers before page fixed gone after
  Makes before (Forget page, fixed) after = choose.takes_out before page after

  -- these calls, one after the other, make this of a chooser
  abbrev pub Leads : (before : Q) → Calls → (after : Q) → Type 0
  Leads before [] after = after ≡ before
  Leads before (call ∷ calls) after =
      (next : Q) × Makes before call next × Leads next calls after

  -- these calls made it of a chooser with as many slots and no members
  pub record IsLed (slots : ℕ) (calls : Calls) (now : Q) : Type 0 where
    pub first : Q
    pub same_slots : choose.slots first ≡ slots
    pub no_members : choose.members first ≡ []
    pub leads : Leads first calls now

-- the queues that a reference answered; these where it is refused
abbrev pub or_these : TwoQState → Option (Option ℕ × TwoQState) → TwoQState
or_these queues None = queues
or_these queues (Some (went, after)) = after

-- the published lists after these calls, one after the other
abbrev pub lists_after : Calls → TwoQState → TwoQState
lists_after [] queues = queues
lists_after ((Reference page, fixed) ∷ calls) queues =
    lists_after calls (or_these queues (reference page fixed queues))
lists_after ((Forget page, fixed) ∷ calls) queues = lists_after calls (forget page queues)
