-- Histories of calls, one call longer, and what they make of 2Q.
use Rattle.std.proofs.Common.{◌≡◌, ℕ, Bool, List, [], ◌∷◌, ◌++◌, Some, refl, sym, subst, ap, ◌∙◌}
use Rattle.cb_twoq.specs.declared.chooser.Chooser as chooser
use Rattle.cb_twoq.specs.declared.chooser.ChooserCall.{ChooserCall}
use Rattle.cb_twoq.specs.Calls.{Calls, IsLed, Leads, Makes, lists_after, or_these, references_in}
use Rattle.cb_twoq.specs.declared.chooser.ChooserCall.TheVariants.{Forget, Reference}
use Rattle.cb_twoq.specs.Queues.{TwoQState, forget, members_of, reference}

module _ {Q : Type 0} (choose : chooser.Ghosts Q) where
  -- one call more
  leads_more : (first last now : Q) (calls : Calls) (call : ChooserCall × List Bool) → Leads choose first calls last → Makes choose last call now
      → Leads choose first (calls ++ call ∷ []) now
  leads_more first last now [] call leads makes = (now, subst (λ q. Makes choose q call now) leads makes, refl)
  leads_more first last now (one ∷ calls) call leads makes = (leads.0, leads.1, leads_more leads.0 last now calls call leads.2 makes)

  pub led_on : (slots : ℕ) (calls : Calls) (last now : Q) (call : ChooserCall × List Bool) → IsLed choose slots calls last → Makes choose last call now
      → IsLed choose slots (calls ++ call ∷ []) now
  led_on slots calls last now call led makes = record {
    first = led.first;
    same_slots = led.same_slots;
    no_members = led.no_members;
    leads = leads_more led.first last now calls call led.leads makes;
  }

-- a reference is one more, a removal is none
pub refers_more : (calls : Calls) (page : ℕ) (fixed : List Bool) → references_in (calls ++ (Reference page, fixed) ∷ []) ≡ references_in calls ++ (page, fixed) ∷ []
refers_more [] page fixed = refl
refers_more ((Reference other, was) ∷ calls) page fixed = ap (λ rest. (other, was) ∷ rest) (refers_more calls page fixed)
refers_more ((Forget other, was) ∷ calls) page fixed = refers_more calls page fixed

pub refers_none : (calls : Calls) (page : ℕ) (fixed : List Bool) → references_in (calls ++ (Forget page, fixed) ∷ []) ≡ references_in calls
refers_none [] page fixed = refl
refers_none ((Reference other, was) ∷ calls) page fixed = ap (λ rest. (other, was) ∷ rest) (refers_none calls page fixed)
refers_none ((Forget other, was) ∷ calls) page fixed = refers_none calls page fixed

-- 2Q as a chooser
abbrev pub two_q : chooser.Ghosts TwoQState
two_q = record {
  members = members_of;
  slots = λ queues. queues.slots;
  refers = λ before page fixed gone after. reference page fixed before ≡ Some (gone, after);
  takes_out = λ before page after. after ≡ forget page before;
}

pub makes_lists : (first now : TwoQState) (calls : Calls) → Leads two_q first calls now → now ≡ lists_after calls first
makes_lists first now [] leads = leads
makes_lists first now ((Reference page, fixed) ∷ calls) leads =
    makes_lists leads.0 now calls leads.2 ∙ ap (λ q. lists_after calls (or_these first q)) (sym leads.1.1)
makes_lists first now ((Forget page, fixed) ∷ calls) leads = makes_lists leads.0 now calls leads.2 ∙ ap (lists_after calls) leads.1
