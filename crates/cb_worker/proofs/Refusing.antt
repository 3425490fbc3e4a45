-- Why a worker's calls are refused.
use Rattle.std.proofs.Common.{◌≡◌, inl, inr, ℕ, true, false, List, [], ◌∷◌, Bor, Option, Some, None, Result, Ok, Err, refl, sym, ◌∙◌, subst}
use Rattle.std.specs.Prelude.{⊤, ◌⊎◌}
use Rattle.cb_client.specs.CallAnswers.{AnswersRead, after_read, page_read}
use Rattle.cb_client.specs.declared.answers.ReadAnswer.TheVariants as read
use Rattle.std.specs.Option.{is_some}
use Rattle.cb_cache.specs.CacheState.{content_at}
use Rattle.cb_frame.specs.declared.frame.Frame.{Frame}
use Rattle.cb_hands.specs.Hands.{HandState}
use Rattle.cb_station.specs.Stations.{StationState}
use Rattle.cb_station.specs.declared.office_fault.OfficeFault.{OfficeFault}
use Rattle.cb_station.specs.declared.office_fault.OfficeFault.TheVariants as office
use Rattle.cb_protocol.specs.Basics.{Bytes}
use Rattle.cb_worker.proofs.Reading.{after_read_is, bytes_here, read_so}
use Rattle.cb_station.specs.Calls.{Collected, Took}
use Rattle.cb_worker.specs.Refusals.{IsTurnFault, LacksGrant}
use Rattle.cb_worker.specs.Turns.{AfterCollecting, TakesCollected, Turns, TurnsBy, turned_by}
use Rattle.cb_worker.specs.Workers.{WorkerState, shows_copy}
use Rattle.cb_worker.specs.declared.worker_fault.WorkerFault.{WorkerFault}
use Rattle.cb_worker.specs.declared.worker_fault.WorkerFault.TheVariants as worker

-- the station's faults at a frame that is handed in, and at one that is collected
of_taking : (f : OfficeFault) → (f ≡ office.Foreign) ⊎ (f ≡ office.Exhausted) ⊎ (f ≡ office.Memory) → IsTurnFault (worker.Office f)
of_taking f (inl e) = rw e tt
of_taking f (inr (inl e)) = rw e tt
of_taking f (inr (inr e)) = rw e tt

of_collecting : (f : OfficeFault) → (f ≡ office.Foreign) ⊎ (f ≡ office.Memory) → IsTurnFault (worker.Office f)
of_collecting f (inl e) = rw e tt
of_collecting f (inr e) = rw e tt

-- the worker's own at a frame that its client is to take
of_taken : (old new : WorkerState) (frame : Frame) (x : WorkerFault) → TakesCollected old frame (Err x) new → IsTurnFault x
of_taken old new frame (worker.Client f) h = rw h.0 tt
of_taken old new frame (worker.Office f) h = rw h.0 tt
of_taken old new frame worker.Halted h = absurd h

handed : (before after : StationState) (frame : Frame) (hand next : HandState) (x : WorkerFault) (a : Result ⊤ OfficeFault) → Err x ≡ turned_by a → Took before frame hand a after next → IsTurnFault x
handed before after frame hand next x (Ok done) e t = absurd cc
handed before after frame hand next x (Err f) e t = let is : x ≡ worker.Office f = cc in rw is (of_taking f t.faults)

collects : (old new : WorkerState) (before after : StationState) (x : WorkerFault) (a : Result (Option Frame) OfficeFault) → Collected before old.hand a after new.hand → AfterCollecting a old (Err x) new → IsTurnFault x
collects old new before after x (Err f) c t = let e = t.0 in let is : x ≡ worker.Office f = cc in rw is (of_collecting f c.faults)
collects old new before after x (Ok None) c t = absurd (let e = t.0 in cc)
collects old new before after x (Ok (Some frame)) c t = of_taken (record old { hand = new.hand; collected = Some frame }) new frame x t

pub turn_fault : (old new : WorkerState) (before after : StationState) (x : WorkerFault) → Turns old before (Err x) new after → IsTurnFault x
turn_fault old new before after x t = go old.said old.collected t
  where
    go : (said : List Frame) (kept : Option Frame) → TurnsBy said kept old before (Err x) new after → IsTurnFault x
    go (frame ∷ rest) kept h = handed before after frame old.hand new.hand x h.answer h.answered h.took
    go [] (Some frame) h = of_taken old new frame x h.0
    go [] None h = collects old new before after x h.answer h.collected h.taken

-- a turn that is refused isn't for a halt
pub no_halt : (old new : WorkerState) (before after : StationState) (x : WorkerFault) → Turns old before (Err x) new after → x ≡ worker.Halted → ⊥
no_halt old new before after x t e = subst (λ (f : WorkerFault). IsTurnFault f) e (turn_fault old new before after x t)

-- of a page whose bytes the client has, while the hand lacks its copy
pub lacks_grant : (old new : WorkerState) (page : ℕ) (b : Bor Bytes) → AnswersRead old.client page (Ok (read.Bytes b)) → new.client ≡ after_read old.client page → new.hand ≡ old.hand → shows_copy old page ≡ false
    → LacksGrant new page (worker.Office office.NotHeld)
lacks_grant old new page b a e h s =
    let here : is_some (content_at old.client.copies page) ≡ true = bytes_here old.client page b a in
    let next : new.client ≡ page_read old.client page = e ∙ after_read_is old.client page (sym (read_so old.client page (Ok (read.Bytes b)) a)) here in
    (refl, rw (next, h) s, rw next here)
