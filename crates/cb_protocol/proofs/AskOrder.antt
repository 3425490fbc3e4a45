-- Asks wait in the order of their coming: what every step leaves of a page's queue.
use Rattle.std.proofs.Common.{Bool, List, [], ap, arith, false, if◌then◌else◌, inl, inr, refl, sym, true, ℕ, ◌++◌, ◌==◌, ◌∷◌, ◌≡◌}
use Rattle.std.proofs.lemmas.Bool.Decides.{nat_tests}
use Rattle.std.proofs.lemmas.List.{append-nil}
use Rattle.cb_protocol.specs.AskLaws.{AreInOrderOf, AsksKeepTheirOrder}
use Rattle.cb_protocol.specs.Server.{ChangeSession, Doom, EnterQueue, ForgetTransaction, LeaveQueue, MarkCalledBack, MarkDowngradeSent, MarkInUse, RemoveAsk, Send, Server, SetFlushed, UnmarkInUse, WaitingAsk, after_first, set_called_back, set_downgrade_sent, without_client}

all_in_order : (queue : List WaitingAsk) → AreInOrderOf queue queue
all_in_order [] = tt
all_in_order (ask ∷ queue) = inl (refl, refl, all_in_order queue)

behind_in_order : (asks queue : List WaitingAsk) (first : WaitingAsk) → AreInOrderOf asks queue → AreInOrderOf asks (first ∷ queue)
behind_in_order [] queue first h = tt
behind_in_order (ask ∷ asks) queue first h = inr h

without_in_order : (client : ℕ) (queue : List WaitingAsk) → AreInOrderOf (without_client client queue) queue
without_in_order client [] = tt
without_in_order client (ask ∷ queue) = go (ask.client == client) (without_in_order client queue)
  where
    go : (b : Bool) → AreInOrderOf (without_client client queue) queue → AreInOrderOf (if b then without_client client queue else ask ∷ without_client client queue) (ask ∷ queue)
    go true h = behind_in_order (without_client client queue) queue ask h
    go false h = inl (refl, refl, h)

after_first_in_order : (queue : List WaitingAsk) → AreInOrderOf (after_first queue) queue
after_first_in_order [] = tt
after_first_in_order (ask ∷ queue) = behind_in_order queue queue ask (all_in_order queue)

called_back_in_order : (queue : List WaitingAsk) → AreInOrderOf (set_called_back queue) queue
called_back_in_order [] = tt
called_back_in_order (ask ∷ queue) = inl (refl, refl, all_in_order queue)

downgrade_in_order : (tag : ℕ) (queue : List WaitingAsk) → AreInOrderOf (set_downgrade_sent tag queue) queue
downgrade_in_order tag [] = tt
downgrade_in_order tag (ask ∷ queue) = inl (refl, refl, all_in_order queue)

-- a queue from which nothing but some of its asks goes
abbrev Stays : (queue after : List WaitingAsk) → Type 0
Stays queue after = (staying : List WaitingAsk) × (after ≡ staying ++ []) × AreInOrderOf staying queue

stays : (queue after : List WaitingAsk) → AreInOrderOf after queue → Stays queue after
stays queue after h = (after, sym (append-nil after), h)

-- a change of one page's queue
changes : (server : Server) (changed page : ℕ) (change : List WaitingAsk → List WaitingAsk) → ((queue : List WaitingAsk) → AreInOrderOf (change queue) queue)
    → Stays (server.queue page) (if page == changed then change (server.queue changed) else server.queue page)
changes server changed page change h = go (page == changed) refl
  where
    go : (b : Bool) → (page == changed) ≡ b → Stays (server.queue page) (if b then change (server.queue changed) else server.queue page)
    go true e = let same : page ≡ changed = grind (arith, nat_tests) in rw (← same) (stays (server.queue page) (change (server.queue page)) (h (server.queue page)))
    go false e = stays (server.queue page) (server.queue page) (all_in_order (server.queue page))

unchanged : (server : Server) (page : ℕ) → Stays (server.queue page) (server.queue page)
unchanged server page = stays (server.queue page) (server.queue page) (all_in_order (server.queue page))

pub asks_in_order : AsksKeepTheirOrder
asks_in_order server (EnterQueue asked ask) page = (server.queue page, go (page == asked) refl, all_in_order (server.queue page))
  where
    go : (b : Bool) → (page == asked) ≡ b → (if b then server.queue asked ++ ask ∷ [] else server.queue page) ≡ server.queue page ++ (if b then ask ∷ [] else [])
    go true e = let same : page ≡ asked = grind (arith, nat_tests) in ap (λ (at : ℕ). server.queue at ++ ask ∷ []) (sym same)
    go false e = sym (append-nil (server.queue page))
asks_in_order server (LeaveQueue left) page = changes server left page after_first after_first_in_order
asks_in_order server (MarkCalledBack marked) page = changes server marked page set_called_back called_back_in_order
asks_in_order server (MarkDowngradeSent marked tag) page = changes server marked page (set_downgrade_sent tag) (downgrade_in_order tag)
asks_in_order server (RemoveAsk client) page = stays (server.queue page) (without_client client (server.queue page)) (without_in_order client (server.queue page))
asks_in_order server (ForgetTransaction client) page = stays (server.queue page) (without_client client (server.queue page)) (without_in_order client (server.queue page))
asks_in_order server (ChangeSession client change) page = unchanged server page
asks_in_order server (Send client incarnation body) page = unchanged server page
asks_in_order server (MarkInUse client marked) page = unchanged server page
asks_in_order server (UnmarkInUse client marked) page = unchanged server page
asks_in_order server (Doom client) page = unchanged server page
asks_in_order server (SetFlushed number) page = unchanged server page
