-- What a server's commits write fits its limits, however it arose.
use Rattle.std.proofs.Common.{◌≡◌, ◌<◌, ◌∙◌, ℕ, List, [], ◌∷◌, length, map, take, get_or, refl, sym, subst, suc, zero, inl, inr, arith}
use Rattle.std.specs.List.{All}
use mathlib.Core.List.{reverse-cons}
use Rattle.std.proofs.lemmas.List.Elements.{All-take}
use Rattle.cb_commit.specs.History.{AreCommits, WritesInto}
use Rattle.cb_commit.specs.Stores.{IsOf, StoreState}
use Rattle.cb_commit.specs.declared.commit.Commit.{Commit}
use Rattle.cb_frame.specs.declared.writes.Write.{Write}
use Rattle.cb_laws.proofs.CommitsAdded.{steps_add}
use Rattle.cb_outbox.specs.Messages.{page_writes}
use Rattle.cb_page.specs.Bounds.{Bounds}
use Rattle.cb_protocol.proofs.LifeImage.{in_append, in_left, in_right}
use Rattle.cb_protocol.proofs.ServerOrder.{Orderly, StepsRight, orderly_start}
use Rattle.cb_protocol.proofs.ServerTakes.{right_again, right_flushes, right_server_take}
use Rattle.cb_protocol.proofs.SettlingRight.{clients_served}
use Rattle.cb_protocol.specs.AnyMessages.{AfterInput, Input, MessageComes, Opened, ReachedBy, ReachesDisk, SendsAgain, input_steps}
use Rattle.cb_protocol.specs.Basics.{IsIn, Limits}
use Rattle.cb_protocol.specs.Messages.{Body}
use Rattle.cb_protocol.specs.Ranges.{BodyFits, InputTaken, WritesFit}
use Rattle.cb_protocol.specs.Server.{AppliedCommit, DeadlockTest, Server}
use Rattle.cb_protocol.specs.World.{Opening}
use Rattle.cb_server.specs.ServerValue.{IsServer, ServerValue, commits_of, server_of}
use Rattle.cb_server_state.specs.Commits.{applied_commit}
use Rattle.cb_server_state.specs.States.{limits_of, newest_first}
use Rattle.cb_schedule.specs.NextLife.{FitsStore}

-- what comes fits
abbrev Comes : Limits → ℕ → ℕ → Body → Type 0
Comes L c i b = BodyFits L b

right_fed : (L : Limits) (cycle : DeadlockTest) (s : Server) (i : Input) → Orderly (Comes L) s → s.clients ≡ L.clients → InputTaken L s i → StepsRight (Comes L) s (input_steps cycle s i)
right_fed L cycle s (MessageComes c i b) o e f = right_server_take (Comes L) cycle s c i b o (rw e f.0.0) f.0.2
right_fed L cycle s SendsAgain o e f = right_again (Comes L) s o
right_fed L cycle s (ReachesDisk n) o e f = right_flushes (Comes L) s n o

commits_fit : (L : Limits) (cycle : DeadlockTest) (o : Opening) (s : Server) → ReachedBy L cycle o (InputTaken L) s → Orderly (Comes L) s × ((s.clients ≡ L.clients) × ((x : AppliedCommit) → IsIn x s.commits → WritesFit L x.writes))
commits_fit L cycle o s Opened = (orderly_start (Comes L) L o, (refl, λ x i. absurd i))
commits_fit L cycle o s (AfterInput {server = k} r i f) =
    let h = commits_fit L cycle o k r in
    let t = right_fed L cycle k i h.0 h.1.0 f in
    let a = steps_add (Comes L) k (input_steps cycle k i) t.0 in (
      t.1,
      (
        clients_served k (input_steps cycle k i) ∙ h.1.0,
        λ x j. elim (in_append x a.added k.commits (subst (λ (xs : List AppliedCommit). IsIn x xs) a.commits j)) [
          | inl m ↦ (a.asked x m).1
          | inr m ↦ h.1.1 x m
        ],
      ),
    )

in_newest : (cs : List Commit) (k : ℕ) (d : Commit) → k < length cs → IsIn (applied_commit (get_or cs k d)) (newest_first cs)
in_newest [] k d l = absurd (omega (arith, l))
in_newest (c ∷ cs) zero d l = subst (λ (xs : List AppliedCommit). IsIn (applied_commit c) xs) (sym (reverse-cons (applied_commit c) (map applied_commit cs))) (in_right (applied_commit c) (newest_first cs) (applied_commit c ∷ []) (inl refl))
in_newest (c ∷ cs) (suc k) d l = subst (λ (xs : List AppliedCommit). IsIn (applied_commit (get_or cs k d)) xs) (sym (reverse-cons (applied_commit c) (map applied_commit cs)))
    (in_left (applied_commit (get_or cs k d)) (newest_first cs) (applied_commit c ∷ []) (in_newest cs k d (omega (arith, l))))

each_into : (bounds : Bounds) (s : StoreState) (ws : List Write) → IsOf bounds s → WritesFit (limits_of bounds) (page_writes ws) → All (WritesInto s) ws
each_into bounds s [] of f k d l = absurd (omega (arith, l))
each_into bounds s (w ∷ ws) of f zero d l = record { page = (let a = f.0.0 in let b = of.count in omega (arith, a, b)); bytes = f.0.2 ∙ sym of.page_size }
each_into bounds s (w ∷ ws) of f (suc k) d l = each_into bounds s ws of f.2 k d (omega (arith, l))

-- each of its commits may be written over a store of its limits
pub fit_store : (value : ServerValue) (s : StoreState) (n : ℕ) → IsServer value → AreCommits (commits_of value) → IsOf value.limits s → All (FitsStore s) (take n (commits_of value).commits)
fit_store value s n is are of = All-take (FitsStore s) n (commits_of value).commits (λ k d l. record {
  pages = each_into value.limits s (get_or (commits_of value).commits k d).writes of
      ((commits_fit (limits_of value.limits) _ _ (server_of value) is.reached).1.1 (applied_commit (get_or (commits_of value).commits k d)) (in_newest (commits_of value).commits k d l));
  rising = are.rising k d l;
})
