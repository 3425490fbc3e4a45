-- What a server that frames reach has committed and says of it, input by input.
use Rattle.std.proofs.Common.{◌≡◌, ◌<◌, ◌≤◌, ◌++◌, ℕ, List}
use Rattle.std.proofs.Common.{[], ◌∷◌, refl, sym, ◌∙◌, ap, subst, arith, inl, inr}
use Rattle.std.specs.List.{AllByRecursion}
use Rattle.std.specs.Prelude.{⊤}
use Rattle.cb_frame.specs.Grammar as frames
use Rattle.cb_frame.specs.declared.frame.Body as frame_body
use Rattle.cb_frame.specs.declared.frame.Body.TheVariants as body
use Rattle.cb_frame.specs.declared.frame.ShortBody.{ShortBody}
use Rattle.cb_frame.specs.declared.frame.ShortBody.TheVariants as short
use Rattle.cb_frame.specs.declared.writes.Write.{Write}
use Rattle.cb_laws.proofs.CommitsAdded.{Adds, steps_add}
use Rattle.cb_outbox.specs.Messages.{body_of, page_writes, short_of}
use Rattle.cb_page.specs.Bounds.{Bounds}
use Rattle.cb_protocol.proofs.LedgerKept.{Books, books_all, books_start, told_done}
use Rattle.cb_protocol.proofs.LifeImage.{in_append, in_right}
use Rattle.cb_protocol.proofs.ServedSteps.{done_from_disk}
use Rattle.cb_protocol.proofs.ServerOrder.{Orderly, ServerStepsMay, StepsRight, orderly_start}
use Rattle.cb_protocol.proofs.ServerTakes.{right_again, right_flushes, right_server_take}
use Rattle.cb_protocol.proofs.SettlingRight.{clients_served}
use Rattle.cb_protocol.specs.AnyMessages.{AfterInput, Input, IsCommit, MessageComes, Opened, ReachedBy}
use Rattle.cb_protocol.specs.AnyMessages.{ReachesDisk, SendsAgain, input_steps}
use Rattle.cb_protocol.specs.Basics.{IsIn, Limits}
use Rattle.cb_protocol.specs.CommitLaws.{flushed_by}
use Rattle.cb_protocol.specs.Messages.{Body, Commit, Done, Message, PageWrite}
use Rattle.cb_protocol.specs.Ranges as ranges
use Rattle.cb_protocol.specs.Server.{AppliedCommit, Server, ServerStep, after_server_step, server_after}
use Rattle.cb_protocol.specs.StoreLimits.{limits_of}
use Rattle.cb_protocol.specs.WaitsFor.{on_cycle}
use Rattle.cb_protocol.specs.World.{Opening, messages_sent}
use Rattle.cb_server.specs.Taking.{input_of}
use Rattle.cb_serve.specs.Answering.{after_inputs, inputs_in, said_to}
use Rattle.cb_serve.specs.Streams.{IsPiece, Piece, asks_again, comes, let_go, passed_over}

-- ---- what comes

-- the pages that these write are below that number
abbrev pub Within : (pages : ℕ) → List PageWrite → Type 0
Within pages ws = (w : PageWrite) → IsIn w ws → w.page < pages

-- so are those of a message's commit
abbrev pub CommitsWithin : (pages c i : ℕ) → Body → Type 0
CommitsWithin pages c i (Commit t ws) = Within pages ws
CommitsWithin pages c i _ = ⊤

-- it is of a client that there is, and of pages that there are
abbrev pub Fine : Limits → Server → Input → Type 0
Fine L s (MessageComes c i b) = (c < L.clients) × CommitsWithin L.pages c i b
Fine L s SendsAgain = ⊤
Fine L s (ReachesDisk n) = ⊤

-- a commit of frames
frames_within : (limits : Bounds) (ws : List Write) → AllByRecursion (frames.WriteFits limits) ws
    → Within limits.pages (page_writes ws)
frames_within limits [] fit w i = absurd i
frames_within limits (x ∷ ws) fit w (inl e) = subst (λ (y : PageWrite). y.page < limits.pages) e fit.0.page
frames_within limits (x ∷ ws) fit w (inr i) = frames_within limits ws fit.1 w i

short_fine : (limits : Bounds) (c i : ℕ) (b : ShortBody) → CommitsWithin limits.pages c i (short_of b)
short_fine limits c i short.Hello = tt
short_fine limits c i (short.AskRead t p) = tt
short_fine limits c i (short.AskWrite t p g) = tt
short_fine limits c i (short.GiveBack p g) = tt
short_fine limits c i (short.InUse t p g) = tt
short_fine limits c i (short.Drop t) = tt
short_fine limits c i short.Welcome = tt
short_fine limits c i (short.MayWrite t p g) = tt
short_fine limits c i (short.Callback p g) = tt
short_fine limits c i (short.Done t n) = tt
short_fine limits c i (short.AbortNow t) = tt
short_fine limits c i (short.Downgraded p g t) = tt
short_fine limits c i (short.Downgrade p g t) = tt

frame_fine : (limits : Bounds) (c i : ℕ) (b : frame_body.Body) → frames.BodyFits limits b
    → CommitsWithin limits.pages c i (body_of b)
frame_fine limits c i (body.Short x) fit = short_fine limits c i x
frame_fine limits c i (body.Commit t ws) fit = frames_within limits ws fit.1
frame_fine limits c i (body.Granted p g v b) fit = tt

-- a commit in range
range_within : (L : Limits) (ws : List PageWrite) → ranges.WritesFit L ws → Within L.pages ws
range_within L [] fit w i = absurd i
range_within L (x ∷ ws) fit w (inl e) = subst (λ (y : PageWrite). y.page < L.pages) e fit.0.0
range_within L (x ∷ ws) fit w (inr i) = range_within L ws fit.2 w i

range_fine : (L : Limits) (c i : ℕ) (b : Body) → ranges.BodyFits L b → CommitsWithin L.pages c i b
range_fine L c i (Commit t ws) fit = range_within L ws fit.1
range_fine L c i _ fit = tt

-- what is taken is fine
taken_fine : (L : Limits) (s : Server) (i : Input) → ranges.InputTaken L s i → Fine L s i
taken_fine L s (MessageComes c i b) taken = (taken.0.0, range_fine L c i b taken.0.2)
taken_fine L s SendsAgain taken = tt
taken_fine L s (ReachesDisk n) taken = tt

pub reached_fine : (L : Limits) (o : Opening) (s : Server)
    → ReachedBy L on_cycle o (ranges.InputTaken L) s → ReachedBy L on_cycle o (Fine L) s
reached_fine L o s Opened = Opened
reached_fine L o s (AfterInput {server = k} r i f) =
    AfterInput (reached_fine L o k r) i (taken_fine L k i f)

-- ---- what holds of the server then

pub record Facts (L : Limits) (o : Opening) (s : Server) : Type 0 where
  pub orderly : Orderly (CommitsWithin L.pages) s
  pub books : Books o s
  pub clients : s.clients ≡ L.clients
  pub pages : s.pages ≡ L.pages
  pub within : (x : AppliedCommit) → IsIn x s.commits → Within L.pages x.writes

right : (L : Limits) (s : Server) (i : Input) → Orderly (CommitsWithin L.pages) s
    → s.clients ≡ L.clients → Fine L s i → StepsRight (CommitsWithin L.pages) s (input_steps on_cycle s i)
right L s (MessageComes c i b) orderly count fine =
    right_server_take (CommitsWithin L.pages) on_cycle s c i b orderly
    (subst (λ n. c < n) (sym count) fine.0) fine.1
right L s SendsAgain orderly count fine = right_again (CommitsWithin L.pages) s orderly
right L s (ReachesDisk n) orderly count fine = right_flushes (CommitsWithin L.pages) s n orderly

pages_after : (s : Server) (d : ServerStep) → (after_server_step s d).pages ≡ s.pages
pages_after s d = grind arith

pages_served : (s : Server) (ds : List ServerStep) → (server_after s ds).pages ≡ s.pages
pages_served s [] = refl
pages_served s (d ∷ ds) = pages_served (after_server_step s d) ds ∙ pages_after s d

last_after : (s : Server) (d : ServerStep)
    → s.store.last_commit ≤ (after_server_step s d).store.last_commit
last_after s d = grind arith

last_rises : (s : Server) (ds : List ServerStep)
    → s.store.last_commit ≤ (server_after s ds).store.last_commit
last_rises s [] = omega arith
last_rises s (d ∷ ds) = let a = last_after s d in
    let b = last_rises (after_server_step s d) ds in omega (arith, a, b)

-- what an input adds to the commits
module _ (L : Limits) (o : Opening) (s : Server) (facts : Facts L o s) (i : Input) (fine : Fine L s i)
  where
    may : ServerStepsMay (CommitsWithin L.pages) s (input_steps on_cycle s i)
    may = (right L s i facts.orderly facts.clients fine).0

    adds : Adds (CommitsWithin L.pages) s.store.last_commit s.commits
        (server_after s (input_steps on_cycle s i)).commits
    adds = steps_add (CommitsWithin L.pages) s (input_steps on_cycle s i) may

    facts_after : Facts L o (server_after s (input_steps on_cycle s i))
    facts_after = record {
      orderly = (right L s i facts.orderly facts.clients fine).1;
      books = books_all o (CommitsWithin L.pages) s (input_steps on_cycle s i) facts.books may;
      clients = clients_served s (input_steps on_cycle s i) ∙ facts.clients;
      pages = pages_served s (input_steps on_cycle s i) ∙ facts.pages;
      within = λ x j. elim (in_append x adds.added s.commits
          (subst (λ (l : List AppliedCommit). IsIn x l) adds.commits j)) [
            | inl k ↦ adds.asked x k
            | inr k ↦ facts.within x k
          ];
    }

pub facts_of : (L : Limits) (o : Opening) (s : Server) → ReachedBy L on_cycle o (Fine L) s → Facts L o s
facts_of L o s Opened = record {
  orderly = orderly_start (CommitsWithin L.pages) L o;
  books = books_start L o;
  clients = refl;
  pages = refl;
  within = λ x i. absurd i;
}
facts_of L o s (AfterInput {server = k} r i f) = facts_after L o k (facts_of L o k r) i f

-- ---- what inputs make of it

-- The server took inputs and said these messages. It has what it had, and later commits; no more
-- was reported than this number; and each Done among the messages is of a commit up to it.
pub record Took (L : Limits) (o : Opening) (s t : Server) (flushed : ℕ) (messages : List Message)
    : Type 0 where
  pub reached : ReachedBy L on_cycle o (Fine L) t
  pub added : List AppliedCommit
  pub commits : t.commits ≡ added ++ s.commits
  pub later : (x : AppliedCommit) → IsIn x added → s.store.last_commit < x.number
  pub last : s.store.last_commit ≤ t.store.last_commit
  pub flushed_is : t.flushed ≡ flushed
  pub dones : (c i x n : ℕ)
      → IsIn (record { client = c; incarnation = i; body = Done x n }) messages
      → IsCommit t.commits c i x n × (n ≤ flushed)

-- one input
pub took_input : (L : Limits) (o : Opening) (s : Server) → ReachedBy L on_cycle o (Fine L) s
    → (i : Input) → Fine L s i
    → Took L o s (server_after s (input_steps on_cycle s i)) (flushed_by s i)
    (messages_sent (input_steps on_cycle s i))
took_input L o s r i fine =
    let facts = facts_of L o s r in
    let add = adds L o s facts i fine in
    let disk = done_from_disk on_cycle s i in record {
      reached = AfterInput r i fine;
      added = add.added;
      commits = add.commits;
      later = add.later;
      last = last_rises s (input_steps on_cycle s i);
      flushed_is = disk.0;
      dones = λ c j x n there. (
        (facts_after L o s facts i fine).books.known c j x n
            (told_done o (CommitsWithin L.pages) s (input_steps on_cycle s i) c j x n facts.books
            (may L o s facts i fine) there),
        disk.1 c j x n there,
      );
    }

-- none
took_none : (L : Limits) (o : Opening) (s : Server) → ReachedBy L on_cycle o (Fine L) s
    → Took L o s s s.flushed []
took_none L o s r = record {
  reached = r;
  added = [];
  commits = refl;
  later = λ x i. absurd i;
  last = omega arith;
  flushed_is = refl;
  dones = λ c i x n there. absurd there;
}

three : (xs ys zs : List AppliedCommit) → xs ++ (ys ++ zs) ≡ (xs ++ ys) ++ zs
three [] ys zs = refl
three (x ∷ xs) ys zs = ap (λ (l : List AppliedCommit). x ∷ l) (three xs ys zs)

is_commit_on : (xs ys : List AppliedCommit) (c i x n : ℕ) → IsCommit ys c i x n
    → IsCommit (xs ++ ys) c i x n
is_commit_on xs ys c i x n is = (is.0, in_right is.0 xs ys is.1, is.2, is.3, is.4, is.5)

-- one after the other
took_both : (L : Limits) (o : Opening) (s t u : Server) (few many : ℕ) (ms ns : List Message)
    → Took L o s t few ms → Took L o t u many ns → few ≤ many
    → Took L o s u many (ms ++ ns)
took_both L o s t u few many ms ns one two le = record {
  reached = two.reached;
  added = two.added ++ one.added;
  commits = two.commits ∙ ap (λ (l : List AppliedCommit). two.added ++ l) one.commits
      ∙ three two.added one.added s.commits;
  later = λ x i. elim (in_append x two.added one.added i) [
    | inl j ↦ (let a = two.later x j in let b = one.last in omega (arith, a, b))
    | inr j ↦ one.later x j
  ];
  last = (let a = one.last in let b = two.last in omega (arith, a, b));
  flushed_is = two.flushed_is;
  dones = λ c i x n there. elim (in_append (record { client = c; incarnation = i; body = Done x n }) ms ns there) [
    | inl j ↦ (let d = one.dones c i x n j in (
      subst (λ (l : List AppliedCommit). IsCommit l c i x n) (sym two.commits)
          (is_commit_on two.added t.commits c i x n d.0),
      (let l = d.1 in omega (arith, l, le)),
    ))
    | inr j ↦ two.dones c i x n j
  ];
}

-- all that pieces are
pub took_pieces : (limits : Bounds) (o : Opening) (ps : List Piece) (s : Server)
    → ReachedBy (limits_of limits) on_cycle o (Fine (limits_of limits)) s
    → AllByRecursion (IsPiece limits) ps
    → Took (limits_of limits) o s (after_inputs s (inputs_in ps)) s.flushed
    (said_to s (inputs_in ps))
took_pieces limits o [] s r are = took_none (limits_of limits) o s r
took_pieces limits o (comes f b ∷ ps) s r are =
    let L : Limits = limits_of limits in
    let t : Server = server_after s (input_steps on_cycle s (input_of f)) in
    let one : Took L o s t s.flushed (messages_sent (input_steps on_cycle s (input_of f)))
    = took_input L o s r (input_of f)
    (are.0.1.fits.client, frame_fine limits f.client f.incarnation f.body are.0.1.fits.body) in
    took_both L o s t (after_inputs t (inputs_in ps)) s.flushed s.flushed
    (messages_sent (input_steps on_cycle s (input_of f))) (said_to t (inputs_in ps)) one
    (subst (λ n. Took L o t (after_inputs t (inputs_in ps)) n (said_to t (inputs_in ps)))
    one.flushed_is (took_pieces limits o ps t one.reached are.1)) (omega arith)
took_pieces limits o (asks_again ∷ ps) s r are =
    let L : Limits = limits_of limits in
    let t : Server = server_after s (input_steps on_cycle s SendsAgain) in
    let one : Took L o s t s.flushed (messages_sent (input_steps on_cycle s SendsAgain))
    = took_input L o s r SendsAgain tt in
    took_both L o s t (after_inputs t (inputs_in ps)) s.flushed s.flushed
    (messages_sent (input_steps on_cycle s SendsAgain)) (said_to t (inputs_in ps)) one
    (subst (λ n. Took L o t (after_inputs t (inputs_in ps)) n (said_to t (inputs_in ps)))
    one.flushed_is (took_pieces limits o ps t one.reached are.1)) (omega arith)
took_pieces limits o (passed_over b ∷ ps) s r are = took_pieces limits o ps s r are.1
took_pieces limits o (let_go f b ∷ ps) s r are = took_pieces limits o ps s r are.1

-- a report
pub took_report : (L : Limits) (o : Opening) (s : Server) → ReachedBy L on_cycle o (Fine L) s
    → (n : ℕ)
    → Took L o s (after_inputs s (ReachesDisk n ∷ [])) n (said_to s (ReachesDisk n ∷ []))
took_report L o s r n =
    let t : Server = server_after s (input_steps on_cycle s (ReachesDisk n)) in
    let one : Took L o s t n (messages_sent (input_steps on_cycle s (ReachesDisk n)))
    = took_input L o s r (ReachesDisk n) tt in
    took_both L o s t t n n (messages_sent (input_steps on_cycle s (ReachesDisk n))) [] one
    (subst (λ m. Took L o t t m []) one.flushed_is (took_none L o t one.reached)) (omega arith)
