-- The commit of a transaction fits the limits, and so does its frame: also while the client waits.
use Rattle.std.proofs.Common.{◌≡◌, ◌≢◌, ◌<◌, ◌≤◌, ◌++◌, ℕ, zero, suc, Bool, true, false, if◌then◌else◌, List, [], ◌∷◌, Option, Some, None, refl, subst, arith}
use Rattle.std.specs.Prelude.{⊤}
use Rattle.std.proofs.lemmas.List.{append-nil}
use Rattle.cb_client.proofs.FramesFit.{frame_fits, from_client}
use Rattle.cb_client.specs.ByTable.{limits_at}
use Rattle.cb_client.specs.CallAnswers.{SaysCommit}
use Rattle.cb_client_core.specs.ClientState.{ClientState, IsClient, client_of, stage_of}
use Rattle.cb_client_core.specs.declared.stage.Stage.{Stage}
use Rattle.cb_client_core.specs.declared.stage.Stage.TheVariants as stages
use Rattle.cb_frame.specs.Grammar as grammar
use Rattle.cb_frame.specs.declared.frame.Frame.{Frame}
use Rattle.cb_page.specs.Numbers.{IsNumber}
use Rattle.cb_protocol.proofs.ClientInvariant.{ClientKeeps, tidy}
use Rattle.cb_protocol.proofs.ClientRanges.{Sized, sized}
use Rattle.cb_protocol.specs.Basics.{Bytes, Limits}
use Rattle.cb_protocol.specs.Cache.{Idle}
use Rattle.cb_protocol.specs.Client.{Client, bodies_said}
use Rattle.cb_protocol.specs.ClientCalls.{say_commit, written_page, written_pages}
use Rattle.cb_protocol.specs.Messages.{Message, PageWrite}
use Rattle.cb_protocol.specs.Ranges.{Above, AllMessagesFit, InputFits, WriteFits, WritesFit}

-- all are of pages below n
abbrev Below : ℕ → List PageWrite → Type 0
Below n [] = ⊤
Below n (x ∷ xs) = (x.page < n) × Below n xs

below_more : (n m : ℕ) (xs : List PageWrite) → n ≤ m → Below n xs → Below m xs
below_more n m [] l a = tt
below_more n m (x ∷ xs) l a = let b = a.0 in (omega (arith, l, b), below_more n m xs l a.1)

-- one more behind them, of a later page
above_push : (p : ℕ) (xs : List PageWrite) (y : PageWrite) → Above p xs → p < y.page → Above p (xs ++ y ∷ [])
above_push p [] y a l = (l, tt)
above_push p (x ∷ xs) y a l = (a.0, above_push p xs y a.1 l)

below_push : (n : ℕ) (xs : List PageWrite) (y : PageWrite) → Below n xs → y.page < n → Below n (xs ++ y ∷ [])
below_push n [] y a l = (l, tt)
below_push n (x ∷ xs) y a l = (a.0, below_push n xs y a.1 l)

fit_push : (L : Limits) (xs : List PageWrite) (y : PageWrite) → WritesFit L xs → Below y.page xs → WriteFits L y → WritesFit L (xs ++ y ∷ [])
fit_push L [] y f b w = (w, tt, tt)
fit_push L (x ∷ xs) y f b w = (f.0, above_push x.page xs y f.1 b.0, fit_push L xs y f.2 b.1 w)

-- the pages that were written, of those below n
record GoodWrites (L : Limits) (n : ℕ) (xs : List PageWrite) : Type 0 where
  fit : WritesFit L xs
  below : Below n xs

writes_fit : (L : Limits) (k : Client) (n : ℕ) → n ≤ L.pages → Sized L k → GoodWrites L n (written_pages k n)
writes_fit L k zero l h = record { fit = tt; below = tt }
writes_fit L k (suc n) l h = go (written_pages k n) (writes_fit L k n (omega (arith, l)) h) (k.cache.held n) refl (k.cache.content n) refl
  where
    same : (xs : List PageWrite) → GoodWrites L n xs → GoodWrites L (suc n) (xs ++ [])
    same xs a = rw (append-nil xs) (record { fit = a.fit; below = below_more n (suc n) xs (omega arith) a.below })

    go : (xs : List PageWrite) → GoodWrites L n xs → (r : Option ℕ) → k.cache.held n ≡ r → (o : Option Bytes) → k.cache.content n ≡ o → GoodWrites L (suc n) (xs ++ written_page k n r o)
    go xs a None e o q = same xs a
    go xs a (Some g) e None q = same xs a
    go xs a (Some g) e (Some b) q = wrote (k.cache.wrote n)
      where
        w : PageWrite
        w = record { page = n; grant = g; bytes = b }

        wrote : (u : Bool) → GoodWrites L (suc n) (xs ++ (if u then record { page = n; grant = g; bytes = b } ∷ [] else []))
        wrote true = record { fit = fit_push L xs w a.fit a.below (omega (arith, l), h.held n g e, h.content n b q); below = below_push (suc n) xs w (below_more n (suc n) xs (omega arith) a.below) (omega arith) }
        wrote false = same xs a

-- the transaction that has begun has a number
numbered : (v : ClientState) → IsClient v → v.stage ≢ stages.Idle → IsNumber (client_of v []).cache.number
numbered v is busy =
    let arises = is.reached.arises in
    let tidied : ClientKeeps (limits_at v) (client_of v is.reached.operations) = tidy (limits_at v) (InputFits (limits_at v)) (client_of v is.reached.operations) arises in
    let begun = tidied.begun (not_idle v.stage busy) in
    let most = (sized (limits_at v) (client_of v is.reached.operations) arises).number in
    (omega (arith, begun), most)
  where
    not_idle : (s : Stage) → s ≢ stages.Idle → stage_of s ≢ Idle
    not_idle stages.Idle n z = n refl
    not_idle stages.Open n z = absurd cc
    not_idle stages.Committing n z = absurd cc

pub commit_fits : (v : ClientState) (frame : Frame) → IsClient v → v.stage ≢ stages.Idle → SaysCommit v frame → grammar.Fits v.copies.limits frame
commit_fits v frame is busy says =
    let L = limits_at v in
    let writes = (writes_fit L (client_of v is.reached.operations) L.pages (omega arith) (sized L (client_of v is.reached.operations) is.reached.arises)).fit in
    frame_fits v.copies.limits frame (subst (λ (messages : List Message). AllMessagesFit L messages) (says is.reached.operations)
    (from_client v is (bodies_said (say_commit L (client_of v is.reached.operations))) ((numbered v is busy, writes), tt))).0
