-- The room that a client makes at a message.
use Rattle.std.proofs.Common.{if◌then◌else◌, ℕ, ◌≡◌, Bool, true, false, List, refl, ◌∙◌}
use Rattle.cb_frame.specs.declared.frame.ShortBody.{ShortBody}
use Rattle.cb_frame.specs.declared.frame.ShortBody.TheVariants as short
use Rattle.cb_outbox.specs.Messages.{short_of}
use Rattle.cb_protocol.specs.Messages.{Body, Commit, PageWrite}
use Rattle.cb_client_core.specs.ClientState.{ClientState}
use Rattle.cb_client_core.specs.Room.{room_at, room_welcomed}

-- before the Welcome none is made
pub unwelcomed_room : (v : ClientState) (b : Body) → v.welcomed ≡ false → room_at v b ≡ 0
unwelcomed_room v b e = rw e refl

pub welcomed_room : (v : ClientState) (b : Body) → v.welcomed ≡ true → room_at v b ≡ room_welcomed v b
welcomed_room v b e = rw e refl

-- nor at a message that nothing is said to
pub ignored_room : (v : ClientState) (s : ShortBody) → v.welcomed ≡ true → ((p g : ℕ) → s ≡ short.Callback p g → ⊥) → ((t m : ℕ) → s ≡ short.Done t m → ⊥) → ((t : ℕ) → s ≡ short.AbortNow t → ⊥)
    → ((p g t : ℕ) → s ≡ short.Downgrade p g t → ⊥) → room_at v (short_of s) ≡ 0
ignored_room v s e c d a w = welcomed_room v (short_of s) e ∙ by s c d a w
  where
    by : (b : ShortBody) → ((p g : ℕ) → b ≡ short.Callback p g → ⊥) → ((t m : ℕ) → b ≡ short.Done t m → ⊥) → ((t : ℕ) → b ≡ short.AbortNow t → ⊥) → ((p g t : ℕ) → b ≡ short.Downgrade p g t → ⊥)
        → room_welcomed v (short_of b) ≡ 0
    by short.Hello c d a w = refl
    by (short.AskRead t p) c d a w = refl
    by (short.AskWrite t p g) c d a w = refl
    by (short.GiveBack p g) c d a w = refl
    by (short.InUse t p g) c d a w = refl
    by (short.Drop t) c d a w = refl
    by short.Welcome c d a w = refl
    by (short.MayWrite t p g) c d a w = refl
    by (short.Callback p g) c d a w = absurd (c p g refl)
    by (short.Done t x) c d a w = absurd (d t x refl)
    by (short.AbortNow t) c d a w = absurd (a t refl)
    by (short.Downgraded p g t) c d a w = refl
    by (short.Downgrade p g t) c d a w = absurd (w p g t refl)

-- a commit needs none, whether the client is welcomed or not
pub commit_room : (v : ClientState) (t : ℕ) (writes : List PageWrite) → room_at v (Commit t writes) ≡ 0
commit_room v t writes = by v.welcomed
  where
    by : (welcomed : Bool) → (if welcomed then room_welcomed v (Commit t writes) else 0) ≡ 0
    by true = refl
    by false = refl
