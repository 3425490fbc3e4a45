-- What a change of a session keeps, for the client that it is about and for each other client.
use Rattle.std.proofs.Common.{List, None, Some, arith, ℕ, ◌<◌, ◌≡◌, ◌≢◌, ◌≤◌}
use Rattle.cb_protocol.proofs.Machine.{NoOther}
use Rattle.cb_protocol.proofs.Invariant.{SessionFacts, HasCommitNumber, MessageFact}
use Rattle.cb_protocol.specs.Cache.{Cache, new_cache}
use Rattle.cb_protocol.specs.Messages.{AskWrite, Body, Commit, Downgraded, Drop, GiveBack, PageWrite, write_of_page}
use Rattle.cb_protocol.specs.Session.{Admit, ApplyCommit, DropTransaction, GrantRow, BeginTransaction, PermitWrite, RemoveRow, Session, Store, EndPermission, session_after, store_after}

pub good_meet : (c : ℕ) (s : Store) (t : Session) (k : Cache) (x : ℕ) → SessionFacts c s t k → t.txn < x → x ≤ k.number → SessionFacts c (store_after s c t (BeginTransaction x)) (session_after t (BeginTransaction x)) k
good_meet c s t k x h l m = grind arith

pub now_meet : (c : ℕ) (s : Store) (t : Session) (k : Cache) (x : ℕ) (y : Body) → SessionFacts c s t k → t.txn < x → x ≤ k.number → MessageFact c s t k y → MessageFact c (store_after s c t (BeginTransaction x)) (session_after t (BeginTransaction x)) k y
now_meet c s t k x y h l m f = grind arith

pub good_end : (c : ℕ) (s : Store) (t : Session) (k : Cache) (x : ℕ) → SessionFacts c s t k → t.txn ≡ x → t.ended < x → MessageFact c s t k (Drop x) → SessionFacts c (store_after s c t (DropTransaction x)) (session_after t (DropTransaction x)) k
good_end c s t k x h e l n = grind arith

pub now_end : (c : ℕ) (s : Store) (t : Session) (k : Cache) (x : ℕ) (y : Body) → SessionFacts c s t k → t.txn ≡ x → t.ended < x → MessageFact c s t k (Drop x) → MessageFact c s t k y → MessageFact c (store_after s c t (DropTransaction x)) (session_after t (DropTransaction x)) k y
now_end c s t k x y h e l n f = grind arith

pub good_grant : (c : ℕ) (s : Store) (t : Session) (k : Cache) (p g : ℕ) → SessionFacts c s t k → t.row p ≡ None → NoOther s c p → SessionFacts c (store_after s c t (GrantRow p g)) (session_after t (GrantRow p g)) k
good_grant c s t k p g h e n = grind arith

pub now_grant : (c : ℕ) (s : Store) (t : Session) (k : Cache) (p g : ℕ) (y : Body) → SessionFacts c s t k → t.row p ≡ None → NoOther s c p → MessageFact c s t k y → MessageFact c (store_after s c t (GrantRow p g)) (session_after t (GrantRow p g)) k y
now_grant c s t k p g y h e n f = grind arith

pub good_permit : (c : ℕ) (s : Store) (t : Session) (k : Cache) (p g : ℕ) → SessionFacts c s t k → MessageFact c s t k (AskWrite t.txn p g) → t.ended < t.txn → t.row p ≡ Some g → NoOther s c p → SessionFacts c (store_after s c t (PermitWrite p g)) (session_after t (PermitWrite p g)) k
good_permit c s t k p g h a e n o = grind arith

pub now_permit : (c : ℕ) (s : Store) (t : Session) (k : Cache) (p g : ℕ) (y : Body) → SessionFacts c s t k → MessageFact c s t k (AskWrite t.txn p g) → t.ended < t.txn → t.row p ≡ Some g → NoOther s c p → MessageFact c s t k y → MessageFact c (store_after s c t (PermitWrite p g)) (session_after t (PermitWrite p g)) k y
now_permit c s t k p g y h a e n o f = grind arith

pub good_row_gone : (c : ℕ) (s : Store) (t : Session) (k : Cache) (p g : ℕ) → SessionFacts c s t k → MessageFact c s t k (GiveBack p g) → t.row p ≡ Some g → SessionFacts c (store_after s c t (RemoveRow p g)) (session_after t (RemoveRow p g)) k
good_row_gone c s t k p g h n e = grind arith

pub now_row_gone : (c : ℕ) (s : Store) (t : Session) (k : Cache) (p g : ℕ) (y : Body) → SessionFacts c s t k → MessageFact c s t k (GiveBack p g) → t.row p ≡ Some g → MessageFact c s t k y → MessageFact c (store_after s c t (RemoveRow p g)) (session_after t (RemoveRow p g)) k y
now_row_gone c s t k p g y h n e f = grind arith

pub good_apply : (c : ℕ) (s : Store) (t : Session) (k : Cache) (x : ℕ) (ws : List PageWrite) → SessionFacts c s t k → MessageFact c s t k (Commit x ws) → t.txn ≡ x → t.ended < x → ((p : ℕ) (w : PageWrite) → write_of_page ws p ≡ Some w → (s.holder p ≡ Some c) × (t.row p ≡ Some w.grant)) → SessionFacts c (store_after s c t (ApplyCommit x ws)) (session_after t (ApplyCommit x ws)) k
good_apply c s t k x ws h n e l a = grind arith

pub now_apply : (c : ℕ) (s : Store) (t : Session) (k : Cache) (x : ℕ) (ws : List PageWrite) (y : Body) → SessionFacts c s t k → ((q : ℕ) → s.version q ≤ s.last_commit) → MessageFact c s t k (Commit x ws) → t.txn ≡ x → t.ended < x → ((p : ℕ) (w : PageWrite) → write_of_page ws p ≡ Some w → (s.holder p ≡ Some c) × (t.row p ≡ Some w.grant)) → MessageFact c s t k y → MessageFact c (store_after s c t (ApplyCommit x ws)) (session_after t (ApplyCommit x ws)) k y
now_apply c s t k x ws y h v n e l a f = grind arith

pub good_admit : (c : ℕ) (s : Store) (t : Session) (k : Cache) (i : ℕ) → SessionFacts c s t k → t.current < i → ((j x n : ℕ) → HasCommitNumber s c j x n → j ≤ t.current) → SessionFacts c (store_after s c t (Admit i)) (session_after t (Admit i)) new_cache
good_admit c s t k i h l m = grind arith

pub good_other_clear : (c d : ℕ) (s : Store) (t u : Session) (k : Cache) (x : ℕ) → d ≢ c → SessionFacts d s u k → SessionFacts d (store_after s c t (BeginTransaction x)) u k
good_other_clear c d s t u k x ne h = grind arith

pub now_other_clear : (c d : ℕ) (s : Store) (t u : Session) (k : Cache) (x : ℕ) (y : Body) → d ≢ c → SessionFacts d s u k → MessageFact d s u k y → MessageFact d (store_after s c t (BeginTransaction x)) u k y
now_other_clear c d s t u k x y ne h f = grind arith

pub good_other_permit : (c d : ℕ) (s : Store) (t u : Session) (k : Cache) (p g : ℕ) → d ≢ c → SessionFacts d s u k → u.row p ≡ None → NoOther s c p → SessionFacts d (store_after s c t (PermitWrite p g)) u k
good_other_permit c d s t u k p g ne h e n = grind arith

pub now_other_permit : (c d : ℕ) (s : Store) (t u : Session) (k : Cache) (p g : ℕ) (y : Body) → d ≢ c → SessionFacts d s u k → u.row p ≡ None → NoOther s c p → MessageFact d s u k y → MessageFact d (store_after s c t (PermitWrite p g)) u k y
now_other_permit c d s t u k p g y ne h e n f = grind arith

pub good_other_apply : (c d : ℕ) (s : Store) (t u : Session) (k : Cache) (x : ℕ) (ws : List PageWrite) → d ≢ c → SessionFacts d s u k → ((p : ℕ) (w : PageWrite) → write_of_page ws p ≡ Some w → s.holder p ≡ Some c) → SessionFacts d (store_after s c t (ApplyCommit x ws)) u k
good_other_apply c d s t u k x ws ne h a = grind arith

pub now_other_apply : (c d : ℕ) (s : Store) (t u : Session) (k : Cache) (x : ℕ) (ws : List PageWrite) (y : Body) → d ≢ c → SessionFacts d s u k → ((q : ℕ) → s.version q ≤ s.last_commit) → ((p : ℕ) (w : PageWrite) → write_of_page ws p ≡ Some w → s.holder p ≡ Some c) → MessageFact d s u k y → MessageFact d (store_after s c t (ApplyCommit x ws)) u k y
now_other_apply c d s t u k x ws y ne h v a f = grind arith

pub good_take_down : (c : ℕ) (s : Store) (t : Session) (k : Cache) (p g x : ℕ) → SessionFacts c s t k → MessageFact c s t k (Downgraded p g x) → t.row p ≡ Some g → s.tag p ≡ x → SessionFacts c (store_after s c t (EndPermission p g x)) (session_after t (EndPermission p g x)) k
good_take_down c s t k p g x h n e q = grind arith

pub now_take_down : (c : ℕ) (s : Store) (t : Session) (k : Cache) (p g x : ℕ) (y : Body) → SessionFacts c s t k → MessageFact c s t k (Downgraded p g x) → t.row p ≡ Some g → s.tag p ≡ x → MessageFact c s t k y → MessageFact c (store_after s c t (EndPermission p g x)) (session_after t (EndPermission p g x)) k y
now_take_down c s t k p g x y h n e q f = grind arith

pub good_other_gone : (c d : ℕ) (s : Store) (t u : Session) (k : Cache) (p g : ℕ) → d ≢ c → SessionFacts d s u k → SessionFacts d (store_after s c t (RemoveRow p g)) u k
good_other_gone c d s t u k p g ne h = grind arith

pub now_other_gone : (c d : ℕ) (s : Store) (t u : Session) (k : Cache) (p g : ℕ) (y : Body) → d ≢ c → SessionFacts d s u k → MessageFact d s u k y → MessageFact d (store_after s c t (RemoveRow p g)) u k y
now_other_gone c d s t u k p g y ne h f = grind arith

pub good_other_admit : (c d : ℕ) (s : Store) (t u : Session) (k : Cache) (x : ℕ) → d ≢ c → SessionFacts d s u k → SessionFacts d (store_after s c t (Admit x)) u k
good_other_admit c d s t u k x ne h = grind arith

pub now_other_admit : (c d : ℕ) (s : Store) (t u : Session) (k : Cache) (x : ℕ) (y : Body) → d ≢ c → SessionFacts d s u k → MessageFact d s u k y → MessageFact d (store_after s c t (Admit x)) u k y
now_other_admit c d s t u k x y ne h f = grind arith

pub good_other_down : (c d : ℕ) (s : Store) (t u : Session) (k : Cache) (p g x : ℕ) → d ≢ c → SessionFacts d s u k → SessionFacts d (store_after s c t (EndPermission p g x)) u k
good_other_down c d s t u k p g x ne h = grind arith

pub now_other_down : (c d : ℕ) (s : Store) (t u : Session) (k : Cache) (p g x : ℕ) (y : Body) → d ≢ c → SessionFacts d s u k → MessageFact d s u k y → MessageFact d (store_after s c t (EndPermission p g x)) u k y
now_other_down c d s t u k p g x y ne h f = grind arith
