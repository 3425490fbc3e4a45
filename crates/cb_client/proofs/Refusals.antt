-- The first fault of a call's causes, test by test.
use Rattle.std.proofs.Common.{if◌then◌else◌, ◌≡◌, ◌≢◌, ℕ, nat_le, Bool, true, false, not, ◌&&◌, ◌==◌, length, List, [], ◌∷◌, ◌++◌, Option, Some, None, ◌<◌, refl, sym, ◌∙◌, ap, arith}
use Rattle.std.proofs.lemmas.Bool.Decides.{nat_tests}
use Rattle.std.specs.Option.{is_some, option_map}
use Rattle.cb_protocol.proofs.Cases.{fault_of_finish, fault_of_read, fault_of_want, fault_of_write}
use Rattle.cb_protocol.specs.Answers as table
use Rattle.cb_protocol.specs.Basics.{Bytes, is_none}
use Rattle.cb_protocol.specs.Client.{Client, has_room, is_asking}
use Rattle.cb_protocol.specs.Serial.{Operation}
use Rattle.cb_page.specs.Flags.{has}
use Rattle.cb_cache.specs.CacheState.{client_with, content_at}
use Rattle.cb_protocol.proofs.ClientInvariant.{tidy}
use Rattle.cb_protocol.specs.Cache.{Idle}
use Rattle.cb_protocol.specs.Ranges.{InputFits}
use Rattle.cb_client_core.specs.ClientState.{ClientState, IsClient, ask_of, base_of, client_of, locks_with, stage_of}
use Rattle.cb_client_core.specs.declared.stage.Stage.{Stage}
use Rattle.cb_client_core.specs.declared.stage.Stage.TheVariants as stages
use Rattle.cb_client.specs.ByTable.{limits_at}
use Rattle.cb_protocol.specs.ClientCalls.{CallFinish, CallRead, CallWant, CallWrite, Cause, call_fault, cause_of, first_refusal, open_causes, page_causes, read_causes}

-- the first fault of two lists of causes: of the first, else of the second
pub of_first : (xs ys : List Cause) (f : Option table.ClientFault) → Some f ≡ option_map Some (first_refusal xs) → Some f ≡ option_map Some (first_refusal (xs ++ ys))
of_first [] ys f e = absurd cc
of_first (x ∷ xs) ys f e = by x.holds (λ z. of_first xs ys f z) e
  where
    by : (b : Bool) → (Some f ≡ option_map Some (first_refusal xs) → Some f ≡ option_map Some (first_refusal (xs ++ ys)))
        → Some f ≡ option_map Some (if b then Some x.fault else first_refusal xs) → Some f ≡ option_map Some (if b then Some x.fault else first_refusal (xs ++ ys))
    by true more e = e
    by false more e = more e

none_first : (xs ys : List Cause) → None ≡ option_map Some (first_refusal xs) → first_refusal (xs ++ ys) ≡ first_refusal ys
none_first [] ys e = refl
none_first (x ∷ xs) ys e = by x.holds (λ z. none_first xs ys z) e
  where
    by : (b : Bool) → (None ≡ option_map Some (first_refusal xs) → first_refusal (xs ++ ys) ≡ first_refusal ys)
        → None ≡ option_map Some (if b then Some x.fault else first_refusal xs) → (if b then Some x.fault else first_refusal (xs ++ ys)) ≡ first_refusal ys
    by true more e = absurd cc
    by false more e = more e

pub of_second : (xs ys : List Cause) (r : Option (Option table.ClientFault)) → None ≡ option_map Some (first_refusal xs) → r ≡ option_map Some (first_refusal ys)
    → r ≡ option_map Some (first_refusal (xs ++ ys))
of_second xs ys r e f = f ∙ ap (λ (o : Option table.ClientFault). option_map Some o) (sym (none_first xs ys e))

-- what is found among the causes, whatever the operations
abbrev pub FirstIs : ClientState → (Client → List Cause) → Option (Option table.ClientFault) → Type 0
FirstIs v causes r = (ops : List Operation) → r ≡ option_map Some (first_refusal (causes (client_of v ops)))

-- a transaction that has begun did so after the Welcome
pub begun_welcomed : (v : ClientState) (stage : Stage) → IsClient v → v.stage ≡ stage → stage_of stage ≢ Idle → v.welcomed ≡ true
begun_welcomed v stage is stands begun = by v.welcomed refl
  where
    by : (b : Bool) → v.welcomed ≡ b → v.welcomed ≡ true
    by true e = e
    by false e =
        let keeps = tidy (limits_at v) (InputFits (limits_at v)) (client_of v is.reached.operations) is.reached.arises in
        absurd (begun (sym (ap stage_of stands) ∙ keeps.shut e))

-- of a call that needs an open transaction
pub open_free : (v : ClientState) → IsClient v → v.stage ≡ stages.Open → FirstIs v open_causes None
open_free v is stands ops = rw (begun_welcomed v stages.Open is stands (λ e. cc), stands) refl

pub open_committing : (v : ClientState) → IsClient v → v.stage ≡ stages.Committing → FirstIs v open_causes (Some (Some table.Committing))
open_committing v is stands ops = rw (begun_welcomed v stages.Committing is stands (λ e. cc), stands) refl

pub open_idle : (v : ClientState) → v.welcomed ≡ true → v.stage ≡ stages.Idle → FirstIs v open_causes (Some (Some table.NoTransaction))
open_idle v welcome stands ops = rw (welcome, stands) refl

pub open_unwelcome : (v : ClientState) → v.welcomed ≡ false → FirstIs v open_causes (Some (Some table.NotWelcome))
open_unwelcome v unwelcome ops = rw unwelcome refl

-- of a call that names a page
abbrev pub of_page : ClientState → ℕ → Client → List Cause
of_page v p k = page_causes (limits_at v) k p

abbrev page_rest : ClientState → ℕ → List Cause
page_rest v p = cause_of (nat_le v.copies.limits.pages p) table.PageRange ∷ []

-- what is found of a call that names no page
abbrev pub FreeIs : ClientState → Option (Option table.ClientFault) → Type 0
FreeIs v r = (ops : List Operation) → r ≡ option_map Some (call_fault (limits_at v) (client_of v ops) CallFinish)

-- the causes of the end of a transaction by its commit
abbrev finish_rest : ClientState → List Cause
finish_rest v = cause_of (is_asking (ask_of v.ask)) table.Waiting ∷ []

abbrev pub of_finish : ClientState → Client → List Cause
of_finish v k = open_causes k ++ finish_rest v

pub finish_is : (v : ClientState) (r : Option (Option table.ClientFault)) → FirstIs v (of_finish v) r → FreeIs v r
finish_is v r e ops = e ops ∙ ap (λ (o : Option table.ClientFault). option_map Some o) (sym (fault_of_finish (limits_at v) (client_of v ops)))

finish_first : (v : ClientState) (r : Option (Option table.ClientFault)) → FreeIs v r → FirstIs v (of_finish v) r
finish_first v r e ops = e ops ∙ ap (λ (o : Option table.ClientFault). option_map Some o) (fault_of_finish (limits_at v) (client_of v ops))

-- what such a call is refused for, one that names a page is too
pub page_shut : (v : ClientState) (p : ℕ) (f : Option table.ClientFault) → FreeIs v (Some f) → FirstIs v (of_page v p) (Some f)
page_shut v p f e ops = of_first (of_finish v (client_of v ops)) (page_rest v p) f (finish_first v (Some f) e ops)

pub page_past : (v : ClientState) (p : ℕ) → FreeIs v None → nat_le v.copies.limits.pages p ≡ true → FirstIs v (of_page v p) (Some (Some table.PageRange))
page_past v p n e ops = of_second (of_finish v (client_of v ops)) (page_rest v p) _ (finish_first v None n ops) (rw e refl)

pub page_free : (v : ClientState) (p : ℕ) → FreeIs v None → nat_le v.copies.limits.pages p ≡ false → FirstIs v (of_page v p) None
page_free v p n e ops = of_second (of_finish v (client_of v ops)) (page_rest v p) _ (finish_first v None n ops) (rw e refl)

pub page_within : (v : ClientState) (p : ℕ) → FreeIs v None → p < v.copies.limits.pages → FirstIs v (of_page v p) None
page_within v p n lt = page_free v p n (grind (arith, nat_tests))

none_there : {A : Type 0} (o : Option A) → is_some o ≡ false → is_none o ≡ true
none_there None e = refl
none_there (Some a) e = absurd cc

some_there : {A : Type 0} (o : Option A) → is_some o ≡ true → is_none o ≡ false
some_there None e = absurd cc
some_there (Some a) e = refl

-- of one that needs a page that was read and is here
abbrev pub of_read : ClientState → ℕ → Client → List Cause
of_read v p k = page_causes (limits_at v) k p ++ read_causes k p

abbrev read_rest : ClientState → ℕ → List Cause
read_rest v p = cause_of (not (has v.locks.locked p)) table.NotRead ∷ cause_of (is_none (content_at v.copies p)) table.NotHere ∷ []

pub read_shut : (v : ClientState) (p : ℕ) (f : Option table.ClientFault) → FirstIs v (of_page v p) (Some f) → FirstIs v (of_read v p) (Some f)
read_shut v p f e ops = of_first (of_page v p (client_of v ops)) (read_rest v p) f (e ops)

pub read_unlocked : (v : ClientState) (p : ℕ) → FirstIs v (of_page v p) None → has v.locks.locked p ≡ false → FirstIs v (of_read v p) (Some (Some table.NotRead))
read_unlocked v p n e ops = of_second (of_page v p (client_of v ops)) (read_rest v p) _ (n ops) (rw e refl)

pub read_bare : (v : ClientState) (p : ℕ) → FirstIs v (of_page v p) None → has v.locks.locked p ≡ true → is_some (content_at v.copies p) ≡ false
    → FirstIs v (of_read v p) (Some (Some table.NotHere))
read_bare v p n e f ops = of_second (of_page v p (client_of v ops)) (read_rest v p) _ (n ops) (rw (e, none_there (content_at v.copies p) f) refl)

pub read_free : (v : ClientState) (p : ℕ) → FirstIs v (of_page v p) None → has v.locks.locked p ≡ true → is_some (content_at v.copies p) ≡ true → FirstIs v (of_read v p) None
read_free v p n e f ops = of_second (of_page v p (client_of v ops)) (read_rest v p) _ (n ops) (rw (e, some_there (content_at v.copies p) f) refl)

pub want_is : (v : ClientState) (p : ℕ) (r : Option (Option table.ClientFault)) → FirstIs v (of_read v p) r
    → (ops : List Operation) → r ≡ option_map Some (call_fault (limits_at v) (client_of v ops) (CallWant p))
want_is v p r e ops = e ops ∙ ap (λ (o : Option table.ClientFault). option_map Some o) (sym (fault_of_want (limits_at v) (client_of v ops) p))

-- of a write
abbrev write_rest : ClientState → ℕ → Bytes → List Cause
write_rest v p b = cause_of (not (has v.copies.may_write p)) table.NotWritable ∷ cause_of (not (length b == v.copies.limits.page_size)) table.WrongLength ∷ []

abbrev pub of_write : ClientState → ℕ → Bytes → Client → List Cause
of_write v p b k = of_read v p k ++ write_rest v p b

pub write_is : (v : ClientState) (p : ℕ) (b : Bytes) (r : Option (Option table.ClientFault)) → FirstIs v (of_write v p b) r
    → (ops : List Operation) → r ≡ option_map Some (call_fault (limits_at v) (client_of v ops) (CallWrite p b))
write_is v p b r e ops = e ops ∙ ap (λ (o : Option table.ClientFault). option_map Some o) (sym (fault_of_write (limits_at v) (client_of v ops) p b))

pub write_shut : (v : ClientState) (p : ℕ) (b : Bytes) (f : Option table.ClientFault) → FirstIs v (of_read v p) (Some f) → FirstIs v (of_write v p b) (Some f)
write_shut v p b f e ops = of_first (of_read v p (client_of v ops)) (write_rest v p b) f (e ops)

pub write_unpermitted : (v : ClientState) (p : ℕ) (b : Bytes) → FirstIs v (of_read v p) None → has v.copies.may_write p ≡ false
    → FirstIs v (of_write v p b) (Some (Some table.NotWritable))
write_unpermitted v p b n e ops = of_second (of_read v p (client_of v ops)) (write_rest v p b) _ (n ops) (rw e refl)

pub write_sized : (v : ClientState) (p : ℕ) (b : Bytes) → FirstIs v (of_read v p) None → has v.copies.may_write p ≡ true → (length b == v.copies.limits.page_size) ≡ false
    → FirstIs v (of_write v p b) (Some (Some table.WrongLength))
write_sized v p b n e f ops = of_second (of_read v p (client_of v ops)) (write_rest v p b) _ (n ops) (rw (e, f) refl)

pub write_free : (v : ClientState) (p : ℕ) (b : Bytes) → FirstIs v (of_read v p) None → has v.copies.may_write p ≡ true → (length b == v.copies.limits.page_size) ≡ true
    → FirstIs v (of_write v p b) None
write_free v p b n e f ops = of_second (of_read v p (client_of v ops)) (write_rest v p b) _ (n ops) (rw (e, f) refl)

-- of a read
abbrev fetch_rest : ClientState → ℕ → Client → List Cause
fetch_rest v p k = cause_of (is_none (content_at v.copies p) && not (has_room (limits_at v) k)) table.PoolFull ∷ []

abbrev pub of_fetch : ClientState → ℕ → Client → List Cause
of_fetch v p k = of_page v p k ++ fetch_rest v p k

pub fetch_is : (v : ClientState) (p : ℕ) (r : Option (Option table.ClientFault)) → FirstIs v (of_fetch v p) r
    → (ops : List Operation) → r ≡ option_map Some (call_fault (limits_at v) (client_of v ops) (CallRead p))
fetch_is v p r e ops = e ops ∙ ap (λ (o : Option table.ClientFault). option_map Some o) (sym (fault_of_read (limits_at v) (client_of v ops) p))

pub fetch_shut : (v : ClientState) (p : ℕ) (f : Option table.ClientFault) → FirstIs v (of_page v p) (Some f) → FirstIs v (of_fetch v p) (Some f)
fetch_shut v p f e ops = of_first (of_page v p (client_of v ops)) (fetch_rest v p (client_of v ops)) f (e ops)

pub fetch_full : (v : ClientState) (p : ℕ) → FirstIs v (of_page v p) None → is_some (content_at v.copies p) ≡ false
    → ((k : Client) → false ≡ has_room (limits_at v) (client_with v.copies k)) → FirstIs v (of_fetch v p) (Some (Some table.PoolFull))
fetch_full v p n e full ops = of_second (of_page v p (client_of v ops)) (fetch_rest v p (client_of v ops)) _ (n ops)
    (rw (none_there (content_at v.copies p) e, ← full (locks_with v.locks (base_of v ops))) refl)

pub fetch_here : (v : ClientState) (p : ℕ) → FirstIs v (of_page v p) None → is_some (content_at v.copies p) ≡ true → FirstIs v (of_fetch v p) None
fetch_here v p n e ops = of_second (of_page v p (client_of v ops)) (fetch_rest v p (client_of v ops)) _ (n ops) (rw (some_there (content_at v.copies p) e) refl)

pub fetch_room : (v : ClientState) (p : ℕ) → FirstIs v (of_page v p) None → ((k : Client) → true ≡ has_room (limits_at v) (client_with v.copies k)) → FirstIs v (of_fetch v p) None
fetch_room v p n room ops = of_second (of_page v p (client_of v ops)) (fetch_rest v p (client_of v ops)) _ (n ops)
    (rw (← room (locks_with v.locks (base_of v ops))) (by (is_none (content_at v.copies p))))
  where
    by : (b : Bool) → None ≡ option_map Some (if (b && false) then Some table.PoolFull else None)
    by true = refl
    by false = refl

-- of the end of a transaction by its commit
pub finish_shut : (v : ClientState) (f : Option table.ClientFault) → FirstIs v open_causes (Some f) → FirstIs v (of_finish v) (Some f)
finish_shut v f e ops = of_first (open_causes (client_of v ops)) (finish_rest v) f (e ops)

pub finish_waits : (v : ClientState) → FirstIs v open_causes None → is_asking (ask_of v.ask) ≡ true → FirstIs v (of_finish v) (Some (Some table.Waiting))
finish_waits v n e ops = of_second (open_causes (client_of v ops)) (finish_rest v) _ (n ops) (rw e refl)

pub finish_free : (v : ClientState) → FirstIs v open_causes None → is_asking (ask_of v.ask) ≡ false → FirstIs v (of_finish v) None
finish_free v n e ops = of_second (open_causes (client_of v ops)) (finish_rest v) _ (n ops) (rw e refl)
