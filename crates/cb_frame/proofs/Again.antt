-- What is spelled so is read.
use Rattle.std.proofs.Common.{◌≡◌, ℕ, suc, ◌+◌, ◌-◌, ◌*◌, ◌%◌, ◌^◌, ◌<◌, ◌≤◌, ◌&&◌, true, false, not, nat_lt, List, [], ◌∷◌, ◌++◌, length, map, take, drop, Option, Some, None, refl, sym, ap, subst, ◌∙◌, append_assoc, arith}
use Rattle.std.specs.Prelude.{◌==◌, unwrap_or, Result, Ok, Err, IfOk, MatchResult}
use Rattle.std.specs.Int.{w16, w32, w64, to_be_bytes}
use Rattle.std.specs.List.{flat_map, list_all, AllByRecursion}
use Rattle.std.proofs.lemmas.List.{take_at, drop_at, length-append, append-nil}
use Rattle.std.proofs.lemmas.List.Concat.{flat_map-cons}
use Rattle.std.proofs.lemmas.Bool.{and_from, lt-ltb, le-ltb, le-leb, eq-eqb}
use Rattle.std.proofs.Math.Seq.{take-length}
use Rattle.std.proofs.Math.Nat.{mul-mod_left, mul-le-mul_right}
use Rattle.cb_page.specs.Bounds.{Bounds, AreInRange}
use Rattle.cb_page.specs.Faults.{first_fault}
use Rattle.cb_page.specs.Numbers.{IsNumber}
use Rattle.cb_page.specs.Rising.{RisesFrom}
use Rattle.cb_page.proofs.Ranges.{number_tests, rises_tests}
use Rattle.cb_frame.specs.declared.fields.Fields.{Fields}
use Rattle.cb_frame.specs.declared.fields.Fields.TheVariants as fields
use Rattle.cb_frame.specs.declared.frame.Frame.{Frame}
use Rattle.cb_frame.specs.declared.frame.Body.{Body}
use Rattle.cb_frame.specs.declared.frame.Body.TheVariants as body
use Rattle.cb_frame.specs.declared.frame.ShortBody.{ShortBody}
use Rattle.cb_frame.specs.declared.frame.ShortBody.TheVariants as short
use Rattle.cb_frame.specs.declared.kind.Kind.{Kind}
use Rattle.cb_frame.specs.declared.kind.Kind.TheVariants as kind
use Rattle.cb_frame.specs.declared.version.FrameVersion.{FrameVersion}
use Rattle.cb_frame.specs.declared.version.FrameVersion.TheVariants.{One, Two}
use Rattle.cb_frame.specs.declared.writes.Write.{Write}
use Rattle.cb_frame.specs.declared.fault.FrameFault.{FrameFault}
use Rattle.cb_frame.specs.declared.fault.FrameFault.TheVariants as fault
use Rattle.cb_frame.specs.Fields.{FieldsFit, fields_fit, fields_of, fields_spelling, word}
use Rattle.cb_frame.specs.Grammar.{WriteFits, page_of, ShortFits, BodyFits, Fits, IsFrameIn}
use Rattle.cb_frame.specs.Grammar.{IsFrameInSome}
use Rattle.cb_frame.specs.Kinds.{kind_of_short, kind_of_body, code_of}
use Rattle.cb_frame.specs.Spelling.{page_spelling, write_spelling, body_spelling, spelling_in}
use Rattle.cb_frame.specs.Versions.{has_kind, has_size, size_length, size_width, version_byte}
use Rattle.cb_frame.specs.Checks.{number, version_of, kind_of, count_in, can_be_length, short_length, sizes_fit, parts_fit, write_in, write_length, writes_at, short_at, body_at, is_write, numbers_fit, pages_rise, body_length, body_bytes, is_sender, frame_at, causes_by_kind, causes_by_version, causes, version_in_front, frame_in_front, fault_in_bytes, Gives}
use Rattle.cb_frame.proofs.Found.{frame_found}
use Rattle.cb_frame.proofs.ReadAgain.{IsBytes, next_cause, again16, again32, again64, length-size, number-append, size_again}

length-page_spelling : (v : FrameVersion) (bytes : List ℕ) → length (page_spelling v bytes) ≡ size_length v + length bytes
unfolding word page_spelling
length-page_spelling v bytes = length-append (to_be_bytes (size_width v) (length bytes)) bytes ∙ ap (λ n. n + length bytes) (length-size v (length bytes))

length-write_spelling : (v : FrameVersion) (w : Write) → length (write_spelling v w) ≡ write_length v (length w.bytes)
unfolding word write_spelling
length-write_spelling v w = omega (arith, length-page_spelling v w.bytes)

pub length-writes : (l : Bounds) (v : FrameVersion) (ws : List Write) → AllByRecursion (WriteFits l) ws → length (flat_map (write_spelling v) ws) ≡ length ws * write_length v l.page_size
length-writes l v [] h = omega arith
length-writes l v (w ∷ ws) h =
    ap length (flat_map-cons (write_spelling v) w ws) ∙ omega (arith, length-append (write_spelling v w) (flat_map (write_spelling v) ws), length-write_spelling v w, h.0.bytes, length-writes l v ws h.1)

-- a page with its size before it
size_of_page : (l : Bounds) (v : FrameVersion) (bytes rest : List ℕ) → AreInRange l → has_size v l.page_size ≡ true → length bytes ≡ l.page_size
    → number (size_width v) 0 (page_spelling v bytes ++ rest) ≡ l.page_size
unfolding page_spelling word
size_of_page l v bytes rest range has len =
    let small = range.page_size in
    rw (len, append_assoc (to_be_bytes (size_width v) l.page_size) bytes rest) (size_again v l.page_size (bytes ++ rest) has small)

-- the bytes of a page behind twelve others and its size
bytes_of_write : (v : FrameVersion) (w : Write) (rest : List ℕ) (page_size : ℕ) → length w.bytes ≡ page_size
    → take page_size (drop (12 + size_length v) (write_spelling v w ++ rest)) ≡ w.bytes
unfolding word write_spelling page_spelling
bytes_of_write One w rest page_size len = take_at w.bytes rest page_size len
bytes_of_write Two w rest page_size len = take_at w.bytes rest page_size len

write_again : (l : Bounds) (v : FrameVersion) (w : Write) (rest : List ℕ) → AreInRange l → WriteFits l w → write_in v l.page_size (write_spelling v w ++ rest) ≡ w
unfolding word write_spelling
write_again l v w rest range fits =
    let pages = range.pages in
    let p = fits.page in
    let page : number w32 0 (write_spelling v w ++ rest) ≡ w.page = again32 w.page (to_be_bytes w64 w.grant ++ (page_spelling v w.bytes ++ rest)) (omega arith) in
    let grant : number w64 4 (write_spelling v w ++ rest) ≡ w.grant = number-append w64 (to_be_bytes w32 w.page) (to_be_bytes w64 w.grant ++ (page_spelling v w.bytes ++ rest)) 4 refl ∙ again64 w.grant (page_spelling v w.bytes ++ rest) (omega (arith, fits.grant.1)) in
    let bytes = bytes_of_write v w rest l.page_size fits.bytes in
    rw (page, grant, bytes) refl

size_of_write : (l : Bounds) (v : FrameVersion) (w : Write) (rest : List ℕ) → AreInRange l → has_size v l.page_size ≡ true → WriteFits l w → number (size_width v) 12 (write_spelling v w ++ rest) ≡ l.page_size
unfolding word write_spelling
size_of_write l v w rest range has fits =
    number-append (size_width v) (to_be_bytes w32 w.page ++ to_be_bytes w64 w.grant) (page_spelling v w.bytes ++ rest) 12 refl ∙ size_of_page l v w.bytes rest range has fits.bytes

after_write : (l : Bounds) (v : FrameVersion) (w : Write) (rest : List ℕ) → WriteFits l w → drop (write_length v l.page_size) (write_spelling v w ++ rest) ≡ rest
after_write l v w rest fits = drop_at (write_spelling v w) rest (write_length v l.page_size) (length-write_spelling v w ∙ ap (write_length v) fits.bytes)

writes_again : (l : Bounds) (v : FrameVersion) (ws : List Write) → AreInRange l → AllByRecursion (WriteFits l) ws → writes_at v l.page_size (length ws) (flat_map (write_spelling v) ws) ≡ ws
unfolding writes_at
writes_again l v [] range fits = refl
writes_again l v (w ∷ ws) range fits =
    let rest = flat_map (write_spelling v) ws in
    ap (writes_at v l.page_size (suc (length ws))) (flat_map-cons (write_spelling v) w ws)
    ∙ rw (write_again l v w rest range fits.0, after_write l v w rest fits.0, writes_again l v ws range fits.1) refl

sizes_again : (l : Bounds) (v : FrameVersion) (ws : List Write) → AreInRange l → has_size v l.page_size ≡ true → AllByRecursion (WriteFits l) ws → sizes_fit v l.page_size (length ws) (flat_map (write_spelling v) ws) ≡ true
unfolding sizes_fit
sizes_again l v [] range has fits = refl
sizes_again l v (w ∷ ws) range has fits =
    let rest = flat_map (write_spelling v) ws in
    ap (sizes_fit v l.page_size (suc (length ws))) (flat_map-cons (write_spelling v) w ws)
    ∙ and_from _ _ (eq-eqb _ _ (size_of_write l v w rest range has fits.0)) (ap (sizes_fit v l.page_size (length ws)) (after_write l v w rest fits.0) ∙ sizes_again l v ws range has fits.1)

writes_test : (l : Bounds) (ws : List Write) → AllByRecursion (WriteFits l) ws → list_all (is_write l) ws ≡ true
writes_test l [] h = refl
writes_test l (w ∷ ws) h = and_from _ _ (and_from _ _ (lt-ltb _ _ h.0.page) (number_tests _ h.0.grant)) (writes_test l ws h.1)

-- there is no room for more rising pages than pages
pub few_rise : (l : Bounds) (least : ℕ) (ws : List Write) → AllByRecursion (WriteFits l) ws → RisesFrom least (map page_of ws) → length ws ≤ l.pages - least
few_rise l least [] fits rise = omega arith
few_rise l least (w ∷ ws) fits rise =
    let p = fits.0.page in
    omega (arith, few_rise l (w.page + 1) ws fits.1 rise.1, rise.0)

count_again : (v : FrameVersion) (page_size n : ℕ) → count_in v page_size (10 + n * write_length v page_size) ≡ n
count_again v page_size n = grind arith

whole_again : (v : FrameVersion) (page_size n : ℕ) → (10 + n * write_length v page_size - 10) % write_length v page_size ≡ 0
whole_again v page_size n = let e : 10 + n * write_length v page_size - 10 ≡ n * write_length v page_size = omega arith in ap (λ m. m % write_length v page_size) e ∙ mul-mod_left n (write_length v page_size)

length-commit : (l : Bounds) (v : FrameVersion) (txn : ℕ) (ws : List Write) → AllByRecursion (WriteFits l) ws → length (body_spelling v (body.Commit txn ws)) ≡ 10 + length ws * write_length v l.page_size
unfolding word body_spelling
length-commit l v txn ws fits = omega (arith, length-writes l v ws fits)

pub length-granted : (v : FrameVersion) (page grant page_version : ℕ) (bytes : List ℕ) → length (body_spelling v (body.Granted page grant page_version bytes)) ≡ 20 + size_length v + length bytes
unfolding word body_spelling
length-granted v page grant page_version bytes = omega (arith, length-page_spelling v bytes)

-- the bodies without page bytes
short_can : (s : ShortBody) → length (fields_spelling (fields_of s)) ≡ short_length (kind_of_short s)
unfolding short_length short_at fields_spelling word
short_can short.Hello = refl
short_can _ = refl

short_can_be : (l : Bounds) (v : FrameVersion) (s : ShortBody) (len : ℕ) → can_be_length l v (kind_of_short s) len ≡ (len == short_length (kind_of_short s))
unfolding can_be_length
short_can_be l v short.Hello len = refl
short_can_be l v _ len = refl

short_parts : (l : Bounds) (v : FrameVersion) (s : ShortBody) (b : List ℕ) → parts_fit l v (kind_of_short s) b ≡ true
unfolding parts_fit
short_parts l v short.Hello b = refl
short_parts l v _ b = refl

short_body : (l : Bounds) (v : FrameVersion) (s : ShortBody) (b : List ℕ) → body_at l v (kind_of_short s) b ≡ body.Short (short_at (kind_of_short s) b)
unfolding body_at
short_body l v short.Hello b = refl
short_body l v _ b = refl

wide : (n : ℕ) → IsNumber n → n < 2 ^ 64
wide n h = omega (arith, h.1)

-- a number in front, and numbers one behind the other
txn_again : (txn : ℕ) (rest : List ℕ) → IsNumber txn → number w64 0 (word w64 txn ++ rest) ≡ txn
unfolding word
txn_again txn rest h = again64 txn rest (wide txn h)

page_behind : (l : Bounds) (txn page : ℕ) (rest : List ℕ) → AreInRange l → page < l.pages → number w32 8 (word w64 txn ++ (word w32 page ++ rest)) ≡ page
unfolding word
page_behind l txn page rest range lt =
    let pages = range.pages in
    number-append w32 (to_be_bytes w64 txn) (to_be_bytes w32 page ++ rest) 8 refl ∙ again32 page rest (omega arith)

grant_behind : (txn page grant : ℕ) → IsNumber grant → number w64 12 (word w64 txn ++ (word w32 page ++ word w64 grant)) ≡ grant
unfolding word
grant_behind txn page grant h = number-append w64 (to_be_bytes w64 txn ++ to_be_bytes w32 page) (to_be_bytes w64 grant) 12 refl ∙ again64 grant [] (wide grant h)

page_again : (l : Bounds) (page : ℕ) (rest : List ℕ) → AreInRange l → page < l.pages → number w32 0 (word w32 page ++ rest) ≡ page
unfolding word
page_again l page rest range lt = let pages = range.pages in again32 page rest (omega arith)

grant_again : (page grant : ℕ) (rest : List ℕ) → IsNumber grant → number w64 4 (word w32 page ++ (word w64 grant ++ rest)) ≡ grant
unfolding word
grant_again page grant rest h = number-append w64 (to_be_bytes w32 page) (to_be_bytes w64 grant ++ rest) 4 refl ∙ again64 grant rest (wide grant h)

number_behind : (txn n : ℕ) → IsNumber n → number w64 8 (word w64 txn ++ word w64 n) ≡ n
unfolding word
number_behind txn n h = number-append w64 (to_be_bytes w64 txn) (to_be_bytes w64 n) 8 refl ∙ again64 n [] (wide n h)

txn_behind : (page grant txn : ℕ) → IsNumber txn → number w64 12 (word w32 page ++ (word w64 grant ++ word w64 txn)) ≡ txn
unfolding word
txn_behind page grant txn h = number-append w64 (to_be_bytes w32 page ++ to_be_bytes w64 grant) (to_be_bytes w64 txn) 12 refl ∙ again64 txn [] (wide txn h)

-- by the shape of the fields
txn_alone : (make : ℕ → ShortBody) (txn : ℕ) → IsNumber txn → make (number w64 0 (word w64 txn)) ≡ make txn
unfolding word
txn_alone make txn h = rw (txn_again txn [] h) refl

txn_page : (make : ℕ → ℕ → ShortBody) (l : Bounds) (txn page : ℕ) → AreInRange l → IsNumber txn × (page < l.pages)
    → (let b = word w64 txn ++ word w32 page in make (number w64 0 b) (number w32 8 b) ≡ make txn page)
unfolding word
txn_page make l txn page range h = rw (txn_again txn (word w32 page) h.0, page_behind l txn page [] range h.1) refl

txn_page_grant : (make : ℕ → ℕ → ℕ → ShortBody) (l : Bounds) (txn page grant : ℕ) → AreInRange l → IsNumber txn × (page < l.pages) × IsNumber grant
    → (let b = word w64 txn ++ (word w32 page ++ word w64 grant) in make (number w64 0 b) (number w32 8 b) (number w64 12 b) ≡ make txn page grant)
txn_page_grant make l txn page grant range h =
    rw (txn_again txn (word w32 page ++ word w64 grant) h.0, page_behind l txn page (word w64 grant) range h.1, grant_behind txn page grant h.2) refl

txn_commit : (make : ℕ → ℕ → ShortBody) (txn n : ℕ) → IsNumber txn × IsNumber n → (let b = word w64 txn ++ word w64 n in make (number w64 0 b) (number w64 8 b) ≡ make txn n)
txn_commit make txn n h = rw (txn_again txn (word w64 n) h.0, number_behind txn n h.1) refl

page_grant : (make : ℕ → ℕ → ShortBody) (l : Bounds) (page grant : ℕ) → AreInRange l → (page < l.pages) × IsNumber grant
    → (let b = word w32 page ++ word w64 grant in make (number w32 0 b) (number w64 4 b) ≡ make page grant)
unfolding word
page_grant make l page grant range h = rw (page_again l page (word w64 grant) range h.0, grant_again page grant [] h.1) refl

page_grant_txn : (make : ℕ → ℕ → ℕ → ShortBody) (l : Bounds) (page grant txn : ℕ) → AreInRange l → (page < l.pages) × IsNumber grant × IsNumber txn
    → (let b = word w32 page ++ (word w64 grant ++ word w64 txn) in make (number w32 0 b) (number w64 4 b) (number w64 12 b) ≡ make page grant txn)
page_grant_txn make l page grant txn range h =
    rw (page_again l page (word w64 grant ++ word w64 txn) range h.0, grant_again page grant (word w64 txn) h.1, txn_behind page grant txn h.2) refl

short_again : (l : Bounds) (s : ShortBody) → AreInRange l → ShortFits l s → short_at (kind_of_short s) (fields_spelling (fields_of s)) ≡ s
unfolding short_at fields_spelling
short_again l short.Hello range fits = refl
short_again l (short.AskRead txn page) range fits = txn_page short.AskRead l txn page range fits
short_again l (short.AskWrite txn page grant) range fits = txn_page_grant short.AskWrite l txn page grant range fits
short_again l (short.GiveBack page grant) range fits = page_grant short.GiveBack l page grant range fits
short_again l (short.InUse txn page grant) range fits = txn_page_grant short.InUse l txn page grant range fits
short_again l (short.Drop txn) range fits = txn_alone short.Drop txn fits
short_again l short.Welcome range fits = refl
short_again l (short.MayWrite txn page grant) range fits = txn_page_grant short.MayWrite l txn page grant range fits
short_again l (short.Callback page grant) range fits = page_grant short.Callback l page grant range fits
short_again l (short.Done txn n) range fits = txn_commit short.Done txn n fits
short_again l (short.AbortNow txn) range fits = txn_alone short.AbortNow txn fits
short_again l (short.Downgraded page grant txn) range fits = page_grant_txn short.Downgraded l page grant txn range fits
short_again l (short.Downgrade page grant txn) range fits = page_grant_txn short.Downgrade l page grant txn range fits

fields_test : (l : Bounds) (f : Fields) → FieldsFit l f → fields_fit l f ≡ true
unfolding fields_fit
fields_test l fields.Nothing h = refl
fields_test l (fields.Txn txn) h = number_tests _ h
fields_test l (fields.TxnPage txn page) h = and_from _ _ (number_tests _ h.0) (lt-ltb _ _ h.1)
fields_test l (fields.TxnPageGrant txn page grant) h = and_from _ _ (number_tests _ h.0) (and_from _ _ (lt-ltb _ _ h.1) (number_tests _ h.2))
fields_test l (fields.TxnCommit txn number) h = and_from _ _ (number_tests _ h.0) (number_tests _ h.1)
fields_test l (fields.PageGrant page grant) h = and_from _ _ (lt-ltb _ _ h.0) (number_tests _ h.1)
fields_test l (fields.PageGrantTxn page grant txn) h = and_from _ _ (lt-ltb _ _ h.0) (and_from _ _ (number_tests _ h.1) (number_tests _ h.2))

-- ---- all bodies

can_again : (l : Bounds) (v : FrameVersion) (b : Body) → AreInRange l → BodyFits l b → can_be_length l v (kind_of_body b) (length (body_spelling v b)) ≡ true
unfolding can_be_length body_spelling
can_again l v (body.Short s) range fits = short_can_be l v s (length (fields_spelling (fields_of s))) ∙ eq-eqb _ _ (short_can s)
can_again l v (body.Commit txn ws) range fits =
    let few = few_rise l 0 ws fits.1 fits.2 in
    ap (can_be_length l v kind.Commit) (length-commit l v txn ws fits.1)
    ∙ and_from _ _ (le-leb _ _ (omega arith)) (and_from _ _ (eq-eqb _ _ (whole_again v l.page_size (length ws))) (le-leb _ _ (omega (arith, count_again v l.page_size (length ws)))))
can_again l v (body.Granted page grant page_version bytes) range fits =
    eq-eqb _ _ (length-granted v page grant page_version bytes ∙ ap (λ n. 20 + size_length v + n) fits.3)

parts_again : (l : Bounds) (v : FrameVersion) (b : Body) → AreInRange l → has_size v l.page_size ≡ true → BodyFits l b → parts_fit l v (kind_of_body b) (body_spelling v b) ≡ true
unfolding parts_fit word body_spelling
parts_again l v (body.Short s) range has fits = short_parts l v s (fields_spelling (fields_of s))
parts_again l v (body.Commit txn ws) range has fits =
    let few = few_rise l 0 ws fits.1 fits.2 in
    let pages = range.pages in
    let count : count_in v l.page_size (length (body_spelling v (body.Commit txn ws))) ≡ length ws = ap (count_in v l.page_size) (length-commit l v txn ws fits.1) ∙ count_again v l.page_size (length ws) in
    let read : number w16 8 (body_spelling v (body.Commit txn ws)) ≡ length ws = number-append w16 (to_be_bytes w64 txn) (to_be_bytes w16 (length ws) ++ flat_map (write_spelling v) ws) 8 refl ∙ again16 (length ws) (flat_map (write_spelling v) ws) (omega arith) in
    and_from _ _ (eq-eqb _ _ (read ∙ sym count)) (ap (λ n. sizes_fit v l.page_size n (flat_map (write_spelling v) ws)) count ∙ sizes_again l v ws range has fits.1)
parts_again l v (body.Granted page grant page_version bytes) range has fits =
    eq-eqb _ _ (number-append (size_width v) (to_be_bytes w32 page ++ (to_be_bytes w64 grant ++ to_be_bytes w64 page_version)) (page_spelling v bytes) 20 refl ∙ ap (number (size_width v) 0) (sym (append-nil (page_spelling v bytes))) ∙ size_of_page l v bytes [] range has fits.3)

bytes_of_granted : (v : FrameVersion) (page grant page_version page_size : ℕ) (bytes : List ℕ) → length bytes ≡ page_size
    → take page_size (drop (20 + size_length v) (body_spelling v (body.Granted page grant page_version bytes))) ≡ bytes
unfolding word body_spelling page_spelling
bytes_of_granted One page grant page_version page_size bytes len = ap (λ n. take n bytes) (sym len) ∙ take-length bytes
bytes_of_granted Two page grant page_version page_size bytes len = ap (λ n. take n bytes) (sym len) ∙ take-length bytes

body_again : (l : Bounds) (v : FrameVersion) (b : Body) → AreInRange l → BodyFits l b → body_at l v (kind_of_body b) (body_spelling v b) ≡ b
unfolding body_at word body_spelling
body_again l v (body.Short s) range fits = short_body l v s (fields_spelling (fields_of s)) ∙ ap body.Short (short_again l s range fits)
body_again l v (body.Commit txn ws) range fits =
    let count : count_in v l.page_size (length (body_spelling v (body.Commit txn ws))) ≡ length ws = ap (count_in v l.page_size) (length-commit l v txn ws fits.1) ∙ count_again v l.page_size (length ws) in
    let a : number w64 0 (body_spelling v (body.Commit txn ws)) ≡ txn = again64 txn (to_be_bytes w16 (length ws) ++ flat_map (write_spelling v) ws) (omega (arith, fits.0.1)) in
    let read : writes_at v l.page_size (count_in v l.page_size (length (body_spelling v (body.Commit txn ws)))) (flat_map (write_spelling v) ws) ≡ ws = ap (λ n. writes_at v l.page_size n (flat_map (write_spelling v) ws)) count ∙ writes_again l v ws range fits.1 in
    rw (a, read) refl
body_again l v (body.Granted page grant page_version bytes) range fits =
    let pages = range.pages in
    let rest = page_spelling v bytes in
    let whole = body_spelling v (body.Granted page grant page_version bytes) in
    let a : number w32 0 whole ≡ page = again32 page (to_be_bytes w64 grant ++ (to_be_bytes w64 page_version ++ rest)) (omega (arith, fits.0)) in
    let b : number w64 4 whole ≡ grant = number-append w64 (to_be_bytes w32 page) (to_be_bytes w64 grant ++ (to_be_bytes w64 page_version ++ rest)) 4 refl ∙ again64 grant (to_be_bytes w64 page_version ++ rest) (omega (arith, fits.1.1)) in
    let c : number w64 12 whole ≡ page_version = number-append w64 (to_be_bytes w32 page ++ to_be_bytes w64 grant) (to_be_bytes w64 page_version ++ rest) 12 refl ∙ again64 page_version rest (omega (arith, fits.2)) in
    let t : take l.page_size (drop (20 + size_length v) whole) ≡ bytes = bytes_of_granted v page grant page_version l.page_size bytes fits.3 in
    rw (a, b, c, t) refl

numbers_again : (l : Bounds) (b : Body) → BodyFits l b → numbers_fit l b ≡ true
unfolding numbers_fit
numbers_again l (body.Short s) fits = fields_test l (fields_of s) fits
numbers_again l (body.Commit txn ws) fits = and_from _ _ (number_tests _ fits.0) (writes_test l ws fits.1)
numbers_again l (body.Granted page grant page_version bytes) fits = and_from _ _ (lt-ltb _ _ fits.0) (and_from _ _ (number_tests _ fits.1) (le-leb _ _ fits.2))

rise_again : (l : Bounds) (b : Body) → BodyFits l b → pages_rise b ≡ true
unfolding pages_rise
rise_again l (body.Short s) fits = refl
rise_again l (body.Commit txn ws) fits = rises_tests 0 _ fits.2
rise_again l (body.Granted page grant page_version bytes) fits = refl

fields_length_small : (f : Fields) → length (fields_spelling f) ≤ 20
unfolding fields_spelling word
fields_length_small fields.Nothing = omega arith
fields_length_small _ = omega arith

size_length_small : (v : FrameVersion) → size_length v ≤ 4
size_length_small One = omega arith
size_length_small Two = omega arith

pub length_small : (l : Bounds) (v : FrameVersion) (b : Body) → AreInRange l → BodyFits l b → length (body_spelling v b) < 2 ^ 32
unfolding body_spelling
length_small l v (body.Short s) range fits = omega (arith, fields_length_small (fields_of s))
length_small l v (body.Commit txn ws) range fits =
    let few = few_rise l 0 ws fits.1 fits.2 in
    let pages = range.pages in
    let size = range.page_size in
    let n : length ws ≤ 4096 = omega arith in
    let short = size_length_small v in
    let most : write_length v l.page_size ≤ 65552 = omega arith in
    omega (arith, length-commit l v txn ws fits.1, mul-le-mul_right (write_length v l.page_size) n)
length_small l v (body.Granted page grant page_version bytes) range fits =
    let size = range.page_size in
    omega (arith, fits.3, length-granted v page grant page_version bytes, size_length_small v)

kind_again : (k : Kind) → kind_of (code_of k) ≡ Some k
unfolding kind_of
kind_again kind.Hello = refl
kind_again _ = refl

version_again : (v : FrameVersion) → version_of (version_byte v) ≡ Some v
unfolding version_of
version_again One = refl
version_again Two = refl

-- what is spelled has no fault, and is read as it was
pub record ReadsBack (l : Bounds) (v : FrameVersion) (f : Frame) (bytes : List ℕ) : Type 0 where
  pub faultless : first_fault (causes l bytes) ≡ None
  pub version : version_in_front bytes ≡ v
  pub frame : frame_in_front l bytes ≡ f
  pub used : 16 + body_length bytes ≡ length (spelling_in v f)

pub frame_again : (l : Bounds) (v : FrameVersion) (f : Frame) (rest : List ℕ) → AreInRange l → has_size v l.page_size ≡ true → has_kind v (kind_of_body f.body) ≡ true → Fits l f
    → ReadsBack l v f (spelling_in v f ++ rest)
unfolding is_sender spelling_in word
frame_again l v f rest range has knows fits =
    let bytes = spelling_in v f ++ rest in
    let b = body_spelling v f.body in
    let k = kind_of_body f.body in
    let clients = range.clients in
    let total : length bytes ≡ 16 + length b + length rest = omega (arith, length-append b rest) in
    let sender : List ℕ = version_byte v ∷ code_of k ∷ to_be_bytes w16 f.client in
    let header : List ℕ = version_byte v ∷ code_of k ∷ (to_be_bytes w16 f.client ++ to_be_bytes w64 f.incarnation) in
    let tail = to_be_bytes w32 (length b) ++ (b ++ rest) in
    let client : number w16 2 bytes ≡ f.client = number-append w16 (version_byte v ∷ code_of k ∷ []) (to_be_bytes w16 f.client ++ (to_be_bytes w64 f.incarnation ++ tail)) 2 refl ∙ again16 f.client (to_be_bytes w64 f.incarnation ++ tail) (omega (arith, fits.client)) in
    let incarnation : number w64 4 bytes ≡ f.incarnation = number-append w64 sender (to_be_bytes w64 f.incarnation ++ tail) 4 refl ∙ again64 f.incarnation tail (omega (arith, fits.incarnation.1)) in
    let len : body_length bytes ≡ length b = number-append w32 header tail 12 refl ∙ again32 (length b) (b ++ rest) (length_small l v f.body range fits.body) in
    let content : body_bytes bytes ≡ b = ap (λ n. take n (b ++ rest)) len ∙ take_at b rest (length b) refl in
    let kind-is : kind_of (code_of k) ≡ Some k = kind_again k in
    let version-is : version_of (version_byte v) ≡ Some v = version_again v in
    let body-is : body_at l v k (body_bytes bytes) ≡ f.body = ap (body_at l v k) content ∙ body_again l v f.body range fits.body in
    let read : frame_at l v k bytes ≡ f = rw (client, incarnation, body-is) refl in
    let can : not (can_be_length l v k (body_length bytes)) ≡ false = ap not (ap (can_be_length l v k) len ∙ can_again l v f.body range fits.body) in
    let parts : not (parts_fit l v k (body_bytes bytes)) ≡ false = ap not (ap (parts_fit l v k) content ∙ parts_again l v f.body range has fits.body) in
    let fit : not (is_sender l (number w16 2 bytes) (number w64 4 bytes) && numbers_fit l (body_at l v k (body_bytes bytes))) ≡ false =
    ap not (and_from _ _ (rw (client, incarnation) (and_from _ _ (lt-ltb _ _ fits.client) (number_tests _ fits.incarnation))) (ap (numbers_fit l) body-is ∙ numbers_again l f.body fits.body)) in
    let rise : not (pages_rise (body_at l v k (body_bytes bytes))) ≡ false = ap not (ap pages_rise body-is ∙ rise_again l f.body fits.body) in
    let long : nat_lt (length bytes) 16 ≡ false = le-ltb _ _ (omega arith) in
    let whole : nat_lt (length bytes) (16 + body_length bytes) ≡ false = le-ltb _ _ (omega arith) in
    let by_kind : first_fault (causes_by_kind l v bytes (Some k)) ≡ None =
    next_cause _ fault.Kind _ (ap not knows) (next_cause _ fault.Length _ can (next_cause _ fault.Short _ whole (next_cause _ fault.Length _ parts (next_cause _ fault.Range _ fit (next_cause _ fault.Order [] rise refl))))) in
    let by_version : first_fault (causes_by_version l bytes (Some v)) ≡ None =
    next_cause _ fault.Version _ (ap not has) (ap (λ (o : Option Kind). first_fault (causes_by_kind l v bytes o)) kind-is ∙ by_kind) in
    record {
      faultless = next_cause _ fault.Short _ long (ap (λ (o : Option FrameVersion). first_fault (causes_by_version l bytes o)) version-is ∙ by_version);
      version = ap (λ (o : Option FrameVersion). unwrap_or o Two) version-is;
      frame = ap (λ (o : Option FrameVersion). frame_at l (unwrap_or o Two) (unwrap_or (kind_of (code_of k)) kind.Hello) bytes) version-is ∙ ap (λ (o : Option Kind). frame_at l v (unwrap_or o kind.Hello) bytes) kind-is ∙ read;
      used = omega arith;
    }

-- the bytes of a frame in a version, and what follows them
pub spelled_again : (l : Bounds) (v : FrameVersion) (f : Frame) (spelled rest bytes : List ℕ) → AreInRange l → IsFrameIn v l f spelled → bytes ≡ spelled ++ rest → ReadsBack l v f bytes
spelled_again l v f spelled rest bytes range is e =
    subst (λ (x : List ℕ). ReadsBack l v f x) (sym (e ∙ ap (λ (x : List ℕ). x ++ rest) is.spelled)) (frame_again l v f rest range is.size is.kind is.fits)

pub is_found : (l : Bounds) (bytes : List ℕ) (r : Result (Frame × ℕ) FrameFault) → IsBytes bytes → Gives (first_fault (causes l bytes)) (frame_in_front l bytes, 16 + body_length bytes) r
    → IfOk r (λ x. IsFrameInSome l x.0 (take x.1 bytes))
is_found l bytes (Ok x) fits given = subst (λ (y : Frame × ℕ). IsFrameInSome l y.0 (take y.1 bytes)) (sym given.1) (version_in_front bytes, frame_found l bytes fits given.0)
is_found l bytes (Err e) fits given = tt

is_memory : (e : FrameFault) → None ≡ fault_in_bytes e → e ≡ fault.Memory
is_memory fault.Memory h = refl
is_memory fault.Short h = absurd cc
is_memory fault.Version h = absurd cc
is_memory fault.Kind h = absurd cc
is_memory fault.Length h = absurd cc
is_memory fault.Range h = absurd cc
is_memory fault.Order h = absurd cc

pub is_only : (l : Bounds) (v : FrameVersion) (f : Frame) (spelled rest bytes : List ℕ) (r : Result (Frame × ℕ) FrameFault) → AreInRange l → IsFrameIn v l f spelled → bytes ≡ spelled ++ rest
    → Gives (first_fault (causes l bytes)) (frame_in_front l bytes, 16 + body_length bytes) r → MatchResult r (λ x. x ≡ (f, length spelled)) (λ e. e ≡ fault.Memory)
is_only l v f spelled rest bytes (Ok x) range is e given =
    let a = spelled_again l v f spelled rest bytes range is e in
    given.1 ∙ ap (λ (g : Frame). (g, 16 + body_length bytes)) a.frame ∙ ap (λ (n : ℕ). (f, n)) (a.used ∙ ap length (sym is.spelled))
is_only l v f spelled rest bytes (Err e) range is e-is given = is_memory e (sym (spelled_again l v f spelled rest bytes range is e-is).faultless ∙ given)

pub one_spelling_lem : (l : Bounds) (v w : FrameVersion) (f g : Frame) (x y rest more : List ℕ) → AreInRange l → IsFrameIn v l f x → IsFrameIn w l g y → x ++ rest ≡ y ++ more
    → (v ≡ w) × (f ≡ g) × (rest ≡ more)
one_spelling_lem l v w f g x y rest more range is also e =
    let a = spelled_again l v f x rest (x ++ rest) range is refl in
    let b = spelled_again l w g y more (x ++ rest) range also e in
    let len : length x ≡ length y = ap length is.spelled ∙ sym a.used ∙ b.used ∙ ap length (sym also.spelled) in
    (sym a.version ∙ b.version, sym a.frame ∙ b.frame, sym (drop_at x rest (length x) refl) ∙ ap (drop (length x)) e ∙ drop_at y more (length x) (sym len))
