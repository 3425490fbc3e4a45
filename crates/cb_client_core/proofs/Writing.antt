-- What a commit says of the pages that the transaction wrote.
use Rattle.std.proofs.Common.{◌≡◌, ◌<◌, ◌≤◌, ◌+◌, ◌-◌, ℕ, suc, zero, Bool, true, true≢false, false, List, [], ◌∷◌, ◌++◌, length, Option, Some, None, refl, sym, ◌∙◌, ap, arith}
use Rattle.std.proofs.lemmas.List.{append-nil, length-append, length-map}
use Rattle.std.specs.Option.{is_some}
use Rattle.cb_frame.specs.declared.writes.Write.{Write}
use Rattle.cb_outbox.specs.Messages.{page_write, page_writes}
use Rattle.cb_page.specs.Flags.{has}
use Rattle.cb_cache.specs.CacheState.{AreCopies, CacheState, client_with, content_at, copy_at}
use Rattle.cb_protocol.specs.Basics.{Bytes}
use Rattle.cb_protocol.specs.Client.{Client}
use Rattle.cb_protocol.specs.ClientCalls.{written_page, written_pages}

-- of a page that was not written nothing is said
unwritten : (k : Client) (page : ℕ) (held : Option ℕ) (content : Option Bytes) → k.cache.wrote page ≡ false → written_page k page held content ≡ []
unwritten k page None content e = refl
unwritten k page (Some grant) None e = refl
unwritten k page (Some grant) (Some bytes) e = rw e refl

skips : (extra : ℕ) (k : Client) (from : ℕ) → ((q : ℕ) → from ≤ q → q < from + extra → k.cache.wrote q ≡ false) → written_pages k (from + extra) ≡ written_pages k from
skips zero k from none = let e : from + zero ≡ from = omega arith in ap (written_pages k) e
skips (suc extra) k from none =
    let e : from + suc extra ≡ suc (from + extra) = omega arith in
    let last = unwritten k (from + extra) (k.cache.held (from + extra)) (k.cache.content (from + extra)) (none (from + extra) (omega arith) (omega arith)) in
    ap (written_pages k) e ∙ ap (λ writes. written_pages k (from + extra) ++ writes) last ∙ append-nil (written_pages k (from + extra)) ∙ skips extra k from (λ q le lt. none q le (omega (arith, lt)))

no_more_below : (k : Client) (from page : ℕ) → from ≤ page → ((q : ℕ) → from ≤ q → q < page → k.cache.wrote q ≡ false) → written_pages k page ≡ written_pages k from
no_more_below k from page le none =
    let gap : page ≡ from + (page - from) = omega (arith, le) in
    ap (written_pages k) gap ∙ skips (page - from) k from (λ q a lt. none q a (omega (arith, lt, gap)))

-- the next page that was written
pub next_write : (k : Client) (from page : ℕ) (writes : List Write) (write : Write) → page_writes writes ≡ written_pages k from → from ≤ page
    → ((q : ℕ) → from ≤ q → q < page → k.cache.wrote q ≡ false) → written_page k page (k.cache.held page) (k.cache.content page) ≡ page_write write ∷ []
    → page_writes (writes ++ write ∷ []) ≡ written_pages k (page + 1)
next_write k from page writes write e le none this =
    let one : page + 1 ≡ suc page = omega arith in
    let skip : written_pages k page ≡ written_pages k from = no_more_below k from page le none in
    mapped writes ∙ ap (λ said. said ++ page_write write ∷ []) (e ∙ sym skip) ∙ ap (λ said. written_pages k page ++ said) (sym this) ∙ ap (written_pages k) (sym one)
  where
    mapped : (xs : List Write) → page_writes (xs ++ write ∷ []) ≡ page_writes xs ++ page_write write ∷ []
    mapped [] = refl
    mapped (x ∷ xs) = ap (λ said. page_write x ∷ said) (mapped xs)

-- there is none
pub no_more : (k : Client) (from end : ℕ) → from ≤ end → ((q : ℕ) → from ≤ q → k.cache.wrote q ≡ false) → written_pages k from ≡ written_pages k end
no_more k from end le none =
    let gap : end ≡ from + (end - from) = omega arith in
    sym (ap (written_pages k) gap ∙ skips (end - from) k from (λ q a lt. none q a))

-- of a transaction that wrote nothing no page is said
pub none_written : (copies : CacheState) (k : Client) (end : ℕ) → ((page : ℕ) → has copies.wrote page ≡ false) → length (written_pages (client_with copies k) end) ≡ 0
none_written copies k end none = ap length (sym (no_more (client_with copies k) 0 end (omega arith) (λ q le. none q)))

-- each of them is counted
pub one_write : (copies : CacheState) → AreCopies copies → (k : Client) (page : ℕ) → has copies.wrote page ≡ true
    → length (written_page (client_with copies k) page (copy_at copies page).held (content_at copies page)) ≡ 1
one_write copies sound k page wrote = by (copy_at copies page).held (content_at copies page) refl refl
  where
    by : (held : Option ℕ) (content : Option Bytes) → (copy_at copies page).held ≡ held → content_at copies page ≡ content → length (written_page (client_with copies k) page held content) ≡ 1
    by (Some grant) (Some bytes) h c = rw wrote refl
    by held None h c = absurd (true≢false (sym (sound.wrote_here page wrote) ∙ ap is_some c))
    by None content h c = absurd (true≢false (sym (sound.here_held page (sound.wrote_here page wrote)) ∙ ap is_some h))

pub count_goes_on : (k : Client) (from page count : ℕ) → count ≡ length (written_pages k from) → from ≤ page
    → ((q : ℕ) → from ≤ q → q < page → k.cache.wrote q ≡ false) → length (written_page k page (k.cache.held page) (k.cache.content page)) ≡ 1
    → count + 1 ≡ length (written_pages k (page + 1))
count_goes_on k from page count e le none this =
    let one : page + 1 ≡ suc page = omega arith in
    let skip : written_pages k page ≡ written_pages k from = no_more_below k from page le none in
    let so_far : count ≡ length (written_pages k page) = e ∙ ap length (sym skip) in
    let all = length-append (written_pages k page) (written_page k page (k.cache.held page) (k.cache.content page)) in
    rw one (let more : length (written_pages k (suc page)) ≡ length (written_pages k page) + length (written_page k page (k.cache.held page) (k.cache.content page)) = all in omega (arith, so_far, more, this))

-- as many are said below a place as there are in all, at most
pub fewer_below : (k : Client) (place end : ℕ) → place ≤ end → length (written_pages k place) ≤ length (written_pages k end)
fewer_below k place end le =
    let gap : end ≡ place + (end - place) = omega (arith, le) in
    rw gap (grows (end - place))
  where
    grows : (extra : ℕ) → length (written_pages k place) ≤ length (written_pages k (place + extra))
    grows zero = let e : place + zero ≡ place = omega arith in rw e (omega arith)
    grows (suc extra) =
        let e : place + suc extra ≡ suc (place + extra) = omega arith in
        let all = length-append (written_pages k (place + extra)) (written_page k (place + extra) (k.cache.held (place + extra)) (k.cache.content (place + extra))) in
        let before = grows extra in
        rw e (let more : length (written_pages k (suc (place + extra))) ≡ length (written_pages k (place + extra)) + length (written_page k (place + extra) (k.cache.held (place + extra)) (k.cache.content (place + extra))) = all in omega (arith, before, more))

-- so there is room for one more where there is room for all
pub room_for_one : (k : Client) (page end capacity : ℕ) (writes : List Write) (write : Write) → page_writes (writes ++ write ∷ []) ≡ written_pages k (page + 1)
    → page + 1 ≤ end → length (written_pages k end) ≤ capacity → length writes < capacity
room_for_one k page end capacity writes write e le room =
    let fewer = fewer_below k (page + 1) end le in
    let said : length (page_writes (writes ++ write ∷ [])) ≡ length (written_pages k (page + 1)) = ap length e in
    let mapped : length (page_writes (writes ++ write ∷ [])) ≡ length (writes ++ write ∷ []) = length-map (writes ++ write ∷ []) page_write in
    let all : length (writes ++ write ∷ []) ≡ length writes + 1 = length-append writes (write ∷ []) in
    omega (arith, fewer, said, mapped, all, room)

-- what is said of a page that was written
pub says_write : (k : Client) (page grant : ℕ) (bytes : Bytes) (held : Option ℕ) (content : Option Bytes) → k.cache.wrote page ≡ true → held ≡ Some grant → content ≡ Some bytes
    → written_page k page held content ≡ record { page = page; grant = grant; bytes = bytes } ∷ []
says_write k page grant bytes held content e h f = rw (h, f, e) refl

-- a page in a set is below its end
pub flag_within : (flags : List Bool) (page : ℕ) → has flags page ≡ true → page < length flags
flag_within [] page e = absurd cc
flag_within (x ∷ flags) zero e = omega arith
flag_within (x ∷ flags) (suc page) e = let below = flag_within flags page e in omega (arith, below)
