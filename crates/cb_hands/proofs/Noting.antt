-- The history follows the server.
use Rattle.std.proofs.Common.{◌≡◌, ◌+◌, ◌==◌, ℕ, suc, Bool, true, false, cond, List, [], ◌∷◌, length, map, refl, sym, ◌∙◌, ap, arith, Option, Some}
use Rattle.cb_hands.specs.declared.entry.Entry.{Entry}
use Rattle.cb_hands.specs.Running.{NewServerIsNoted, NoOtherChanges, Noted, NotedCommit, is_among, noted, noted_commit, pages_of}
use Rattle.cb_protocol.specs.AnyMessages.{Numbered, version_after}
use Rattle.cb_protocol.specs.Messages.{PageWrite, write_of_page}
use Rattle.cb_protocol.specs.Server.{AppliedCommit}
use Rattle.cb_protocol.specs.Session.{new_version}

-- whether one write is of the page, or a later one
new_version_cons : (b : Bool) (write : PageWrite) (later : Option PageWrite) (among : Bool) (number old : ℕ) → new_version later number old ≡ cond among number old
    → new_version (cond b (Some write) later) number old ≡ cond (cond b true among) number old
new_version_cons true write later among number old same = refl
new_version_cons false write later among number old same = same

-- a commit gives its number to the pages that it writes
new_version_of : (writes : List PageWrite) (page number old : ℕ) → new_version (write_of_page writes page) number old ≡ cond (is_among page (pages_of writes)) number old
new_version_of [] page number old = refl
new_version_of (write ∷ writes) page number old =
    new_version_cons (write.page == page) write (write_of_page writes page) (is_among page (pages_of writes)) number old (new_version_of writes page number old)

-- the last number is the opening's and as many as there are commits
counted : (opening : ℕ) (commits : List AppliedCommit) (last : ℕ) → Numbered opening commits last → last ≡ opening + length commits
counted opening [] last numbered = let e : last ≡ opening = numbered in omega (arith, e)
counted opening (commit ∷ commits) last numbered =
    let before = numbered.1.0 in
    let e : last ≡ before + 1 = numbered.1.1 in
    let rest : before ≡ opening + length commits = counted opening commits before numbered.1.2 in
    omega (arith, e, rest)

length-noted : (entries : List Entry) → length (map noted entries) ≡ length entries
length-noted [] = refl
length-noted (entry ∷ entries) = ap (λ n. suc n) (length-noted entries)

length-noted_commit : (commits : List AppliedCommit) → length (map noted_commit commits) ≡ length commits
length-noted_commit [] = refl
length-noted_commit (commit ∷ commits) = ap (λ n. suc n) (length-noted_commit commits)

pub new_server_is_noted : NewServerIsNoted
new_server_is_noted limits opening = record { commits = refl; version = λ page. refl; bytes = λ page. refl }

pub no_other_changes : NoOtherChanges
no_other_changes opening before after entries was is same replays = record {
  commits = replays.commits ∙ sym (ap (λ commits. map noted_commit commits) same);
  version = λ page. is.version page ∙ ap (λ commits. version_after opening.version commits page) same ∙ sym (was.version page) ∙ replays.version page;
  bytes = is.bytes;
}

pub noted_commit_follows : NotedCommit
noted_commit_follows opening before after client incarnation txn writes entry entries was is applied names replays legal reads =
    let many : length entries ≡ length before.commits =
    sym (length-noted entries) ∙ ap length replays.commits ∙ length-noted_commit before.commits in
    let last : before.store.last_commit ≡ opening.number + length before.commits =
    counted opening.number before.commits before.store.last_commit was.numbered in
    let number : before.store.last_commit + 1 ≡ opening.number + length entries + 1 = omega (arith, many, last) in
    let pages : pages_of writes ≡ entry.writes.items = ap (λ (n : Noted). n.writes) (sym names) in (
      record {
        commits = (λ i. names i ∷ replays.commits i) ∙ sym (ap (λ commits. map noted_commit commits) applied.listed);
        version = λ page. is.version page ∙ ap (λ commits. version_after opening.version commits page) applied.listed
            ∙ new_version_of writes page (before.store.last_commit + 1) (version_after opening.version before.commits page)
            ∙ (λ i. cond (is_among page (pages i)) (number i) ((sym (was.version page) ∙ replays.version page) i));
        bytes = is.bytes;
      },
      (λ read here. reads read here ∙ replays.version read.page, legal),
    )
