-- Goals of `RowTables::new`.
use Rattle.std.proofs.Common.{◌≡◌, ℕ, Option, None, false, replicate, rules, refl, sym, subst}
use Rattle.std.proofs.lemmas.List.{length-replicate}
use Rattle.cb_page.specs.Flags.{has}
use Rattle.cb_page.specs.Clients as clients
use Rattle.cb_page.proofs.ClientBits.{has_none}
use Rattle.cb_directory.specs.Rows.{ClientState, grant_of, no_rows}
use Rattle.cb_directory.specs.declared.lines.PageLine.{PageLine}
use Rattle.cb_directory.specs.RowTables.{IsEmpty, no_client, no_line}
use Rattle.cb_page.proofs.Lookups.{replicate_gives}
use Rattle.cb_directory.proofs.row_tables.RowTables.new.Goals as goal

-- tables of equal lines of which nobody has anything
empty_tables : (clients_count pages : ℕ) (line : PageLine) → ((client : ℕ) → clients.has line.clients client ≡ false) → line.holder ≡ None → line.tag ≡ None
    → IsEmpty clients_count pages (record { clients = replicate clients_count (no_rows pages); pages = replicate pages line })
empty_tables clients_count pages line nobody unheld untold = record {
  clients = length-replicate clients_count (no_rows pages);
  pages = length-replicate pages line;
  rows = λ client page. replicate_gives (λ (c : ClientState). grant_of c page ≡ None) clients_count client (no_rows pages) no_client
      (replicate_gives (λ (g : Option ℕ). g ≡ None) pages page None None refl refl) refl;
  marks = λ client page. replicate_gives (λ (l : PageLine). clients.has l.clients client ≡ false) pages page line no_line (nobody client) (has_none client);
  copied = λ client page. replicate_gives (λ (c : ClientState). has c.copied page ≡ false) clients_count client (no_rows pages) no_client
      (replicate_gives (λ b. b ≡ false) pages page false false refl refl) refl;
  writable = λ client page. replicate_gives (λ (c : ClientState). has c.writable page ≡ false) clients_count client (no_rows pages) no_client
      (replicate_gives (λ b. b ≡ false) pages page false false refl refl) refl;
  holders = λ page. replicate_gives (λ (l : PageLine). l.holder ≡ None) pages page line no_line unheld refl;
  tags = λ page. replicate_gives (λ (l : PageLine). l.tag ≡ None) pages page line no_line untold refl;
}

pub returns : goal.returns
returns c =
    let line : PageLine = record { clients = c.empty.result; holder = None; tag = None } in
    let rows : c.in_ok-empty_lines.field-0.items ≡ replicate c.args.limits.now.clients (no_rows c.args.limits.now.pages) = search rules in
    let lines : c.in_ok-vec.field-0.items ≡ replicate c.args.limits.now.pages line = search rules in
    subst (IsEmpty c.args.limits.now.clients c.args.limits.now.pages) (λ i. record { clients = sym rows i; pages = sym lines i })
    (empty_tables c.args.limits.now.clients c.args.limits.now.pages line c.empty.ensures refl refl)
