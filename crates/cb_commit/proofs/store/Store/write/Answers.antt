-- Goals of `Store::write`.
use Rattle.std.proofs.Common.{◌≡◌, ◌+◌, ◌∙◌, take, length, arith, ap, sym, refl, rules, ◌++◌, ◌∷◌, []}
use Rattle.std.proofs.lemmas.List.{take_more, length-set, take_all}
use Rattle.std.proofs.lemmas.List.Elements.{All-set}
use Rattle.cb_commit.specs.declared.store.StoredPage.{StoredPage}
use Rattle.cb_commit.specs.Stores.{IsStored}
use Rattle.cb_commit.specs.History.{rewritten}
use Rattle.cb_commit.proofs.Rewriting.{rewritten_push}
use Rattle.cb_commit.proofs.store.Store.write.Goals as goal

pub write-requires : goal.write-requires
write-requires c =
    let inv = c.loop-write.invariant in
    let fit = c.requires.fit c.loop-write.write-index c.write-item.result c.loop-write-test.true in
    let stored = inv.stored c.index.result c.index_mut-stored.result.now (search rules) in
    let size : c.self.inside.page_size ≡ c.args.self.now.page_size = search rules in
    let there : length c.write-item.result.bytes ≡ c.args.self.now.page_size = rw c.write-item.is fit.bytes in
    let here : length c.index_mut-stored.result.now.bytes ≡ c.loop-write.self-inside.page_size = rw c.index_mut-stored.ensures.value stored.size in
    rw c.as_slice.ensures (there ∙ sym size ∙ sym inv.size ∙ sym here)

pub loop-write-preserved : goal.loop-write-preserved
loop-write-preserved c =
    let inv = c.loop-write.invariant in
    let fit = c.requires.fit c.loop-write.write-index c.write-item.result c.loop-write-test.true in
    let new : StoredPage = record { version = c.version-stored.result; bytes = c.write.new.self } in
    let more : take (c.loop-write.write-index + 1) c.args.writes.now ≡ take c.loop-write.write-index c.args.writes.now ++ c.write-item.result ∷ [] = take_more c.args.writes.now c.loop-write.write-index c.write-item.result c.loop-write-test.true ∙ rw (← c.write-item.is) refl in
    let size : c.self.inside.page_size ≡ c.args.self.now.page_size = search rules in
    let there : length c.write-item.result.bytes ≡ c.args.self.now.page_size = rw c.write-item.is fit.bytes in
    record {
      pages = rw (more, rewritten_push (take c.loop-write.write-index c.args.writes.now) c.write-item.result c.args.number c.self.inside.pages.items, ← inv.pages, c.index.ensures.value, c.version-stored.ensures, c.write.ensures, c.as_slice.ensures) refl;
      count = length-set c.loop-write.self-inside.pages.items c.index.result new ∙ inv.count;
      size = inv.size;
      stored = All-set (IsStored c.loop-write.self-inside.page_size c.args.number) c.loop-write.self-inside.pages.items c.index.result new
          (record { size = ap length (c.write.ensures ∙ c.as_slice.ensures) ∙ there ∙ sym size ∙ sym inv.size; version = omega (arith, c.version-stored.ensures) }) inv.stored;
    }

pub returns : goal.returns
returns c =
    let inv = c.loop-write.invariant in
    let all : take c.loop-write.write-index c.args.writes.now ≡ c.args.writes.now = take_all c.loop-write.write-index c.args.writes.now c.loop-write-test.false in
    let pages : c.loop-write.self-inside.pages.items ≡ rewritten c.args.number c.args.self.now.pages c.args.writes.now = rw (← c.self.view_is) (inv.pages ∙ ap (rewritten c.args.number c.self.inside.pages.items) all) in
    let size : c.loop-write.self-inside.page_size ≡ c.args.self.now.page_size = rw (← c.self.view_is) inv.size in
    λ i. record { page_size = size i; pages = pages i; number = c.get-self-inside.ensures.value i }
