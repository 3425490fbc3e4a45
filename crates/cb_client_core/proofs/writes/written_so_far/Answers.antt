-- Goals of `written_so_far`.
use Rattle.std.proofs.Common.{◌∙◌, ◌≡◌, ◌+◌, ◌<◌, ◌++◌, ◌∷◌, [], length, false, true, true≢false, refl, sym, arith}
use Rattle.std.specs.Vec.{vec_capacity}
use Rattle.cb_cache.specs.CacheState.{client_with}
use Rattle.cb_outbox.specs.Messages.{page_writes}
use Rattle.cb_protocol.specs.Client.{new_client}
use Rattle.cb_protocol.specs.ClientCalls.{written_pages}
use Rattle.cb_client_core.proofs.Writing.{flag_within, next_write, no_more, none_written, room_for_one}
use Rattle.cb_client_core.proofs.writes.written_so_far.Goals as goal

pub returns-in_err-writes-clause-nothing : goal.returns-in_err-writes-clause-nothing
returns-in_err-writes-clause-nothing g c = λ none.
    let z : false ≡ true = c.in_err-writes.ensures.succeeds (c.count_written.ensures new_client ∙ none_written c.args.copies.now new_client c.args.copies.now.limits.pages none) in
    absurd (true≢false (sym z))

pub loop-page-init : goal.loop-page-init
loop-page-init g c = record {
  said = λ k. rw c.in_ok-writes.ensures.items refl;
  within = omega arith;
  room = λ k. let count = c.count_written.ensures k in let capacity = c.in_ok-writes.ensures.capacity in omega (arith, count, capacity);
}

pub push_reserved-requires : goal.push_reserved-requires
push_reserved-requires g c =
    let below = flag_within c.args.copies.now.wrote c.in-Some.page c.in-Some.ensures.1 in
    let sized = c.in_ok-write.ensures.sound.sizes.wrote in
    let next : page_writes (c.loop-page.writes.items ++ c.in_ok-write.write ∷ []) ≡ written_pages (client_with c.args.copies.now new_client) (c.in-Some.page + 1) =
    next_write (client_with c.args.copies.now new_client) c.loop-page.from c.in-Some.page _ _ (c.loop-page.invariant.said new_client) c.in-Some.ensures.0 c.in-Some.ensures.2 (c.in_ok-write.ensures.written new_client) in
    let less : length c.loop-page.writes.items < vec_capacity c.loop-page.writes =
    room_for_one (client_with c.args.copies.now new_client) c.in-Some.page c.args.copies.now.limits.pages (vec_capacity c.loop-page.writes) c.loop-page.writes.items c.in_ok-write.write next (omega (arith, below, sized)) (c.loop-page.invariant.room new_client) in
    let is = c.loop-page.writes.ok.0 in
    omega (arith, less, is)

pub loop-page-preserved : goal.loop-page-preserved
loop-page-preserved g c = record {
  said = λ k. rw (c.push_reserved.ensures.items, c.index-from.ensures.value)
      (next_write (client_with c.args.copies.now k) c.loop-page.from c.in-Some.page _ _ (c.loop-page.invariant.said k) c.in-Some.ensures.0 c.in-Some.ensures.2 (c.in_ok-write.ensures.written k));
  within =
      let below = flag_within c.args.copies.now.wrote c.in-Some.page c.in-Some.ensures.1 in
      let sized = c.in_ok-write.ensures.sound.sizes.wrote in
      let this = c.index-from.ensures.value in
      omega (arith, below, sized, this);
  room = λ k. rw c.push_reserved.ensures.capacity (c.loop-page.invariant.room k);
}

pub returns-clause-said : goal.returns-clause-said
returns-clause-said g c = λ client. rw c.from_vec.ensures (c.loop-page.invariant.said client ∙ no_more (client_with c.args.copies.now client) c.loop-page.from c.args.copies.now.limits.pages c.loop-page.invariant.within (λ q le. c.in_default.ensures q le))
