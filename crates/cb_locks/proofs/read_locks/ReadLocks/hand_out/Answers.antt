-- Goals of `ReadLocks::hand_out`.
use Rattle.std.proofs.Common.{◌≡◌, ◌≤◌, ◌+◌, [], ◌∷◌, ◌++◌, length, option_to_list, ap, subst, sym, ◌∙◌, arith}
use Rattle.cb_locks.specs.Locks.{LocksState, due_at, owed_at, owed_below}
use Rattle.cb_locks.proofs.Handing.{IsNext, owed_end, owed_room, owed_step}
use Rattle.cb_locks.proofs.read_locks.ReadLocks.hand_out.Goals as goal

pub push_reserved-requires : goal.push_reserved-requires
push_reserved-requires c =
    let next = subst (λ (v : LocksState). IsNext v c.loop-page.from c.in-Some.page) c.self.view_is c.in-Some.ensures in
    let handed = ap length c.loop-page.invariant.handed in
    let room = owed_room c.args.self.now c.loop-page.from c.in-Some.page next in
    let capacity = c.loop-page.invariant.capacity in
    omega arith

pub loop-page-preserved : goal.loop-page-preserved
loop-page-preserved c =
    let next = subst (λ (v : LocksState). IsNext v c.loop-page.from c.in-Some.page) c.self.view_is c.in-Some.ensures in
    let at : c.index-from.result ≡ c.in-Some.page = c.index-from.ensures.value in
    let one : c.in-Some-owed.due ∷ [] ≡ option_to_list (owed_at c.args.self.now c.in-Some.page) = ap option_to_list (sym c.in-Some-owed.is ∙ c.owed.ensures) in
    record {
      handed = c.push_reserved.ensures.items ∙ ap (λ owed. owed ++ c.in-Some-owed.due ∷ []) c.loop-page.invariant.handed ∙ ap (λ owed. owed_below c.args.self.now c.loop-page.from ++ owed) one
          ∙ sym (owed_step c.args.self.now c.loop-page.from c.in-Some.page next) ∙ ap (λ n. owed_below c.args.self.now (n + 1)) (sym at);
      within = let lt = next.1 in omega arith;
      capacity = c.push_reserved.ensures.capacity ∙ c.loop-page.invariant.capacity;
    }

pub returns-clause-handed : goal.returns-clause-handed
returns-clause-handed c =
    let sized = ap (λ (v : LocksState). length v.locked) (sym c.self.view_is) ∙ c.self.invariant ∙ ap (λ (v : LocksState). length v.dues) c.self.view_is in
    let le : c.loop-page.from ≤ length c.args.self.now.locked = let within = c.loop-page.invariant.within in omega arith in
    c.loop-page.invariant.handed ∙ owed_end c.args.self.now c.loop-page.from (length c.args.self.now.locked) le (λ k l. ap (λ (v : LocksState). due_at v k) (sym c.self.view_is) ∙ c.in_default.ensures k l)
