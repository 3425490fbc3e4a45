-- Goals of `Directory::clear_writers`.
use Rattle.std.proofs.Common.{◌≡◌, ◌==◌, ℕ, Bool, true, false, Option, Some, None, arith, ap, ◌∙◌, refl, inl, inr}
use Rattle.std.proofs.lemmas.Bool.{cases_eq, cases_lt}
use Rattle.cb_directory.specs.Directories.{holder, without_holder}
use Rattle.cb_directory.proofs.directory.Directory.clear_writers.Goals as goal

-- whom the client isn't stays
other_stays : (held : Option ℕ) (client : ℕ) → (held ≡ Some client → ⊥) → held ≡ without_holder held client
other_stays None client apart = refl
other_stays (Some other) client apart = by_test (other == client) refl
  where
    by_test : (same : Bool) → (other == client) ≡ same → Some other ≡ without_holder (Some other) client
    by_test true e = absurd (apart (grind arith))
    by_test false e = grind arith

pub loop-page-preserved : goal.loop-page-preserved
loop-page-preserved c = record {
  rows = λ client page. c.clear_writer.ensures.has.rows client page ∙ c.loop-page.invariant.rows client page;
  tags = λ page. c.clear_writer.ensures.has.tags page ∙ c.loop-page.invariant.tags page;
  done = λ page before. elim (cases_eq page c.in-Some.page) [
    | inl here ↦ grind (arith, c.clear_writer.ensures.has.holders page, c.loop-page.invariant.rest page, c.in-Some.ensures, c.self.view_is, c.self.invariant.agree.held c.args.client page)
    | inr apart ↦ elim (cases_lt page c.loop-page.from) [
      | inl early ↦ grind (arith, c.clear_writer.ensures.has.holders page, c.loop-page.invariant.done page)
      | inr late ↦
          let now : holder c.clear_writer.new.self page ≡ holder c.loop-page.self page = grind (arith, c.clear_writer.ensures.has.holders page) in
          let unlisted = c.in-Some.ensures.3 page late (omega arith) in
          let held_apart : holder c.loop-page.self page ≡ Some c.args.client → ⊥ = λ held. grind (arith, c.self.view_is, unlisted, c.self.invariant.agree.writable c.args.client page) in
          now ∙ other_stays (holder c.loop-page.self page) c.args.client held_apart ∙ ap (λ (h : Option ℕ). without_holder h c.args.client) (c.loop-page.invariant.rest page late)
    ]
  ];
  rest = λ page after. grind (arith, c.clear_writer.ensures.has.holders page, c.loop-page.invariant.rest page, c.in-Some.ensures);
  next = c.clear_writer.ensures.next ∙ c.loop-page.invariant.next;
  size = grind (arith, c.clear_writer.ensures.has.size, c.loop-page.invariant.size);
  within = grind (arith, c.clear_writer.ensures.has.size, c.in-Some.ensures);
}

pub returns : goal.returns
returns c = record {
  has = record {
    rows = c.loop-page.invariant.rows;
    holders = λ page. elim (cases_lt page c.loop-page.from) [
      | inl before ↦ c.loop-page.invariant.done page before
      | inr after ↦
          let same = c.loop-page.invariant.rest page after in
          let apart : holder c.loop-page.self page ≡ Some c.args.client → ⊥ = λ held. grind (arith, c.self.view_is, c.in_default.ensures page, c.self.invariant.agree.writable c.args.client page) in
          other_stays (holder c.loop-page.self page) c.args.client apart ∙ ap (λ (h : Option ℕ). without_holder h c.args.client) same
    ];
    tags = c.loop-page.invariant.tags;
    size = c.loop-page.invariant.size;
  };
  next = c.loop-page.invariant.next;
}
