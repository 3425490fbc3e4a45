-- Goals of `Directory::give_back`.
use Rattle.std.proofs.Common.{arith, refl, rules, subst}
use Rattle.cb_directory.specs.Directories.{DirectoryState, GivesBack}
use Rattle.cb_directory.proofs.directory.Directory.give_back.Goals as goal

pub invariant_of-self : goal.invariant_of-self
invariant_of-self c = record {
  rule = record {
    first = search rules;
    alone = λ page client held other grant is. grind (arith, c.put_row.ensures.rows other page, c.put_row.ensures.holders page, c.self.invariant.rule.alone page client);
    below = λ client page grant is. grind (arith, c.put_row.ensures.rows client page, c.self.invariant.rule.below client page);
    distinct = λ client other page second grant a b. grind (arith, c.put_row.ensures.rows client page, c.put_row.ensures.rows other second, c.self.invariant.rule.distinct client other page second grant);
  };
  agree = record {
    no_row = λ client page is. grind (arith, c.put_row.ensures.rows client page, c.put_row.ensures.marks client page, c.self.invariant.agree.no_row client page);
    some_row = λ client page grant is. grind (arith, c.put_row.ensures.rows client page, c.put_row.ensures.marks client page, c.self.invariant.agree.some_row client page);
    not_copied = λ client page is. grind (arith, c.put_row.ensures.rows client page, c.put_row.ensures.copied client page, c.self.invariant.agree.not_copied client page);
    copied = λ client page grant is. grind (arith, c.put_row.ensures.rows client page, c.put_row.ensures.copied client page, c.self.invariant.agree.copied client page);
    writable = λ client page is. grind (arith, c.put_row.ensures.holders page, c.put_row.ensures.writable client page, c.self.invariant.agree.writable client page);
    held = λ client page is. grind (arith, c.put_row.ensures.holders page, c.put_row.ensures.writable client page, c.self.invariant.agree.held client page);
    holder_known = λ client page is. grind (arith, c.put_row.ensures.holders page, c.put_row.ensures.size, c.self.invariant.agree.holder_known client page);
  };
}

pub returns : goal.returns
returns c = subst (λ (before : DirectoryState). GivesBack before c.args.client c.args.page (record { tables = c.put_row.new.self; next_grant = c.self.inside.next_grant })) c.self.view_is (record {
  has = record {
    rows = c.put_row.ensures.rows;
    holders = c.put_row.ensures.holders;
    tags = c.put_row.ensures.tags;
    size = c.put_row.ensures.size;
  };
  next = refl;
})
