-- Goals of `Marks::clear`.
use Rattle.std.proofs.Common.{◌≡◌, ◌+◌, ◌<◌, [], length, slice_index_or, arith, ap, subst, ◌∙◌}
use Rattle.cb_asks.specs.Marks.{IsMarks, MarksState, is_in_use}
use Rattle.cb_asks.proofs.Marking.{Cleared, clear_more, line_read, next_unused, next_within}
use Rattle.cb_asks.proofs.marks.Marks.clear.Goals as goal

pub unmark-requires-clause-page : goal.unmark-requires-clause-page
unmark-requires-clause-page c = within
  where
    marks : MarksState
    marks = c.loop-page.self

    known : c.args.client < length marks.by_client
    known = let e = c.loop-page.invariant.clients in let l = c.requires in omega arith

    read : c.index-in-loop-page.result.now ≡ slice_index_or marks.by_client c.args.client []
    read = line_read c.self.inside.by_client.items marks c.index.result c.args.client c.index-in-loop-page.result.now (ap (λ (m : MarksState). m.by_client) c.self.view_is) c.index.ensures.value known c.index-in-loop-page.ensures

    is_marks : IsMarks marks
    is_marks = subst IsMarks c.self.view_is c.self.invariant

    within : c.in-Some.page < length marks.by_page
    within = next_within marks c.args.client c.in-Some.page c.index-in-loop-page.result.now is_marks known read c.in-Some.ensures.1

pub loop-page-smaller : goal.loop-page-smaller
loop-page-smaller c =
    let same = c.unmark.ensures.pages in
    let next = c.index-from.ensures.value in
    let past = c.in-Some.ensures.0 in
    let less = within in
    omega arith
  where
    marks : MarksState
    marks = c.loop-page.self

    known : c.args.client < length marks.by_client
    known = let e = c.loop-page.invariant.clients in let l = c.requires in omega arith

    read : c.index-in-loop-page.result.now ≡ slice_index_or marks.by_client c.args.client []
    read = line_read c.self.inside.by_client.items marks c.index.result c.args.client c.index-in-loop-page.result.now (ap (λ (m : MarksState). m.by_client) c.self.view_is) c.index.ensures.value known c.index-in-loop-page.ensures

    is_marks : IsMarks marks
    is_marks = subst IsMarks c.self.view_is c.self.invariant

    within : c.in-Some.page < length marks.by_page
    within = next_within marks c.args.client c.in-Some.page c.index-in-loop-page.result.now is_marks known read c.in-Some.ensures.1

pub loop-page-preserved : goal.loop-page-preserved
loop-page-preserved c = record {
  done = λ page lt. more.done page (let next = c.index-from.ensures.value in omega arith);
  rest = λ page le. more.rest page (let next = c.index-from.ensures.value in omega arith);
  others = more.others;
  clients = c.unmark.ensures.clients ∙ c.loop-page.invariant.clients;
  pages = c.unmark.ensures.pages ∙ c.loop-page.invariant.pages;
  within = let same = c.unmark.ensures.pages in let next = c.index-from.ensures.value in let less = within in omega arith;
}
  where
    marks : MarksState
    marks = c.loop-page.self

    known : c.args.client < length marks.by_client
    known = let e = c.loop-page.invariant.clients in let l = c.requires in omega arith

    read : c.index-in-loop-page.result.now ≡ slice_index_or marks.by_client c.args.client []
    read = line_read c.self.inside.by_client.items marks c.index.result c.args.client c.index-in-loop-page.result.now (ap (λ (m : MarksState). m.by_client) c.self.view_is) c.index.ensures.value known c.index-in-loop-page.ensures

    is_marks : IsMarks marks
    is_marks = subst IsMarks c.self.view_is c.self.invariant

    within : c.in-Some.page < length marks.by_page
    within = next_within marks c.args.client c.in-Some.page c.index-in-loop-page.result.now is_marks known read c.in-Some.ensures.1

    more : Cleared (is_in_use c.unmark.new.self) (is_in_use c.args.self.now) c.args.client (c.in-Some.page + 1)
    more = clear_more (is_in_use marks) (is_in_use c.args.self.now) (is_in_use c.unmark.new.self) c.args.client c.loop-page.from c.in-Some.page
        (record { done = c.loop-page.invariant.done; rest = c.loop-page.invariant.rest; others = c.loop-page.invariant.others }) c.in-Some.ensures.0
        (λ other le lt. next_unused marks c.args.client other c.index-in-loop-page.result.now is_marks read (c.in-Some.ensures.2 other le lt)) c.unmark.ensures.marks
