-- Goals of `Marks::mark`.
use Rattle.std.proofs.Common.{◌<◌, true, length}
use Rattle.cb_asks.specs.Marks.{MarksState}
use Rattle.cb_asks.proofs.Marking.{Put, marks_put, put_is, put_read}
use Rattle.cb_asks.proofs.marks.Marks.mark.Goals as goal

pub returns : goal.returns
returns c = rw (← c.self.view_is, c.index.ensures.value, c.index-2.ensures.value) (marks_put marks c.args.client c.args.page true c.insert.new.self c.insert-2.new.self known within put)
  where
    marks : MarksState
    marks = record { by_client = c.self.inside.by_client.items; by_page = c.self.inside.by_page.items }

    known : c.args.client < length marks.by_client
    known = rw (← c.self.view_is) at c.requires.client

    within : c.args.page < length marks.by_page
    within = rw (← c.self.view_is) at c.requires.page

    put : Put marks c.args.client c.args.page true c.insert.new.self c.insert-2.new.self
    put = put_read marks c.args.client c.args.page c.index.result c.index-2.result true c.index_mut.result.now c.insert.new.self c.index_mut-2.result.now c.insert-2.new.self
        known within c.index.ensures.value c.index-2.ensures.value c.index_mut.ensures.value c.insert.ensures c.index_mut-2.ensures.value c.insert-2.ensures.members

pub invariant_of-self : goal.invariant_of-self
invariant_of-self c = rw (c.index.ensures.value, c.index-2.ensures.value) (put_is marks c.args.client c.args.page true c.insert.new.self c.insert-2.new.self known within put c.self.invariant)
  where
    marks : MarksState
    marks = record { by_client = c.self.inside.by_client.items; by_page = c.self.inside.by_page.items }

    known : c.args.client < length marks.by_client
    known = rw (← c.self.view_is) at c.requires.client

    within : c.args.page < length marks.by_page
    within = rw (← c.self.view_is) at c.requires.page

    put : Put marks c.args.client c.args.page true c.insert.new.self c.insert-2.new.self
    put = put_read marks c.args.client c.args.page c.index.result c.index-2.result true c.index_mut.result.now c.insert.new.self c.index_mut-2.result.now c.insert-2.new.self
        known within c.index.ensures.value c.index-2.ensures.value c.index_mut.ensures.value c.insert.ensures c.index_mut-2.ensures.value c.insert-2.ensures.members
