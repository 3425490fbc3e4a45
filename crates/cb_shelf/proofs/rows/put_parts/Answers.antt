-- Goals of `put_parts`.
use Rattle.std.proofs.Common.{refl, Ok, arith, rules}
use Rattle.std.proofs.lemmas.List.FromFn.{map-range_with_len_more}
use Rattle.cb_shelf.specs.Statements.{part_statement}
use Rattle.cb_shelf.proofs.Stepping.{stays, makes_next, stops_then}
use Rattle.cb_shelf.proofs.rows.put_parts.Goals as goal

pub loop-place-init : goal.loop-place-init
loop-place-init g c = record { same_reference = refl; inside = stays g.S.Store _ tt }

pub returns-in_err-put_part-clause-same_reference : goal.returns-in_err-put_part-clause-same_reference
returns-in_err-put_part-clause-same_reference g c = search rules

pub returns-in_err-put_part-clause-inside : goal.returns-in_err-put_part-clause-inside
returns-in_err-put_part-clause-inside g c =
    stops_then g.S.Store _ _ _ _ _ _ _ _ _ _ c.loop-place.invariant.inside c.in_err-put_part.ensures.inside c.from_residual.ensures.1

pub loop-place-preserved : goal.loop-place-preserved
loop-place-preserved g c =
    record {
      same_reference = search rules;
      inside = makes_next g.S.Store _ _ _ _ _ _ tt (Ok tt)
          (map-range_with_len_more (part_statement c.args.rows c.args.page c.args.bytes.now) 0 c.loop-place.place c.loop-place.place (omega arith))
          c.loop-place.invariant.inside c.in_ok-put_part.ensures.inside;
    }

pub returns-clause-same_reference : goal.returns-clause-same_reference
returns-clause-same_reference g c = search rules

pub returns-clause-inside : goal.returns-clause-inside
returns-clause-inside g c = search rules
