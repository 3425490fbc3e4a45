-- Goals of `put_tables`.
use Rattle.std.proofs.Common.{◌≡◌, ◌∙◌, ℕ, Ok, sym, subst, length, List, [], ◌∷◌, ◌++◌, cond}
use Rattle.cb_shelf.specs.Statements.{Statement, MakesAll}
use Rattle.cb_shelf.specs.LifeRows.{life_row, unserved}
use Rattle.cb_shelf.specs.Opening.{table_statements, first_pages, mark_row, clear_statements}
use Rattle.cb_shelf.specs.Inside.{Inside}
use Rattle.cb_shelf.specs.declared.fault.ShelfFault.{ShelfFault}
use Rattle.cb_shelf.proofs.Stepping.{makes_then}
use Rattle.cb_shelf.proofs.opening.put_tables.Goals as goal

pub returns-clause-inside : goal.returns-clause-inside
returns-clause-inside g c =
    let store = c.args.store.now in
    let one = c.create_tables.new.tx.conn.now in
    let two = c.put_store.new.tx.conn.now in
    let three = c.put_row.new.tx.conn.now in
    let four = c.put_unserved.new.tx.conn.now in
    let five = c.clear_old.new.tx.conn.now in
    let all : c.pages.result ≡ length store.pages = c.pages.ensures.value ∙ sym c.requires.count in
    let cleared : List Statement = cond c.args.copied clear_statements [] in
    let pages : Inside {X = Unit {0}} {E = ShelfFault} g.S.Store (MakesAll g.S.Store (first_pages store (length store.pages))) one two (Ok tt) =
    subst (λ (count : ℕ). Inside {X = Unit {0}} {E = ShelfFault} g.S.Store (MakesAll g.S.Store (first_pages store count)) one two (Ok tt)) all c.in_ok-put_store.ensures.inside in
    let life : Inside {X = Unit {0}} {E = ShelfFault} g.S.Store (MakesAll g.S.Store ((life_row (unserved c.args.copied) ∷ []) ++ cleared)) three five c.clear_old.result =
    makes_then g.S.Store (life_row (unserved c.args.copied) ∷ []) cleared three four five tt c.clear_old.result c.in_ok-put_unserved.ensures.inside c.clear_old.ensures.inside in
    let row : Inside {X = Unit {0}} {E = ShelfFault} g.S.Store (MakesAll g.S.Store ((mark_row store ∷ []) ++ ((life_row (unserved c.args.copied) ∷ []) ++ cleared))) two five c.clear_old.result =
    makes_then g.S.Store (mark_row store ∷ []) ((life_row (unserved c.args.copied) ∷ []) ++ cleared) two three five tt c.clear_old.result c.in_ok-put_row.ensures.inside life in
    let rest : Inside {X = Unit {0}} {E = ShelfFault} g.S.Store (MakesAll g.S.Store (first_pages store (length store.pages) ++ ((mark_row store ∷ []) ++ ((life_row (unserved c.args.copied) ∷ []) ++ cleared)))) one five c.clear_old.result =
    makes_then g.S.Store (first_pages store (length store.pages)) ((mark_row store ∷ []) ++ ((life_row (unserved c.args.copied) ∷ []) ++ cleared)) one two five tt c.clear_old.result pages row in
    makes_then g.S.Store table_statements (first_pages store (length store.pages) ++ ((mark_row store ∷ []) ++ ((life_row (unserved c.args.copied) ∷ []) ++ cleared))) c.args.tx.now.conn.now one five tt c.clear_old.result c.in_ok-create_tables.ensures.inside rest
