-- How a client gives copies back, and how its transaction ends.
use Rattle.std.specs.Prelude.{ℕ, Bool, true, ◌&&◌, ◌||◌, if◌then◌else◌, List, [], ◌∷◌, ◌++◌, Option}
use Rattle.std.specs.Prelude.{Some, None, zero, suc}
use Rattle.cb_protocol.specs.Basics.{Limits, is_none}
use Rattle.cb_protocol.specs.Cache.{Abandon, LetGo, RefuseGrant, YieldPermission}
use Rattle.cb_protocol.specs.Client.{ChangeCache, Client, ClientStep, DueDowngrade, EndTransaction}
use Rattle.cb_protocol.specs.Client.{LastOutcome, Say}
use Rattle.cb_protocol.specs.Messages.{Downgraded, Drop, GiveBack}

-- the copy is given up, and its grant given back
abbrev pub give_back : (page : ℕ) → Option ℕ → List ClientStep
give_back page None = []
give_back page (Some grant) = ChangeCache (LetGo page) ∷ Say (GiveBack page grant) ∷ []

-- a grant that is neither held nor installed is given back: the server may still have its row
abbrev pub refuse_grant : (page grant : ℕ) → List ClientStep
refuse_grant page grant = ChangeCache (RefuseGrant page grant) ∷ Say (GiveBack page grant) ∷ []

-- a permission whose downgrade is due is given up
abbrev pub give_down : (page : ℕ) → Option DueDowngrade → List ClientStep
give_down page None = []
give_down page (Some due) =
    ChangeCache (YieldPermission page) ∷ Say (Downgraded page due.grant due.tag) ∷ []

-- One page at the transaction's end, by the client as it was before it; `dropped`: the transaction
-- is not committed. At most one message: GiveBack for a copy that a dropped transaction wrote, that
-- is due or that is bare, else Downgraded where that is due.
abbrev pub end_page : Client → (dropped : Bool) → (page : ℕ) → Option ℕ → List ClientStep
end_page client dropped page None = []
end_page client dropped page (Some grant) =
    if dropped && client.cache.wrote page then Say (GiveBack page grant) ∷ []
    else if client.due page || is_none (client.cache.content page) then give_back page (Some grant)
    else if dropped then [] else give_down page (client.due_downgrade page)

-- the pages before `end`, rising
abbrev pub end_pages : Client → (dropped : Bool) → (end : ℕ) → List ClientStep
end_pages client dropped zero = []
end_pages client dropped (suc page) =
    end_pages client dropped page ++ end_page client dropped page (client.cache.held page)

-- the transaction is dropped or aborted: Drop, then the pages
abbrev pub drop_transaction : Limits → Client → LastOutcome → List ClientStep
drop_transaction limits client outcome =
    EndTransaction outcome ∷ ChangeCache Abandon ∷ Say (Drop client.cache.number)
    ∷ end_pages client true limits.pages
