-- Goals of `codes_differ`.
use Rattle.std.proofs.Common.{◌≡◌, ◌∙◌, ◌==◌, ℕ, ap, sym, refl, if◌then◌else◌}
use Rattle.cb_frame.specs.Kinds.{code_of}
use Rattle.cb_frame.specs.declared.kind.Kind.{Kind}
use Rattle.cb_frame.specs.declared.kind.Kind.TheVariants as kind
use Rattle.cb_frame.proofs.kind.codes_differ.Goals as goal

-- the kind of a code
kind_of : ℕ → Kind
kind_of code =
    if code == 1 then kind.Hello else if code == 2 then kind.AskRead
    else if code == 3 then kind.AskWrite else if code == 4 then kind.GiveBack
    else if code == 5 then kind.InUse else if code == 6 then kind.Commit
    else if code == 7 then kind.Drop else if code == 8 then kind.Downgraded
    else if code == 65 then kind.Welcome else if code == 66 then kind.Granted
    else if code == 67 then kind.MayWrite else if code == 68 then kind.Callback
    else if code == 69 then kind.Done else if code == 70 then kind.AbortNow else kind.Downgrade

found : (k : Kind) → kind_of (code_of k) ≡ k
unfolding kind_of
found kind.Hello = refl
found kind.AskRead = refl
found kind.AskWrite = refl
found kind.GiveBack = refl
found kind.InUse = refl
found kind.Commit = refl
found kind.Drop = refl
found kind.Downgraded = refl
found kind.Welcome = refl
found kind.Granted = refl
found kind.MayWrite = refl
found kind.Callback = refl
found kind.Done = refl
found kind.AbortNow = refl
found kind.Downgrade = refl

pub returns : goal.returns
returns c one other same = sym (found one) ∙ (ap kind_of same ∙ found other)
