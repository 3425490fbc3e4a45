-- Goals of `Places::new`.
use Rattle.std.proofs.Common.{◌≡◌, ℕ, Option, None, refl}
use Rattle.cb_page.proofs.Lookups.{replicate_gives}
use Rattle.cb_asks.proofs.places.Places.new.Goals as goal

pub returns : goal.returns
returns c = record {
  at = λ client. replicate_gives (λ (place : Option ℕ). place ≡ None) 32 client None None refl refl;
  clients = refl;
  waiting = c.empty.ensures;
  reads = refl;
}
