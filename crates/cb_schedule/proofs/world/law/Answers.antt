-- Goals of `law`.
use Rattle.std.proofs.Common.{◌≡◌, ℕ, List, true, length, refl, ap, ◌∙◌}
use Rattle.std.specs.Prelude.{slice_get}
use Rattle.cb_transcript.specs.Transcripts.{TranscriptState}
use Rattle.cb_schedule.proofs.Worlds.{nothing_lent}
use Rattle.cb_schedule.proofs.world.law.Goals as goal

pub returns : goal.returns
returns g c =
    let running : c.is_running.result ≡ true = c.is_running.ensures.value.1 c.in_ok-world.ensures.runs in
    let limits : c.limits.result.now ≡ c.args.limits.now = c.limits.ensures ∙ c.in_ok-world.ensures.limits in
    let told : length c.entries-told.result.now ≡ 0 =
    ap length (c.entries-told.ensures ∙ ap (λ (t : TranscriptState). t.entries) (c.transcript.ensures.value ∙ c.in_ok-world.ensures.told)) in
    let none : c.is_none.result ≡ true =
    nothing_lent c.packet.result c.is_none.result c.is_none.ensures
    (c.packet.ensures.bytes ∙ ap (λ (sent : List (List ℕ)). slice_get sent 0) c.in_ok-world.ensures.packets) in
    rw (running, limits, told, none) refl
