-- What a fault of the settings makes of a run.
use Rattle.std.proofs.Common.{◌≢◌, ℕ, List, Result, Ok, Err, IfErr, IsErrAnd, inl}
use Rattle.cb_console.specs.Settings.{RefusesConfig}
use Rattle.cb_console.specs.RunSettings.{BecomesOfConfig, IsRunRefusal}
use Rattle.cb_console.specs.declared.config.Config.{Config}
use Rattle.cb_console.specs.declared.config.ConfigFault.{ConfigFault}
use Rattle.cb_console.specs.declared.config.ConfigFault.TheVariants as config
use Rattle.cb_console.specs.declared.running.RunFault.{RunFault}
use Rattle.cb_console.specs.declared.running.RunFault.TheVariants as fault

-- what the configuration is refused for is what the run is
pub refuses_run : (text : List ℕ) (e : ConfigFault) (r : Result Config RunFault) → IsErrAnd r (BecomesOfConfig e) → RefusesConfig text e
    → IfErr r (λ f. f ≢ fault.Memory → IsRunRefusal text f)
refuses_run text e (Ok settings) becomes refuses = tt
refuses_run text e (Err f) becomes refuses = λ other.
    let known : e ≢ config.Memory = λ is. other (becomes.0 is) in
    inl (e, becomes.1 known, refuses known)
