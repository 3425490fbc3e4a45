-- Under which configurations workers can run, and what is said of any other. This project's rules.
use Rattle.std.specs.Prelude.{◌≡◌, ◌≢◌, ◌⊎◌, ◌<◌, ◌≤◌, ℕ, true, false, Option}
use Rattle.std.specs.Prelude.{Result, Ok, Err, List, [], ◌∷◌, ◌++◌, codes}
use Rattle.std.specs.Io.KnownBytes.{Appends}
use Rattle.cb_console.specs.Settings.{IsConfig, IsWrong, config_line, config_text}
use Rattle.cb_console.specs.declared.config.Config.{Config}
use Rattle.cb_console.specs.declared.config.ConfigFault.{ConfigFault}
use Rattle.cb_console.specs.declared.config.ConfigFault.TheVariants as config
use Rattle.cb_console.specs.declared.running.RunFault.{RunFault}
use Rattle.cb_console.specs.declared.running.RunFault.TheVariants as fault

-- Workers can run under these settings of the text: there is a page for each of the two counters,
-- and no permission to write is kept.
pub record CanRun (config_bytes : List ℕ) (settings : Config) : Type 0 where
  pub is_config : IsConfig config_bytes settings
  pub counters : 2 ≤ settings.limits.pages
  pub plain : settings.limits.keep_write ≡ false

-- want of memory in the reader is want of memory; any other fault is kept
abbrev pub BecomesOfConfig : ConfigFault → RunFault → Type 0
BecomesOfConfig e becomes =
    (e ≡ config.Memory → becomes ≡ fault.Memory) × (e ≢ config.Memory → becomes ≡ fault.Config e)

-- The fault is what is wrong with the text; where nothing is, that it has too few pages; else that
-- permissions are kept.
abbrev pub IsRunRefusal : List ℕ → RunFault → Type 0
IsRunRefusal config_bytes refusal =
    ((e : ConfigFault) × (refusal ≡ fault.Config e) × IsWrong config_bytes (config_text e))
    ⊎ ((settings : Config) × (refusal ≡ fault.FewPages) × IsConfig config_bytes settings
    × (settings.limits.pages < 2))
    ⊎ ((settings : Config) × (refusal ≡ fault.KeepWrite) × IsConfig config_bytes settings
    × (2 ≤ settings.limits.pages) × (settings.limits.keep_write ≡ true))

-- the line of a fault
abbrev pub run_fault_line : RunFault → List ℕ
run_fault_line (fault.Config e) = codes "config: " ++ config_line e
run_fault_line fault.FewPages = codes "config: run needs 2 pages"
run_fault_line fault.KeepWrite = codes "config: run needs keep_write 0"
run_fault_line fault.Memory = codes "memory"

-- A fault's line is said, and its status is 4 for want of memory, else 2.
abbrev pub PrintsRefusal : RunFault → ℕ → Option (List ℕ) → Option (List ℕ) → Type 0
PrintsRefusal e status old new =
    (e ≡ fault.Memory → status ≡ 4) × (e ≢ fault.Memory → status ≡ 2)
    × Appends old new (run_fault_line e ++ 10 ∷ [])

-- which settings a text has for a run, or why it has none
abbrev pub IsRunSettings : List ℕ → Result Config RunFault → Type 0
IsRunSettings config_bytes (Ok settings) = CanRun config_bytes settings
IsRunSettings config_bytes (Err e) = e ≢ fault.Memory → IsRunRefusal config_bytes e
