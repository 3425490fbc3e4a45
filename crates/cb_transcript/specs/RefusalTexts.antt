-- The texts of refusals, as they are printed. This project's rules.
use Rattle.std.specs.Prelude.{ℕ, List, codes}
use Rattle.cb_transcript.specs.declared.refusal.Refusal.{Refusal}
use Rattle.cb_transcript.specs.declared.refusal.Refusal.TheVariants as refusal
use Rattle.cb_transcript.specs.declared.restart.RestartRefusal.{RestartRefusal}
use Rattle.cb_transcript.specs.declared.restart.RestartRefusal.TheVariants as restart

-- the number and the name of a refusal
abbrev pub refusal_text : Refusal → List ℕ
refusal_text refusal.NotWelcome = codes "1 NotWelcome"
refusal_text refusal.NoTransaction = codes "2 NoTransaction"
refusal_text refusal.TransactionOpen = codes "3 TransactionOpen"
refusal_text refusal.Committing = codes "4 Committing"
refusal_text refusal.Waiting = codes "5 Waiting"
refusal_text refusal.PageRange = codes "6 PageRange"
refusal_text refusal.NotRead = codes "7 NotRead"
refusal_text refusal.NotHere = codes "8 NotHere"
refusal_text refusal.NotWritable = codes "9 NotWritable"
refusal_text refusal.WrongLength = codes "10 WrongLength"
refusal_text refusal.PoolFull = codes "11 PoolFull"
refusal_text refusal.Exhausted = codes "12 Exhausted"

-- the number and the name of a refusal to restart the server
abbrev pub restart_refusal_text : RestartRefusal → List ℕ
restart_refusal_text restart.Floor = codes "1 Floor"
restart_refusal_text restart.Number = codes "2 Number"
