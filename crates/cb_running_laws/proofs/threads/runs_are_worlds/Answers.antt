-- Goals of `runs_are_worlds`.
use Rattle.cb_running_laws.proofs.Worlds.{hits_agree, hits_are_the_stores, mail_is_the_stores}
use Rattle.cb_running_laws.proofs.Worlds.{runs_are_serial, runs_are_worlds, runs_go_along}
use Rattle.cb_running_laws.proofs.Worlds.{runs_keep_the_promise, writers_are_alone}
use Rattle.cb_running_laws.proofs.threads.runs_are_worlds.Goals as goal

pub returns-clause-along : goal.returns-clause-along
returns-clause-along c = runs_go_along

pub returns-clause-worlds : goal.returns-clause-worlds
returns-clause-worlds c = runs_are_worlds

pub returns-clause-promise : goal.returns-clause-promise
returns-clause-promise c = runs_keep_the_promise

pub returns-clause-serial : goal.returns-clause-serial
returns-clause-serial c = runs_are_serial

pub returns-clause-stores : goal.returns-clause-stores
returns-clause-stores c = hits_are_the_stores

pub returns-clause-agree : goal.returns-clause-agree
returns-clause-agree c = hits_agree

pub returns-clause-alone : goal.returns-clause-alone
returns-clause-alone c = writers_are_alone

pub returns-clause-mail : goal.returns-clause-mail
returns-clause-mail c = mail_is_the_stores
