-- Goals of `client_page_and_byte`.
use Rattle.std.proofs.Common.{rules}
use Rattle.cb_transcript.proofs.arguments.client_page_and_byte.Goals as goal

pub returns-in_err-client_of : goal.returns-in_err-client_of
returns-in_err-client_of c = search rules

pub returns-in_err-page_of : goal.returns-in_err-page_of
returns-in_err-page_of c = search rules

pub returns-in_err-byte_of : goal.returns-in_err-byte_of
returns-in_err-byte_of c = search rules

pub returns : goal.returns
returns c = search rules
